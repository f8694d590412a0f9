-- Known outcomes hold in some round. If nothing more follows from them, they are all that hold.
use Rattle.std.proofs.Common.{◌≡◌, ℕ, zero, suc, ◌<◌, ◌≤◌, ◌⊎◌, inl, inr, Bool, true, false, ◌&&◌, ◌||◌, List, length, map, get_or, set, slice_get, Option, None, Some, option_map, refl, sym, ap, ◌∙◌, subst, arith}
use mathlib.Core.Bool.{beq}
use Rattle.std.proofs.lemmas.Bool.{cases_eq, false≢true}
use Rattle.std.proofs.lemmas.List.{get_or_default, get_or-set_other, get_or-set_same}
use Rattle.std.proofs.lemmas.List.Sums.{sum_by-set}
use Rattle.std.proofs.lemmas.Option.{slice_get-map, slice_get_within, get_or_from_slice_get}
use Rattle.peg_semantics.specs.AbstractOutcomes.{Can, CanAll, no_outcome}
use Rattle.peg_semantics.proofs.RoundsLemmas.{or_right, CanAll-refl, CanAll-trans, CanAll-no_outcome, CanAll-seq_outcome, CanAll-choice_outcome, CanAll-star_outcome, CanAll-not_outcome}
use Rattle.peg_core.specs.CoreForm.{CoreForm}
use Rattle.peg_core.specs.CoreOutcomes.{core_can_in, core_can_table}
use Rattle.peg_core.specs.Layout.{bodies_of, Desugared, form_at}
use Rattle.peg_core.proofs.CoreRounds.{core_can_in-more}
use Rattle.peg_check.specs.Cans.{can_of, can_at, nothing_known}
use Rattle.peg_check.specs.Exact.{IsExact}
use Rattle.peg_check.specs.Dependencies.{dep_at, outcome_by, DepFits, IsDependencyOf, AreDependencies}
use Rattle.peg_check.specs.Fixpoint.{union_of, updated_at, one_unless, unknown_of, unknown_in}
use Rattle.peg_check.specs.declared.can.Can as code
use Rattle.peg_check.specs.declared.dependency.Dependency.{Dependency}
use Rattle.peg_check.specs.declared.dependency.Dependency.TheVariants as dep

-- ---- links

-- if each form keeps its outcomes, so does a form that depends on them
module _ (f g : ℕ → Can) (count : ℕ) (h : (k : ℕ) → k < count → CanAll (f k) (g k)) where
  pub CanAll-dep : (l : Dependency) → DepFits count l → CanAll (outcome_by f l) (outcome_by g l)
  CanAll-dep (dep.Constant known) fits = CanAll-refl (can_of known)
  CanAll-dep (dep.Alias part) fits = h part fits
  CanAll-dep (dep.Seq first rest) fits =
      CanAll-seq_outcome (f first) (f rest) (g first) (g rest) (h first fits.0) (h rest fits.1)
  CanAll-dep (dep.Choice first rest) fits =
      CanAll-choice_outcome (f first) (f rest) (g first) (g rest) (h first fits.0) (h rest fits.1)
  CanAll-dep (dep.Star part) fits = CanAll-star_outcome (f part) (g part) (h part fits)
  CanAll-dep (dep.Not part) fits = CanAll-not_outcome (f part) (g part) (h part fits)

-- ---- added outcomes

-- a disjunction and its sides
or_left : (a b : Bool) → a ≡ true → (a || b) ≡ true
or_left true b e = refl
or_left false b e = cc

or_both : (a b c : Bool) → (a ≡ true → c ≡ true) → (b ≡ true → c ≡ true) → (a || b) ≡ true → c ≡ true
or_both true b c h k e = h refl
or_both false b c h k e = k e

-- known outcomes stay known
pub added-known : (known : code.Can) (can : Can) → CanAll (can_of known) (can_of (union_of known can))
added-known known can = record {
  nothing = or_left known.nothing can.nothing;
  something = or_left known.something can.something;
  fails = or_left known.fails can.fails;
}

pub added-more : (known : code.Can) (can : Can) → CanAll can (can_of (union_of known can))
added-more known can = record {
  nothing = or_right known.nothing can.nothing;
  something = or_right known.something can.something;
  fails = or_right known.fails can.fails;
}

pub added-all : (known : code.Can) (can all : Can) → CanAll (can_of known) all → CanAll can all
    → CanAll (can_of (union_of known can)) all
added-all known can all h k = record {
  nothing = or_both known.nothing can.nothing all.nothing h.nothing k.nothing;
  something = or_both known.something can.something all.something h.something k.something;
  fails = or_both known.fails can.fails all.fails h.fails k.fails;
}

-- each of the three outcomes stays as it was, or is new
stays : (a b : Bool) → ((a || b) ≡ a) ⊎ (one_unless (a || b) < one_unless a)
stays true b = inl refl
stays false true = inr (omega arith)
stays false false = inl refl

falls : (a b : Bool) → one_unless (a || b) ≤ one_unless a
falls true b = omega arith
falls false true = omega arith
falls false false = omega arith

-- values that a test distinguishes differ
beq_itself : (b : Bool) → beq b b ≡ true
beq_itself true = refl
beq_itself false = refl

pub stated_apart : (a b : code.Can)
    → false ≡ (beq a.nothing b.nothing && (beq a.something b.something && beq a.fails b.fails)) → a ≡ b → ⊥
stated_apart a b apart same =
    let all : (beq b.nothing b.nothing && (beq b.something b.something && beq b.fails b.fails)) ≡ true = ap (λ x. x && (beq b.something b.something && beq b.fails b.fails)) (beq_itself b.nothing) ∙ (ap (λ x. x && beq b.fails b.fails) (beq_itself b.something) ∙ beq_itself b.fails) in
    false≢true (apart ∙ (ap (λ (x : code.Can). beq x.nothing b.nothing && (beq x.something b.something && beq x.fails b.fails)) same ∙ all))

-- if more outcomes are known, fewer are unknown
pub unknown-added : (known : code.Can) (can : Can) → (union_of known can ≡ known → ⊥)
    → unknown_of (union_of known can) < unknown_of known
unknown-added known can more =
    by (stays known.nothing can.nothing) (stays known.something can.something) (stays known.fails can.fails)
  where
    by : ((known.nothing || can.nothing) ≡ known.nothing) ⊎ (one_unless (known.nothing || can.nothing) < one_unless known.nothing)
        → ((known.something || can.something) ≡ known.something) ⊎ (one_unless (known.something || can.something) < one_unless known.something)
        → ((known.fails || can.fails) ≡ known.fails) ⊎ (one_unless (known.fails || can.fails) < one_unless known.fails)
        → unknown_of (union_of known can) < unknown_of known
    by (inl a) (inl b) (inl c) = absurd (more (λ i. record { nothing = a i; something = b i; fails = c i }))
    by (inr a) _ _ = omega (arith, falls known.something can.something, falls known.fails can.fails)
    by _ (inr b) _ = omega (arith, falls known.nothing can.nothing, falls known.fails can.fails)
    by _ _ (inr c) = omega (arith, falls known.nothing can.nothing, falls known.something can.something)

-- and so fewer are unknown for all forms
pub unknown-looked : (cans : List code.Can) (number : ℕ) (can : Can) → number < length cans
    → (union_of (get_or cans number nothing_known) can ≡ get_or cans number nothing_known → ⊥)
    → unknown_in (set cans number (union_of (get_or cans number nothing_known) can)) < unknown_in cans
unknown-looked cans number can within more =
    let known = get_or cans number nothing_known in
    omega (arith, unknown-added known can more, sum_by-set unknown_of cans number (union_of known can) nothing_known within)

-- a link that was read is the link of its form
pub linked_at : (core : Desugared) (deps : List Dependency) (number : ℕ) (read : Dependency) → AreDependencies core deps
    → length deps ≡ length core.forms → number < length core.forms → read ≡ get_or deps number read
    → IsDependencyOf core (form_at core.forms number) read
linked_at core deps number read linked counted within there =
    subst (IsDependencyOf core (form_at core.forms number)) (sym there) (linked number read (omega (arith, counted)))

pub link_at_read : (deps : List Dependency) (number : ℕ) (read : Dependency) → number < length deps → read ≡ get_or deps number read
    → read ≡ dep_at deps number
link_at_read deps number read within there =
    there ∙ get_or_default deps number read (dep.Constant nothing_known) within

-- all outcomes that follow by the link are known
abbrev pub IsClosed : List code.Can → Dependency → ℕ → Type 0
IsClosed cans l k = CanAll (outcome_by (can_at cans) l) (can_at cans k)

-- ---- known outcomes hold

module _ (core : Desugared) where
  -- all known outcomes hold in n rounds
  abbrev pub HoldsIn : ℕ → List code.Can → Type 0
  HoldsIn n cans =
      (k : ℕ) → k < length core.forms
      → CanAll (can_at cans k) (core_can_in (bodies_of core) n (form_at core.forms k))

  abbrev pub Holds : List code.Can → Type 0
  Holds cans = (n : ℕ) × HoldsIn n cans

  -- no outcomes are known
  pub Holds-start : (cans : List code.Can)
      → ((k : ℕ) → k < length core.forms → get_or cans k nothing_known ≡ nothing_known) → Holds cans
  Holds-start cans none = (
    0,
    λ k within. subst (λ known. CanAll (can_of known) (core_can_in (bodies_of core) 0 (form_at core.forms k))) (sym (none k within))
        (CanAll-no_outcome (core_can_in (bodies_of core) 0 (form_at core.forms k))),
  )

  -- a round applies the rules to the round before
  round-is : (n : ℕ) (form : CoreForm)
      → core_can_in (bodies_of core) (suc n) form ≡ core_can_table (bodies_of core) (core_can_in (bodies_of core) n) form
  unfolding core_can_in
  round-is n form = refl

  no-round : (form : CoreForm) → core_can_in (bodies_of core) 0 form ≡ no_outcome
  unfolding core_can_in
  no-round form = refl

  -- the outcomes of a link in a round are those of its form in the next
  dep-round : (n : ℕ) (form : CoreForm) (l : Dependency) → IsDependencyOf core form l
      → outcome_by (λ part. core_can_in (bodies_of core) n (form_at core.forms part)) l
      ≡ core_can_in (bodies_of core) (suc n) form
  dep-round n form l linked = sym (round-is n form ∙ linked.agrees (core_can_in (bodies_of core) n))

  -- the outcomes of a link on known outcomes hold one round later
  dep-holds : (n : ℕ) (cans : List code.Can) (form : CoreForm) (l : Dependency) → HoldsIn n cans → IsDependencyOf core form l
      → CanAll (outcome_by (can_at cans) l) (core_can_in (bodies_of core) (suc n) form)
  dep-holds n cans form l holds linked =
      subst (CanAll (outcome_by (can_at cans) l)) (dep-round n form l linked)
      (CanAll-dep (can_at cans) (λ part. core_can_in (bodies_of core) n (form_at core.forms part)) (length core.forms) holds l linked.fits)

  pub Holds-looked : (cans : List code.Can) (number : ℕ) (l : Dependency) → number < length cans
      → IsDependencyOf core (form_at core.forms number) l → Holds cans → Holds (updated_at cans l number)
  Holds-looked cans number l within linked holds = (suc holds.0, λ k below. by k below (cases_eq k number))
    where
      by : (k : ℕ) → k < length core.forms → (k ≡ number) ⊎ (k ≡ number → ⊥)
          → CanAll (can_at (updated_at cans l number) k) (core_can_in (bodies_of core) (suc holds.0) (form_at core.forms k))
      by k below (inl same) =
          let known = get_or cans number nothing_known in
          let can = outcome_by (can_at cans) l in
          let round = λ (j : ℕ). core_can_in (bodies_of core) (suc holds.0) (form_at core.forms j) in
          let at_number : number < length core.forms = subst (λ j. j < length core.forms) same below in
          let now : CanAll (can_at (updated_at cans l number) number) (round number) = subst (λ (v : code.Can). CanAll (can_of v) (round number)) (sym (get_or-set_same cans number (union_of known can) nothing_known within)) (added-all known can (round number) (CanAll-trans (can_of known) (core_can_in (bodies_of core) holds.0 (form_at core.forms number)) (round number) (holds.1 number at_number) (core_can_in-more (bodies_of core) holds.0 (form_at core.forms number))) (dep-holds holds.0 cans (form_at core.forms number) l holds.1 linked)) in
          subst (λ j. CanAll (can_at (updated_at cans l number) j) (round j)) (sym same) now
      by k below (inr other) =
          let known = get_or cans number nothing_known in
          let can = outcome_by (can_at cans) l in
          let round = core_can_in (bodies_of core) (suc holds.0) (form_at core.forms k) in
          subst (λ (v : code.Can). CanAll (can_of v) round)
          (sym (get_or-set_other cans number k (union_of known can) nothing_known other))
          (CanAll-trans (can_at cans k) (core_can_in (bodies_of core) holds.0 (form_at core.forms k)) round (holds.1 k below)
          (core_can_in-more (bodies_of core) holds.0 (form_at core.forms k)))

  -- ---- nothing more holds

  abbrev pub AreClosed : List Dependency → List code.Can → Type 0
  AreClosed deps cans = (k : ℕ) → k < length core.forms → IsClosed cans (dep_at deps k) k

  all-known : (deps : List Dependency) (cans : List code.Can) → length deps ≡ length core.forms → AreDependencies core deps
      → AreClosed deps cans → (n k : ℕ) → k < length core.forms
      → CanAll (core_can_in (bodies_of core) n (form_at core.forms k)) (can_at cans k)
  all-known deps cans count linked closed zero k within =
      subst (λ can. CanAll can (can_at cans k)) (sym (no-round (form_at core.forms k))) (CanAll-no_outcome (can_at cans k))
  all-known deps cans count linked closed (suc n) k within =
      let l = dep_at deps k in
      let form = form_at core.forms k in
      let is = linked k (dep.Constant nothing_known) (omega (arith, count)) in
      let round = λ (part : ℕ). core_can_in (bodies_of core) n (form_at core.forms part) in
      CanAll-trans (core_can_in (bodies_of core) (suc n) form) (outcome_by (can_at cans) l) (can_at cans k)
      (subst (λ can. CanAll can (outcome_by (can_at cans) l)) (dep-round n form l is)
      (CanAll-dep round (can_at cans) (length core.forms) (all-known deps cans count linked closed n) l is.fits))
      (closed k within)

  -- so the entries are exact
  pub exact : (deps : List Dependency) (cans : List code.Can) → length deps ≡ length core.forms → length cans ≡ length core.forms
      → AreDependencies core deps → AreClosed deps cans → Holds cans → (k : ℕ) (can : Can)
      → slice_get (map can_of cans) k ≡ Some can → IsExact (bodies_of core) (form_at core.forms k) can
  exact deps cans count counted linked closed holds k can there =
      let seen : option_map can_of (slice_get cans k) ≡ Some can = sym (slice_get-map can_of cans k) ∙ there in
      by (slice_get cans k) refl seen
    where
      by : (known : Option code.Can) → slice_get cans k ≡ known → option_map can_of known ≡ Some can
          → IsExact (bodies_of core) (form_at core.forms k) can
      by None is seen = cc
      by (Some known) is seen =
          let below : k < length cans = slice_get_within cans k known is in
          let within : k < length core.forms = omega (arith, counted) in
          let entry : can_at cans k ≡ can = ap can_of (get_or_from_slice_get cans k known nothing_known is) ∙ (let same : can_of known ≡ can = cc in same) in
          let down = holds.1 k within in
          let up = λ (n : ℕ). all-known deps cans count linked closed n k within in
          let here : IsExact (bodies_of core) (form_at core.forms k) (can_at cans k) = record { nothing = (λ e. (holds.0, down.nothing e), λ s. (up s.0).nothing s.1); something = (λ e. (holds.0, down.something e), λ s. (up s.0).something s.1); fails = (λ e. (holds.0, down.fails e), λ s. (up s.0).fails s.1) } in
          subst (IsExact (bodies_of core) (form_at core.forms k)) entry here
