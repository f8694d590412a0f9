-- A written expression is well-formed exactly if its core form is.
use Rattle.std.proofs.Common.{◌≡◌, ℕ, zero, suc, ◌+◌, ◌-◌, Bool, List, [], ◌∷◌, Option, None, Some, refl, sym, subst, slice_get, zero-add, suc-add, add_comm}
use Rattle.peg_bytes.specs.ByteSet.{only, all_bytes}
use Rattle.peg_bytes.specs.Extent.{Extent}
use Rattle.peg_semantics.specs.AbstractOutcomes.{GivesNothing}
use Rattle.peg_semantics.specs.Form.{Form, Forms, Literal, Class, Any, Name, Optional, Plus, Counted, And, End, Then, terminals}
use Rattle.peg_semantics.specs.Form as written_form
use Rattle.peg_semantics.specs.Rules.{Meaning, meaning_of}
use Rattle.peg_semantics.specs.Rules as grammar
use Rattle.peg_semantics.specs.WellFormed.{ItemsAre, AllAre, MeaningIs, RepeatsWell, WellFormedTable, IsWellFormedIn, IsWellFormed}
use Rattle.peg_semantics.proofs.RoundsLemmas.{ItemsAre-more, AllAre-more, IsWellFormedIn-more}
use Rattle.peg_core.specs.CoreForm.{CoreForm, Empty, Test, Rule, Seq, Choice, Star, Not, in_order, all_in_order, one_of, tests_of, unfolded, left_out, count_form, number_of, core_form, core_forms, core_bodies}
use Rattle.peg_core.specs.CoreOutcomes.{CoreGivesNothing, BodyIs, CoreWellFormedTable, IsCoreWellFormedIn, IsCoreWellFormed}
use Rattle.peg_core.proofs.CoreRounds.{IsCoreWellFormedIn-more}
use Rattle.peg_core.proofs.Meanings.{body-meaning_of, body-unmeant}
use Rattle.peg_core.proofs.SugarOutcomes.{GivesNothing-to_core, GivesNothing-from_core}

-- a property by rounds, which stays in later rounds
abbrev Grows : (ℕ → Type 0) → Type 0
Grows f = (n : ℕ) → f n → f (suc n)

-- a fact implies the property in some round, which doesn't depend on the proof of the fact
abbrev Follows : Type 0 → (ℕ → Type 0) → Type 0
Follows P f = (n : ℕ) × (P → f n)

grown : (f : ℕ → Type 0) → Grows f → (more n : ℕ) → f n → f (more + n)
grown f grows zero n is = rw zero-add is
grown f grows (suc more) n is = rw suc-add (grows (more + n) (grown f grows more n is))

Follows-shift : (P : Type 0) (f : ℕ → Type 0) → Follows P (λ n. f (suc n)) → Follows P f
Follows-shift P f h = (suc h.0, h.1)

Follows-unshift : (P : Type 0) (f : ℕ → Type 0) → Grows f → Follows P f → Follows P (λ n. f (suc n))
Follows-unshift P f grows h = (h.0, λ p. grows h.0 (h.1 p))

Follows-from : (P Q : Type 0) (f : ℕ → Type 0) → (P → Q) → Follows Q f → Follows P f
Follows-from P Q f to h = (h.0, λ p. h.1 (to p))

Follows-to : (P : Type 0) (f g : ℕ → Type 0) → ((n : ℕ) → f n → g n) → Follows P f → Follows P g
Follows-to P f g to h = (h.0, λ p. to h.0 (h.1 p))

Follows-absurd : (f : ℕ → Type 0) → Follows ⊥ f
Follows-absurd f = (0, λ bad. absurd bad)

-- two parts, where the second has a condition
module _ (P Q : Type 0) (f g : ℕ → Type 0) (grows : Grows f) (also : Grows g) (h : Follows P f) (k : Follows Q g) where
  second_later : Q → g (k.0 + h.0)
  second_later q = subst g (add_comm h.0 k.0) (grown g also h.0 k.0 (k.1 q))

  Follows-then : (N M : Type 0) → (M → N) → Follows (P × (N → Q)) (λ n. f n × (M → g n))
  Follows-then N M to =
      (k.0 + h.0, λ x. (grown f grows k.0 h.0 (h.1 x.0), λ m. second_later (x.1 (to m))))

  Follows-both : Follows (P × Q) (λ n. f n × g n)
  Follows-both = (k.0 + h.0, λ x. (grown f grows k.0 h.0 (h.1 x.0), second_later x.1))

module _ (rules : List grammar.Rule) where
  abbrev bodies : List CoreForm
  bodies = core_bodies rules

  abbrev core : CoreForm → ℕ → Type 0
  core form n = IsCoreWellFormedIn bodies n form

  abbrev written : Form → ℕ → Type 0
  written e n = IsWellFormedIn rules n e

  core-grows : (form : CoreForm) → Grows (core form)
  core-grows form n = IsCoreWellFormedIn-more bodies n form

  written-grows : (e : Form) → Grows (written e)
  written-grows e n = IsWellFormedIn-more rules n e

  -- ---- core forms of well-formed parts

  core-Empty : (P : Type 0) → Follows P (core Empty)
  unfolding IsCoreWellFormedIn
  core-Empty P = (1, λ p. tt)

  core-Test : (P : Type 0) (set : List Bool) (terminal : ℕ) → Follows P (core (Test set terminal))
  unfolding IsCoreWellFormedIn
  core-Test P set terminal = (1, λ p. tt)

  core-Rule : (rule : ℕ) (body : CoreForm) (P : Type 0) → slice_get bodies rule ≡ Some body → Follows P (core body)
      → Follows P (core (Rule rule))
  unfolding IsCoreWellFormedIn
  core-Rule rule body P is h =
      Follows-shift P (core (Rule rule))
      (Follows-to P (core body) (λ n. BodyIs (IsCoreWellFormedIn bodies n) (slice_get bodies rule))
      (λ n. subst (BodyIs (IsCoreWellFormedIn bodies n)) (sym is)) h)

  core-Seq : (first rest : CoreForm) (P Q N : Type 0) → (CoreGivesNothing bodies first → N) → Follows P (core first)
      → Follows Q (core rest) → Follows (P × (N → Q)) (core (Seq first rest))
  unfolding IsCoreWellFormedIn
  core-Seq first rest P Q N to h k =
      Follows-shift (P × (N → Q)) (core (Seq first rest))
      (Follows-then P Q (core first) (core rest) (core-grows first) (core-grows rest) h k N (CoreGivesNothing bodies first) to)

  core-Choice : (first rest : CoreForm) (P Q : Type 0) → Follows P (core first) → Follows Q (core rest)
      → Follows (P × Q) (core (Choice first rest))
  unfolding IsCoreWellFormedIn
  core-Choice first rest P Q h k =
      Follows-shift (P × Q) (core (Choice first rest))
      (Follows-both P Q (core first) (core rest) (core-grows first) (core-grows rest) h k)

  core-Star : (part : CoreForm) (origin : Extent) (P N : Type 0) → (CoreGivesNothing bodies part → N)
      → Follows P (core part) → Follows (P × ¬ N) (core (Star part origin))
  unfolding IsCoreWellFormedIn
  core-Star part origin P N to h = (suc h.0, λ x. (h.1 x.0, λ gives. x.1 (to gives)))

  core-Not : (part : CoreForm) (P : Type 0) → Follows P (core part) → Follows P (core (Not part))
  unfolding IsCoreWellFormedIn
  core-Not part P h = (suc h.0, h.1)

  to_tests : (P : Type 0) (b : ℕ) (bs : List ℕ) (terminal : ℕ)
      → Follows P (core (in_order (Test (only b) terminal) (tests_of terminal bs)))
  to_tests P b [] terminal = core-Test P (only b) terminal
  to_tests P b (c ∷ bs) terminal =
      let first : CoreForm = Test (only b) terminal in
      let rest : CoreForm = in_order (Test (only c) terminal) (tests_of terminal bs) in
      Follows-from P (P × (CoreGivesNothing bodies first → P)) (core (Seq first rest)) (λ p. (p, λ gives. p))
      (core-Seq first rest P P (CoreGivesNothing bodies first) (λ gives. gives) (core-Test P (only b) terminal)
      (to_tests P c bs terminal))

  to_literal : (P : Type 0) (bs : List ℕ) (terminal : ℕ) → Follows P (core (all_in_order (tests_of terminal bs)))
  to_literal P [] terminal = core-Empty P
  to_literal P (b ∷ bs) terminal = to_tests P b bs terminal

  -- a count of a well-formed part
  core-unfolded : (P : Type 0) (part : CoreForm) → Follows P (core part) → (min max : ℕ)
      → Follows P (core (unfolded part min max))
  core-unfolded P part h min zero = core-Empty P
  core-unfolded P part h zero (suc max) =
      let inner = unfolded part zero max in
      Follows-from P (P × P) (core (Choice (Seq part inner) Empty)) (λ p. (p, p))
      (core-Choice (Seq part inner) Empty P P
      (Follows-from P (P × (CoreGivesNothing bodies part → P)) (core (Seq part inner)) (λ p. (p, λ gives. p))
      (core-Seq part inner P P (CoreGivesNothing bodies part) (λ gives. gives) h (core-unfolded P part h zero max)))
      (core-Empty P))
  core-unfolded P part h (suc min) (suc max) =
      let inner = unfolded part min max in
      Follows-from P (P × (CoreGivesNothing bodies part → P)) (core (Seq part inner)) (λ p. (p, λ gives. p))
      (core-Seq part inner P P (CoreGivesNothing bodies part) (λ gives. gives) h (core-unfolded P part h min max))

  core-count : (P : Type 0) (part : CoreForm) → Follows P (core part) → (min max : ℕ)
      → Follows P (core (count_form part min max))
  core-count P part h min zero =
      Follows-from P (P × P) (core (Choice Empty part)) (λ p. (p, p)) (core-Choice Empty part P P (core-Empty P) h)
  core-count P part h min (suc max) = core-unfolded P part h (min - left_out part min) (suc (max - left_out part min))

  -- ---- from a written expression to its core form

  abbrev ToCore : ℕ → Type 0
  ToCore n = (e : Form) (terminal : ℕ) → Follows (written e n) (core (core_form rules terminal e))

  module _ (n : ℕ) (h : ToCore n) where
    abbrev Is : Form → Type 0
    Is e = IsWellFormedIn rules n e

    to_items : (items : Forms) (terminal : ℕ)
        → Follows (ItemsAre rules Is items) (core (all_in_order (core_forms rules terminal items)))
    to_items End terminal = core-Empty (Unit {0})
    to_items (Then e End) terminal =
        Follows-from (Is e × (GivesNothing rules e → Unit {0})) (Is e) (core (core_form rules terminal e)) (λ x. x.0)
        (h e terminal)
    to_items (Then e (Then f rest)) terminal =
        let later = terminal + terminals e in
        core-Seq (core_form rules terminal e) (all_in_order (core_forms rules later (Then f rest))) (Is e)
        (ItemsAre rules Is (Then f rest)) (GivesNothing rules e) (GivesNothing-from_core rules e terminal) (h e terminal)
        (to_items (Then f rest) later)

    to_first : (e : Form) (rest : Forms) (terminal : ℕ)
        → Follows (Is e × AllAre Is rest)
        (core (one_of (core_form rules terminal e) (core_forms rules (terminal + terminals e) rest)))
    to_first e End terminal =
        Follows-from (Is e × Unit {0}) (Is e) (core (core_form rules terminal e)) (λ x. x.0) (h e terminal)
    to_first e (Then next rest) terminal =
        let later = terminal + terminals e in
        core-Choice (core_form rules terminal e)
        (one_of (core_form rules later next) (core_forms rules (later + terminals next) rest)) (Is e)
        (Is next × AllAre Is rest) (h e terminal) (to_first next rest later)

    to_meaning : (name : List ℕ) (meaning : Option Meaning) → meaning_of rules name ≡ meaning
        → Follows (MeaningIs Is meaning) (core (Rule (number_of rules name)))
    to_meaning name None is = Follows-absurd (core (Rule (number_of rules name)))
    to_meaning name (Some m) is =
        core-Rule (number_of rules name) (core_form rules m.terminal m.body) (Is m.body) (body-meaning_of rules name m is)
        (h m.body m.terminal)

    to_star : (part : Form) (span : Extent) (terminal : ℕ)
        → Follows (RepeatsWell rules Is part) (core (Star (core_form rules terminal part) span))
    to_star part span terminal =
        core-Star (core_form rules terminal part) span (Is part) (GivesNothing rules part)
        (GivesNothing-from_core rules part terminal) (h part terminal)

    to_core-table : (e : Form) (terminal : ℕ) → Follows (WellFormedTable rules Is e) (core (core_form rules terminal e))
    to_core-table (Literal bs span) terminal = to_literal (Unit {0}) bs terminal
    to_core-table (Class set span) terminal = core-Test (Unit {0}) set terminal
    to_core-table (Any span) terminal = core-Test (Unit {0}) all_bytes terminal
    to_core-table (Name name span) terminal = to_meaning name (meaning_of rules name) refl
    to_core-table (written_form.Seq items span) terminal = to_items items terminal
    to_core-table (written_form.Choice first rest span) terminal = to_first first rest terminal
    to_core-table (Optional part span) terminal =
        let form = core_form rules terminal part in
        Follows-from (Is part) (Is part × Is part) (core (Choice form Empty)) (λ is. (is, is))
        (core-Choice form Empty (Is part) (Is part) (h part terminal) (core-Empty (Is part)))
    to_core-table (written_form.Star part span) terminal = to_star part span terminal
    to_core-table (Plus part span) terminal =
        let form = core_form rules terminal part in
        let P = RepeatsWell rules Is part in
        Follows-from P (Is part × (CoreGivesNothing bodies form → P)) (core (Seq form (Star form span)))
        (λ is. (is.0, λ gives. is))
        (core-Seq form (Star form span) (Is part) P (CoreGivesNothing bodies form) (λ gives. gives) (h part terminal)
        (to_star part span terminal))
    to_core-table (Counted part min max span) terminal =
        core-count (Is part) (core_form rules terminal part) (h part terminal) min max
    to_core-table (And part span) terminal =
        let form = core_form rules terminal part in
        core-Not (Not form) (Is part) (core-Not form (Is part) (h part terminal))
    to_core-table (written_form.Not part span) terminal =
        core-Not (core_form rules terminal part) (Is part) (h part terminal)

  to_core : (n : ℕ) → ToCore n
  unfolding IsWellFormedIn
  to_core zero = λ e terminal. Follows-absurd (core (core_form rules terminal e))
  to_core (suc n) = λ e terminal. to_core-table n (to_core n) e terminal

  -- ---- from a core form to the written expression

  abbrev FromCore : ℕ → Type 0
  FromCore n = (e : Form) (terminal : ℕ) → Follows (core (core_form rules terminal e) n) (written e)

  shown : (e : Form) (P : Type 0) → Follows P (λ n. WellFormedTable rules (IsWellFormedIn rules n) e) → Follows P (written e)
  unfolding IsWellFormedIn
  shown e P h = Follows-shift P (written e) h

  unshown : (e : Form) (P : Type 0) → Follows P (written e) → Follows P (λ n. WellFormedTable rules (IsWellFormedIn rules n) e)
  unfolding IsWellFormedIn
  unshown e P h = Follows-unshift P (written e) (written-grows e) h

  abbrev tabled : ℕ → CoreForm → Type 0
  tabled n form = CoreWellFormedTable bodies (IsCoreWellFormedIn bodies n) form

  -- the part of a well-formed star doesn't have outcome 0
  star_takes : (n : ℕ) (part : CoreForm) (origin : Extent) → core (Star part origin) n → ¬ CoreGivesNothing bodies part
  unfolding IsCoreWellFormedIn
  star_takes zero part origin is = absurd is
  star_takes (suc n) part origin is = is.1

  -- the part of a well-formed count is well-formed
  round_part : (n : ℕ) (part inner : CoreForm) → core (Seq part inner) n → core part n
  unfolding IsCoreWellFormedIn
  round_part zero part inner is = is
  round_part (suc n) part inner is = core-grows part n is.0

  unfolded_part : (n : ℕ) (part : CoreForm) (min max : ℕ) → tabled n (unfolded part min (suc max)) → core part n
  unfolded_part n part zero max is = round_part n part (unfolded part zero max) is.0
  unfolded_part n part (suc min) max is = is.0

  count_part : (n : ℕ) (part : CoreForm) (min max : ℕ) → tabled n (count_form part min max) → core part n
  count_part n part min zero is = is.1
  count_part n part min (suc max) is = unfolded_part n part (min - left_out part min) (max - left_out part min) is

  abbrev items_in : Forms → ℕ → Type 0
  items_in items n = ItemsAre rules (IsWellFormedIn rules n) items

  abbrev all_in : Form → Forms → ℕ → Type 0
  all_in e rest n = IsWellFormedIn rules n e × AllAre (IsWellFormedIn rules n) rest

  items-grow : (items : Forms) → Grows (items_in items)
  items-grow items n =
      ItemsAre-more rules (IsWellFormedIn rules n) (IsWellFormedIn rules (suc n)) (IsWellFormedIn-more rules n) items

  all-grow : (e : Form) (rest : Forms) → Grows (all_in e rest)
  all-grow e rest n is = (
    IsWellFormedIn-more rules n e is.0,
    AllAre-more rules (IsWellFormedIn rules n) (IsWellFormedIn rules (suc n)) (IsWellFormedIn-more rules n) rest is.1,
  )

  module _ (n : ℕ) (h : FromCore n) where
    from_first : (e next : Form) (rest : Forms) (span : Extent) (terminal : ℕ)
        → Follows (tabled n (core_form rules terminal (written_form.Choice e (Then next rest) span)))
        (all_in e (Then next rest))
    from_first e next rest span terminal =
        let later = terminal + terminals e in
        let others : Form = written_form.Choice next rest span in
        let P = core (core_form rules terminal e) n in
        let Q = core (core_form rules later others) n in
        Follows-both P Q (written e) (all_in next rest) (written-grows e) (all-grow next rest) (h e terminal)
        (unshown others Q (h others later))

    from_meaning : (name : List ℕ) (span : Extent) (terminal : ℕ) (meaning : Option Meaning) → meaning_of rules name ≡ meaning
        → Follows (tabled n (Rule (number_of rules name))) (written (Name name span))
    from_meaning name span terminal None is =
        Follows-from (tabled n (Rule (number_of rules name))) ⊥ (written (Name name span))
        (subst (BodyIs (IsCoreWellFormedIn bodies n)) (body-unmeant rules name is))
        (Follows-absurd (written (Name name span)))
    from_meaning name span terminal (Some m) is =
        let P = core (core_form rules m.terminal m.body) n in
        Follows-from (tabled n (Rule (number_of rules name))) P (written (Name name span))
        (subst (BodyIs (IsCoreWellFormedIn bodies n)) (body-meaning_of rules name m is))
        (shown (Name name span) P
        (Follows-to P (written m.body) (λ k. MeaningIs (IsWellFormedIn rules k) (meaning_of rules name))
        (λ k. subst (MeaningIs (IsWellFormedIn rules k)) (sym is)) (h m.body m.terminal)))

    mutual
      from_core-table : (e : Form) (terminal : ℕ) → Follows (tabled n (core_form rules terminal e)) (written e)
      from_core-table (Literal bs span) terminal =
          shown (Literal bs span) (tabled n (all_in_order (tests_of terminal bs))) (0, λ is. tt)
      from_core-table (Class set span) terminal = shown (Class set span) (Unit {0}) (0, λ is. tt)
      from_core-table (Any span) terminal = shown (Any span) (Unit {0}) (0, λ is. tt)
      from_core-table (Name name span) terminal = from_meaning name span terminal (meaning_of rules name) refl
      from_core-table (written_form.Seq items span) terminal =
          shown (written_form.Seq items span) (tabled n (all_in_order (core_forms rules terminal items)))
          (from_items items span terminal)
      from_core-table (written_form.Choice first End span) terminal =
          let P = tabled n (core_form rules terminal first) in
          shown (written_form.Choice first End span) P
          (Follows-to P (written first) (all_in first End) (λ m is. (is, tt)) (from_core-table first terminal))
      from_core-table (written_form.Choice first (Then next rest) span) terminal =
          let e : Form = written_form.Choice first (Then next rest) span in
          shown e (tabled n (core_form rules terminal e)) (from_first first next rest span terminal)
      from_core-table (Optional part span) terminal =
          let P = core (core_form rules terminal part) n in
          let Q = P × core Empty n in
          shown (Optional part span) Q (Follows-from Q P (written part) (λ is. is.0) (h part terminal))
      from_core-table (written_form.Star part span) terminal =
          let form = core_form rules terminal part in
          let k = h part terminal in
          shown (written_form.Star part span) (core form n × ¬ CoreGivesNothing bodies form)
          (k.0, λ is. (k.1 is.0, λ gives. is.1 (GivesNothing-to_core rules part terminal gives)))
      from_core-table (Plus part span) terminal =
          let form = core_form rules terminal part in
          let k = h part terminal in
          shown (Plus part span) (core form n × (CoreGivesNothing bodies form → core (Star form span) n))
          (k.0, λ is. (k.1 is.0, λ gives. let also = GivesNothing-to_core rules part terminal gives in star_takes n form span (is.1 also) also))
      from_core-table (Counted part min max span) terminal =
          let form = core_form rules terminal part in
          let P = tabled n (count_form form min max) in
          shown (Counted part min max span) P
          (Follows-from P (core form n) (written part) (count_part n form min max) (h part terminal))
      from_core-table (And part span) terminal =
          let not : Form = written_form.Not part span in
          let P = core (core_form rules terminal not) n in
          shown (And part span) P (unshown not P (h not terminal))
      from_core-table (written_form.Not part span) terminal =
          shown (written_form.Not part span) (core (core_form rules terminal part) n) (h part terminal)

      from_items : (items : Forms) (span : Extent) (terminal : ℕ)
          → Follows (tabled n (all_in_order (core_forms rules terminal items))) (items_in items)
      from_items End span terminal = (0, λ is. tt)
      from_items (Then e End) span terminal =
          Follows-to (tabled n (core_form rules terminal e)) (written e) (items_in (Then e End))
          (λ m is. (is, λ gives. tt)) (from_core-table e terminal)
      from_items (Then e (Then f rest)) span terminal =
          let later = terminal + terminals e in
          let items : Form = written_form.Seq (Then f rest) span in
          let form = core_form rules terminal e in
          let Q = core (core_form rules later items) n in
          Follows-then (core form n) Q (written e) (items_in (Then f rest)) (written-grows e) (items-grow (Then f rest))
          (h e terminal) (unshown items Q (h items later)) (CoreGivesNothing bodies form) (GivesNothing rules e)
          (GivesNothing-to_core rules e terminal)

  from_core : (n : ℕ) → FromCore n
  unfolding IsCoreWellFormedIn
  from_core zero = λ e terminal. Follows-absurd (written e)
  from_core (suc n) = λ e terminal. from_core-table n (from_core n) e terminal

-- a written expression is well-formed if its core form is, and the other way
module _ (rules : List grammar.Rule) (e : Form) (terminal : ℕ) where
  pub IsWellFormed-to_core : IsWellFormed rules e → IsCoreWellFormed (core_bodies rules) (core_form rules terminal e)
  IsWellFormed-to_core is = let follows = to_core rules is.0 e terminal in (follows.0, follows.1 is.1)

  pub IsWellFormed-from_core : IsCoreWellFormed (core_bodies rules) (core_form rules terminal e) → IsWellFormed rules e
  IsWellFormed-from_core is = let follows = from_core rules is.0 e terminal in (follows.0, follows.1 is.1)
