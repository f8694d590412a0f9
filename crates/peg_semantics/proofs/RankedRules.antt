-- Sufficient conditions for a well-formed grammar. A table of outcomes is closed under Ford's rules, and no star or
-- plus has a part that gives 0 by it. Also, every rule left-calls only rules of lower rank.
use Rattle.std.proofs.Common.{◌≡◌, inl, inr, ℕ, zero, suc, ◌+◌, ◌<◌, Bool, true, false, List, [], ◌∷◌, All, Contains}
use Rattle.std.proofs.Common.{Option, None, Some, option_map, slice_get, refl, sym, ap, ◌∙◌, subst, add_comm, arith}
use Rattle.std.proofs.lemmas.Bool.{true≢false}
use Rattle.std.proofs.lemmas.List.Elements.{All-nil, All-cons, All-head, All-tail, All-append}
use Rattle.peg_semantics.specs.AbstractOutcomes.{CanAll, OutcomeOf, can_table, can_in, GivesNothing}
use Rattle.peg_semantics.specs.Form.{Form, Forms, Reference, Literal, Class, Any, Name, Seq, Choice, Optional, Star, Plus, Counted}
use Rattle.peg_semantics.specs.Form.{And, Not, End, Then, names_used, names_used_by_all}
use Rattle.peg_semantics.specs.Grammar.{IsGrammar}
use Rattle.peg_semantics.specs.Loops.{CanCallFirst, ItemsCanCallFirst, SomeCanCallFirst}
use Rattle.peg_semantics.specs.Ranked.{NullableBy, RepeatsNonEmpty, IsRanked}
use Rattle.peg_semantics.specs.Rules.{Rule, Meaning, names, meaning_of}
use Rattle.peg_semantics.specs.WellFormed.{ItemsAre, AllAre, MeaningIs, WellFormedTable, IsWellFormedIn, IsWellFormed}
use Rattle.peg_semantics.specs.WellFormed.{IsWellFormedGrammar, below, below_all, subexpressions}
use Rattle.peg_semantics.proofs.MeaningLemmas.{All-front, All-back, All-given, All-numbered, All-from_numbered}
use Rattle.peg_semantics.proofs.MeaningLemmas.{meaning_of-is_at, meaning_of-known}
use Rattle.peg_semantics.proofs.RoundsLemmas.{CanAll-trans, CanAll-no_outcome, CanAll-table, ItemsAre-more, AllAre-more}
use Rattle.peg_semantics.proofs.RoundsLemmas.{IsWellFormedIn-later}

-- ---- a closed table contains every abstract outcome

module _ (rules : List Rule) (judge : OutcomeOf) (closed : (e : Form) → CanAll (can_table rules judge e) (judge e)) where
  can_in-judged : (n : ℕ) (e : Form) → CanAll (can_in rules n e) (judge e)
  unfolding can_in
  can_in-judged zero e = CanAll-no_outcome (judge e)
  can_in-judged (suc n) e =
      CanAll-trans (can_in rules (suc n) e) (can_table rules judge e) (judge e)
      (CanAll-table (can_in rules n) judge (can_in-judged n) rules e) (closed e)

  pub GivesNothing-judged : (e : Form) → GivesNothing rules e → NullableBy judge e
  GivesNothing-judged e gives = (can_in-judged gives.0 e).nothing gives.1

-- ---- well-formed in one more round

module _ (rules : List Rule) where
  next_round : (n : ℕ) (e : Form) → WellFormedTable rules (IsWellFormedIn rules n) e → IsWellFormed rules e
  unfolding IsWellFormedIn
  next_round n e is = (suc n, is)

  -- the rule that a name refers to is well-formed in some round
  meaning_in : (meaning : Option Meaning) → MeaningIs (IsWellFormed rules) meaning
      → (n : ℕ) × MeaningIs (IsWellFormedIn rules n) meaning
  meaning_in None is = absurd is
  meaning_in (Some m) is = is

  also : (n m : ℕ) (e : Form) → IsWellFormedIn rules m e → IsWellFormedIn rules (m + n) e
  also n m e is = rw add_comm (IsWellFormedIn-later rules n m e is)

  -- both of two expressions in one round
  first_then : (e : Form) (rest : Forms) (n m : ℕ) → IsWellFormedIn rules n e
      → ItemsAre rules (IsWellFormedIn rules m) rest
      → ItemsAre rules (IsWellFormedIn rules (m + n)) (Then e rest)
  first_then e rest n m is are = (
    IsWellFormedIn-later rules m n e is,
    λ gives. ItemsAre-more rules (IsWellFormedIn rules m) (IsWellFormedIn rules (m + n)) (also n m) rest are,
  )

  first_and : (e : Form) (rest : Forms) (n m : ℕ) → IsWellFormedIn rules n e → AllAre (IsWellFormedIn rules m) rest
      → AllAre (IsWellFormedIn rules (m + n)) (Then e rest)
  first_and e rest n m is are = (
    IsWellFormedIn-later rules m n e is,
    AllAre-more rules (IsWellFormedIn rules m) (IsWellFormedIn rules (m + n)) (also n m) rest are,
  )

-- ---- an expression is well-formed if the rules that it left-calls are

module _ (rules : List Rule) (judge : OutcomeOf) (closed : (e : Form) → CanAll (can_table rules judge e) (judge e)) where
  abbrev Known : Reference → Type 0
  Known reference = Contains (names rules) reference.name

  -- an expression has only names of rules, and no star or plus in it has a part that gives 0
  abbrev Sound : Form → Type 0
  Sound e = All Known (names_used e) × All (RepeatsNonEmpty judge) (subexpressions e)

  abbrev AllSound : Forms → Type 0
  AllSound items = All Known (names_used_by_all items) × All (RepeatsNonEmpty judge) (below_all items)

  sound_part : (e part : Form) → All Known (names_used part) → All (RepeatsNonEmpty judge) (e ∷ subexpressions part)
      → Sound part
  sound_part e part known loops = (known, All-tail (RepeatsNonEmpty judge) e (subexpressions part) loops)

  sound_parts : (e : Form) (parts : Forms) → All Known (names_used_by_all parts)
      → All (RepeatsNonEmpty judge) (e ∷ below_all parts) → AllSound parts
  sound_parts e parts known loops = (known, All-tail (RepeatsNonEmpty judge) e (below_all parts) loops)

  sound_first : (e : Form) (rest : Forms) → AllSound (Then e rest) → Sound e
  sound_first e rest sound = (
    All-front Known (names_used e) (names_used_by_all rest) sound.0,
    All-front (RepeatsNonEmpty judge) (subexpressions e) (below_all rest) sound.1,
  )

  sound_rest : (e : Form) (rest : Forms) → AllSound (Then e rest) → AllSound rest
  sound_rest e rest sound = (
    All-back Known (names_used e) (names_used_by_all rest) sound.0,
    All-back (RepeatsNonEmpty judge) (subexpressions e) (below_all rest) sound.1,
  )

  -- a name refers to a well-formed rule
  abbrev IsFine : List ℕ → Type 0
  IsFine name = MeaningIs (IsWellFormed rules) (meaning_of rules name)

  -- the same for the names that are reached
  abbrev FineWhere : (List ℕ → Type 0) → Type 0
  FineWhere Reached = (name : List ℕ) → Reached name → Contains (names rules) name → IsFine name

  -- the part of a star or plus does not give 0
  no_loop : (part : Form) → (judge part).nothing ≡ false → ¬ GivesNothing rules part
  no_loop part is gives = true≢false (sym (GivesNothing-judged rules judge closed part gives) ∙ is)

  repeats : (e part : Form) → (RepeatsNonEmpty judge e → (judge part).nothing ≡ false)
      → All (RepeatsNonEmpty judge) (e ∷ subexpressions part) → ¬ GivesNothing rules part
  repeats e part same loops =
      no_loop part (same (All-head (RepeatsNonEmpty judge) e (subexpressions part) loops))

  -- the rest of a sequence is needed only if the first item gives 0
  by_idling : (e : Form) (rest : Forms) (idles : Bool) → (judge e).nothing ≡ idles → IsWellFormed rules e
      → (NullableBy judge e → (n : ℕ) × ItemsAre rules (IsWellFormedIn rules n) rest)
      → (n : ℕ) × ItemsAre rules (IsWellFormedIn rules n) (Then e rest)
  by_idling e rest true idles is are =
      let rest_are = are idles in (rest_are.0 + is.0, first_then rules e rest is.0 rest_are.0 is.1 rest_are.1)
  by_idling e rest false idles is are = (is.0, (is.1, λ gives. absurd (no_loop e idles gives)))

  mutual
    reached_fine : (e : Form) → Sound e → FineWhere (CanCallFirst (NullableBy judge) e) → IsWellFormed rules e
    reached_fine (Literal bytes span) sound fine = next_round rules 0 (Literal bytes span) tt
    reached_fine (Class set span) sound fine = next_round rules 0 (Class set span) tt
    reached_fine (Any span) sound fine = next_round rules 0 (Any span) tt
    reached_fine (Name name span) sound fine =
        let known = All-head Known (record { name = name; span = span }) [] sound.0 in
        let is = meaning_in rules (meaning_of rules name) (fine name refl known) in
        next_round rules is.0 (Name name span) is.1
    reached_fine (Seq items span) sound fine =
        let are = items_fine items (sound_parts (Seq items span) items sound.0 sound.1) fine in
        next_round rules are.0 (Seq items span) are.1
    reached_fine (Choice first rest span) sound fine =
        let parts = sound_parts (Choice first rest span) (Then first rest) sound.0 sound.1 in
        let is = reached_fine first (sound_first first rest parts) (λ name h. fine name (inl h)) in
        let are = some_fine rest (sound_rest first rest parts) (λ name h. fine name (inr h)) in
        next_round rules (are.0 + is.0) (Choice first rest span) (first_and rules first rest is.0 are.0 is.1 are.1)
    reached_fine (Optional part span) sound fine =
        let is = reached_fine part (sound_part (Optional part span) part sound.0 sound.1) fine in
        next_round rules is.0 (Optional part span) is.1
    reached_fine (Star part span) sound fine =
        let is = reached_fine part (sound_part (Star part span) part sound.0 sound.1) fine in
        next_round rules is.0 (Star part span) (is.1, repeats (Star part span) part (λ h. h) sound.1)
    reached_fine (Plus part span) sound fine =
        let is = reached_fine part (sound_part (Plus part span) part sound.0 sound.1) fine in
        next_round rules is.0 (Plus part span) (is.1, repeats (Plus part span) part (λ h. h) sound.1)
    reached_fine (Counted part min max span) sound fine =
        let is = reached_fine part (sound_part (Counted part min max span) part sound.0 sound.1) fine in
        next_round rules is.0 (Counted part min max span) is.1
    reached_fine (And part span) sound fine =
        let is = reached_fine part (sound_part (And part span) part sound.0 sound.1) fine in
        next_round rules is.0 (And part span) is.1
    reached_fine (Not part span) sound fine =
        let is = reached_fine part (sound_part (Not part span) part sound.0 sound.1) fine in
        next_round rules is.0 (Not part span) is.1

    items_fine : (items : Forms) → AllSound items → FineWhere (ItemsCanCallFirst (NullableBy judge) items)
        → (n : ℕ) × ItemsAre rules (IsWellFormedIn rules n) items
    items_fine End sound fine = (0, tt)
    items_fine (Then e rest) sound fine =
        by_idling e rest (judge e).nothing refl
        (reached_fine e (sound_first e rest sound) (λ name h. fine name (inl h)))
        (λ idle. items_fine rest (sound_rest e rest sound) (λ name h. fine name (inr (idle, h))))

    some_fine : (items : Forms) → AllSound items → FineWhere (SomeCanCallFirst (NullableBy judge) items)
        → (n : ℕ) × AllAre (IsWellFormedIn rules n) items
    some_fine End sound fine = (0, tt)
    some_fine (Then e rest) sound fine =
        let is = reached_fine e (sound_first e rest sound) (λ name h. fine name (inl h)) in
        let are = some_fine rest (sound_rest e rest sound) (λ name h. fine name (inr h)) in
        (are.0 + is.0, first_and rules e rest is.0 are.0 is.1 are.1)

  -- ---- if all names refer to well-formed rules, all subexpressions are well-formed

  module _ (fine : FineWhere (λ name. Unit {0})) where
    -- an expression whose parts are all well-formed, with all of its parts
    with_parts : (e : Form) → Sound e → All (IsWellFormed rules) (below e) → All (IsWellFormed rules) (subexpressions e)
    with_parts e sound =
        All-cons (IsWellFormed rules) e (below e) (reached_fine e sound (λ name reached. fine name tt))

    mutual
      parts_fine : (e : Form) → Sound e → All (IsWellFormed rules) (below e)
      parts_fine (Literal bytes span) sound = All-nil (IsWellFormed rules)
      parts_fine (Class set span) sound = All-nil (IsWellFormed rules)
      parts_fine (Any span) sound = All-nil (IsWellFormed rules)
      parts_fine (Name name span) sound = All-nil (IsWellFormed rules)
      parts_fine (Seq items span) sound = all_parts_fine items (sound_parts (Seq items span) items sound.0 sound.1)
      parts_fine (Choice first rest span) sound =
          let parts = sound_parts (Choice first rest span) (Then first rest) sound.0 sound.1 in
          let here = sound_first first rest parts in
          All-append (IsWellFormed rules) (subexpressions first) (below_all rest)
          (with_parts first here (parts_fine first here)) (all_parts_fine rest (sound_rest first rest parts))
      parts_fine (Optional part span) sound =
          let here = sound_part (Optional part span) part sound.0 sound.1 in with_parts part here (parts_fine part here)
      parts_fine (Star part span) sound =
          let here = sound_part (Star part span) part sound.0 sound.1 in with_parts part here (parts_fine part here)
      parts_fine (Plus part span) sound =
          let here = sound_part (Plus part span) part sound.0 sound.1 in with_parts part here (parts_fine part here)
      parts_fine (Counted part min max span) sound =
          let here = sound_part (Counted part min max span) part sound.0 sound.1 in with_parts part here (parts_fine part here)
      parts_fine (And part span) sound =
          let here = sound_part (And part span) part sound.0 sound.1 in with_parts part here (parts_fine part here)
      parts_fine (Not part span) sound =
          let here = sound_part (Not part span) part sound.0 sound.1 in with_parts part here (parts_fine part here)

      all_parts_fine : (items : Forms) → AllSound items → All (IsWellFormed rules) (below_all items)
      all_parts_fine End sound = All-nil (IsWellFormed rules)
      all_parts_fine (Then e rest) sound =
          let here = sound_first e rest sound in
          All-append (IsWellFormed rules) (subexpressions e) (below_all rest)
          (with_parts e here (parts_fine e here)) (all_parts_fine rest (sound_rest e rest sound))

    all_fine : (e : Form) → Sound e → All (IsWellFormed rules) (subexpressions e)
    all_fine e sound = with_parts e sound (parts_fine e sound)

-- ---- the expressions of all rules, by rank

module _ (rules : List Rule) (judge : OutcomeOf) (rank : ℕ → ℕ) (grammar : IsGrammar rules)
    (ranked : IsRanked rules judge rank) where
  abbrev Holds : Rule → Type 0
  Holds rule = All (RepeatsNonEmpty judge) (subexpressions rule.body)

  sound_at : (i : ℕ) (r : Rule) → slice_get rules i ≡ Some r → Sound rules judge ranked.closed r.body
  sound_at i r at = (
    All-given (Known rules judge ranked.closed) (λ (rule : Rule). names_used rule.body) rules i r at grammar.defined,
    All-numbered Holds rules i r at ranked.loops,
  )

  -- a name refers to a well-formed rule if that rule's expression is well-formed
  meant_fine : (name : List ℕ) (m : Meaning) → meaning_of rules name ≡ Some m
      → ((r : Rule) → slice_get rules m.rule ≡ Some r → IsWellFormed rules r.body)
      → MeaningIs (IsWellFormed rules) (meaning_of rules name)
  meant_fine name m is fine =
      let there = meaning_of-is_at rules name m is in
      subst (MeaningIs (IsWellFormed rules)) (sym is) (subst (IsWellFormed rules) there.2 (fine there.0 there.1))

  -- a left-called rule has a lower rank
  falls_to : (i : ℕ) (r : Rule) (name : List ℕ) (m : Meaning) → slice_get rules i ≡ Some r
      → CanCallFirst (NullableBy judge) r.body name → meaning_of rules name ≡ Some m → rank m.rule < rank i
  falls_to i r name m at reached is =
      ranked.falls i m.rule (record {
        rule = r;
        name = name;
        numbered = at;
        reached = reached;
        means = ap (option_map (λ (m : Meaning). m.rule)) is;
      })

  ranked_fine : (most i : ℕ) (r : Rule) → slice_get rules i ≡ Some r → rank i < most → IsWellFormed rules r.body
  ranked_fine zero i r at lower = absurd (omega (arith, lower))
  ranked_fine (suc most) i r at lower =
      reached_fine rules judge ranked.closed r.body (sound_at i r at)
      (λ name reached known.
      let means = meaning_of-known rules name known in
      let less = falls_to i r name means.0 at reached means.1 in
      meant_fine name means.0 means.1 (λ s there. ranked_fine most means.0.rule s there (omega (arith, less, lower))))

  -- every name refers to a well-formed rule
  name_fine : (name : List ℕ) → Unit {0} → Contains (names rules) name
      → MeaningIs (IsWellFormed rules) (meaning_of rules name)
  name_fine name any known =
      let means = meaning_of-known rules name known in
      meant_fine name means.0 means.1
      (λ s there. ranked_fine (suc (rank means.0.rule)) means.0.rule s there (omega arith))

  pub IsWellFormedGrammar-from_ranks : IsWellFormedGrammar rules
  IsWellFormedGrammar-from_ranks =
      All-from_numbered (λ (rule : Rule). All (IsWellFormed rules) (subexpressions rule.body)) rules
      (λ i r at. all_fine rules judge ranked.closed name_fine r.body (sound_at i r at))
