-- A well-formed grammar has no empty loop and no left cycle: along left calls, the number of rounds in which a rule is
-- well-formed decreases.
use Rattle.std.proofs.Common.{◌≡◌, inl, inr, ℕ, zero, suc, ◌<◌, List, [], ◌∷◌, ◌++◌, All, Option, None, Some}
use Rattle.std.proofs.Common.{option_map, slice_get, refl, sym, ap, ◌∙◌, subst, arith}
use Rattle.std.proofs.lemmas.List.Elements.{All-head, All-contains}
use Rattle.peg_bytes.specs.Extent.{Extent}
use Rattle.peg_semantics.specs.AbstractOutcomes.{GivesNothing}
use Rattle.peg_semantics.specs.Form.{Form, Forms, Literal, Class, Any, Name, Seq, Choice, Optional, Star, Plus, Counted, And, Not}
use Rattle.peg_semantics.specs.Form.{End, Then}
use Rattle.peg_semantics.specs.Loops.{CanCallFirst, ItemsCanCallFirst, SomeCanCallFirst, LeftCalls, IsChain, IsLeftCycle, IsEmptyLoop}
use Rattle.peg_semantics.specs.Rules.{Rule, Meaning, meaning_of}
use Rattle.peg_semantics.specs.WellFormed.{ItemsAre, AllAre, MeaningIs, WellFormedTable, IsWellFormedIn, IsWellFormed}
use Rattle.peg_semantics.specs.WellFormed.{IsWellFormedGrammar, below, subexpressions}
use Rattle.peg_semantics.proofs.MeaningLemmas.{All-numbered, meaning_of-is_at}

module _ (rules : List Rule) where
  -- an expression that is well-formed in some round is so by Ford's rules from an earlier round
  round_before : (n : ℕ) (e : Form) → IsWellFormedIn rules n e
      → (k : ℕ) × (k < n) × WellFormedTable rules (IsWellFormedIn rules k) e
  unfolding IsWellFormedIn
  round_before zero e is = absurd is
  round_before (suc n) e is = (n, omega arith, is)

  -- the rule that a name refers to is well-formed in fewer than n rounds
  abbrev SoonerFine : List ℕ → ℕ → Type 0
  SoonerFine name n = (k : ℕ) × (k < n) × MeaningIs (IsWellFormedIn rules k) (meaning_of rules name)

  later : (name : List ℕ) (k n : ℕ) → k < n → SoonerFine name k → SoonerFine name n
  later name k n less fine = (fine.0, omega (arith, less, fine.1), fine.2)

  mutual
    reached_sooner : (e : Form) (n : ℕ) (name : List ℕ) → IsWellFormedIn rules n e → CanCallFirst (GivesNothing rules) e name
        → SoonerFine name n
    reached_sooner (Literal bytes span) n name is reached = absurd reached
    reached_sooner (Class set span) n name is reached = absurd reached
    reached_sooner (Any span) n name is reached = absurd reached
    reached_sooner (Name other span) n name is reached =
        let before = round_before n (Name other span) is in
        (before.0, before.1, subst (λ s. MeaningIs (IsWellFormedIn rules before.0) (meaning_of rules s)) reached before.2)
    reached_sooner (Seq items span) n name is reached =
        let before = round_before n (Seq items span) is in
        later name before.0 n before.1 (item_sooner items before.0 name before.2 reached)
    reached_sooner (Choice first rest span) n name is reached =
        let before = round_before n (Choice first rest span) is in
        elim reached [
          | inl here ↦ later name before.0 n before.1 (reached_sooner first before.0 name before.2.0 here)
          | inr there ↦ later name before.0 n before.1 (some_sooner rest before.0 name before.2.1 there)
        ]
    reached_sooner (Optional part span) n name is reached =
        let before = round_before n (Optional part span) is in
        later name before.0 n before.1 (reached_sooner part before.0 name before.2 reached)
    reached_sooner (Star part span) n name is reached =
        let before = round_before n (Star part span) is in
        later name before.0 n before.1 (reached_sooner part before.0 name before.2.0 reached)
    reached_sooner (Plus part span) n name is reached =
        let before = round_before n (Plus part span) is in
        later name before.0 n before.1 (reached_sooner part before.0 name before.2.0 reached)
    reached_sooner (Counted part min max span) n name is reached =
        let before = round_before n (Counted part min max span) is in
        later name before.0 n before.1 (reached_sooner part before.0 name before.2 reached)
    reached_sooner (And part span) n name is reached =
        let before = round_before n (And part span) is in
        later name before.0 n before.1 (reached_sooner part before.0 name before.2 reached)
    reached_sooner (Not part span) n name is reached =
        let before = round_before n (Not part span) is in
        later name before.0 n before.1 (reached_sooner part before.0 name before.2 reached)

    item_sooner : (items : Forms) (n : ℕ) (name : List ℕ) → ItemsAre rules (IsWellFormedIn rules n) items
        → ItemsCanCallFirst (GivesNothing rules) items name → SoonerFine name n
    item_sooner End n name are reached = absurd reached
    item_sooner (Then e rest) n name are reached =
        elim reached [
          | inl here ↦ reached_sooner e n name are.0 here
          | inr there ↦ item_sooner rest n name (are.1 there.0) there.1
        ]

    some_sooner : (items : Forms) (n : ℕ) (name : List ℕ) → AllAre (IsWellFormedIn rules n) items
        → SomeCanCallFirst (GivesNothing rules) items name → SoonerFine name n
    some_sooner End n name are reached = absurd reached
    some_sooner (Then e rest) n name are reached =
        elim reached [
          | inl here ↦ reached_sooner e n name are.0 here
          | inr there ↦ some_sooner rest n name are.1 there
        ]

  -- the expression of rule number i is well-formed in n rounds
  abbrev FineAt : ℕ → ℕ → Type 0
  FineAt n i = (r : Rule) × (slice_get rules i ≡ Some r) × IsWellFormedIn rules n r.body

  meaning_at : (k j : ℕ) (name : List ℕ) (meaning : Option Meaning) → meaning_of rules name ≡ meaning
      → option_map (λ (m : Meaning). m.rule) meaning ≡ Some j → MeaningIs (IsWellFormedIn rules k) meaning → FineAt k j
  meaning_at k j name None is means fine = absurd fine
  meaning_at k j name (Some m) is means fine =
      let at = meaning_of-is_at rules name m is in
      let number : m.rule ≡ j = cc in
      (at.0, ap (slice_get rules) (sym number) ∙ at.1, subst (IsWellFormedIn rules k) (sym at.2) fine)

  -- a left-called rule is well-formed in fewer rounds
  met_sooner : (n i j : ℕ) → FineAt n i → LeftCalls rules i j → (k : ℕ) × (k < n) × FineAt k j
  met_sooner n i j fine meets =
      let same : fine.0 ≡ meets.rule = cc in
      let here = subst (λ (r : Rule). IsWellFormedIn rules n r.body) same fine.2 in
      let sooner = reached_sooner meets.rule.body n meets.name here meets.reached in
      (sooner.0, sooner.1, meaning_at sooner.0 j meets.name (meaning_of rules meets.name) refl meets.means sooner.2)

  -- the same for the last rule of a chain of left calls
  last_sooner : (path : List ℕ) (n i last : ℕ) → FineAt n i → IsChain (LeftCalls rules) i (path ++ last ∷ [])
      → (k : ℕ) × (k < n) × FineAt k last
  last_sooner [] n i last fine meet = met_sooner n i last fine meet.0
  last_sooner (next ∷ more) n i last fine meet =
      let sooner = met_sooner n i next fine meet.0 in
      let rest = last_sooner more sooner.0 next last sooner.2 meet.1 in
      (rest.0, omega (arith, sooner.1, rest.1), rest.2)

  no_cycle_below : (most n first : ℕ) (more : List ℕ) → n < most → FineAt n first
      → IsChain (LeftCalls rules) first (more ++ first ∷ []) → ⊥
  no_cycle_below zero n first more less fine meet = absurd (omega (arith, less))
  no_cycle_below (suc most) n first more less fine meet =
      let sooner = last_sooner more n first first fine meet in
      no_cycle_below most sooner.0 first more (omega (arith, less, sooner.1)) sooner.2 meet

  numbered_fine : (i : ℕ) (r : Rule) → slice_get rules i ≡ Some r → IsWellFormedGrammar rules
      → All (IsWellFormed rules) (subexpressions r.body)
  numbered_fine i r at fine =
      All-numbered (λ (rule : Rule). All (IsWellFormed rules) (subexpressions rule.body)) rules i r at fine

  meeting_fine : (i j : ℕ) → IsWellFormedGrammar rules → LeftCalls rules i j → (n : ℕ) × FineAt n i
  meeting_fine i j fine meets =
      let all = numbered_fine i meets.rule meets.numbered fine in
      let is = All-head (IsWellFormed rules) meets.rule.body (below meets.rule.body) all in
      (is.0, (meets.rule, meets.numbered, is.1))

  -- the first rule of a chain of left calls is a rule of the grammar
  first_fine : (path : List ℕ) (i last : ℕ) → IsWellFormedGrammar rules
      → IsChain (LeftCalls rules) i (path ++ last ∷ []) → (n : ℕ) × FineAt n i
  first_fine [] i last fine meet = meeting_fine i last fine meet.0
  first_fine (next ∷ more) i last fine meet = meeting_fine i next fine meet.0

  -- a well-formed star or plus has no part that gives 0
  no_star : (n : ℕ) (part : Form) (span : Extent) → IsWellFormedIn rules n (Star part span) → ¬ GivesNothing rules part
  no_star n part span is = (round_before n (Star part span) is).2.1

  no_plus : (n : ℕ) (part : Form) (span : Extent) → IsWellFormedIn rules n (Plus part span) → ¬ GivesNothing rules part
  no_plus n part span is = (round_before n (Plus part span) is).2.1

-- a well-formed grammar has no left cycle
pub no_left_cycle : (rules : List Rule) (path : List ℕ) → IsWellFormedGrammar rules → ¬ IsLeftCycle rules path
no_left_cycle rules [] fine cycle = cycle
no_left_cycle rules (first ∷ more) fine cycle =
    let from = first_fine rules more first first fine cycle in
    no_cycle_below rules (suc from.0) from.0 first more (omega arith) from.1 cycle

-- a well-formed grammar has no empty loop
pub no_empty_loop : (rules : List Rule) (number : ℕ) (span : Extent) → IsWellFormedGrammar rules
    → ¬ IsEmptyLoop rules number span
no_empty_loop rules number span fine loop =
    let all = numbered_fine rules number loop.rule loop.numbered fine in
    elim (loop.written) [
      | inl there ↦
          let is = All-contains (IsWellFormed rules) (subexpressions loop.rule.body) (Star loop.part span) all there in
          no_star rules is.0 loop.part span is.1 loop.idle
      | inr there ↦
          let is = All-contains (IsWellFormed rules) (subexpressions loop.rule.body) (Plus loop.part span) all there in
          no_plus rules is.0 loop.part span is.1 loop.idle
    ]
