-- Ford's abstract outcomes (Ford 2004, section 3.5) and well-formed expressions (section 3.6), by his own rules on core
-- forms.
use Rattle.std.specs.Prelude.{◌≡◌, ℕ, zero, suc, true, List, slice_get, Option, None, Some}
use Rattle.peg_semantics.specs.AbstractOutcomes.{Can, no_outcome, always_empty, can_of_set, seq_outcome, choice_outcome, star_outcome, not_outcome}
use Rattle.peg_core.specs.CoreForm.{CoreForm, Empty, Test, Rule, Seq, Choice, Star, Not}

-- a function from forms to their outcomes
abbrev pub CoreOutcomeOf : Type 0
CoreOutcomeOf = CoreForm → Can

-- the outcomes of a rule's body; none if there is no body
abbrev pub outcome_of_body : CoreOutcomeOf → Option CoreForm → Can
outcome_of_body judge None = no_outcome
outcome_of_body judge (Some body) = judge body

-- Ford's rules, one line for each form, from the rules' bodies and the outcomes of parts
abbrev pub core_can_table : List CoreForm → CoreOutcomeOf → CoreOutcomeOf
core_can_table bodies judge Empty = always_empty
core_can_table bodies judge (Test set terminal) = can_of_set set
core_can_table bodies judge (Rule rule) = outcome_of_body judge (slice_get bodies rule)
core_can_table bodies judge (Seq first rest) = seq_outcome (judge first) (judge rest)
core_can_table bodies judge (Choice first rest) = choice_outcome (judge first) (judge rest)
core_can_table bodies judge (Star part origin) = star_outcome (judge part)
core_can_table bodies judge (Not part) = not_outcome (judge part)

-- The outcomes of a form in n rounds. In 0 rounds there are none. Above 0 they follow by the rules from the outcomes of
-- its parts in n - 1 rounds.
unfoldable pub core_can_in : List CoreForm → ℕ → CoreOutcomeOf
core_can_in bodies zero form = no_outcome
core_can_in bodies (suc n) form = core_can_table bodies (core_can_in bodies n) form

-- Ford's outcomes are the least relation closed under his rules: the outcomes in some number of rounds.
abbrev pub CoreGivesNothing : List CoreForm → CoreForm → Type 0
CoreGivesNothing bodies form = (n : ℕ) × ((core_can_in bodies n form).nothing ≡ true)

abbrev pub CoreGivesSomething : List CoreForm → CoreForm → Type 0
CoreGivesSomething bodies form = (n : ℕ) × ((core_can_in bodies n form).something ≡ true)

abbrev pub CoreCanFail : List CoreForm → CoreForm → Type 0
CoreCanFail bodies form = (n : ℕ) × ((core_can_in bodies n form).fails ≡ true)

-- a property of forms
abbrev pub CorePredicate : Type 1
CorePredicate = CoreForm → Type 0

-- a rule's body exists and has the property
abbrev pub BodyIs : CorePredicate → Option CoreForm → Type 0
BodyIs Is None = ⊥
BodyIs Is (Some body) = Is body

-- Ford's rules for well-formed expressions, from the rules' bodies and the property of parts
abbrev pub CoreWellFormedTable : List CoreForm → CorePredicate → CorePredicate
CoreWellFormedTable bodies Is Empty = Unit {0}
CoreWellFormedTable bodies Is (Test set terminal) = Unit {0}
CoreWellFormedTable bodies Is (Rule rule) = BodyIs Is (slice_get bodies rule)
CoreWellFormedTable bodies Is (Seq first rest) = Is first × (CoreGivesNothing bodies first → Is rest)
CoreWellFormedTable bodies Is (Choice first rest) = Is first × Is rest
CoreWellFormedTable bodies Is (Star part origin) = Is part × ¬ CoreGivesNothing bodies part
CoreWellFormedTable bodies Is (Not part) = Is part

-- Well-formed in n rounds. In 0 rounds no form is. Above 0 the rules hold, with parts that are well-formed in n - 1.
unfoldable pub IsCoreWellFormedIn : List CoreForm → ℕ → CorePredicate
IsCoreWellFormedIn bodies zero form = ⊥
IsCoreWellFormedIn bodies (suc n) form = CoreWellFormedTable bodies (IsCoreWellFormedIn bodies n) form

-- Ford's well-formed expressions are the least set closed under his rules: those in some number of rounds.
abbrev pub IsCoreWellFormed : List CoreForm → CoreForm → Type 0
IsCoreWellFormed bodies form = (n : ℕ) × IsCoreWellFormedIn bodies n form
