-- Describes code: the outcomes of sequences and choices, from the outcomes of their parts in order.
use Rattle.std.specs.Prelude.{true, false, List, [], ◌∷◌}
use Rattle.peg_semantics.specs.AbstractOutcomes.{Can, always_empty, choice_outcome, seq_outcome}
use Rattle.peg_semantics.specs.Form.{Forms, End, Then}
use Rattle.peg_semantics.specs.RuleOutcomes.{IsAbstractOutcome}
use Rattle.peg_semantics.specs.Rules.{Rule}

-- the outcomes of a sequence
abbrev pub outcome_of_all : List Can → Can
outcome_of_all [] = always_empty
outcome_of_all (can ∷ cans) = seq_outcome can (outcome_of_all cans)

-- the outcomes of an expression that only fails
abbrev pub only_fails : Can
only_fails = record { nothing = false; something = false; fails = true }

-- the outcomes of a choice
abbrev pub outcome_of_any : List Can → Can
outcome_of_any [] = only_fails
outcome_of_any (can ∷ cans) = choice_outcome can (outcome_of_any cans)

-- these are the abstract outcomes of the expressions, in order
abbrev pub AreOutcomes : List Rule → Forms → List Can → Type 0
AreOutcomes rules End [] = Unit {0}
AreOutcomes rules End (can ∷ cans) = ⊥
AreOutcomes rules (Then e rest) [] = ⊥
AreOutcomes rules (Then e rest) (can ∷ cans) = IsAbstractOutcome rules e can × AreOutcomes rules rest cans
