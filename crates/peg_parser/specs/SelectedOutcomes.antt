-- Describes code: outcomes whose trees have the nodes of all rules or of those of a set, and whose furthest failure is
-- that of all terminals or of listed ones.
use Rattle.std.specs.Prelude.{ℕ, Bool, List, Option, None, Some}
use Rattle.peg_machine.specs.SelectedTests.{AnswersBy}
use Rattle.peg_semantics.specs.Record.{start_record}
use Rattle.peg_semantics.specs.Rules.{Rule}
use Rattle.peg_tree.specs.declared.outcome.Outcome.{Outcome}
use Rattle.peg_parser.specs.Fits.{Fits, FitsAmong}

-- the outcome of a grammar on a text from a start rule by the rules that are shown and the failed tests that count, in
-- some depth
abbrev pub IsParseOutcomeBy : (shown : Option (List Bool)) → (among : Option (List ℕ)) → List Rule → List ℕ → List ℕ
    → Outcome → Type 0
IsParseOutcomeBy shown among rules text start outcome =
    (n : ℕ) × AnswersBy shown among (start_record rules text n start) outcome

-- an outcome whose tree has rule numbers of the grammar, and whose terminals are the grammar's or indices into the list
abbrev pub FitsBy : (among : Option (List ℕ)) → List Rule → Outcome → Type 0
FitsBy None rules outcome = Fits rules outcome
FitsBy (Some terminals) rules outcome = FitsAmong rules terminals outcome
