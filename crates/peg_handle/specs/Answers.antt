-- What an answer says about a grammar and a text.
use Rattle.std.specs.Prelude.{◌≡◌, ℕ, ◌≤◌, Bool, List, IfSome, None, Option, map}
use Rattle.peg_grammar.specs.Outcomes.{IsParseOutcome}
use Rattle.peg_json.specs.Parses.{extents_at}
use Rattle.peg_machine.specs.CoreOutcome.{saturated}
use Rattle.peg_parser.specs.Calls.{IsSumOfSteps}
use Rattle.peg_parser.specs.Fits.{Fits}
use Rattle.peg_parser.specs.SelectedOutcomes.{IsParseOutcomeBy}
use Rattle.peg_parser.specs.StepLimits.{TakesPlainSteps}
use Rattle.peg_semantics.specs.Rules.{Rule}
use Rattle.peg_semantics.specs.Starts.{start_name}
use Rattle.peg_tree.specs.declared.outcome.Outcome.{Outcome}
use Rattle.peg_handle.specs.FileSpans.{file_span}
use Rattle.peg_handle.specs.Starts.{start_of_bytes}
use Rattle.peg_handle.specs.declared.content.Match.{Match}

-- The answer has an outcome of this kind for the start that the bytes name. Its rule numbers and terminals are the
-- grammar's, and the spans are those of the terminals that failed furthest. Its steps are at most the plain steps of the
-- parse, and without a memo exactly these. With a memo, too, they are those of a list of calls, which as a set are those
-- of Ford's record.
pub record IsAnswerBy (IsOutcome : (start : List ℕ) → Outcome → Type 0) (rules : List Rule) (text start : List ℕ)
    (memo : ℕ) (found : Match) : Type 0 where
  pub outcome : IfSome (start_name rules (start_of_bytes start)) (λ from. IsOutcome from found.answer.outcome)
  pub fits : Fits rules found.answer.outcome
  pub expected : found.expected.items ≡ map file_span (extents_at rules found.answer.outcome.expected.items)
  pub steps : (count : ℕ) × TakesPlainSteps rules text (start_of_bytes start) count × (found.answer.steps ≤ count)
  pub exact : memo ≡ 0
      → (count : ℕ) × TakesPlainSteps rules text (start_of_bytes start) count × (found.answer.steps ≡ saturated count)
  pub own : IfSome (start_name rules (start_of_bytes start)) (λ from. IsSumOfSteps rules text from found.answer)

-- the answer has Ford's outcome
abbrev pub IsAnswerTo : (rules : List Rule) → (text start : List ℕ) → (memo : ℕ) → Match → Type 0
IsAnswerTo rules text start memo found = IsAnswerBy (IsParseOutcome rules text) rules text start memo found

-- The answer has Ford's outcome, but that the tree has the nodes of the rules of a set alone, and the root. The children
-- of another node take its place.
abbrev pub IsSelectedAnswerTo : (shown : Option (List Bool)) → (rules : List Rule) → (text start : List ℕ) → (memo : ℕ)
    → Match → Type 0
IsSelectedAnswerTo shown rules text start memo found =
    IsAnswerBy (IsParseOutcomeBy shown None rules text) rules text start memo found
