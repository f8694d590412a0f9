-- The steps of a parse whose answer isn't returned.
use Rattle.std.specs.Prelude.{◌≡◌, ◌≤◌, ℕ, List, Option, Some}
use Rattle.peg_machine.specs.declared.answer.Answer.{Answer}
use Rattle.peg_parser.specs.Calls.{IsSumOfSteps}
use Rattle.peg_semantics.specs.Rules.{Rule}

-- The parse has an answer. Its steps are those of the bodies of calls, which as a set are those of the record, and stay
-- within a limit.
abbrev pub IsWithinSteps : List Rule → (text start : List ℕ) → (max_steps : Option ℕ) → Type 0
IsWithinSteps rules text start max_steps = (answer : Answer) × IsSumOfSteps rules text start answer
    × ((limit : ℕ) → max_steps ≡ Some limit → answer.steps ≤ limit)
