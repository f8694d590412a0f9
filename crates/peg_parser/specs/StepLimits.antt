-- How many plain steps a parse takes, and which parses exceed a limit of steps.
use Rattle.std.specs.Prelude.{◌≡◌, ℕ, List, Option, Some}
use Rattle.peg_core.specs.CoreForm.{core_bodies, number_of}
use Rattle.peg_semantics.specs.Rules.{Rule}
use Rattle.peg_semantics.specs.Starts.{start_name}
use Rattle.peg_machine.specs.CoreOutcome.{ExceedsStepLimit, TakesSteps}

-- A parse of a text from a start exceeds the limit: there is a limit, the start is a rule, and the plain steps from it
-- are more than the limit. Plain steps are those of the code of the grammar's core forms.
abbrev pub TakesMoreSteps : List Rule → List ℕ → (start : Option (List ℕ)) → (max_steps : Option ℕ) → Type 0
TakesMoreSteps rules text start max_steps =
    (from : List ℕ) × (start_name rules start ≡ Some from)
    × ExceedsStepLimit (core_bodies rules) text (number_of rules from) max_steps

-- A parse of a text from a start takes `count` plain steps: the start is a rule, and these are the plain steps from it.
abbrev pub TakesPlainSteps : List Rule → List ℕ → (start : Option (List ℕ)) → (count : ℕ) → Type 0
TakesPlainSteps rules text start count =
    (from : List ℕ) × (start_name rules start ≡ Some from)
    × TakesSteps (core_bodies rules) text (number_of rules from) count
