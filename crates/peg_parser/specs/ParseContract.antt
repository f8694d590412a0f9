-- What a parse of a text promises (Ford 2004, section 3.3).
use Rattle.std.specs.Prelude.{◌≡◌, ◌<◌, ◌≤◌, ◌↔◌, ℕ, Bool, IfOk, IfSome, IsErrOf, List, None, OnOk, Option, Result, Some, length}
use Rattle.peg_grammar.specs.Limits.{max_text_bytes}
use Rattle.peg_machine.specs.CoreOutcome.{saturated}
use Rattle.peg_machine.specs.declared.answer.Answer.{Answer}
use Rattle.peg_semantics.specs.Rules.{Rule}
use Rattle.peg_semantics.specs.Starts.{start_name}
use Rattle.peg_parser.specs.Calls.{IsSumOfSteps}
use Rattle.peg_parser.specs.SelectedOutcomes.{FitsBy, IsParseOutcomeBy}
use Rattle.peg_parser.specs.StepLimits.{TakesMoreSteps, TakesPlainSteps}
use Rattle.peg_parser.specs.declared.parser.ParseFault.{ParseFault}
use Rattle.peg_parser.specs.declared.parser.ParseFault.TheVariants.{NoSuchStart, StepLimit, TextTooLong}

-- When a start or a text is refused: first a start that no rule has, then a text that is too long. `named` is the name
-- of the start, or `None` for the first rule.
pub record HasParseFaults {T : Type 0} (rules : List Rule) (text : List ℕ) (named : Option (List ℕ))
    (result : Result T ParseFault) : Type 0 where
  pub no_start : IsErrOf result NoSuchStart ↔ (start_name rules named ≡ None)
  pub long : (start : List ℕ) → start_name rules named ≡ Some start
      → (IsErrOf result TextTooLong ↔ (max_text_bytes < length text))

-- When the step limit refuses a text. `is_plain` says that the parse has no memo.
pub record HasStepLimit {T : Type 0} (rules : List Rule) (text : List ℕ) (named : Option (List ℕ)) (is_plain : Type 0)
    (max_steps : Option ℕ) (result : Result T ParseFault) : Type 0 where
  pub limited : IsErrOf result StepLimit → TakesMoreSteps rules text named max_steps
  -- without a memo there is no answer if more steps are needed
  pub enough : is_plain → OnOk result (¬ TakesMoreSteps rules text named max_steps)

-- The steps of an answer.
pub record HasParseSteps (rules : List Rule) (text : List ℕ) (named : Option (List ℕ)) (is_plain : Type 0)
    (max_steps : Option ℕ) (result : Result Answer ParseFault) : Type 0 where
  -- they stay within the limit
  pub allowed : IfOk result (λ answer. (limit : ℕ) → max_steps ≡ Some limit → answer.steps ≤ limit)
  -- they are at most the plain steps, and without a memo exactly these
  pub plain : IfOk result (λ answer. (count : ℕ) × TakesPlainSteps rules text named count × (answer.steps ≤ count))
  pub exact : is_plain → IfOk result (λ answer. (count : ℕ) × TakesPlainSteps rules text named count
      × (answer.steps ≡ saturated count))
  -- with a memo, too, they are the steps of a list of calls, which as a set are those of the record
  pub own : IfOk result (λ answer. IfSome (start_name rules named) (λ start. IsSumOfSteps rules text start answer))

-- The result of a parse from a start. `shown` has the rules whose matches have nodes, or is `None` for all. `among` has
-- the terminals whose failures count, or is `None` for all.
pub record IsParse (shown : Option (List Bool)) (among : Option (List ℕ)) (rules : List Rule) (text : List ℕ)
    (named : Option (List ℕ)) (is_plain : Type 0) (max_steps : Option ℕ) (result : Result Answer ParseFault)
    : Type 0 where
  pub faults : HasParseFaults rules text named result
  pub short : OnOk result (length text ≤ max_text_bytes)
  -- success, consumed length, tree and furthest failure
  pub outcome : IfOk result (λ answer. IfSome (start_name rules named)
      (λ start. IsParseOutcomeBy shown among rules text start answer.outcome))
  pub fits : IfOk result (λ answer. FitsBy among rules answer.outcome)
  pub limit : HasStepLimit rules text named is_plain max_steps result
  pub steps : HasParseSteps rules text named is_plain max_steps result
