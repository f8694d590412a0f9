-- Describes code: what a parse by the marked grammar notes.
use Rattle.std.specs.Prelude.{◌≡◌, ◌≢◌, ℕ, IfOk, IfSome, IsErrOf, List, None, Option, Result, length}
use Rattle.peg_parser.specs.ParseContract.{HasStepLimit}
use Rattle.peg_parser.specs.declared.parser.ParseFault.{ParseFault}
use Rattle.peg_parser.specs.declared.parser.ParseFault.TheVariants.{NoSuchStart, TextTooLong}
use Rattle.peg_semantics.specs.Record.{Record}
use Rattle.peg_semantics.specs.Rules.{Rule}
use Rattle.peg_semantics.specs.Starts.{Recognizes, start_name}
use Rattle.peg_coverage.specs.Called.{HasCalled}
use Rattle.peg_coverage.specs.Covered.{match_of}
use Rattle.peg_coverage.specs.Steps.{IsWithinSteps}
use Rattle.peg_coverage.specs.declared.tracing.TracedText.{TracedText}

-- the rules that were called, and how much of the text matches
abbrev pub IsTraced : List Rule → (text start : List ℕ) → TracedText → Type 0
IsTraced rules text start traced = (r : Record) × Recognizes rules text start r
    × (traced.found ≡ match_of (length text) r.result) × HasCalled traced.called r.calls

-- the result of a traced parse by rules, of a text that isn't too long
pub record IsTracedParse (rules : List Rule) (text : List ℕ) (named : Option (List ℕ)) (is_plain : Type 0)
    (max_steps : Option ℕ) (result : Result TracedText ParseFault) : Type 0 where
  pub known : start_name rules named ≢ None → ¬ IsErrOf result NoSuchStart
  pub short : ¬ IsErrOf result TextTooLong
  pub limit : HasStepLimit rules text named is_plain max_steps result
  pub calls : IfOk result (λ traced. IfSome (start_name rules named) (λ start. IsTraced rules text start traced))
  pub within : IfOk result (λ traced. IfSome (start_name rules named)
      (λ start. IsWithinSteps rules text start max_steps))
