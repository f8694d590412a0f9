-- Lines of parses without an answer.
use Rattle.std.proofs.Common.{◌≡◌, ◌↔◌, ℕ, ◌<◌, ◌≤◌, Bool, inl, inr, List, length, Option, None, Some, Result, Err, IfOk, IfSome, option_map, unwrap_or}
use Rattle.std.proofs.Common.{refl, sym, ◌∙◌}
use Rattle.std.proofs.lemmas.Bool.{cases_lt}
use Rattle.std.specs.declared.alloc.AllocError.{AllocError}
use Rattle.peg_semantics.specs.Rules.{Rule}
use Rattle.peg_grammar.specs.Limits.{max_text_bytes}
use Rattle.peg_coverage.specs.Steps.{IsWithinSteps}
use Rattle.peg_parser.specs.Calls.{IsSumOfSteps}
use Rattle.peg_parser.specs.Cause.{NoSuchStart, TextTooLong}
use Rattle.peg_semantics.specs.Starts.{start_name}
use Rattle.peg_machine.specs.declared.answer.Answer.{Answer}
use Rattle.peg_parser.specs.declared.parser.ParseFault.{ParseFault}
use Rattle.peg_parser.specs.declared.parser.ParseFault.TheVariants as fault
use Rattle.peg_json.specs.Lines.{IsLineOf, IsReply, line_bytes}
use Rattle.peg_json.specs.Parses.{ParsesToAsked, text_too_long}
use Rattle.peg_json.specs.Reply.{Refused}
use Rattle.peg_json.specs.Statuses.{status_code}
use Rattle.peg_json.specs.declared.tree_form.TreeForm.{TreeForm}
use Rattle.peg_json.specs.declared.line.Line.{Line}
use Rattle.peg_json.proofs.ParseLemmas.{missing-parses}
use Rattle.peg_json.proofs.PrintLemmas.{refused-with_text, reply-kind}

-- the line for a start that no rule has; a text that is too long is reported first
pub no_start-line : (result : Result Line AllocError) (file : List ℕ) (rules : List Rule) (text : List ℕ)
    (start : Option (List ℕ)) (memo : ℕ) (steps : Option ℕ) (all : Bool) (form : TreeForm) (shown : ℕ → Bool)
    (with_bytes : Bool) (name : List ℕ) → start ≡ Some name
    → start_name rules start ≡ None
    → (max_text_bytes < length text → IfOk result (λ line.
    IsReply file (Refused TextTooLong) (line_bytes line) (status_code line.status)))
    → (length text ≤ max_text_bytes → IfOk result (λ line.
    IsReply file (Refused (NoSuchStart name)) (line_bytes line) (status_code line.status)))
    → IfOk result (λ line.
    IsLineOf file (ParsesToAsked rules text start memo steps all form shown with_bytes) (line_bytes line)
    (status_code line.status))
no_start-line result file rules text start memo steps all form shown with_bytes name named none long missing =
    elim (cases_lt max_text_bytes (length text)) [
      | inl over ↦
          reply-kind result file (ParsesToAsked rules text start memo steps all form shown with_bytes) (Refused TextTooLong)
          (long over) (Refused TextTooLong, text_too_long over, refused-with_text with_bytes text TextTooLong)
      | inr within ↦
          reply-kind result file (ParsesToAsked rules text start memo steps all form shown with_bytes)
          (Refused (NoSuchStart name)) (missing within) (
            Refused (NoSuchStart name),
            missing-parses rules text start memo steps all form shown name within named none,
            refused-with_text with_bytes text (NoSuchStart name),
          )
    ]

-- the name that was given
pub given-name : {R : Type 0} (text : R → List ℕ) (start : Option R) (other : R) (name : List ℕ)
    → option_map text start ≡ Some name → text (unwrap_or start other) ≡ name
given-name text None other name is = cc
given-name text (Some given) other name is = let both : Some (text given) ≡ Some name = is in cc

-- a text that is rejected as too long is too long, since the start was found first
pub long-text : (result : Result Answer ParseFault) (rules : List Rule) (start : Option (List ℕ)) (size : ℕ)
    → result ≡ Err fault.TextTooLong → (result ≡ Err fault.NoSuchStart) ↔ (start_name rules start ≡ None)
    → ((from : List ℕ) → start_name rules start ≡ Some from
    → (result ≡ Err fault.TextTooLong) ↔ (max_text_bytes < size))
    → max_text_bytes < size
long-text result rules start size is none long = by (start_name rules start) refl
  where
    by : (found : Option (List ℕ)) → start_name rules start ≡ found → max_text_bytes < size
    by None there =
        absurd (let bad : Err fault.TextTooLong ≡ Err fault.NoSuchStart = sym is ∙ none.1 there in cc)
    by (Some from) there = (long from there).0 is

-- a text whose parse exceeds the step limit isn't too long
pub short-text : (result : Result Answer ParseFault) (size : ℕ) → result ≡ Err fault.StepLimit
    → (result ≡ Err fault.TextTooLong) ↔ (max_text_bytes < size) → size ≤ max_text_bytes
short-text result size is long = elim (cases_lt max_text_bytes size) [
  | inl over ↦ absurd (let bad : Err fault.StepLimit ≡ Err fault.TextTooLong = sym is ∙ long.1 over in cc)
  | inr within ↦ within
]

-- the steps of an answer, where the parse has a start
pub within-steps : (found : Option (List ℕ)) (rules : List Rule) (text : List ℕ) (max_steps : Option ℕ) (answer : Answer)
    → IfSome found (λ from. IsSumOfSteps rules text from answer)
    → ((limit : ℕ) → max_steps ≡ Some limit → answer.steps ≤ limit)
    → IfSome found (λ from. IsWithinSteps rules text from max_steps)
within-steps None rules text max_steps answer sum allowed = tt
within-steps (Some from) rules text max_steps answer sum allowed = (answer, sum, allowed)
