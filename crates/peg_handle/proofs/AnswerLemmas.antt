-- The answer of a parser is the answer that a handle holds.
use Rattle.std.proofs.Common.{◌≡◌, ℕ, ◌≤◌, List, IfSome, IsErrAnd, IsErrOf, Option, Result, Err, map, ap, subst, sym}
use Rattle.peg_json.specs.Parses.{extents_at}
use Rattle.peg_machine.specs.CoreOutcome.{saturated}
use Rattle.peg_machine.specs.declared.answer.Answer.{Answer}
use Rattle.peg_tree.specs.declared.outcome.Outcome.{Outcome}
use Rattle.peg_parser.specs.Calls.{IsSumOfSteps}
use Rattle.peg_parser.specs.Fits.{Fits}
use Rattle.peg_parser.specs.StepLimits.{TakesPlainSteps}
use Rattle.peg_semantics.specs.Rules.{Rule}
use Rattle.peg_semantics.specs.Starts.{start_name}
use Rattle.peg_handle.specs.Answers.{IsAnswerBy}
use Rattle.peg_handle.specs.FileSpans.{file_span}
use Rattle.peg_handle.specs.Starts.{start_of_bytes}
use Rattle.peg_handle.specs.declared.content.Match.{Match}

pub is_answer : (IsOutcome : List ℕ → Outcome → Type 0) (rules : List Rule) (text start : List ℕ) (memo : ℕ)
    (named : Option (List ℕ)) (answer : Answer) (found : Match) → named ≡ start_of_bytes start → found.answer ≡ answer
    → found.expected.items ≡ map file_span (extents_at rules answer.outcome.expected.items)
    → IfSome (start_name rules named) (λ from. IsOutcome from answer.outcome)
    → Fits rules answer.outcome
    → (count : ℕ) × TakesPlainSteps rules text named count × (answer.steps ≤ count)
    → (memo ≡ 0 → (count : ℕ) × TakesPlainSteps rules text named count × (answer.steps ≡ saturated count))
    → IfSome (start_name rules named) (λ from. IsSumOfSteps rules text from answer)
    → IsAnswerBy IsOutcome rules text start memo found
is_answer IsOutcome rules text start memo named answer found named_is answer_is expected outcome fits steps exact own = record {
  outcome = subst (λ (name : Option (List ℕ)). IfSome (start_name rules name) (λ from.
      IsOutcome from found.answer.outcome)) named_is
      (subst (λ (a : Answer). IfSome (start_name rules named) (λ from. IsOutcome from a.outcome))
      (sym answer_is) outcome);
  fits = subst (λ (a : Answer). Fits rules a.outcome) (sym answer_is) fits;
  expected = subst (λ (a : Answer). found.expected.items
      ≡ map file_span (extents_at rules a.outcome.expected.items)) (sym answer_is) expected;
  steps = subst (λ (name : Option (List ℕ)). (count : ℕ) × TakesPlainSteps rules text name count
      × (found.answer.steps ≤ count)) named_is
      (subst (λ (a : Answer). (count : ℕ) × TakesPlainSteps rules text named count × (a.steps ≤ count))
      (sym answer_is) steps);
  exact = λ no_memo. subst (λ (name : Option (List ℕ)). (count : ℕ) × TakesPlainSteps rules text name count
      × (found.answer.steps ≡ saturated count)) named_is
      (subst (λ (a : Answer). (count : ℕ) × TakesPlainSteps rules text named count × (a.steps ≡ saturated count))
      (sym answer_is) (exact no_memo));
  own = subst (λ (name : Option (List ℕ)). IfSome (start_name rules name) (λ from.
      IsSumOfSteps rules text from found.answer)) named_is
      (subst (λ (a : Answer). IfSome (start_name rules named) (λ from. IsSumOfSteps rules text from a))
      (sym answer_is) own);
}

-- an error that is passed on is the error of the call
pub err_of : {V W E : Type 0} (passed : Result V E) (error fault : E) → IsErrAnd passed (λ stated. stated ≡ error)
    → IsErrOf passed fault → IsErrOf {T = W} (Err error) fault
err_of {V = V} {E = E} passed error fault stated is =
    ap Err (sym (subst (λ (r : Result V E). IsErrAnd r (λ stated. stated ≡ error)) is stated))
