use Rattle.std.proofs.Common.{◌≡◌, ℕ, Err, IfSome, IsErrOf, Option, ap, subst, sym}
use Rattle.peg_explain.specs.Explanations.{ExplainingStaysWithin, ExplainingTakesMoreSteps}
use Rattle.peg_handle.specs.Contents.{content_explainer}
use Rattle.peg_handle.specs.Explanations.{IsCompiled}
use Rattle.peg_handle.specs.Starts.{start_of_bytes, step_limit}
use Rattle.peg_handle.specs.declared.content.Content.{Content}
use Rattle.peg_handle.specs.declared.content.Explanation.{Explanation}
use Rattle.peg_handle.specs.declared.status.TheConstants.{STEP_LIMIT}
use Rattle.peg_parser.specs.Parser.{parser_rules}
use Rattle.peg_handle.proofs.explanation_calls.explain_by_explainer.Goals as goal

pub returns-in-Ok-clause-enough : goal.returns-in-Ok-clause-enough
returns-in-Ok-clause-enough c =
    subst (λ (content : Content). IfSome (content_explainer content) (λ explainer. IsCompiled explainer → c.args.memo ≡ 0
    → ExplainingStaysWithin (parser_rules explainer.grammar.parser) c.args.text.now (start_of_bytes c.args.start.now)
    (step_limit c.args.steps)))
    (sym c.in-Explaining.is) c.in-Ok.ensures.enough

-- an error has one status
same-status : {V : Type 0} (status other : ℕ) → IsErrOf {T = V} (Err status) other → status ≡ other
same-status status other is = cc

pub returns-in-Err-clause-limited : goal.returns-in-Err-clause-limited
returns-in-Err-clause-limited c =
    subst (λ (content : Content). IfSome (content_explainer content) (λ explainer. IsCompiled explainer
    → IsErrOf {T = Option Explanation} (Err c.fault_status.result) STEP_LIMIT
    → ExplainingTakesMoreSteps (parser_rules explainer.grammar.parser) c.args.text.now (start_of_bytes c.args.start.now)
    (step_limit c.args.steps)))
    (sym c.in-Explaining.is)
    (λ compiled is. c.in-Err.ensures.limited compiled
    (ap Err (c.fault_status.ensures.limit.0 (same-status {V = Option Explanation} c.fault_status.result STEP_LIMIT is))))
