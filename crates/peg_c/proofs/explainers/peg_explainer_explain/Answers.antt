use Rattle.std.specs.Arc.{arc_value}
use Rattle.std.proofs.Common.{ap, ◌∙◌, ◌≡◌, ◌≤◌, IfSome, Option, Some, subst}
use Rattle.peg_explain.specs.Explanations.{ExplainingAnswersWithin, ExplainingStaysWithin, ExplainingTakesMoreSteps}
use Rattle.peg_handle.specs.Explanations.{IsCompiled}
use Rattle.peg_handle.specs.Starts.{start_of_bytes, step_limit}
use Rattle.peg_handle.specs.declared.content.Content.{Content}
use Rattle.peg_handle.specs.declared.status.TheConstants.{FAILED, STEP_LIMIT}
use Rattle.peg_parser.specs.Parser.{parser_rules}
use Rattle.peg_c.specs.Handles.{held_explainer}
use Rattle.peg_c.proofs.explainers.peg_explainer_explain.Goals as goal

pub returns-in-Some-clause-limited : goal.returns-in-Some-clause-limited
returns-in-Some-clause-limited c =
    let Limited = λ (held : Option Content). IfSome (held_explainer held) (λ explainer. IsCompiled explainer
    → c.explain_into-status.result ≡ STEP_LIMIT
    → ExplainingTakesMoreSteps (parser_rules explainer.grammar.parser) c.args.text.now (start_of_bytes c.args.start.now)
    (step_limit c.args.steps)) in
    subst Limited c.in-Some.ensures.content
    (subst (λ (content : Content). Limited (Some content)) (c.deref-in-Some.ensures ∙ ap arc_value c.deref.ensures)
    c.explain_into-status.ensures.limited)

pub returns-in-Some-clause-enough : goal.returns-in-Some-clause-enough
returns-in-Some-clause-enough c =
    let Enough = λ (held : Option Content). IfSome (held_explainer held) (λ explainer. IsCompiled explainer
    → c.args.memo ≡ 0 → c.explain_into-status.result ≤ FAILED
    → ExplainingStaysWithin (parser_rules explainer.grammar.parser) c.args.text.now (start_of_bytes c.args.start.now)
    (step_limit c.args.steps)) in
    subst Enough c.in-Some.ensures.content
    (subst (λ (content : Content). Enough (Some content)) (c.deref-in-Some.ensures ∙ ap arc_value c.deref.ensures)
    c.explain_into-status.ensures.enough)

pub returns-in-Some-clause-within : goal.returns-in-Some-clause-within
returns-in-Some-clause-within c =
    let Within = λ (held : Option Content). IfSome (held_explainer held) (λ explainer. IsCompiled explainer
    → c.explain_into-status.result ≤ FAILED
    → ExplainingAnswersWithin (parser_rules explainer.grammar.parser) c.args.text.now (start_of_bytes c.args.start.now)
    (step_limit c.args.steps)) in
    subst Within c.in-Some.ensures.content
    (subst (λ (content : Content). Within (Some content)) (c.deref-in-Some.ensures ∙ ap arc_value c.deref.ensures)
    c.explain_into-status.ensures.within)
