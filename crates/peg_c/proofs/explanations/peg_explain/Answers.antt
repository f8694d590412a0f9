use Rattle.std.specs.Arc.{arc_value}
use Rattle.std.proofs.Common.{ap, ◌∙◌, ◌≡◌, ◌≤◌, IfSome, Option, Some, subst}
use Rattle.peg_explain.specs.Explanations.{ExplainingAnswersWithin, ExplainingStaysWithin}
use Rattle.peg_handle.specs.Starts.{start_of_bytes, step_limit}
use Rattle.peg_handle.specs.declared.content.Content.{Content}
use Rattle.peg_handle.specs.declared.status.TheConstants.{FAILED}
use Rattle.peg_c.specs.Handles.{held_rules}
use Rattle.peg_c.proofs.explanations.peg_explain.Goals as goal

pub returns-in-Some-clause-enough : goal.returns-in-Some-clause-enough
returns-in-Some-clause-enough c =
    let Enough = λ (held : Option Content). IfSome (held_rules held) (λ rules. c.args.memo ≡ 0
    → c.explain_into-status.result ≤ FAILED
    → ExplainingStaysWithin rules c.args.text.now (start_of_bytes c.args.start.now) (step_limit c.args.steps)) in
    subst Enough c.in-Some.ensures.content
    (subst (λ (content : Content). Enough (Some content)) (c.deref-in-Some.ensures ∙ ap arc_value c.deref.ensures)
    c.explain_into-status.ensures.enough)

pub returns-in-Some-clause-within : goal.returns-in-Some-clause-within
returns-in-Some-clause-within c =
    let Within = λ (held : Option Content). IfSome (held_rules held) (λ rules. c.explain_into-status.result ≤ FAILED
    → ExplainingAnswersWithin rules c.args.text.now (start_of_bytes c.args.start.now) (step_limit c.args.steps)) in
    subst Within c.in-Some.ensures.content
    (subst (λ (content : Content). Within (Some content)) (c.deref-in-Some.ensures ∙ ap arc_value c.deref.ensures)
    c.explain_into-status.ensures.within)
