use Rattle.std.proofs.Common.{◌≡◌, IfSome, subst, sym}
use Rattle.peg_explain.specs.Explanations.{ExplainingAnswersWithin, ExplainingStaysWithin}
use Rattle.peg_handle.specs.Contents.{content_rules}
use Rattle.peg_handle.specs.Starts.{start_of_bytes, step_limit}
use Rattle.peg_handle.specs.declared.content.Content.{Content}
use Rattle.peg_handle.proofs.explanation_calls.explain_by.Goals as goal

pub returns-in-Ok-clause-enough : goal.returns-in-Ok-clause-enough
returns-in-Ok-clause-enough c =
    subst (λ (content : Content). IfSome (content_rules content) (λ rules. c.args.memo ≡ 0
    → ExplainingStaysWithin rules c.args.text.now (start_of_bytes c.args.start.now) (step_limit c.args.steps)))
    (sym c.in-Accepted.is) c.in-Ok.ensures.enough

pub returns-in-Ok-clause-within : goal.returns-in-Ok-clause-within
returns-in-Ok-clause-within c =
    subst (λ (content : Content). IfSome (content_rules content) (λ rules.
    ExplainingAnswersWithin rules c.args.text.now (start_of_bytes c.args.start.now) (step_limit c.args.steps)))
    (sym c.in-Accepted.is) c.in-Ok.ensures.within
