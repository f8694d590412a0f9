use Rattle.peg_handle.specs.Contents.{content_rules}
use Rattle.peg_c.proofs.Options.{if_some_weaken}
use Rattle.peg_c.proofs.explanations.explain_into.Goals as goal

pub returns-then-store-clause-enough : goal.returns-then-store-clause-enough
returns-then-store-clause-enough c =
    if_some_weaken (content_rules c.args.content.now) (λ rules enough no_memo has_answer. enough no_memo)
    c.in-Ok-Some.ensures.enough

pub returns-in-Ok-None-clause-enough : goal.returns-in-Ok-None-clause-enough
returns-in-Ok-None-clause-enough c =
    if_some_weaken (content_rules c.args.content.now) (λ rules enough no_memo has_answer. enough no_memo)
    c.in-Ok-None.ensures.enough
