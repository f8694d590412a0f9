use Rattle.peg_handle.specs.Contents.{content_rules}
use Rattle.peg_c.proofs.Options.{if_some_weaken}
use Rattle.peg_c.proofs.matches.parse_into.Goals as goal

pub returns-then-store-clause-enough : goal.returns-then-store-clause-enough
returns-then-store-clause-enough c =
    if_some_weaken (content_rules c.args.content.now) (λ rules enough no_memo has_answer. enough no_memo)
    c.in-Ok.ensures.enough
