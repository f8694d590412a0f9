use Rattle.peg_handle.specs.Contents.{content_parser}
use Rattle.peg_c.proofs.Options.{if_some_weaken}
use Rattle.peg_c.proofs.parsers.parse_into.Goals as goal

pub returns-then-store-clause-enough : goal.returns-then-store-clause-enough
returns-then-store-clause-enough c =
    if_some_weaken (content_parser c.args.content.now) (λ held enough no_memo has_answer. enough no_memo)
    c.in-Ok.ensures.enough
