use Rattle.std.proofs.Common.{ap, Err}
use Rattle.peg_handle.specs.Contents.{content_explainer}
use Rattle.peg_c.proofs.Options.{if_some_weaken}
use Rattle.peg_c.proofs.explainers.explain_into.Goals as goal

pub returns-then-store-clause-enough : goal.returns-then-store-clause-enough
returns-then-store-clause-enough c =
    if_some_weaken (content_explainer c.args.content.now)
    (λ held enough compiled no_memo has_answer. enough compiled no_memo) c.in-Ok-Some.ensures.enough

pub returns-in-Ok-None-clause-enough : goal.returns-in-Ok-None-clause-enough
returns-in-Ok-None-clause-enough c =
    if_some_weaken (content_explainer c.args.content.now)
    (λ held enough compiled no_memo has_answer. enough compiled no_memo) c.in-Ok-None.ensures.enough

pub returns-then-store-clause-within : goal.returns-then-store-clause-within
returns-then-store-clause-within c =
    if_some_weaken (content_explainer c.args.content.now) (λ held within compiled has_answer. within compiled)
    c.in-Ok-Some.ensures.within

pub returns-in-Ok-None-clause-within : goal.returns-in-Ok-None-clause-within
returns-in-Ok-None-clause-within c =
    if_some_weaken (content_explainer c.args.content.now) (λ held within compiled has_answer. within compiled)
    c.in-Ok-None.ensures.within

pub returns-in-Err-clause-limited : goal.returns-in-Err-clause-limited
returns-in-Err-clause-limited c =
    if_some_weaken (content_explainer c.args.content.now) (λ held limited compiled is. limited compiled (ap Err is))
    c.in-Err.ensures.limited
