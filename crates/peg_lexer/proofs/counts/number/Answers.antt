use Rattle.std.proofs.Common.{sym, ◌∙◌, arith}
use Rattle.peg_lexer.proofs.CountTexts.{number-none, number-some}
use Rattle.peg_lexer.proofs.counts.number.Goals as goal

pub returns-then-length-eq0-clause-value : goal.returns-then-length-eq0-clause-value
returns-then-length-eq0-clause-value c = number-none c.args.rest.now (sym c.digits-length.ensures.value ∙ omega arith)

pub returns-clause-value : goal.returns-clause-value
returns-clause-value c =
    number-some c.args.rest.now c.digits-length.result c.value_of-value.result c.digits-length.ensures.value (omega arith)
    c.value_of-value.ensures.value
