use Rattle.std.proofs.Common.{sym, ◌∙◌}
use Rattle.peg_lexer.specs.Lexical.{in_name}
use Rattle.peg_lexer.proofs.PieceLemmas.{Passed-one, Passed-all}
use Rattle.peg_lexer.proofs.scan_literals.name_tail.Goals as goal

pub bytes-preserved : goal.bytes-preserved
bytes-preserved c =
    Passed-one in_name c.args.rest.now c.bytes.at c.in-Some.length c.bytes.invariant c.in-Some.ensures.value c.in-Some.ensures.some c.in-Some.ensures.fits

pub returns-clause-value : goal.returns-clause-value
returns-clause-value c = Passed-all in_name c.args.rest.now c.bytes.at c.bytes.invariant
    (sym c.in_default.is ∙ c.byte_of_name.ensures.value)
