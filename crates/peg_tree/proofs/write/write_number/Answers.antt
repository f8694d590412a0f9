use Rattle.std.proofs.Common.{◌+◌, arith}
use Rattle.std.specs.Fmt.{decimal}
use Rattle.peg_tree.proofs.Puts.{puts-written}
use Rattle.peg_tree.proofs.write.write_number.Goals as goal

pub returns-clause-puts : goal.returns-clause-puts
returns-clause-puts c =
    puts-written c.args.buffer.now c.write_digits.new.buf c.args.at c.write_digits.result (c.args.at + c.digits_of.result) (decimal c.args.number)
    (omega arith) (omega arith) (omega arith) c.write_digits.ensures.written c.write_digits.ensures.before
