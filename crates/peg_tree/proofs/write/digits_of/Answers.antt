use Rattle.std.proofs.Common.{arith}
use Rattle.std.proofs.lemmas.Fmt.{length-decimal-le}
use Rattle.itoa.proofs.Decimal.{length_four}
use Rattle.peg_tree.proofs.write.digits_of.Goals as goal

pub loop-left-preserved : goal.loop-left-preserved
loop-left-preserved c = record {
  digits = omega (arith, c.loop-left.invariant.digits, length_four c.loop-left.left (omega arith) (omega arith));
}

pub overflow_add-count : goal.overflow_add-count
overflow_add-count c =
    omega (arith, c.loop-left.invariant.digits, length-decimal-le 20 c.args.number (omega arith) (omega arith) (omega arith))

pub overflow_add-result : goal.overflow_add-result
overflow_add-result c =
    omega (arith, c.loop-left.invariant.digits, c.few_digits_of.ensures, length-decimal-le 20 c.args.number (omega arith) (omega arith) (omega arith))

pub returns-clause-limit : goal.returns-clause-limit
returns-clause-limit c =
    omega (arith, c.loop-left.invariant.digits, c.few_digits_of.ensures, length-decimal-le 20 c.args.number (omega arith) (omega arith) (omega arith))
