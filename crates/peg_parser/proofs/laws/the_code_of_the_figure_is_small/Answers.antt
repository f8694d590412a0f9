use Rattle.std.proofs.Common.{◌≤◌, sym, subst, arith}
use Rattle.peg_code.specs.Compiled.{max_instructions}
use Rattle.peg_parser.proofs.FigureCode.{figure-size}
use Rattle.peg_parser.proofs.laws.the_code_of_the_figure_is_small.Goals as goal

pub returns : goal.returns
returns c = subst (λ n. n ≤ max_instructions) (sym figure-size) (omega arith)
