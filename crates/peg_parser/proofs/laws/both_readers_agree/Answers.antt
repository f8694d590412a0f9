use Rattle.peg_parser.proofs.FigureReading.{agree}
use Rattle.peg_parser.proofs.laws.both_readers_agree.Goals as goal

pub returns : goal.returns
returns c = agree
