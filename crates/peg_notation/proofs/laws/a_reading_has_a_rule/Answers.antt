use Rattle.peg_notation.proofs.FirstRule.{IsReading-some}
use Rattle.peg_notation.proofs.laws.a_reading_has_a_rule.Goals as goal

pub returns : goal.returns
returns c = IsReading-some
