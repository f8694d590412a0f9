use Rattle.std.proofs.Common.{length}
use Rattle.peg_memo_policy.proofs.rerun_costs.Walk.fail.Given as goal

abbrev pub decreases-loop-back : goal.decreases-loop-back
decreases-loop-back l = length l.self.ways.items
