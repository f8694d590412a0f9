use Rattle.std.proofs.Common.{◌≡◌, length}
use Rattle.peg_memo_policy.proofs.rerun_costs.RerunCosts.new.Given as goal

abbrev pub invariant-loop-rule : goal.invariant-loop-rule
invariant-loop-rule l = length l.rules.items ≡ l.rule
