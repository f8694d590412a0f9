-- Describes code: the cost of each rule.
use Rattle.std.specs.Prelude.{List}
use Rattle.peg_memo_policy.specs.declared.rerun_cost.RerunCost.{RerunCost}
use Rattle.peg_memo_policy.specs.declared.rerun_costs.RerunCosts as code

-- the cost of each rule, in order
abbrev pub costs_of : code.RerunCosts → List RerunCost
costs_of costs = costs.rules.items
