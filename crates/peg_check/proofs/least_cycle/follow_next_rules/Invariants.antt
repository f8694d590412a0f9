use Rattle.std.proofs.Common.{◌<◌, length}
use Rattle.peg_check.specs.Distances.{distance_of, far_of, next_of}
use Rattle.peg_check.proofs.GuideLemmas.{IsOnWay}
use Rattle.peg_check.proofs.least_cycle.follow_next_rules.Given as goal

abbrev pub invariant-steps : goal.invariant-steps
invariant-steps l = record {
  within : l.rule < length l.core.bodies;
  on : IsOnWay l.start (far_of l.core) (distance_of l.core l.distances) (next_of l.core l.nexts) l.path.items l.rule;
}

abbrev pub decreases-steps : goal.decreases-steps
decreases-steps l = distance_of l.core l.distances l.rule
