use Rattle.std.proofs.Common.{◌-◌, ◌≡◌, ◌≤◌, drop, ℕ}
use Rattle.peg_explain.specs.NearNames.{is_near}
use Rattle.peg_explain.proofs.near_names.common_len.Given as goal

-- both begin with the same bytes so far
abbrev pub invariant-bytes : goal.invariant-bytes
invariant-bytes l = record {
  within : l.at ≤ l.len;
  near : is_near l.one l.other ≡ is_near (drop l.at l.one) (drop l.at l.other);
}

abbrev pub decreases-bytes : goal.decreases-bytes
decreases-bytes l = l.len - l.at
