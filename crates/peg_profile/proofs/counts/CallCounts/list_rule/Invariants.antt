use Rattle.std.proofs.Common.{◌≡◌, ◌+◌, List, length}
use Rattle.peg_semantics.specs.Record.{RuleCall}
use Rattle.peg_profile.specs.Counts.{HasCounted}
use Rattle.peg_profile.proofs.counts.CallCounts.list_rule.Given as goal

-- the same calls are counted, and the list has grown
abbrev pub invariant-missing : goal.invariant-missing
invariant-missing l = record {
  same : (calls : List RuleCall) → HasCounted l.initial.self calls → HasCounted l.self calls;
  count : length l.self.rules.items ≡ length l.initial.self.rules.items + l._index;
}
