use Rattle.std.proofs.Common.{◌≡◌, ℕ, ◌<◌, List, get_or, length}
use Rattle.peg_semantics.specs.Record.{RuleCall}
use Rattle.peg_profile.specs.Counts.{HasCounted}
use Rattle.peg_profile.specs.Positions.{positions_of}
use Rattle.peg_profile.specs.Profiles.{IsProfileOf}
use Rattle.peg_profile.specs.declared.counts.RuleProfile.{RuleProfile}
use Rattle.peg_profile.proofs.counts.CallCounts.profiles.Given as goal

-- the same calls are counted, and the first rules have their profiles
abbrev pub invariant-rules : goal.invariant-rules
invariant-rules l = record {
  same : (calls : List RuleCall) → HasCounted l.initial.self calls → HasCounted l.self calls;
  count : length l.profiles.items ≡ l.rule;
  done : (calls : List RuleCall) → HasCounted l.initial.self calls → (rule : ℕ) (d : RuleProfile) → rule < l.rule
      → IsProfileOf (positions_of rule calls) (get_or l.profiles.items rule d);
}
