use Rattle.std.proofs.Common.{◌≡◌, length}
use Rattle.peg_tree.specs.Selected.{has_rule}
use Rattle.peg_coverage.proofs.CalledLemmas.{AreAdded}
use Rattle.peg_coverage.proofs.called_rules.CalledRules.add_to.Given as goal

-- the called rules so far were added
abbrev pub invariant-rules : goal.invariant-rules
invariant-rules l = record {
  count : length l.used ≡ length l.initial.used;
  are : AreAdded l.rule (has_rule l.self.set) (has_rule l.initial.used) (has_rule l.used);
}
