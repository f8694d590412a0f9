-- Describes code: what a tracer notes.
use Rattle.std.specs.Prelude.{◌≡◌, ℕ, List}
use Rattle.peg_diagnostics.specs.Attempts.{has_call}
use Rattle.peg_semantics.specs.Record.{RuleCall}
use Rattle.peg_tree.specs.Selected.{has_rule}
use Rattle.peg_coverage.specs.declared.called_rules.CalledRules.{CalledRules}

-- a tracer has noted the rules of these calls
abbrev pub HasCalled : CalledRules → List RuleCall → Type 0
HasCalled called calls = (rule : ℕ) → has_rule called.set rule ≡ has_call rule calls
