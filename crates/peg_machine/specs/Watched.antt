-- Describes code: the view of a tracer that stores a list.
use Rattle.std.specs.Prelude.{ℕ}
use Rattle.peg_semantics.specs.Record.{RuleCall}

-- the call of a rule at a position
abbrev pub traced_call : (rule position : ℕ) → RuleCall
traced_call rule position = record { rule = rule; position = position }

abbrev pub call_of : ℕ × ℕ → RuleCall
call_of pair = traced_call pair.0 pair.1
