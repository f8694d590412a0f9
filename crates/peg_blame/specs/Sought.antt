-- What a tracer of calls looks for.
use Rattle.std.specs.Prelude.{ℕ}
use Rattle.peg_semantics.specs.Record.{RuleCall}

-- calls of the first rules of a number, at a position, written as a call
abbrev pub sought : (rules at : ℕ) → RuleCall
sought rules at = record { rule = rules; position = at }
