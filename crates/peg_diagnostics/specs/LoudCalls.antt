-- The calls of the loud rules of a diagnostic grammar. These are its first rules, one for each rule as written.
use Rattle.std.specs.Prelude.{ℕ, nat_lt, List, filter}
use Rattle.peg_semantics.specs.Record.{RuleCall}

-- the calls of the first rules of a grammar, in order, given the number of these rules
abbrev pub calls_of_first : (count : ℕ) → List RuleCall → List RuleCall
calls_of_first count calls = filter (λ (call : RuleCall). nat_lt call.rule count) calls
