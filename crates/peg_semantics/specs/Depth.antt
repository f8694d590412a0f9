-- Describes code: a bound on the depth of records, for the reference evaluator without a depth limit and its law.
use Rattle.std.specs.Prelude.{ℕ, ◌+◌, ◌*◌, List, length}
use Rattle.peg_semantics.specs.Rules.{Rule, weight_of}

-- At least the number of states, that is, pairs of an expression and a position. The expressions are the start's name,
-- the expressions of the rules (each of weight 1 or more), and for each plus the star after its first iteration.
abbrev pub max_cases : List Rule → List ℕ → ℕ
max_cases rules text = (1 + 2 * weight_of rules) * (length text + 1)
