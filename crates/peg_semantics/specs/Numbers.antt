-- Describes code: the number of each rule's first terminal, as the reference evaluator looks it up.
use Rattle.std.specs.Prelude.{ℕ, ◌+◌, List, [], ◌∷◌, sum_by}
use Rattle.peg_semantics.specs.Form.{terminals}
use Rattle.peg_semantics.specs.Rules.{Rule}

-- the number of the first terminal of each rule, given the first rule's
abbrev pub first_from : ℕ → List Rule → List ℕ
first_from terminal [] = []
first_from terminal (rule ∷ rules) = terminal ∷ first_from (terminal + terminals rule.body) rules

-- the number of terminals in the rules
abbrev pub terminals_of : List Rule → ℕ
terminals_of rules = sum_by (λ rule. terminals rule.body) rules
