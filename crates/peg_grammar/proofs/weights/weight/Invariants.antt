use Rattle.std.proofs.Common.{◌≡◌, ◌+◌, ◌-◌, ◌^◌, ◌≤◌, drop, min}
use Rattle.peg_semantics.specs.Rules.{weight_of}
use Rattle.peg_grammar.specs.Written.{rules_of}
use Rattle.peg_grammar.proofs.weights.weight.Given as goal

-- the weight of the definitions so far and that of the remaining ones are the weight of all
abbrev pub invariant-loop-definition : goal.invariant-loop-definition
invariant-loop-definition l =
    (min (l.all + weight_of (rules_of (drop l.definition-index l.definitions))) (2 ^ 64 - 1)
    ≡ min (weight_of (rules_of l.definitions)) (2 ^ 64 - 1)) × (l.all ≤ 2 ^ 64 - 1)
