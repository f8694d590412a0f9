use Rattle.std.proofs.Common.{◌≡◌, ℕ, All, List, map, take}
use Rattle.peg_semantics.specs.Record.{RuleCall}
use Rattle.peg_semantics.specs.Rules.{Rule}
use Rattle.peg_explain.specs.Names.{IsRest}
use Rattle.peg_explain.specs.Namings.{IsNamingAt}
use Rattle.peg_explain.specs.declared.names.Rest.{Rest}
use Rattle.peg_explain.proofs.names.Naming.rests_from.Given as goal

-- the rests from the first rules
abbrev pub invariant-numbers : goal.invariant-numbers
invariant-numbers l = record {
  from : map (λ (rest : Rest). rest.rule) l.rests.items ≡ take l.number-index l.numbers;
  each : (rules : List Rule) (text start : List ℕ) (calls : List RuleCall) (at : ℕ)
      → IsNamingAt rules text start calls at l.self → All (IsRest rules text at) l.rests.items;
}
