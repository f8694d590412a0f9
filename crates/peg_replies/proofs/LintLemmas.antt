-- The start rules of warnings.
use Rattle.std.proofs.Common.{◌≡◌, ℕ, ◌<◌, List, length, Some, bytes_eq, position, sym, arith}
use Rattle.std.proofs.lemmas.List.{length-map}
use Rattle.std.proofs.lemmas.List.Quantifiers.{position-Some}
use Rattle.peg_semantics.specs.Rules.{Rule, names}

-- the number of a name is that of a rule
pub numbered-rule : (rules : List Rule) (name : List ℕ) (number : ℕ) → Some number ≡ position (bytes_eq name) (names rules)
    → number < length rules
numbered-rule rules name number is =
    omega (
      arith,
      (position-Some (bytes_eq name) (names rules) number name (sym is)).0,
      length-map rules (λ rule. rule.name),
    )
