-- Calls, each a rule at a position, and their order.
use Rattle.std.specs.Prelude.{ℕ, Bool, ◌&&◌, nat_eq}
use Rattle.std.specs.Ordering.{nat_cmp, ordering_then}
use Rattle.std.specs.declared.cmp.Ordering.{Ordering}

-- the number of a rule, and a position in the text
abbrev pub MemoKey : Type 0
MemoKey = ℕ × ℕ

-- calls are ordered by rule, then by position
abbrev pub key_cmp : MemoKey → MemoKey → Ordering
key_cmp a b = ordering_then (nat_cmp a.0 b.0) (nat_cmp a.1 b.1)

-- both calls are of the same rule at the same position
abbrev pub key_eq : MemoKey → MemoKey → Bool
key_eq a b = nat_eq a.0 b.0 && nat_eq a.1 b.1
