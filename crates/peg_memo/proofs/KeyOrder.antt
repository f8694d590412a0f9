-- The order and the equality of calls decide whether they are the same.
use Rattle.std.proofs.Common.{◌≡◌}
use Rattle.std.specs.Cmp.{IsTotalOrder, IsEquivalence, nat_cmp_total, nat_eq_equiv, unsigned_ties, then_total, on_total, on_equiv, and_equiv, both_tied}
use Rattle.std.specs.FinMap.{IsAntisymmetric}
use Rattle.std.specs.Ordering.{nat_cmp, eq_by_cmp}
use Rattle.std.proofs.lemmas.Map.Lookups.{exact_unsigned, exact_pairs}
use Rattle.peg_memo.specs.MemoKey.{MemoKey, key_cmp, key_eq}

pub key_cmp-IsTotalOrder : IsTotalOrder key_cmp
key_cmp-IsTotalOrder =
    then_total (on_total (λ (a : MemoKey). a.0) nat_cmp_total) (on_total (λ (a : MemoKey). a.1) nat_cmp_total)

pub key_cmp-IsAntisymmetric : IsAntisymmetric key_cmp
key_cmp-IsAntisymmetric = exact_pairs nat_cmp nat_cmp exact_unsigned exact_unsigned

pub key_eq-eq_by_cmp : (a b : MemoKey) → key_eq a b ≡ eq_by_cmp key_cmp a b
key_eq-eq_by_cmp a b = both_tied _ _ _ _ (unsigned_ties a.0 b.0) (unsigned_ties a.1 b.1)

pub key_eq-IsEquivalence : IsEquivalence key_eq
key_eq-IsEquivalence = and_equiv (on_equiv (λ (a : MemoKey). a.0) nat_eq_equiv) (on_equiv (λ (a : MemoKey). a.1) nat_eq_equiv)
