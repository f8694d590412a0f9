-- The items of a list after a call that wrote them through a slice of the whole list.
use Rattle.std.proofs.Common.{◌≡◌, ℕ, List, ◌++◌, length, take, drop, sym, ap, ◌∙◌}
use Rattle.std.proofs.Math.Seq.{take-append_seam}

pub whole-written : {X : Type 0} (n : ℕ) (items new after : List X) → n ≡ length items → new ≡ after
    → length after ≡ length items → take n (new ++ drop (length new) items) ≡ after
whole-written n items new after counted is many =
    ap (λ k. take k (new ++ drop (length new) items)) (counted ∙ sym (ap length is ∙ many))
    ∙ (take-append_seam new (drop (length new) items) ∙ is)
