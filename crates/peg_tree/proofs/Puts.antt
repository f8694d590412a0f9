-- Writing bytes into a buffer.
use Rattle.std.proofs.Common.{◌≡◌, ℕ, ◌+◌, List, [], ◌++◌, length, take, drop, refl, ap, sym, ◌∙◌, arith, append_assoc, append-nil, length-append}
use Rattle.std.proofs.Math.Seq.{take-add}
use Rattle.std.proofs.lemmas.List.{take_at}
use Rattle.peg_tree.specs.Write.{Writes}

-- writing some bytes, then others after them
pub puts-both : (old mid new : List ℕ) (at middle end : ℕ) (first second : List ℕ) → Writes old at first mid middle
    → Writes mid middle second new end → Writes old at (first ++ second) new end
puts-both old mid new at middle end first second a b = (
  b.0 ∙ a.0,
  omega (arith, a.1, b.1, length-append first second),
  b.2 ∙ ap (λ l. l ++ second) a.2 ∙ append_assoc (take at old) first second,
)

-- bytes that are written from offset `from` on, with the bytes before it unchanged
pub puts-written : (old new : List ℕ) (at from end : ℕ) (bytes : List ℕ) → length new ≡ length old
    → end ≡ at + length bytes → from + length bytes ≡ end → drop from new ≡ bytes ++ drop end old
    → take from new ≡ take from old → Writes old at bytes new end
puts-written old new at from end bytes same ends starts written before =
    let here : from ≡ at = omega (arith, ends, starts) in
    let far : end ≡ from + length bytes = omega (arith, starts) in (
      same,
      ends,
      ap (λ n. take n new) far
          ∙ take-add from (length bytes) new
          ∙ ap (λ l. l ++ take (length bytes) (drop from new)) before
          ∙ ap (λ l. take from old ++ l) (ap (take (length bytes)) written ∙ take_at bytes (drop end old) (length bytes) refl)
          ∙ ap (λ n. take n old ++ bytes) here,
    )

-- writing nothing
pub puts-nothing : (old : List ℕ) (at : ℕ) → Writes old at [] old at
puts-nothing old at = (refl, omega arith, sym (append-nil (take at old)))

-- the bytes written so far continue a text that `first`, `second` and `rest` make up
pub puts-more : (old new : List ℕ) (at end : ℕ) (first second rest from whole : List ℕ)
    → Writes old at (first ++ second) new end → whole ≡ take at old ++ from → from ≡ first ++ (second ++ rest)
    → whole ≡ take end new ++ rest
puts-more old new at end first second rest from whole puts is begins =
    is
    ∙ ap (λ l. take at old ++ l) (begins ∙ sym (append_assoc first second rest))
    ∙ sym (append_assoc (take at old) (first ++ second) rest)
    ∙ ap (λ l. l ++ rest) (sym puts.2)
