-- Byte sets that are the set of a class: the union of some ranges.
use Rattle.std.proofs.Common.{length, ◌≡◌, ℕ, false, List, arith, sym, ◌∙◌}
use Rattle.std.proofs.lemmas.List.{ext_get_or}
use Rattle.std.proofs.lemmas.List.FromFn.{length-map-range_with_len, get_or-map-range_with_len}
use Rattle.peg_bytes.specs.ByteSet.{has, bytes_of}
use Rattle.peg_bytes.specs.declared.byte_set.ByteSet.{ByteSet}
use Rattle.peg_bytes.proofs.ByteSetLemmas.{length-bytes_of}
use Rattle.peg_metagrammar.specs.Ranges.{Range, in_ranges, class_of}

-- a set that contains exactly the bytes in some ranges is the set of their class
pub set-class : (set : ByteSet) (ranges : List Range)
    → ((byte : ℕ) → has (bytes_of set) byte ≡ in_ranges ranges byte) → bytes_of set ≡ class_of ranges
unfolding class_of
set-class set ranges same =
    let sized : length (class_of ranges) ≡ 256 = length-map-range_with_len (in_ranges ranges) 0 256 in
    ext_get_or false (bytes_of set) (class_of ranges) (omega (arith, length-bytes_of set))
    (λ byte within. same byte
    ∙ sym (get_or-map-range_with_len (in_ranges ranges) 0 256 byte byte false (omega (arith, length-bytes_of set))
    (omega arith)))
