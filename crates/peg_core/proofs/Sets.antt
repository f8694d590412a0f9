-- The elements of the set of one byte and of the set of all bytes.
use Rattle.std.proofs.Common.{◌≡◌, ℕ, ◌+◌, ◌<◌, ◌==◌, max, Bool, true, false, length, inl, inr, refl, sym, ◌∙◌, arith}
use Rattle.std.proofs.lemmas.Bool.{cases_lt, ne_eqb}
use Rattle.std.proofs.lemmas.Bool.Decides.{eqb_tells}
use Rattle.std.proofs.lemmas.List.{get_or_past, get_or-replicate, ext_get_or}
use Rattle.std.proofs.lemmas.List.Folds.{list_any_at}
use Rattle.std.proofs.lemmas.List.FromFn.{length-map-range_with_len, get_or-map-range_with_len}
use Rattle.peg_bytes.specs.ByteSet.{has, has_some, only, all_bytes, bytes_of}
use Rattle.peg_bytes.specs.declared.byte_set.ByteSet.{ByteSet}
use Rattle.peg_bytes.proofs.ByteSetLemmas.{length-bytes_of}

length-only : (byte : ℕ) → length (only byte) ≡ max 256 (byte + 1)
unfolding only
length-only byte = length-map-range_with_len (λ other. other == byte) 0 (max 256 (byte + 1))

has-only_within : (byte other : ℕ) → other < max 256 (byte + 1) → has (only byte) other ≡ (other == byte)
unfolding only
has-only_within byte other within =
    get_or-map-range_with_len (λ other. other == byte) 0 (max 256 (byte + 1)) other other false within (omega arith)

-- the set of one byte contains that byte and no other
pub has-only : (byte other : ℕ) → has (only byte) other ≡ (other == byte)
has-only byte other =
    elim (cases_lt other (max 256 (byte + 1))) [ inl within ↦ has-only_within byte other within | inr past ↦ get_or_past (only byte) other false (omega (arith, length-only byte)) ∙ sym (ne_eqb other byte (λ same. omega arith)) ]

-- so it isn't empty
pub has_some-only : (byte : ℕ) → has_some (only byte) ≡ true
has_some-only byte =
    list_any_at (λ (flag : Bool). flag) (only byte) byte false (omega (arith, length-only byte))
    (elim (eqb_tells byte byte) as (λ _. has (only byte) byte ≡ true) [ inl same ↦ has-only byte byte ∙ same.0 | inr differs ↦ absurd (differs.1 refl) ])

-- the set of all bytes contains each byte
pub has-all_bytes : (byte : ℕ) → byte < 256 → has all_bytes byte ≡ true
unfolding all_bytes
has-all_bytes byte within = get_or-replicate 256 byte true false within

length-all_bytes : length all_bytes ≡ 256
unfolding all_bytes
length-all_bytes = refl

pub has_some-all_bytes : has_some all_bytes ≡ true
has_some-all_bytes =
    list_any_at (λ (flag : Bool). flag) all_bytes 0 false (omega (arith, length-all_bytes)) (has-all_bytes 0 (omega arith))

-- a `ByteSet` that contains one byte alone is the set of that byte
pub bytes_of-only : (set : ByteSet) (byte : ℕ) → byte < 256 → ((other : ℕ) → has (bytes_of set) other ≡ (other == byte))
    → bytes_of set ≡ only byte
bytes_of-only set byte within alone =
    ext_get_or false (bytes_of set) (only byte) (omega (arith, length-bytes_of set, length-only byte))
    (λ i _. alone i ∙ sym (has-only byte i))

-- a `ByteSet` that contains each byte is the set of all bytes
pub bytes_of-all : (set : ByteSet) → ((byte : ℕ) → byte < 256 → has (bytes_of set) byte ≡ true)
    → bytes_of set ≡ all_bytes
bytes_of-all set each =
    ext_get_or false (bytes_of set) all_bytes (omega (arith, length-bytes_of set, length-all_bytes))
    (λ i h. each i (omega (arith, length-bytes_of set)) ∙ sym (has-all_bytes i (omega (arith, length-bytes_of set))))
