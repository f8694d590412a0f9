-- The empty set of bytes.
use Rattle.std.proofs.Common.{◌≡◌, ℕ, zero, suc, false, length, replicate, get_or, refl, sym, ◌∙◌, arith}
use Rattle.std.proofs.lemmas.List.{ext_get_or, length-replicate}
use Rattle.peg_bytes.specs.ByteSet.{has, has_some, bytes_of}
use Rattle.peg_bytes.specs.declared.byte_set.ByteSet.{ByteSet}
use Rattle.peg_bytes.proofs.ByteSetLemmas.{length-bytes_of}
use Rattle.peg_diagnostics.specs.Diagnostic.{no_bytes}

no_flag : (n i : ℕ) → get_or (replicate n false) i false ≡ false
no_flag zero i = refl
no_flag (suc n) zero = refl
no_flag (suc n) (suc i) = no_flag n i

pub has-no_bytes : (byte : ℕ) → has no_bytes byte ≡ false
unfolding no_bytes
has-no_bytes byte = no_flag 256 byte

pub has_some-no_bytes : has_some no_bytes ≡ false
unfolding no_bytes
has_some-no_bytes = refl

-- a set without any byte is the empty set
pub bytes_of-empty : (set : ByteSet) → ((byte : ℕ) → has (bytes_of set) byte ≡ false) → bytes_of set ≡ no_bytes
unfolding no_bytes
bytes_of-empty set none =
    let sized : length (replicate 256 false) ≡ 256 = length-replicate 256 false in
    ext_get_or false (bytes_of set) (replicate 256 false) (omega (arith, length-bytes_of set))
    (λ byte within. none byte ∙ sym (no_flag 256 byte))
