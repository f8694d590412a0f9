-- What is read of a source, one read after the other.
use Rattle.std.proofs.Common.{◌≡◌, ◌∙◌, ℕ, ◌+◌, ◌<◌, ◌≤◌, Bool, inl, inr, List, [], ◌++◌, Option, ap, append-nil, arith, length, subst, sym, take}
use Rattle.std.proofs.KnownBytes.{Consumes-trans}
use Rattle.std.proofs.lemmas.List.{length-append}
use Rattle.std.specs.Io.KnownBytes.{Consumes, IsAtEnd}
use lib.Seq.{length-take-le}
use Rattle.peg_explain_files.specs.Listings.{IsListingFrom}
use Rattle.peg_explain_files.specs.Names.{Whole, max_list_bytes}
use Rattle.peg_explain_files.proofs.ListLemmas.{whole-read}

-- a read of no bytes is at the end
pub source-ended : (left mid new : Option (List ℕ)) (never : Bool) (read piece : List ℕ) (count : ℕ) → count ≡ 0
    → 0 < length piece → Consumes left mid read → length read ≤ max_list_bytes
    → Consumes mid new (take count piece) × (count ≡ 0 → 0 < length piece → IsAtEnd new)
    → IsListingFrom left never (Whole read)
source-ended left mid new never read piece count none room first short last =
    let nothing = subst (λ (n : ℕ). Consumes mid new (take n piece)) none last.0 in
    let all = subst (Consumes left new) (append-nil read) (Consumes-trans left mid new read [] first nothing) in
    whole-read left new never read all short (inl (last.1 none room))

-- as many bytes are read as a list may have
pub source-full : (left new : Option (List ℕ)) (never : Bool) (read : List ℕ) (count : ℕ) → length read ≡ count
    → count ≤ max_list_bytes → max_list_bytes ≤ count → Consumes left new read → IsListingFrom left never (Whole read)
source-full left new never read count counted within full is =
    whole-read left new never read is (omega arith) (inr (omega arith))

-- one more read
pub source-more : (left mid new : Option (List ℕ)) (read piece bytes : List ℕ) (count : ℕ) → bytes ≡ take count piece
    → Consumes left mid read → Consumes mid new (take count piece) → Consumes left new (read ++ bytes)
source-more left mid new read piece bytes count is first last =
    Consumes-trans left mid new read bytes first (subst (Consumes mid new) (sym is) last)

pub source-counted : (read piece bytes : List ℕ) (before count : ℕ) → bytes ≡ take count piece → count ≤ length piece
    → length read ≡ before → length (read ++ bytes) ≡ before + count
source-counted read piece bytes before count is within counted =
    let size = length-append read bytes in
    let part : length bytes ≡ count = ap length is ∙ length-take-le count piece within in
    omega arith
