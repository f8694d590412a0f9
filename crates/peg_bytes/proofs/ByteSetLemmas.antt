-- Byte sets, by their members.
use Rattle.std.proofs.Common.{◌≡◌, ◌≢◌, ℕ, zero, suc, ◌+◌, ◌*◌, ◌/◌, ◌%◌, ◌^◌, ◌<◌, ◌≤◌, ◌==◌, nat_le, nat_lt, max, bit_or, w64}
use Rattle.std.proofs.Common.{Bool, true, false, ◌&&◌, ◌||◌, ◌⊎◌, inl, inr, List, [], ◌∷◌, length, get_or, arith, refl, sym, ◌∙◌, ap}
use Rattle.std.specs.Int.{bit_at}
use Rattle.std.proofs.Math.ListN.{set}
use Rattle.std.proofs.lemmas.Bool.{cases_lt, eqb-false}
use Rattle.std.proofs.lemmas.Bool.Decides.{eqb_tells, nat_tests}
use Rattle.std.proofs.lemmas.Grind.{get_or-set_at}
use Rattle.std.proofs.lemmas.List.{ext_get_or, get_or-replicate, get_or-set_other, get_or_past}
use Rattle.std.proofs.lemmas.List.FromFn.{length-map-range_with_len, get_or-map-range_with_len}
use Rattle.std.proofs.lemmas.Nat.Bits.{bit_at-lt, bit_at-zero, bit_at_ones, bit_at_or, same_from_bits_below}
use Rattle.std.proofs.lemmas.Nat.Bits.{bit_at_set_same, bit_at_set_other}
use Rattle.peg_bytes.specs.AllFlags.{all_flags}
use Rattle.peg_bytes.specs.ByteSet.{bytes_of, flag_of, has}
use Rattle.peg_bytes.specs.declared.byte_set.ByteSet.{ByteSet}

-- a set has 256 flags
pub length-bytes_of : (set : ByteSet) → length (bytes_of set) ≡ 256
unfolding bytes_of
length-bytes_of set = length-map-range_with_len (flag_of set.words) 0 256

-- a byte is in a set exactly if its flag is set
pub has-bytes_of : (set : ByteSet) (byte : ℕ) → byte < 256 → has (bytes_of set) byte ≡ flag_of set.words byte
unfolding bytes_of
has-bytes_of set byte within = get_or-map-range_with_len (flag_of set.words) 0 256 byte byte false within (omega arith)

-- no set contains a number above 255
pub has-past : (set : ByteSet) (byte : ℕ) → 256 ≤ byte → has (bytes_of set) byte ≡ false
has-past set byte past = get_or_past (bytes_of set) byte false (omega (arith, length-bytes_of set))

-- sets with the same members are equal
pub bytes_of-same : (a b : ByteSet) → ((byte : ℕ) → has (bytes_of a) byte ≡ has (bytes_of b) byte)
    → bytes_of a ≡ bytes_of b
bytes_of-same a b same =
    ext_get_or false (bytes_of a) (bytes_of b) (length-bytes_of a ∙ sym (length-bytes_of b)) (λ i _. same i)

-- membership from the flags of the bytes, and from the fact that larger numbers are no members
pub has-from_flags : (set : ByteSet) (byte : ℕ) (is : Bool) → (byte < 256 → flag_of set.words byte ≡ is)
    → (256 ≤ byte → is ≡ false) → has (bytes_of set) byte ≡ is
has-from_flags set byte is flag past =
    elim (cases_lt byte 256) [ inl h ↦ has-bytes_of set byte h ∙ flag h | inr h ↦ has-past set byte h ∙ sym (past h) ]

-- a flag in four equal words is a bit of that word
flag_of-replicate : (word byte : ℕ) → byte < 256
    → flag_of (word ∷ word ∷ word ∷ word ∷ []) byte ≡ (bit_at word (byte % 64) == 1)
flag_of-replicate word byte within =
    ap (λ w. bit_at w (byte % 64) == 1) (get_or-replicate 4 (byte / 64) word 0 (omega arith))

-- no byte is a member if all words are 0
pub flag_of-zeros : (byte : ℕ) → byte < 256 → flag_of (0 ∷ 0 ∷ 0 ∷ 0 ∷ []) byte ≡ false
flag_of-zeros byte within = flag_of-replicate 0 byte within ∙ ap (λ b. b == 1) (bit_at-zero (byte % 64))

-- the word with all 64 bits set
abbrev pub ones : ℕ
ones = 18446744073709551615

-- every byte is a member if all words have all bits set
pub flag_of-ones : (byte : ℕ) → byte < 256 → flag_of (ones ∷ ones ∷ ones ∷ ones ∷ []) byte ≡ true
flag_of-ones byte within =
    flag_of-replicate ones byte within ∙ ap (λ b. b == 1) (bit_at_ones 64 (byte % 64) (omega arith))

-- The members of a set after the flag of one byte is set in its word.
module _ (words : List ℕ) (byte at : ℕ) (is : at ≡ byte / 64) (within : at < length words) where
  -- the word with the flag set
  abbrev pub marked : ℕ
  marked = bit_or (get_or words at 0) (1 * 2 ^ (byte % 64) % 18446744073709551616)

  -- the byte is a member
  there : flag_of (set words at marked) byte ≡ true
  there = ap (λ w. bit_at w (byte % 64) == 1) (get_or-set_at words at (byte / 64) marked 0 (omega arith) within)
      ∙ ap (λ b. b == 1) (bit_at_set_same w64 (get_or words at 0) (byte % 64) (omega arith))

  -- membership of the other bytes is unchanged
  elsewhere : (other : ℕ) → other ≢ byte → flag_of (set words at marked) other ≡ flag_of words other
  elsewhere other differs = by (eqb_tells (other / 64) at)
    where
      by : (((other / 64) == at ≡ true) × (other / 64 ≡ at)) ⊎ (((other / 64) == at ≡ false) × (other / 64 ≢ at))
          → flag_of (set words at marked) other ≡ flag_of words other
      by (inl same) =
          ap (λ w. bit_at w (other % 64) == 1) (get_or-set_at words at (other / 64) marked 0 same.1 within)
          ∙ ap (λ b. b == 1)
          (bit_at_set_other w64 (get_or words at 0) (byte % 64) (omega arith) (other % 64) (omega arith))
          ∙ ap (λ k. bit_at (get_or words k 0) (other % 64) == 1) (sym same.1)
      by (inr apart) = ap (λ w. bit_at w (other % 64) == 1) (get_or-set_other words at (other / 64) marked 0 apart.1)

  -- the members are the byte and the members before
  pub flag_of-set : (other : ℕ) → flag_of (set words at marked) other ≡ ((other == byte) || flag_of words other)
  flag_of-set other = by (eqb_tells other byte)
    where
      by : (((other == byte) ≡ true) × (other ≡ byte)) ⊎ (((other == byte) ≡ false) × (other ≢ byte))
          → flag_of (set words at marked) other ≡ ((other == byte) || flag_of words other)
      by (inl same) = ap (flag_of (set words at marked)) same.1 ∙ there ∙ ap (λ b. b || flag_of words other) (sym same.0)
      by (inr apart) = elsewhere other apart.1 ∙ ap (λ b. b || flag_of words other) (sym apart.0)

-- whether the greater of two bits is 1
either : (a b : ℕ) → a < 2 → b < 2 → (max a b == 1) ≡ ((a == 1) || (b == 1))
either a b h k = grind (arith, nat_tests)

-- the bitwise or of two words at the same index
abbrev pub joined_at : List ℕ → List ℕ → ℕ → ℕ
joined_at a b k = bit_or (get_or a k 0) (get_or b k 0)

-- the words of a union
abbrev pub joined : List ℕ → List ℕ → List ℕ
joined a b = joined_at a b 0 ∷ joined_at a b 1 ∷ joined_at a b 2 ∷ joined_at a b 3 ∷ []

-- each word of a union is the bitwise or of the two words
get_or-joined : (a b : List ℕ) (k : ℕ) → k < 4 → get_or (joined a b) k 0 ≡ joined_at a b k
get_or-joined a b zero h = refl
get_or-joined a b (suc zero) h = refl
get_or-joined a b (suc (suc zero)) h = refl
get_or-joined a b (suc (suc (suc zero))) h = refl
get_or-joined a b (suc (suc (suc (suc k)))) h = absurd (omega arith)

-- the members of a union are the members of either set
pub flag_of-joined : (a b : List ℕ) (byte : ℕ) → byte < 256
    → flag_of (joined a b) byte ≡ (flag_of a byte || flag_of b byte)
flag_of-joined a b byte within =
    let left = get_or a (byte / 64) 0 in
    let right = get_or b (byte / 64) 0 in
    let i = byte % 64 in
    ap (λ w. bit_at w i == 1) (get_or-joined a b (byte / 64) (omega arith))
    ∙ ap (λ bit. bit == 1) (bit_at_or left right i)
    ∙ either (bit_at left i) (bit_at right i) (bit_at-lt left i) (bit_at-lt right i)

-- A set is empty exactly if the bitwise or of its words is 0.
module _ (words : List ℕ) where
  -- bit i of the word at index k
  abbrev bit : ℕ → ℕ → ℕ
  bit k i = bit_at (get_or words k 0) i

  -- a bit of the combined word is the maximum of the four bits
  bit_at-all_flags : (i : ℕ) → bit_at (all_flags words) i ≡ max (max (max (bit 0 i) (bit 1 i)) (bit 2 i)) (bit 3 i)
  bit_at-all_flags i = simp bit_at_or

  -- each bit of a word is at most that bit of the combined word
  within_all : (k i : ℕ) → k < 4 → bit k i ≤ bit_at (all_flags words) i
  within_all zero i h = omega (arith, bit_at-all_flags i)
  within_all (suc zero) i h = omega (arith, bit_at-all_flags i)
  within_all (suc (suc zero)) i h = omega (arith, bit_at-all_flags i)
  within_all (suc (suc (suc zero))) i h = omega (arith, bit_at-all_flags i)
  within_all (suc (suc (suc (suc k)))) i h = absurd (omega arith)

  -- if the combined word is 0, no byte is a member
  pub flag_of-none : all_flags words ≡ 0 → (byte : ℕ) → byte < 256 → flag_of words byte ≡ false
  flag_of-none none byte within =
      let within_word = within_all (byte / 64) (byte % 64) (omega arith) in
      let nothing = ap (λ w. bit_at w (byte % 64)) none ∙ bit_at-zero (byte % 64) in
      let unset : bit (byte / 64) (byte % 64) ≡ 0 = omega arith in
      ap (λ b. b == 1) unset

  -- if no byte is a member, every bit of every word is 0
  no_bit : ((byte : ℕ) → byte < 256 → flag_of words byte ≡ false) → (k i : ℕ) → k < 4 → i < 64 → bit k i ≡ 0
  no_bit none k i word within =
      let at : (64 * k + i) / 64 ≡ k = omega arith in
      let shift : (64 * k + i) % 64 ≡ i = omega arith in
      let unset = ap (λ a. bit a i == 1) (sym at) ∙ ap (λ s. bit ((64 * k + i) / 64) s == 1) (sym shift)
      ∙ none (64 * k + i) (omega arith) in
      omega (arith, bit_at-lt (get_or words k 0) i, eqb-false (bit k i) 1 unset)

  -- if no byte is a member, the combined word is 0
  pub all_flags-none : all_flags words < 2 ^ 64 → ((byte : ℕ) → byte < 256 → flag_of words byte ≡ false)
      → all_flags words ≡ 0
  all_flags-none fits none =
      same_from_bits_below 64 (all_flags words) 0 fits (omega arith) (λ i h. no_flag i h ∙ sym (bit_at-zero i))
    where
      no_flag : (i : ℕ) → i < 64 → bit_at (all_flags words) i ≡ 0
      no_flag i h =
          let bits_unset = λ (k : ℕ) (word : k < 4). no_bit none k i word h in
          let front : (bit 0 i ≡ 0) × (bit 1 i ≡ 0) = (bits_unset 0 (omega arith), bits_unset 1 (omega arith)) in
          let following : (bit 2 i ≡ 0) × (bit 3 i ≡ 0) = (bits_unset 2 (omega arith), bits_unset 3 (omega arith)) in
          omega (arith, bit_at-all_flags i)

-- the bytes below `next` are the bytes up to `high`, once `next` is past `high`
pub up_to_last : (low high next other : ℕ) → low ≤ next → (low ≤ high → next ≡ high + 1) → (high < low → next ≡ low)
    → (nat_le low other && nat_lt other next) ≡ (nat_le low other && nat_le other high)
up_to_last low high next other start last none = grind (arith, nat_tests)
