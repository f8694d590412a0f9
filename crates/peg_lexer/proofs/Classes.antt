-- The classes of the metagrammar, as tests of a byte.
use Rattle.std.proofs.Common.{◌≡◌, ℕ, ◌<◌, ◌≤◌, Bool, true, false, is_some, Some, if◌then◌else◌, ◌&&◌, ◌||◌, ◌==◌, nat_le, List, [], ◌∷◌, arith, refl, sym, ap, ◌∙◌, inl, inr, lit<}
use Rattle.std.proofs.lemmas.Bool.{cases_lt}
use Rattle.std.proofs.lemmas.Bool.Decides.{nat_tests}
use Rattle.std.proofs.lemmas.List.{get_or_past}
use Rattle.std.proofs.lemmas.List.FromFn.{length-map-range_with_len, get_or-map-range_with_len}
use Rattle.peg_bytes.specs.ByteSet.{has}
use Rattle.peg_lexer.specs.Lexical.{begins_name, is_hexadecimal, is_quote}
use Rattle.peg_metagrammar.specs.Ranges.{Range, range, holds, in_ranges, class_of}
use Rattle.peg_metagrammar.specs.SimpleEscapes.{SimpleEscape, simple_escapes, byte_escaped, is_simple_escape, escaped_ranges}

-- all ranges are ranges of bytes
abbrev pub AreSmall : List Range → Type 0
AreSmall [] = Unit {0}
AreSmall (r ∷ ranges) = (r.high < 256) × AreSmall ranges

past_one : (r : Range) (byte : ℕ) → r.high < 256 → 256 ≤ byte → holds byte r ≡ false
past_one r byte small past = grind (arith, nat_tests)

past_all : (ranges : List Range) (byte : ℕ) → AreSmall ranges → 256 ≤ byte → in_ranges ranges byte ≡ false
past_all [] byte small past = refl
past_all (r ∷ ranges) byte small past = rw (past_one r byte small.0 past, past_all ranges byte small.1 past) refl

-- the set of a class contains the bytes in its ranges
pub has-class_of : (ranges : List Range) → AreSmall ranges → (byte : ℕ) → has (class_of ranges) byte
    ≡ in_ranges ranges byte
unfolding class_of
has-class_of ranges small byte =
    elim (cases_lt byte 256) [
      | inl h ↦ get_or-map-range_with_len (in_ranges ranges) 0 256 byte byte false h (omega arith)
      | inr h ↦ get_or_past (class_of ranges) byte false
          (omega (arith, length-map-range_with_len (in_ranges ranges) 0 256)) ∙ sym (past_all ranges byte small h)
    ]

-- a range of one byte
one_byte : (n byte : ℕ) → (nat_le n byte && nat_le byte n) ≡ (byte == n)
one_byte n byte = grind (arith, nat_tests)

or-false : (t : Bool) → (t || false) ≡ t
or-false true = refl
or-false false = refl

or-both : (a b c d : Bool) → a ≡ b → c ≡ d → (a || c) ≡ (b || d)
or-both a b c d first second = cc

-- the last range alone
last_range : (r : Range) (byte : ℕ) → in_ranges (r ∷ []) byte ≡ holds byte r
last_range r byte = or-false (holds byte r)

pub has_range : (low high : ℕ) → high < 256 → (byte : ℕ) → has (class_of (range low high ∷ [])) byte
    ≡ (nat_le low byte && nat_le byte high)
has_range low high small byte = has-class_of (range low high ∷ []) (small, tt) byte ∙ last_range (range low high) byte

pub has_one : (quote : ℕ) → quote < 256 → (byte : ℕ) → has (class_of (range quote quote ∷ [])) byte
    ≡ is_quote quote byte
has_one quote small byte = has_range quote quote small byte ∙ one_byte quote byte

pub has_name_start : (byte : ℕ) → has (class_of (range 97 122 ∷ range 65 90 ∷ range 95 95 ∷ [])) byte ≡ begins_name byte
has_name_start byte =
    has-class_of (range 97 122 ∷ range 65 90 ∷ range 95 95 ∷ []) (lit< tt, (lit< tt, (lit< tt, tt))) byte
    ∙ ap (λ t. holds byte (range 97 122) || (holds byte (range 65 90) || t))
    (last_range (range 95 95) byte ∙ one_byte 95 byte)

pub has_hexadecimal : (byte : ℕ) → has (class_of (range 48 57 ∷ range 97 102 ∷ range 65 70 ∷ [])) byte
    ≡ is_hexadecimal byte
has_hexadecimal byte =
    has-class_of (range 48 57 ∷ range 97 102 ∷ range 65 70 ∷ []) (lit< tt, (lit< tt, (lit< tt, tt))) byte
    ∙ ap (λ t. holds byte (range 48 57) || (holds byte (range 97 102) || t)) (last_range (range 65 70) byte)

-- the ranges of escaped bytes contain exactly the bytes of the escapes
ranges-escape : (escapes : List SimpleEscape) (byte : ℕ) → in_ranges (escaped_ranges escapes) byte
    ≡ is_some (byte_escaped escapes byte)
ranges-escape [] byte = refl
ranges-escape (e ∷ rest) byte =
    ap (λ t. t || in_ranges (escaped_ranges rest) byte) (one_byte e.escaped byte)
    ∙ by (byte == e.escaped) (ranges-escape rest byte)
  where
    by : (t : Bool) → in_ranges (escaped_ranges rest) byte ≡ is_some (byte_escaped rest byte)
        → (t || in_ranges (escaped_ranges rest) byte) ≡ is_some (if t then Some e.byte else byte_escaped rest byte)
    by true others = refl
    by false others = others

pub has_sign : (byte : ℕ) → has (class_of (escaped_ranges simple_escapes)) byte ≡ is_simple_escape byte
has_sign byte =
    has-class_of (escaped_ranges simple_escapes)
    (lit< tt, (lit< tt, (lit< tt, (lit< tt, (lit< tt, (lit< tt, (lit< tt, (lit< tt, tt)))))))) byte
    ∙ ranges-escape simple_escapes byte
