-- What is shown of bytes is UTF-8.
use Rattle.std.proofs.Common.{◌≡◌, ℕ, zero, suc, ◌-◌, ◌/◌, ◌%◌, ◌<◌, ◌==◌, Bool, true, false, if◌then◌else◌}
use Rattle.std.proofs.Common.{List, [], ◌∷◌, length, take, get_or, refl, arith, lit<}
use Rattle.std.proofs.lemmas.Bool.Decides.{nat_tests}
use Rattle.std.proofs.lemmas.List.Elements.{All-head, All-tail}
use Rattle.std.proofs.lemmas.Str.{IsUtf8-append, IsUtf8-from_ascii, IsUtf8-from_is_utf8, IsUtf8-nil}
use Rattle.std.specs.Prelude.{All}
use Rattle.std.specs.List.{flat_map}
use Rattle.std.specs.Str.{IsAscii, IsUtf8, is_utf8}
use Rattle.peg_messages.specs.Characters.{character_len, characters_after, first_character}
use Rattle.peg_messages.specs.FileNames.{shown_name}
use Rattle.peg_messages.specs.Shown.{escape_text, is_printable, printable_text, shown_byte, shown_character, upper_hex_digit}
use Rattle.peg_messages.specs.declared.shown.Style.TheVariants.{Spelling}

digit-ascii : (digit : ℕ) → digit < 16 → upper_hex_digit digit < 128
digit-ascii digit small = grind (arith, nat_tests)

two-ascii : (a b : ℕ) → a < 128 → b < 128 → IsAscii (a ∷ b ∷ [])
two-ascii a b first second zero = first
two-ascii a b first second (suc zero) = second
two-ascii a b first second (suc (suc i)) = lit< tt

four-ascii : (a b c d : ℕ) → a < 128 → b < 128 → c < 128 → d < 128 → IsAscii (a ∷ b ∷ c ∷ d ∷ [])
four-ascii a b c d first second third fourth zero = first
four-ascii a b c d first second third fourth (suc zero) = second
four-ascii a b c d first second third fourth (suc (suc i)) = two-ascii c d third fourth i

-- an escape is ASCII, whichever it is
escape-ascii : (byte : ℕ) → byte < 256 → IsAscii (escape_text byte)
escape-ascii byte small = by (byte == 10) (byte == 13) (byte == 9)
  where
    by : (a b c : Bool) → IsAscii (if a then 92 ∷ 110 ∷ [] else if b then 92 ∷ 114 ∷ [] else if c then 92 ∷ 116 ∷ [] else
        92 ∷ 120 ∷ upper_hex_digit (byte / 16) ∷ upper_hex_digit (byte % 16) ∷ [])
    by true b c = two-ascii 92 110 (lit< tt) (lit< tt)
    by false true c = two-ascii 92 114 (lit< tt) (lit< tt)
    by false false true = two-ascii 92 116 (lit< tt) (lit< tt)
    by false false false =
        four-ascii 92 120 (upper_hex_digit (byte / 16)) (upper_hex_digit (byte % 16)) (lit< tt) (lit< tt)
        (digit-ascii (byte / 16) (omega arith)) (digit-ascii (byte % 16) (omega arith))

one-ascii : (a : ℕ) → a < 128 → IsAscii (a ∷ [])
one-ascii a first zero = first
one-ascii a first (suc i) = lit< tt

printable-below : (byte : ℕ) → is_printable byte ≡ true → byte < 128
printable-below byte is = grind (arith, nat_tests)

printable-ascii : (byte : ℕ) → byte < 256 → IsAscii (printable_text byte)
unfolding printable_text
printable-ascii byte small = by (is_printable byte) refl
  where
    by : (b : Bool) → is_printable byte ≡ b → IsAscii (if b then byte ∷ [] else escape_text byte)
    by true is = one-ascii byte (printable-below byte is)
    by false is = escape-ascii byte small

-- a first character of one byte is that byte, and one of several bytes is UTF-8
first-below : (n byte : ℕ) (rest : List ℕ) → byte < 256 → get_or (take n (byte ∷ rest)) 0 0 < 256
first-below zero byte rest small = lit< tt
first-below (suc n) byte rest small = small

several-utf8 : (byte : ℕ) (rest : List ℕ) → (length (first_character (byte ∷ rest)) == 1) ≡ false
    → is_utf8 (first_character (byte ∷ rest)) ≡ true
unfolding character_len
several-utf8 byte rest several =
    by (is_utf8 (take 1 bytes)) (is_utf8 (take 2 bytes)) (is_utf8 (take 3 bytes)) (is_utf8 (take 4 bytes)) refl refl refl
    refl several
  where
    bytes : List ℕ
    bytes = byte ∷ rest

    length_by : (a b c d : Bool) → ℕ
    length_by a b c d = if a then 1 else if b then 2 else if c then 3 else if d then 4 else 1

    by : (a b c d : Bool) → is_utf8 (take 1 bytes) ≡ a → is_utf8 (take 2 bytes) ≡ b → is_utf8 (take 3 bytes) ≡ c
        → is_utf8 (take 4 bytes) ≡ d → (length (take (length_by a b c d) bytes) == 1) ≡ false
        → is_utf8 (take (length_by a b c d) bytes) ≡ true
    by true b c d first second third fourth many = first
    by false true c d first second third fourth many = second
    by false false true d first second third fourth many = third
    by false false false true first second third fourth many = fourth
    by false false false false first second third fourth many = absurd (let no : true ≡ false = many in cc)

character-utf8 : (byte : ℕ) (rest : List ℕ) → byte < 256
    → IsUtf8 (shown_character Spelling (first_character (byte ∷ rest)))
character-utf8 byte rest small = by (length character == 1) refl
  where
    character : List ℕ
    character = first_character (byte ∷ rest)

    by : (b : Bool) → (length character == 1) ≡ b
        → IsUtf8 (if b then shown_byte Spelling (get_or character 0 0) else character)
    by true is =
        IsUtf8-from_ascii _ (printable-ascii (get_or character 0 0) (first-below (character_len (byte ∷ rest)) byte rest small))
    by false is = IsUtf8-from_is_utf8 character (several-utf8 byte rest is)

characters-utf8 : (bytes : List ℕ) (taken : ℕ) → All (λ byte. byte < 256) bytes
    → IsUtf8 (flat_map (shown_character Spelling) (characters_after bytes taken))
characters-utf8 [] taken small = IsUtf8-nil
characters-utf8 (byte ∷ rest) zero small =
    IsUtf8-append (shown_character Spelling (first_character (byte ∷ rest))) _
    (character-utf8 byte rest (All-head (λ (b : ℕ). b < 256) byte rest small))
    (characters-utf8 rest (character_len (byte ∷ rest) - 1) (All-tail (λ (b : ℕ). b < 256) byte rest small))
characters-utf8 (byte ∷ rest) (suc taken) small = characters-utf8 rest taken (All-tail (λ (b : ℕ). b < 256) byte rest small)

-- the name of a file is shown as UTF-8
pub IsUtf8-shown_name : (name : List ℕ) → All (λ byte. byte < 256) name → IsUtf8 (shown_name name)
IsUtf8-shown_name name small = characters-utf8 name 0 small
