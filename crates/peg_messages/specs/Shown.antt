-- How bytes are shown: UTF-8 and printable ASCII as they are, other bytes by the escapes of the notation.
use Rattle.std.specs.Prelude.{ℕ, ◌+◌, ◌/◌, ◌%◌, ◌==◌, Bool, ◌&&◌, ◌||◌, if◌then◌else◌, nat_le, nat_lt}
use Rattle.std.specs.Prelude.{List, [], ◌∷◌, ◌++◌, length, replicate, slice_index, codes}
use Rattle.std.specs.List.{flat_map}
use Rattle.peg_messages.specs.Characters.{characters}
use Rattle.peg_messages.specs.declared.shown.Style.{Style}
use Rattle.peg_messages.specs.declared.shown.Style.TheVariants.{Line, Spelling, Quoted, Blanks}

-- a space or a visible ASCII character
abbrev pub is_printable : ℕ → Bool
is_printable byte = nat_le 32 byte && nat_le byte 126

-- a hexadecimal digit
abbrev pub upper_hex_digit : ℕ → ℕ
upper_hex_digit digit = if nat_lt digit 10 then 48 + digit else 55 + digit

-- the escape of a byte: \n, \r, \t, or \x and two hexadecimal digits
abbrev pub escape_text : ℕ → List ℕ
escape_text byte =
    if byte == 10 then codes "\\n" else if byte == 13 then codes "\\r" else if byte == 9 then codes "\\t" else
    codes "\\x" ++ upper_hex_digit (byte / 16) ∷ upper_hex_digit (byte % 16) ∷ []

-- a byte as it is if it is printable, otherwise its escape
unfoldable pub printable_text : ℕ → List ℕ
printable_text byte = if is_printable byte then byte ∷ [] else escape_text byte

-- A byte that is a character of its own. A tab of a source line stays a tab, and so does the blank below it. A quoted
-- character has a backslash before a single quote and a backslash. Blanks are as wide as what is shown in a line.
abbrev pub shown_byte : Style → ℕ → List ℕ
shown_byte Line byte = if byte == 9 then 9 ∷ [] else printable_text byte
shown_byte Spelling byte = printable_text byte
shown_byte Quoted byte = if byte == 39 || byte == 92 then 92 ∷ byte ∷ [] else printable_text byte
shown_byte Blanks byte = if byte == 9 then 9 ∷ [] else replicate (length (printable_text byte)) 32

-- a character of several bytes
abbrev pub shown_sequence : Style → List ℕ → List ℕ
shown_sequence Line character = character
shown_sequence Spelling character = character
shown_sequence Quoted character = character
shown_sequence Blanks character = 32 ∷ []

-- a character
abbrev pub shown_character : Style → List ℕ → List ℕ
shown_character style character =
    if length character == 1 then shown_byte style (slice_index character 0) else shown_sequence style character

-- bytes, character by character
abbrev pub shown : Style → List ℕ → List ℕ
shown style bytes = flat_map (shown_character style) (characters bytes)
