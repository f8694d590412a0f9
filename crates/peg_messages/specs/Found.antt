-- What is found at a position of a text.
use Rattle.std.specs.Prelude.{ℕ, Bool, false, not, ◌&&◌, ◌||◌, ◌==◌, if◌then◌else◌, is_some, nat_lt}
use Rattle.std.specs.Char.{to_ascii_lowercase}
use Rattle.std.specs.Prelude.{List, [], ◌∷◌, ◌++◌, codes, drop, length, max, slice_range, take}
use Rattle.std.specs.List.{flat_map, prefix_len}
use Rattle.std.specs.Str.{bytes_eq}
use Rattle.peg_bytes.specs.Extent.{extent}
use Rattle.peg_lexer.specs.Lexical.{quoted_char}
use Rattle.peg_lexer.specs.Matchers.{many}
use Rattle.peg_messages.specs.Blanks.{is_blank}
use Rattle.peg_messages.specs.CharacterNames.{invisible_name, lookalike_name}
use Rattle.peg_messages.specs.Characters.{character_len}
use Rattle.peg_messages.specs.Items.{span_bytes}
use Rattle.peg_messages.specs.Shown.{escape_text, shown, shown_character}
use Rattle.peg_messages.specs.Source.{unsplit}
use Rattle.peg_messages.specs.declared.items.Item.{Item}
use Rattle.peg_messages.specs.declared.shown.Style.TheVariants.{Quoted}

-- ---- one character

-- the first character of a text; a line end of two bytes is one
abbrev pub found_len : List ℕ → ℕ
found_len rest = if bytes_eq (slice_range rest 0 2) (13 ∷ 10 ∷ []) then 2 else character_len rest

-- a name in parentheses, if there is one
abbrev pub name_text : List ℕ → List ℕ
name_text [] = []
name_text (byte ∷ rest) = codes " (" ++ byte ∷ rest ++ codes ")"

-- a character in single quotes, given its name if it can't be seen; then it is written by its escapes
abbrev pub character_text : (character invisible : List ℕ) → List ℕ
character_text character [] =
    codes "'" ++ shown_character Quoted character ++ codes "'" ++ name_text (lookalike_name character)
character_text character (byte ∷ rest) =
    codes "'" ++ flat_map escape_text character ++ codes "'" ++ name_text (byte ∷ rest)

-- ---- a word

-- a byte of a word is neither a space nor a tab nor a line end
abbrev pub is_in_word : ℕ → Bool
is_in_word byte = not (is_blank byte)

-- the length of the word at the start of a text, in at most `most` bytes, without a part of a character at its end
abbrev pub word_len : (rest : List ℕ) → (most : ℕ) → ℕ
word_len rest most = unsplit rest (prefix_len is_in_word (slice_range rest 0 most))

-- a word in single quotes, if it is longer than the first character, otherwise that character
abbrev pub part_text : (rest : List ℕ) → (most : ℕ) → List ℕ
part_text rest most =
    if nat_lt (character_len rest) (word_len rest most)
    then codes "'" ++ shown Quoted (take (word_len rest most) rest) ++ codes "'"
    else character_text (take (found_len rest) rest) (invisible_name (take (found_len rest) rest))

-- what is found: a part of the text of at most `most` bytes or one character, or the end
abbrev pub found_text : (text : List ℕ) → (at most : ℕ) → List ℕ
found_text text at most = if nat_lt at (length text) then part_text (drop at text) most else codes "the end"

-- ---- how long a word is

-- the bytes in the quotes of a literal begin with a letter, in either case, or with the same byte
abbrev pub begins_like : (first : ℕ) → (inside : List ℕ) → Bool
begins_like first [] = false
begins_like first (byte ∷ rest) = to_ascii_lowercase byte == to_ascii_lowercase first

-- the number of bytes of a literal, as its spelling has them between its quotes, if it begins like a text with this
-- first byte, otherwise 0
abbrev pub literal_length : (first : ℕ) → (spelling : List ℕ) → ℕ
literal_length first [] = 0
literal_length first (quote ∷ inside) =
    if (quote == 39 || quote == 34) && begins_like first inside then (many (quoted_char quote) inside).length else 0

-- the same for an item; one with a name isn't written as a literal
abbrev pub item_length : (grammar : List ℕ) → (first : ℕ) → Item → ℕ
item_length grammar first item =
    if is_some item.name then 0 else literal_length first (span_bytes grammar (extent item.span))

-- as many bytes as the longest literal among the items that begins like the text
abbrev pub longest_literal : (grammar : List ℕ) → (first : ℕ) → List Item → ℕ
longest_literal grammar first [] = 0
longest_literal grammar first (item ∷ items) = max (item_length grammar first item) (longest_literal grammar first items)
