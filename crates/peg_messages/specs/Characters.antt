-- The characters of bytes that may not be text.
use Rattle.std.specs.Prelude.{ℕ, zero, suc, ◌-◌, if◌then◌else◌, List, [], ◌∷◌, take}
use Rattle.std.specs.Str.{is_utf8}

-- the length of the first character: of a whole UTF-8 sequence, or 1 for a byte that begins none
unfoldable pub character_len : List ℕ → ℕ
character_len bytes =
    if is_utf8 (take 1 bytes) then 1 else if is_utf8 (take 2 bytes) then 2 else
    if is_utf8 (take 3 bytes) then 3 else if is_utf8 (take 4 bytes) then 4 else 1

-- the first character
abbrev pub first_character : List ℕ → List ℕ
first_character bytes = take (character_len bytes) bytes

-- the characters of bytes, of which the first `taken` belong to an earlier character
abbrev pub characters_after : List ℕ → (taken : ℕ) → List (List ℕ)
characters_after [] taken = []
characters_after (byte ∷ rest) zero =
    first_character (byte ∷ rest) ∷ characters_after rest (character_len (byte ∷ rest) - 1)
characters_after (byte ∷ rest) (suc taken) = characters_after rest taken

-- the characters of bytes, in order
abbrev pub characters : List ℕ → List (List ℕ)
characters bytes = characters_after bytes 0
