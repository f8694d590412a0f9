-- Blanks and comments between the tokens of a grammar file.
use Rattle.std.specs.Prelude.{ℕ, ◌==◌, Bool, true, false, not, ◌||◌, if◌then◌else◌, List, [], ◌∷◌}

-- LF and CR, which end a comment
abbrev pub ends_comment : ℕ → Bool
ends_comment byte = byte == 10 || byte == 13

-- a space, a tab or a line end
abbrev pub is_blank : ℕ → Bool
is_blank byte = byte == 32 || byte == 9 || ends_comment byte

-- the bytes after blanks and comments, where the first byte may be in a comment
abbrev pub after_blanks_from : (in_comment : Bool) → List ℕ → List ℕ
after_blanks_from in_comment [] = []
after_blanks_from true (byte ∷ rest) = after_blanks_from (not (ends_comment byte)) rest
after_blanks_from false (byte ∷ rest) =
    if byte == 35 then after_blanks_from true rest else
    if is_blank byte then after_blanks_from false rest else byte ∷ rest

-- the bytes after blanks and comments
abbrev pub after_blanks : List ℕ → List ℕ
after_blanks bytes = after_blanks_from false bytes
