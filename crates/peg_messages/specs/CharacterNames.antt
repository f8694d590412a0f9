-- The names of characters that can't be seen, or that look like others. The names of characters beyond ASCII are in the
-- Unicode standard, in capital letters; a byte order mark is an alias there.
use Rattle.std.specs.Prelude.{ℕ, if◌then◌else◌, List, [], ◌∷◌, codes}
use Rattle.std.specs.Str.{bytes_eq}

-- the first of two names, or the second one if there is no first
abbrev pub first_name : List ℕ → List ℕ → List ℕ
first_name [] other = other
first_name (byte ∷ rest) other = byte ∷ rest

-- line ends and other characters of ASCII
abbrev pub control_name : List ℕ → List ℕ
control_name character =
    if bytes_eq character (10 ∷ []) then codes "line end" else
    if bytes_eq character (13 ∷ 10 ∷ []) then codes "line end" else
    if bytes_eq character (13 ∷ []) then codes "carriage return" else
    if bytes_eq character (9 ∷ []) then codes "tab" else []

-- spaces beyond ASCII: U+00A0, U+202F, U+3000, U+2028
abbrev pub space_name : List ℕ → List ℕ
space_name character =
    if bytes_eq character (194 ∷ 160 ∷ []) then codes "no-break space" else
    if bytes_eq character (226 ∷ 128 ∷ 175 ∷ []) then codes "narrow no-break space" else
    if bytes_eq character (227 ∷ 128 ∷ 128 ∷ []) then codes "ideographic space" else
    if bytes_eq character (226 ∷ 128 ∷ 168 ∷ []) then codes "line separator" else []

-- characters without a width: U+FEFF, U+200B, U+200C, U+200D, U+2060, U+00AD
abbrev pub zero_width_name : List ℕ → List ℕ
zero_width_name character =
    if bytes_eq character (239 ∷ 187 ∷ 191 ∷ []) then codes "byte order mark" else
    if bytes_eq character (226 ∷ 128 ∷ 139 ∷ []) then codes "zero width space" else
    if bytes_eq character (226 ∷ 128 ∷ 140 ∷ []) then codes "zero width non-joiner" else
    if bytes_eq character (226 ∷ 128 ∷ 141 ∷ []) then codes "zero width joiner" else
    if bytes_eq character (226 ∷ 129 ∷ 160 ∷ []) then codes "word joiner" else
    if bytes_eq character (194 ∷ 173 ∷ []) then codes "soft hyphen" else []

-- quotation marks: U+2018, U+2019, U+201C, U+201D
abbrev pub quotation_name : List ℕ → List ℕ
quotation_name character =
    if bytes_eq character (226 ∷ 128 ∷ 152 ∷ []) then codes "left single quotation mark" else
    if bytes_eq character (226 ∷ 128 ∷ 153 ∷ []) then codes "right single quotation mark" else
    if bytes_eq character (226 ∷ 128 ∷ 156 ∷ []) then codes "left double quotation mark" else
    if bytes_eq character (226 ∷ 128 ∷ 157 ∷ []) then codes "right double quotation mark" else []

-- signs that look like those of ASCII: U+2013, U+2014, U+2212, U+00D7, U+037E
abbrev pub sign_name : List ℕ → List ℕ
sign_name character =
    if bytes_eq character (226 ∷ 128 ∷ 147 ∷ []) then codes "en dash" else
    if bytes_eq character (226 ∷ 128 ∷ 148 ∷ []) then codes "em dash" else
    if bytes_eq character (226 ∷ 136 ∷ 146 ∷ []) then codes "minus sign" else
    if bytes_eq character (195 ∷ 151 ∷ []) then codes "multiplication sign" else
    if bytes_eq character (205 ∷ 190 ∷ []) then codes "greek question mark" else []

-- the name of a character that can't be seen; empty for others
abbrev pub invisible_name : List ℕ → List ℕ
invisible_name character =
    first_name (control_name character) (first_name (space_name character) (zero_width_name character))

-- the name of a character that can be taken for another one; empty for others
abbrev pub lookalike_name : List ℕ → List ℕ
lookalike_name character = first_name (quotation_name character) (sign_name character)
