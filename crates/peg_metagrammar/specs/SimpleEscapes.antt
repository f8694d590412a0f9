-- The simple escapes: a backslash and one of these bytes denote a byte (Ford 2004, section 2.1). The class in rule Char,
-- the tokens and their values are all defined by this list.
use Rattle.std.specs.Prelude.{ℕ, Bool, List, [], ◌∷◌, ◌==◌, map, Option, None, Some, is_some, unwrap_or, if◌then◌else◌}
use Rattle.peg_metagrammar.specs.Ranges.{Range, range}

-- the byte after the backslash, and the byte that both denote
pub record SimpleEscape : Type 0 where
  pub escaped : ℕ
  pub byte : ℕ

abbrev pub escape_for : (escaped byte : ℕ) → SimpleEscape
escape_for escaped byte = record { escaped = escaped; byte = byte }

-- n, r and t denote LF, CR and TAB; two quotes, two brackets and the backslash denote themselves
abbrev pub simple_escapes : List SimpleEscape
simple_escapes =
    escape_for 110 10 ∷ escape_for 114 13 ∷ escape_for 116 9 ∷ escape_for 39 39 ∷ escape_for 34 34 ∷ escape_for 91 91
    ∷ escape_for 93 93 ∷ escape_for 92 92 ∷ []

-- the byte that an escaped byte denotes by a list of escapes, or None
abbrev pub byte_escaped : List SimpleEscape → ℕ → Option ℕ
byte_escaped [] sign = None
byte_escaped (e ∷ rest) sign = if sign == e.escaped then Some e.byte else byte_escaped rest sign

-- whether a byte can be escaped by a backslash alone
abbrev pub is_simple_escape : ℕ → Bool
is_simple_escape byte = is_some (byte_escaped simple_escapes byte)

-- the byte that a simple escape denotes
abbrev pub simple_escape : ℕ → ℕ
simple_escape sign = unwrap_or (byte_escaped simple_escapes sign) sign

-- the escaped bytes, as ranges of one byte
abbrev pub escaped_ranges : List SimpleEscape → List Range
escaped_ranges escapes = map (λ (e : SimpleEscape). range e.escaped e.escaped) escapes
