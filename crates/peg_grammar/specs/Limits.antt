-- The limit on the length of a text.
use Rattle.std.specs.Prelude.{ℕ}

-- the maximum length of a text, in bytes
abbrev pub max_text_bytes : ℕ
max_text_bytes = 67108864
