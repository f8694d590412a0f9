-- Extents of a file: pairs of offsets, as definitions use them in place of the code's `Span`.
use Rattle.std.specs.Prelude.{ℕ}
use Rattle.peg_bytes.specs.declared.span.Span.{Span}

-- the bytes from offset `start` up to, but not including, offset `end`; offsets count from 0
pub record Extent : Type 0 where
  pub start : ℕ
  pub end : ℕ

-- the extent from one offset to another
abbrev pub between : ℕ → ℕ → Extent
between start end = record { start = start; end = end }

-- the extent of a `Span`
abbrev pub extent : Span → Extent
extent span = between span.start span.end
