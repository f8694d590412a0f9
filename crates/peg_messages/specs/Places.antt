-- Places in files, as a message names them.
use Rattle.std.specs.Prelude.{ℕ, ◌+◌, ◌==◌, Bool, not, List, ◌++◌, codes, take}
use Rattle.std.specs.Fmt.{decimal}
use Rattle.std.specs.List.{count_by, suffix_len}
use Rattle.peg_bytes.specs.Place.{column_at, line_at, line_feed}
use Rattle.peg_messages.specs.declared.lines.TextLines.{TextLines}
use Rattle.peg_messages.specs.declared.lines.TextLines.TheVariants.{File, Part}

-- a line feed, or another byte
abbrev pub is_line_feed : ℕ → Bool
is_line_feed byte = byte == line_feed

abbrev pub is_other : ℕ → Bool
is_other byte = not (is_line_feed byte)

-- The line of an offset of a text in its file, from 1. For a part of a file it is one more than the number of line feeds
-- before the offset in the file: those before the part, and those in it.
abbrev pub line_in : TextLines → (text : List ℕ) → (at : ℕ) → ℕ
line_in File text at = line_at text at
line_in (Part line_feeds) text at = line_feeds + count_by is_line_feed (take at text) + 1

-- The column of an offset in bytes, from 1. For a part of a file it is one more than the number of bytes between the last
-- line feed of the part and the offset.
abbrev pub column_in : TextLines → (text : List ℕ) → (at : ℕ) → ℕ
column_in File text at = column_at text at
column_in (Part line_feeds) text at = 1 + suffix_len is_other (take at text)

-- the name of a file, a line and a column: `NAME:LINE:COLUMN: `
abbrev pub place_text : (name : List ℕ) → TextLines → (text : List ℕ) → (at : ℕ) → List ℕ
place_text name lines text at =
    name ++ codes ":" ++ decimal (line_in lines text at) ++ codes ":" ++ decimal (column_in lines text at) ++ codes ": "
