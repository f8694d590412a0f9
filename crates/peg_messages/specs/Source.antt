-- The line of a position in a text, and a caret below the position.
use Rattle.std.specs.Prelude.{ℕ, ◌+◌, ◌-◌, ◌==◌, Bool, not, ◌&&◌, if◌then◌else◌, nat_le, nat_lt}
use Rattle.std.specs.Prelude.{List, ◌++◌, drop, codes, slice_index, slice_range}
use Rattle.std.specs.List.{take_while}
use Rattle.peg_bytes.specs.Place.{carriage_return, line_feed}
use Rattle.peg_messages.specs.Places.{column_in}
use Rattle.peg_messages.specs.Shown.{shown}
use Rattle.peg_messages.specs.declared.lines.TextLines.{TextLines}
use Rattle.peg_messages.specs.declared.lines.TextLines.TheVariants.{File, Part}
use Rattle.peg_messages.specs.declared.shown.Style.TheVariants.{Line, Blanks}

-- neither LF nor CR; in a part of a file, not LF
abbrev pub is_in_line : TextLines → ℕ → Bool
is_in_line File byte = not (byte == line_feed) && not (byte == carriage_return)
is_in_line (Part line_feeds) byte = not (byte == line_feed)

-- the line of a text that begins at an offset, without its line end
abbrev pub line_from : TextLines → List ℕ → (start : ℕ) → List ℕ
line_from lines text start = take_while (is_in_line lines) (drop start text)

-- the byte at an offset of a line continues a UTF-8 sequence
abbrev pub continues : List ℕ → ℕ → Bool
continues line at = nat_le 128 (slice_index line at) && nat_lt (slice_index line at) 192

-- one byte back from a byte that continues a UTF-8 sequence
unfoldable pub back : List ℕ → ℕ → ℕ
back line at = if continues line at then at - 1 else at

-- an offset of a line, or up to three bytes before it, where a UTF-8 sequence isn't split
abbrev pub unsplit : List ℕ → ℕ → ℕ
unsplit line at = back line (back line (back line at))

-- what is shown of a line begins 80 bytes before the position, and has at most 120 bytes
abbrev pub shown_start : List ℕ → (at : ℕ) → ℕ
shown_start line at = unsplit line (at - 80)

abbrev pub shown_end : List ℕ → (at : ℕ) → ℕ
shown_end line at = unsplit line (shown_start line at + 120)

-- what is shown of a line before the position, and from it on; a character that the position splits is shown as bytes
abbrev pub before_position : List ℕ → (at : ℕ) → List ℕ
before_position line at = slice_range line (shown_start line at) at

abbrev pub from_position : List ℕ → (at : ℕ) → List ℕ
from_position line at = slice_range line at (shown_end line at)

-- the line, and a caret below offset `at` of it
abbrev pub shown_line : List ℕ → (at : ℕ) → List ℕ
shown_line line at = shown Line (before_position line at) ++ shown Line (from_position line at) ++ codes "\n"

abbrev pub caret_line : List ℕ → (at : ℕ) → List ℕ
caret_line line at = shown Blanks (before_position line at) ++ codes "^\n"

-- the line of a position of a text, and a caret below the position
abbrev pub source_lines : TextLines → (text : List ℕ) → (at : ℕ) → List ℕ
source_lines lines text at =
    let column = column_in lines text at - 1 in
    let line = line_from lines text (at - column) in
    shown_line line column ++ caret_line line column
