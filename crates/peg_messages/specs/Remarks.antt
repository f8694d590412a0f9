-- The message for a remark about a place of a grammar file.
use Rattle.std.specs.Prelude.{ℕ, List, ◌++◌, codes, length, min}
use Rattle.peg_messages.specs.Places.{place_text}
use Rattle.peg_messages.specs.Source.{source_lines}
use Rattle.peg_messages.specs.declared.lines.TextLines.TheVariants.{File}
use Rattle.peg_messages.specs.declared.remark.Remark.{Remark}

-- A remark about an offset of a file: its place, its kind, a sentence, the line of the offset, and a caret below it. An
-- offset after the end counts as the end.
abbrev pub remark_text : (name file : List ℕ) → (at : ℕ) → (label sentence : List ℕ) → List ℕ
remark_text name file at label sentence =
    place_text name File file (min at (length file)) ++ label ++ codes ": " ++ sentence ++ codes "\n"
    ++ source_lines File file (min at (length file))

abbrev pub remark_message : Remark → List ℕ
remark_message remark =
    remark_text remark.name.now remark.file.now remark.at remark.label.now remark.sentence.now
