-- Lines and exit statuses of replies.
use Rattle.std.specs.Prelude.{◌≡◌, ℕ, List, [], ◌∷◌, ◌++◌, Option, None, Some, string_bytes}
use Rattle.peg_tree.specs.FlatTreeLeft.{text_left}
use Rattle.peg_tree.specs.declared.flat_tree_writer.FlatTreeWriter.{FlatTreeWriter}
use Rattle.peg_json.specs.Reply.{Reply, printed_line, status_of}
use Rattle.peg_json.specs.declared.line.Line.{Line}
use Rattle.peg_json.specs.declared.line.Tail.{Tail}
use Rattle.peg_json.specs.declared.line.Tail.TheVariants.{LineEnd, ListEnd}

-- the text of the nodes of a line, if it has some
abbrev pub rows_text : Option FlatTreeWriter → List ℕ
rows_text None = []
rows_text (Some rows) = text_left rows

-- the end of a line: the line end, byte 10, or the ends of a list and an object before it
abbrev pub tail_bytes : Tail → List ℕ
tail_bytes LineEnd = 10 ∷ []
tail_bytes ListEnd = 93 ∷ 125 ∷ 10 ∷ []

-- the bytes of a line: its head, its nodes and its tail
abbrev pub line_bytes : Line → List ℕ
line_bytes line = string_bytes line.head ++ (rows_text line.rows ++ tail_bytes line.tail)

-- the bytes and the exit status of a reply about a grammar file
abbrev pub IsReply : (file : List ℕ) → Reply → (line : List ℕ) → (status : ℕ) → Type 0
IsReply file reply line status = (line ≡ printed_line file reply) × (status ≡ status_of reply)

-- the bytes and the exit status of some reply of this kind about a grammar file
abbrev pub IsLineOf : (file : List ℕ) → (Reply → Type 0) → (line : List ℕ) → (status : ℕ) → Type 0
IsLineOf file Kind line status =
    (reply : Reply) × Kind reply × (line ≡ printed_line file reply) × (status ≡ status_of reply)
