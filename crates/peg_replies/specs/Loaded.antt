-- Describes code: the result of loading a grammar file.
use Rattle.std.specs.Prelude.{ℕ, List}
use Rattle.peg_parser.specs.Accepts.{Accepts}
use Rattle.peg_parser.specs.Parser.{parser_rules}
use Rattle.peg_json.specs.Statuses.{status_code}
use Rattle.peg_replies.specs.Replies.{IsPrinted}
use Rattle.peg_replies.specs.Task.{ToolTask, Checks}
use Rattle.peg_replies.specs.declared.loading.Loaded.{Loaded}
use Rattle.peg_replies.specs.declared.loading.Loaded.TheVariants.{Accepted, Refused}
use Rattle.peg_json.specs.Lines.{line_bytes}

-- the parser of an accepted file, or the line that reports why it is rejected, for every text and task that needs it
-- accepted
abbrev pub IsLoadedFrom : (file : List ℕ) → Loaded → Type 0
IsLoadedFrom file (Accepted parser) = Accepts file (parser_rules parser)
IsLoadedFrom file (Refused line) =
    (task : ToolTask) (text : List ℕ) → Checks task
    → IsPrinted task file text (line_bytes line) (status_code line.status)
