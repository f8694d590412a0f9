-- The printed JSON of a refusal, and its exit status.
use Rattle.std.specs.Prelude.{ℕ, List, codes, map}
use Rattle.serde_json.specs.Data.{Data, unsigned, number, string, array, object, no_members, member}
use Rattle.serde_json.specs.View.{items_of}
use Rattle.peg_bytes.specs.Place.{line_at, column_at}
use Rattle.peg_semantics.specs.Form.{Reference}
use Rattle.peg_parser.specs.Cause.{Cause, FileTooLong, Syntax, TooNested, BadCount, NoRule, Duplicate, Undefined}
use Rattle.peg_parser.specs.Cause.{TooManyParts, EmptyLoop, LeftRecursion, CodeTooLarge, NoSuchStart, NoSuchRule, StepLimit, TooDeep}
use Rattle.peg_parser.specs.Cause.{TextTooLong}

-- the JSON of a refusal without details
abbrev pub bare_data : (refusal : List ℕ) → Data
bare_data refusal = object (member (codes "refusal") (string refusal) no_members)

-- the JSON of a refusal at an offset of the file, with its line and column
abbrev pub place_data : (file refusal : List ℕ) → (at : ℕ) → Data
place_data file refusal at =
    object (member (codes "at") (number (unsigned at)) (member (codes "column") (number (unsigned (column_at file at)))
    (member (codes "line") (number (unsigned (line_at file at)))
    (member (codes "refusal") (string refusal) no_members))))

-- the JSON of a refusal of a name, with the name and its span
abbrev pub name_data : (file refusal : List ℕ) → (name : Reference) → Data
name_data file refusal name =
    object (member (codes "column") (number (unsigned (column_at file name.span.start)))
    (member (codes "end") (number (unsigned name.span.end))
    (member (codes "line") (number (unsigned (line_at file name.span.start))) (member (codes "name") (string name.name)
    (member (codes "refusal") (string refusal) (member (codes "start") (number (unsigned name.span.start))
    no_members))))))

-- the JSON of an empty loop of a rule, with its span
abbrev pub loop_data : (file : List ℕ) → (rule : Reference) → Data
loop_data file rule =
    object (member (codes "column") (number (unsigned (column_at file rule.span.start)))
    (member (codes "end") (number (unsigned rule.span.end))
    (member (codes "line") (number (unsigned (line_at file rule.span.start)))
    (member (codes "refusal") (string (codes "EmptyLoop")) (member (codes "rule") (string rule.name)
    (member (codes "start") (number (unsigned rule.span.start)) no_members))))))

-- the JSON of a left cycle
abbrev pub path_data : (path : List (List ℕ)) → Data
path_data path =
    object (member (codes "path") (array (items_of (map string path)))
    (member (codes "refusal") (string (codes "LeftRecursion")) no_members))

-- the JSON of a refusal of a name that no rule has
abbrev pub missing_data : (refusal name : List ℕ) → Data
missing_data refusal name =
    object (member (codes "name") (string name) (member (codes "refusal") (string refusal) no_members))

-- the JSON of a refusal
abbrev pub cause_data : (file : List ℕ) → Cause → Data
cause_data file FileTooLong = bare_data (codes "FileTooLong")
cause_data file (Syntax at) = place_data file (codes "Syntax") at
cause_data file (TooNested at) = place_data file (codes "TooNested") at
cause_data file (BadCount at) = place_data file (codes "BadCount") at
cause_data file NoRule = bare_data (codes "NoRule")
cause_data file (Duplicate name) = name_data file (codes "Duplicate") name
cause_data file (Undefined name) = name_data file (codes "Undefined") name
cause_data file TooManyParts = bare_data (codes "TooManyParts")
cause_data file (EmptyLoop rule) = loop_data file rule
cause_data file (LeftRecursion path) = path_data path
cause_data file CodeTooLarge = bare_data (codes "CodeTooLarge")
cause_data file (NoSuchStart name) = missing_data (codes "NoSuchStart") name
cause_data file (NoSuchRule name) = missing_data (codes "NoSuchRule") name
cause_data file StepLimit = bare_data (codes "StepLimit")
cause_data file TooDeep = bare_data (codes "TooDeep")
cause_data file TextTooLong = bare_data (codes "TextTooLong")

-- the exit status of a refusal: 2 a rejected grammar, 3 no such start or rule, 6 a limit of the
-- parse
abbrev pub cause_status : Cause → ℕ
cause_status FileTooLong = 2
cause_status (Syntax at) = 2
cause_status (TooNested at) = 2
cause_status (BadCount at) = 2
cause_status NoRule = 2
cause_status (Duplicate name) = 2
cause_status (Undefined name) = 2
cause_status TooManyParts = 2
cause_status (EmptyLoop rule) = 2
cause_status (LeftRecursion path) = 2
cause_status CodeTooLarge = 2
cause_status (NoSuchStart name) = 3
cause_status (NoSuchRule name) = 3
cause_status StepLimit = 6
cause_status TooDeep = 6
cause_status TextTooLong = 6
