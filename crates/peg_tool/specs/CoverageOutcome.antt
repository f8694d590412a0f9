-- How a request for what texts use of a grammar ends.
use Rattle.std.specs.Prelude.{◌≡◌, ◌⊎◌, ℕ, List, [], Option, Result, Ok, Err, IfSome, codes, map, slice_index_or, string_bytes}
use Rattle.std.specs.List.{flat_map}
use Rattle.std.specs.Io.KnownBytes.{Appends, Keeps}
use Rattle.peg_coverage.specs.declared.text_match.RequiredMatch.{RequiredMatch}
use Rattle.peg_explain_files.specs.Entries.{program_line}
use Rattle.peg_io.specs.NamedFile.{NamedFile, bytes_of}
use Rattle.peg_json.specs.Lines.{IsLineOf}
use Rattle.peg_json.specs.Reply.{Reply, Covered}
use Rattle.peg_replies.specs.Replies.{RepliesTo}
use Rattle.peg_replies.specs.Task.{CoverTask}
use Rattle.peg_replies.specs.Written.{PrintsInPart}
use Rattle.peg_tool.specs.declared.report.Findings.{Findings}
use Rattle.peg_tool.specs.declared.program.ProgramFault.{ProgramFault}
use Rattle.peg_tool.specs.declared.program.ProgramFault.TheVariants.{File, Memory}

-- the line on standard error for a stopped text with this name
abbrev pub stopped_line : (name : List ℕ) → List ℕ
stopped_line name = program_line name (codes ": the parse takes more steps than --steps allows\n")

-- the lines for the texts with these numbers among all names, in order
abbrev pub stopped_lines : (names : List (List ℕ)) → (stopped : List ℕ) → List ℕ
stopped_lines names stopped = flat_map (λ number. stopped_line (slice_index_or names number [])) stopped

-- The lines on standard error for a reply about texts with these names: one for each stopped text, by its name.
abbrev pub error_lines : (names : List (List ℕ)) → Reply → List ℕ
error_lines names (Covered texts matched stopped rules alternatives) = stopped_lines names stopped
error_lines names other = []

-- a reply of a kind has this line, this exit status, and these lines on standard error
abbrev pub IsPrintedOf : (Kind : Reply → Type 0) → (names : List (List ℕ)) → (file : List ℕ) → (line : List ℕ)
    → (status : ℕ) → (errors : List ℕ) → Type 0
IsPrintedOf Kind names file line status errors =
    IsLineOf file (λ reply. Kind reply × (errors ≡ error_lines names reply)) line status

-- What is written to the output: a correct line, whose exit status and lines for standard error are returned. If an
-- allocation failed nothing is written. If a device failed, nothing or a proper prefix of a correct line is written.
abbrev pub WritesCoverage : (IsRight : (line : List ℕ) → (status : ℕ) → (errors : List ℕ) → Type 0)
    → (old new : Option (List ℕ)) → Result Findings ProgramFault → Type 0
WritesCoverage IsRight old new (Ok ended) =
    (line : List ℕ) × IsRight line ended.status (string_bytes ended.faults) × Appends old new line
WritesCoverage IsRight old new (Err Memory) = Keeps old new
WritesCoverage IsRight old new (Err File) = Keeps old new
    ⊎ ((errors : List ℕ) × PrintsInPart (λ line status. IsRight line status errors) old new)

-- The result of a request for what texts with these names use of the grammar in file `g`, over files by name. It promises
-- nothing if the bytes of the grammar file aren't specified.
abbrev pub CoverageOutcome : (start : Option (List ℕ)) → (memo : ℕ) → (steps : Option ℕ) → (needed : RequiredMatch)
    → (g : List ℕ) → (texts : List (List ℕ)) → (file_at : List ℕ → NamedFile) → (old new : Option (List ℕ))
    → Result Findings ProgramFault → Type 0
CoverageOutcome start memo steps needed g texts file_at old new result =
    IfSome (bytes_of (file_at g)) (λ file. (text : List ℕ) → WritesCoverage
    (IsPrintedOf (RepliesTo file text (CoverTask (map file_at texts) start memo steps needed)) texts file)
    old new result)
