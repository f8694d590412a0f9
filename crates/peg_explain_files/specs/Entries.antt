-- What is reported and printed of texts.
use Rattle.std.specs.Prelude.{◌≡◌, ℕ, List, [], ◌∷◌, ◌++◌, Option, None, Some, codes}
use Rattle.peg_messages.specs.FileNames.{shown_name}
use Rattle.peg_explain_files.specs.declared.ended.Verdict.{Verdict}
use Rattle.peg_explain_files.specs.declared.ended.Verdict.TheVariants.{Matches, Differs, OverLimit, Unreadable}
use Rattle.peg_explain_files.specs.declared.entry.Entry.{Entry}
use Rattle.peg_explain_files.specs.declared.reports.TextReport.{TextReport}
use Rattle.peg_explain_files.specs.declared.reports.TextReport.TheVariants as report

-- the name of a text
abbrev pub entry_name : Entry → List ℕ
entry_name entry = entry.name.now

-- what is reported of the list itself, if it can't be opened or read
abbrev pub AreFaultEntries : (list : List ℕ) → Option TextReport → List Entry → Type 0
AreFaultEntries list None entries = entries ≡ []
AreFaultEntries list (Some fault) entries =
    (entry : Entry) × (entries ≡ entry ∷ []) × (entry.name.now ≡ list) × (entry.report ≡ fault)

-- ---- what is printed

-- a name, as messages show it, and what follows it
abbrev pub named_line : (name rest : List ℕ) → List ℕ
named_line name rest = shown_name name ++ rest

-- the same after the program's name
abbrev pub program_line : (name rest : List ℕ) → List ℕ
program_line name rest = codes "pegtool: " ++ named_line name rest

-- what is printed of a text on the output
abbrev pub message_of : (name : List ℕ) → TextReport → List ℕ
message_of name (report.Differs message) = message.items
message_of name report.TooLong = named_line name (codes ": the text is longer than 67108864 bytes\n")
message_of name report.TooManySteps = named_line name (codes ": the parse takes more steps than --steps allows\n")
message_of name other = []

abbrev pub entry_message : Entry → List ℕ
entry_message entry = message_of entry.name.now entry.report

-- what is printed on standard error of a file that can't be read, or of a name that isn't UTF-8
abbrev pub fault_of : (name : List ℕ) → TextReport → List ℕ
fault_of name report.NotUtf8 = program_line name (codes ": the name isn't UTF-8\n")
fault_of name report.Unopened = program_line name (codes ": can't be opened\n")
fault_of name report.Unreadable = program_line name (codes ": can't be read\n")
fault_of name other = []

abbrev pub entry_fault : Entry → List ℕ
entry_fault entry = fault_of entry.name.now entry.report

-- the verdict of a text alone
abbrev pub verdict_of : TextReport → Verdict
verdict_of report.Matches = Matches
verdict_of (report.Differs message) = Differs
verdict_of report.TooLong = OverLimit
verdict_of report.TooManySteps = OverLimit
verdict_of report.NotUtf8 = Unreadable
verdict_of report.Unopened = Unreadable
verdict_of report.Unreadable = Unreadable

abbrev pub entry_verdict : Entry → Verdict
entry_verdict entry = verdict_of entry.report
