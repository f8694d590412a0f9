-- How far texts are explained.
use Rattle.std.specs.Prelude.{◌≡◌, ℕ, ◌<◌, All, List, [], ◌∷◌, ◌++◌, Option, Result, Ok, Err, length, map, string_bytes, take}
use Rattle.std.specs.List.{flat_map, fold}
use Rattle.std.specs.Io.KnownBytes.{Appends}
use Rattle.peg_io.specs.NamedFile.{NamedFile}
use Rattle.peg_messages.specs.FileNames.{shown_name}
use Rattle.peg_semantics.specs.Rules.{Rule}
use Rattle.peg_explain_files.specs.Entries.{entry_fault, entry_message, entry_name, entry_verdict}
use Rattle.peg_explain_files.specs.Printings.{printed_by}
use Rattle.peg_explain_files.specs.Questions.{Question}
use Rattle.peg_explain_files.specs.TextReports.{IsReport, IsReportOfName}
use Rattle.peg_explain_files.specs.Verdicts.{worse}
use Rattle.peg_explain_files.specs.declared.ended.Ended.{Ended}
use Rattle.peg_explain_files.specs.declared.ended.ExplainFault.{ExplainFault}
use Rattle.peg_explain_files.specs.declared.ended.ExplainFault.TheVariants.{Write, Memory}
use Rattle.peg_explain_files.specs.declared.ended.Verdict.{Verdict}
use Rattle.peg_explain_files.specs.declared.entry.Entry.{Entry}
use Rattle.peg_explain_files.specs.declared.printing.Printing.{Printing}

-- What texts are explained by: a question and what is printed, the files by name, a grammar file and its rules.
pub record Setting : Type 0 where
  pub question : Question
  pub printing : Printing
  pub named : List ℕ → NamedFile
  pub file : List ℕ
  pub rules : List Rule

-- what is reported of a text is right
abbrev pub IsEntryOf : Setting → Entry → Type 0
IsEntryOf setting entry =
    let question = setting.question in
    IsReportOfName (IsReport setting.file setting.rules question.style question.start question.memo question.steps
    (shown_name (entry_name entry))) setting.named (entry_name entry) entry.report

-- there is a right entry for each of these names, in order
pub record AreEntriesOf (setting : Setting) (names : List (List ℕ)) (entries : List Entry) : Type 0 where
  pub named : map entry_name entries ≡ names
  pub right : All (IsEntryOf setting) entries

-- What is known of an explanation: what is written, if that is specified, the lines for standard error, and the
-- verdict.
pub record Progress : Type 0 where
  pub written : Option (List ℕ)
  pub lines : List ℕ
  pub worst : Verdict

abbrev pub progress_of : (written : Option (List ℕ)) → Ended → Progress
progress_of written ended = record { written = written; lines = string_bytes ended.faults; worst = ended.verdict }

-- these entries are added: their messages, in order, their lines, and their verdicts
pub record Adds (printing : Printing) (entries : List Entry) (before after : Progress) : Type 0 where
  pub messages : Appends before.written after.written (printed_by printing (flat_map entry_message entries))
  pub faults : after.lines ≡ before.lines ++ printed_by printing (flat_map entry_fault entries)
  pub verdict : after.worst ≡ fold (λ verdict entry. worse verdict (entry_verdict entry)) before.worst entries

-- the texts with these names are explained
pub record Explains (setting : Setting) (names : List (List ℕ)) (before after : Progress) : Type 0 where
  pub entries : List Entry
  pub are : AreEntriesOf setting names entries
  pub adds : Adds setting.printing entries before after

-- a proper prefix of the message of the first of these names
pub record IsPartOfMessage (setting : Setting) (names : List (List ℕ)) (part : List ℕ) : Type 0 where
  pub entry : Entry
  pub later : List (List ℕ)
  pub count : ℕ
  pub first : names ≡ entry_name entry ∷ later
  pub right : IsEntryOf setting entry
  pub short : count < length (printed_by setting.printing (entry_message entry))
  pub is : part ≡ take count (printed_by setting.printing (entry_message entry))

-- What is written of the message at which an explanation stops: nothing if an allocation fails, and a proper prefix if
-- a write fails.
abbrev pub IsCut : Setting → ExplainFault → (names : List (List ℕ)) → (part : List ℕ) → Type 0
IsCut setting Memory names part = part ≡ []
IsCut setting Write names part = IsPartOfMessage setting names part

-- An explanation of the texts with these names stops at a fault: the messages of the first texts are written, and a
-- part of the next one.
pub record Stops (setting : Setting) (fault : ExplainFault) (names : List (List ℕ)) (old new : Option (List ℕ))
    : Type 0 where
  pub entries : List Entry
  pub first : List (List ℕ)
  pub rest : List (List ℕ)
  pub part : List ℕ
  pub all : names ≡ first ++ rest
  pub are : AreEntriesOf setting first entries
  pub cut : IsCut setting fault rest part
  pub messages : Appends old new (printed_by setting.printing (flat_map entry_message entries) ++ part)

-- the texts with these names are explained, or that stops at a fault
abbrev pub Leads : {T : Type 0} → Setting → (names : List (List ℕ)) → (before after : Progress) → Result T ExplainFault
    → Type 0
Leads setting names before after (Ok value) = Explains setting names before after
Leads setting names before after (Err fault) = Stops setting fault names before.written after.written
