-- What is printed for a question about texts.
use Rattle.std.specs.Prelude.{◌≡◌, ◌⊎◌, ℕ, ◌+◌, List, [], ◌++◌, Option, None, Some, Result, Ok, Err, codes, map, string_bytes}
use Rattle.std.specs.Prelude.{unwrap_or}
use Rattle.std.specs.Io.KnownBytes.{Keeps}
use Rattle.peg_explain.specs.RefusalMessages.{AreRulesOfCycle, IsRefusalMessage, refusal_definitions}
use Rattle.peg_io.specs.NamedFile.{NamedFile}
use Rattle.peg_messages.specs.FileNames.{shown_name}
use Rattle.peg_metagrammar.specs.Notation.{max_file_bytes}
use Rattle.peg_parser.specs.Accepts.{Accepts}
use Rattle.peg_parser.specs.Cause.{Cause}
use Rattle.peg_parser.specs.Faults.{cause_of}
use Rattle.peg_parser.specs.Refusals.{IsRefusalOf}
use Rattle.peg_parser.specs.declared.refusal.Refusal.{Refusal}
use Rattle.peg_semantics.specs.Rules.{Rule, defined_at}
use Rattle.peg_semantics.specs.Starts.{start_name}
use Rattle.peg_explain_files.specs.Contents.{IsContentOf}
use Rattle.peg_explain_files.specs.Entries.{AreFaultEntries, named_line, program_line}
use Rattle.peg_explain_files.specs.Names.{IsListingOf, Listing, list_fault, list_file, names_asked}
use Rattle.peg_explain_files.specs.Printings.{WritesAlone, printed_by}
use Rattle.peg_explain_files.specs.Progress.{Adds, AreEntriesOf, Setting, Stops, progress_of}
use Rattle.peg_explain_files.specs.Questions.{Question}
use Rattle.peg_explain_files.specs.declared.content.Content.{Content}
use Rattle.peg_explain_files.specs.declared.content.Content.TheVariants.{Bytes, Unopened, Unreadable}
use Rattle.peg_explain_files.specs.declared.ended.Ended.{Ended}
use Rattle.peg_explain_files.specs.declared.ended.ExplainFault.{ExplainFault}
use Rattle.peg_explain_files.specs.declared.ended.ExplainFault.TheVariants.{Memory}
use Rattle.peg_explain_files.specs.declared.ended.Verdict.TheVariants as verdict
use Rattle.peg_explain_files.specs.declared.entry.Entry.{Entry}
use Rattle.peg_explain_files.specs.declared.printing.Printing.{Printing}

-- nothing is written, since an allocation failed; or this holds
abbrev pub OrOutOfMemory : {T : Type 0} → (old new : Option (List ℕ)) → Result T ExplainFault → Type 0 → Type 0
OrOutOfMemory old new result Otherwise = ((result ≡ Err Memory) × Keeps old new) ⊎ Otherwise

-- the lines and the verdict for a grammar file that can't be opened or read
abbrev pub IsUnread : (name rest : List ℕ) → Printing → Ended → Type 0
IsUnread name rest printing ended =
    (string_bytes ended.faults ≡ printed_by printing (program_line name rest)) × (ended.verdict ≡ verdict.Unreadable)

-- nothing is written for such a file
abbrev pub LeadsUnread : (name rest : List ℕ) → Printing → (old new : Option (List ℕ)) → Result Ended ExplainFault
    → Type 0
LeadsUnread name rest printing old new result =
    (ended : Ended) × (result ≡ Ok ended) × IsUnread name rest printing ended × Keeps old new

-- the message for a refusal is written
abbrev pub WritesRefusal : (name file : List ℕ) → Refusal → Printing → (old new : Option (List ℕ))
    → Result Ended ExplainFault → Type 0
WritesRefusal name file refusal printing old new result = OrOutOfMemory old new result ((message : List ℕ)
    × (cause : Cause) × (cause_of refusal ≡ Some cause)
    × IsRefusalMessage (shown_name name) file (refusal_definitions refusal) cause message
    × WritesAlone printing message verdict.Refused old new result)

-- the message for a start that no rule has
abbrev pub no_start_message : (grammar start : List ℕ) → List ℕ
no_start_message grammar start = named_line grammar (codes ": no rule is named ") ++ named_line start (codes "\n")

-- All texts are explained: there is an entry for each name, in order, and one for a list that can't be opened or read.
-- Their messages are written, in order.
pub record ExplainsAll (setting : Setting) (listing : Listing) (old new : Option (List ℕ)) (ended : Ended)
    : Type 0 where
  pub entries : List Entry
  pub added : List Entry
  pub are : AreEntriesOf setting (names_asked setting.question listing) entries
  pub of_list : AreFaultEntries (unwrap_or setting.question.list []) (list_fault listing) added
  pub adds : Adds setting.printing (entries ++ added)
      record { written = old; lines = []; worst = verdict.Matches } (progress_of new ended)

-- All texts are explained, or the explanation stops at a fault, after the messages of the first texts.
abbrev pub EndsTexts : Setting → Listing → (old new : Option (List ℕ)) → Result Ended ExplainFault → Type 0
EndsTexts setting listing old new (Ok ended) = ExplainsAll setting listing old new ended
EndsTexts setting listing old new (Err fault) = Stops setting fault (names_asked setting.question listing) old new

-- texts are explained, with the names that are read of the list in this file
abbrev pub ExplainsTexts : Setting → (list : NamedFile) → (old new : Option (List ℕ)) → Result Ended ExplainFault
    → Type 0
ExplainsTexts setting list old new result =
    (listing : Listing) × IsListingOf list listing × EndsTexts setting listing old new result

-- What is written for a grammar file: the message of a refused file; or that no rule has the name of the start; or what
-- is written of the texts.
pub data IsAnswer (question : Question) (printing : Printing) (file_at : List ℕ → NamedFile) (input : Option (List ℕ))
    (file : List ℕ) (old new : Option (List ℕ)) (result : Result Ended ExplainFault) : Type 0 where
  refused : {rules : List Rule} {cause : Cause} {message : List ℕ} → IsRefusalOf file cause
      → AreRulesOfCycle file cause rules
      → IsRefusalMessage (shown_name question.grammar) file (map defined_at rules) cause message
      → WritesAlone printing message verdict.Refused old new result
      → IsAnswer question printing file_at input file old new result
  no_such_start : {rules : List Rule} → Accepts file rules → start_name rules question.start ≡ None
      → WritesAlone printing (no_start_message question.grammar (unwrap_or question.start [])) verdict.NoSuchStart
      old new result → IsAnswer question printing file_at input file old new result
  explained : {rules : List Rule} {from : List ℕ} → Accepts file rules → start_name rules question.start ≡ Some from
      → ExplainsTexts record { question = question; printing = printing; named = file_at; file = file; rules = rules }
      (list_file file_at input question.list) old new result
      → IsAnswer question printing file_at input file old new result

-- what is written by what is read of the grammar file
abbrev pub IsAnswerBy : Question → Printing → (file_at : List ℕ → NamedFile) → (input : Option (List ℕ)) → Content
    → (old new : Option (List ℕ)) → Result Ended ExplainFault → Type 0
IsAnswerBy question printing file_at input (Bytes file) old new result =
    IsAnswer question printing file_at input file.items old new result
IsAnswerBy question printing file_at input Unopened old new result =
    LeadsUnread question.grammar (codes ": can't be opened\n") printing old new result
IsAnswerBy question printing file_at input Unreadable old new result =
    LeadsUnread question.grammar (codes ": can't be read\n") printing old new result

-- What is written for a question over files by name and an input, and how that ends. The grammar file is read up to its
-- limit and one byte more. If an allocation fails before the first text, nothing is written.
abbrev pub IsExplained : Question → Printing → (file_at : List ℕ → NamedFile) → (input : Option (List ℕ))
    → (old new : Option (List ℕ)) → Result Ended ExplainFault → Type 0
IsExplained question printing file_at input old new result = OrOutOfMemory old new result ((content : Content)
    × IsContentOf (max_file_bytes + 1) (file_at question.grammar) content
    × IsAnswerBy question printing file_at input content old new result)
