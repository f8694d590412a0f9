-- Describes code: how the texts that a list names are explained.
use Rattle.std.specs.Prelude.{◌≡◌, ℕ, Bool, true, List, [], ◌∷◌, ◌++◌, Option, None, Some, Result, Ok, Err, option_map, string_bytes}
use Rattle.std.specs.Prelude.{unwrap_or}
use Rattle.std.specs.List.{filter}
use Rattle.peg_explain_files.specs.Entries.{AreFaultEntries, entry_fault, entry_name, entry_verdict}
use Rattle.peg_explain_files.specs.Names.{IsListed, IsUnbroken, Listing, Unopened, Whole, Broken, is_nonempty, list_fault}
use Rattle.peg_explain_files.specs.Names.{listed_names, parts_in}
use Rattle.peg_explain_files.specs.Printings.{printed_by}
use Rattle.peg_explain_files.specs.Progress.{Adds, Explains, Progress, Setting, Stops}
use Rattle.peg_explain_files.specs.Verdicts.{worse}
use Rattle.peg_explain_files.specs.declared.ended.Ended.{Ended}
use Rattle.peg_explain_files.specs.declared.ended.ExplainFault.{ExplainFault}
use Rattle.peg_explain_files.specs.declared.entry.Entry.{Entry}
use Rattle.peg_explain_files.specs.declared.listing.ListEnd.{ListEnd}
use Rattle.peg_explain_files.specs.declared.listing.ListEnd.TheVariants as ends
use Rattle.peg_explain_files.specs.declared.reports.TextReport.{TextReport}
use Rattle.peg_explain_files.specs.declared.task.Task.{Task}

-- ---- some bytes of a list

-- Bytes of a list are read after other bytes, whose last part is carried. The parts that end are explained, and the last
-- part is carried.
pub record ExplainsParts (setting : Setting) (bytes carried left : List ℕ) (before after : Progress) : Type 0 where
  pub parts : List (List ℕ)
  pub split : (stream : List ℕ) (done : List (List ℕ)) → parts_in setting.question.end stream ≡ done ++ carried ∷ []
      → parts_in setting.question.end (stream ++ bytes) ≡ done ++ parts ++ left ∷ []
  pub explained : Explains setting (filter is_nonempty parts) before after

-- the same stops at a fault, whatever comes after the bytes
pub record StopsInParts (setting : Setting) (fault : ExplainFault) (bytes carried : List ℕ) (old new : Option (List ℕ)) : Type 0 where
  pub parts : List (List ℕ)
  pub split : (stream rest : List ℕ) (done : List (List ℕ)) → parts_in setting.question.end stream ≡ done ++ carried ∷ []
      → (more : List (List ℕ)) × (parts_in setting.question.end (stream ++ bytes ++ rest) ≡ done ++ parts ++ more)
  pub stops : Stops setting fault (filter is_nonempty parts) old new

abbrev pub LeadsByBytes : {T : Type 0} → Setting → (bytes carried left : List ℕ) → (before after : Progress)
    → Result T ExplainFault → Type 0
LeadsByBytes setting bytes carried left before after (Ok value) = ExplainsParts setting bytes carried left before after
LeadsByBytes setting bytes carried left before after (Err fault) =
    StopsInParts setting fault bytes carried before.written after.written

-- ---- a whole list

-- this is read of a source by what it has left, and by whether no read of it fails
abbrev pub IsListingFrom : (left : Option (List ℕ)) → (never : Bool) → Listing → Type 0
IsListingFrom None never Unopened = ⊥
IsListingFrom None never (Whole read) = Unit {0}
IsListingFrom None never (Broken read) = never ≡ true → ⊥
IsListingFrom (Some bytes) never listing = IsListed bytes listing × (never ≡ true → IsUnbroken listing)

-- what is read of a list, by how the reading ends
abbrev pub listing_to : ListEnd → (read : List ℕ) → Listing
listing_to ends.Whole read = Whole read
listing_to ends.Broken read = Broken read

-- the texts that a list in a source names are explained, or that stops at a fault
abbrev pub LeadsBySource : (left : Option (List ℕ)) → (never : Bool) → Setting → (before after : Progress)
    → Result ListEnd ExplainFault → Type 0
LeadsBySource left never setting before after (Ok end) = (read : List ℕ) × IsListingFrom left never (listing_to end read)
    × Explains setting (listed_names setting.question.end (listing_to end read)) before after
LeadsBySource left never setting before after (Err fault) = (read : List ℕ) × IsListingFrom left never (Whole read)
    × Stops setting fault (listed_names setting.question.end (Whole read)) before.written after.written

-- the line and the verdict of a list itself are added
abbrev pub AddsFault : {O : Type 0} → Task O → TextReport → (old new : Ended) → Type 0
AddsFault task report old new = (entry : Entry)
    × (entry_name entry ≡ unwrap_or (option_map (λ name. name.now) task.query.now.list) [])
    × (entry.report ≡ report)
    × (string_bytes new.faults ≡ string_bytes old.faults ++ printed_by task.printing (entry_fault entry))
    × (new.verdict ≡ worse old.verdict (entry_verdict entry))

-- the texts that a list names are explained, and the fault of the list itself is added
pub record ExplainsListing (setting : Setting) (listing : Listing) (before after : Progress) : Type 0 where
  pub between : Progress
  pub added : List Entry
  pub explained : Explains setting (listed_names setting.question.end listing) before between
  pub of_list : AreFaultEntries (unwrap_or setting.question.list []) (list_fault listing) added
  pub adds : Adds setting.printing added between after

-- the same for a list of which this is read, or that stops at a fault
abbrev pub LeadsByListing : {T : Type 0} → (IsRight : Listing → Type 0) → Setting → (before after : Progress)
    → Result T ExplainFault → Type 0
LeadsByListing IsRight setting before after (Ok value) =
    (listing : Listing) × IsRight listing × ExplainsListing setting listing before after
LeadsByListing IsRight setting before after (Err fault) = (listing : Listing) × IsRight listing
    × Stops setting fault (listed_names setting.question.end listing) before.written after.written
