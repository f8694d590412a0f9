-- The fault of a list itself.
use Rattle.std.proofs.Common.{◌≡◌, ℕ, List, [], IfErr, OnOk, Option, Result, Ok, Err, Some, refl}
use Rattle.peg_io.specs.NamedFile.{NamedFile}
use Rattle.peg_explain_files.specs.Entries.{message_of}
use Rattle.peg_explain_files.specs.Listings.{AddsFault, LeadsByListing}
use Rattle.peg_explain_files.specs.Names.{Listing, list_fault, listed_names}
use Rattle.peg_explain_files.specs.Progress.{Explains, Progress, progress_of}
use Rattle.peg_explain_files.specs.Tasks.{setting_of}
use Rattle.peg_explain_files.specs.declared.ended.Ended.{Ended}
use Rattle.peg_explain_files.specs.declared.ended.ExplainFault.{ExplainFault}
use Rattle.peg_explain_files.specs.declared.ended.ExplainFault.TheVariants.{Memory}
use Rattle.peg_explain_files.specs.declared.reports.TextReport.{TextReport}
use Rattle.peg_explain_files.specs.declared.task.Task.{Task}
use Rattle.peg_explain_files.proofs.ListLemmas.{list-faulty, list-unadded}

-- the texts that a list names are explained, and its fault is added, or an allocation fails
pub list-added : {T O : Type 0} (IsRight : Listing → Type 0) (named : List ℕ → NamedFile) (task : Task O) (listing : Listing)
    (fault : TextReport) (a : Progress) (written : Option (List ℕ)) (old new : Ended) (result : Result T ExplainFault)
    → IsRight listing → list_fault listing ≡ Some fault → ((name : List ℕ) → message_of name fault ≡ [])
    → Explains (setting_of named task) (listed_names (setting_of named task).question.end listing) a (progress_of written old)
    → OnOk result (AddsFault task fault old new) → IfErr result (λ stated. stated ≡ Memory)
    → LeadsByListing IsRight (setting_of named task) a (progress_of written new) result
list-added IsRight named task listing fault a written old new (Ok value) is of_fault silent explained added memory =
    list-faulty IsRight (setting_of named task) listing fault a (progress_of written old) (progress_of written new) value
    added.0 is of_fault (silent _) explained added.1 added.2 refl added.3 added.4
list-added {T} IsRight named task listing fault a written old new (Err stated) is of_fault silent explained added memory =
    list-unadded T IsRight (setting_of named task) listing a (progress_of written old) (progress_of written new) stated is
    memory refl explained
