-- The names in a whole list.
use Rattle.std.proofs.Common.{◌≡◌, ◌∙◌, ◌⊎◌, ℕ, ◌+◌, ◌-◌, ◌≤◌, Bool, true, inl, inr, List, [], ◌∷◌, ◌++◌, Option, None, Some}
use Rattle.std.proofs.Common.{◌≢◌, IfOk, IfSome, Result, Ok, Err, ap, append-nil, arith, length, refl, string_bytes, subst, sym, take, unwrap_or}
use Rattle.std.specs.List.{filter}
use Rattle.std.specs.Io.KnownBytes.{Consumes, IsAtEnd, Keeps}
use Rattle.std.proofs.KnownBytes.{Keeps-refl}
use Rattle.std.proofs.lemmas.List.{length-append, take_all, take_at}
use Rattle.std.proofs.lemmas.List.Elements.{filter-append}
use Rattle.std.proofs.Math.Seq.{take-append-add}
use Rattle.peg_io.specs.NamedFile.{NamedFile, Unspecified, Missing, Holds, Readable, Folder, IsMissing, bytes_of, is_readable}
use Rattle.peg_explain_files.specs.Entries.{AreFaultEntries, entry_fault, entry_name, entry_verdict, message_of}
use Rattle.peg_explain_files.specs.Explained.{ExplainsTexts}
use Rattle.peg_explain_files.specs.Listings.{ExplainsParts, IsListingFrom, LeadsByListing, LeadsBySource, StopsInParts}
use Rattle.peg_explain_files.specs.Names.{IsListingOf, Listing, Unopened, Whole, Broken, ended_names_in}
use Rattle.peg_explain_files.specs.Names.{input_file, is_nonempty, list_fault, listed_names, max_list_bytes, names_in, parts_in}
use Rattle.peg_explain_files.specs.Printings.{printed_by}
use Rattle.peg_explain_files.specs.Progress.{Explains, Leads, Progress, Setting, Stops, progress_of}
use Rattle.peg_explain_files.specs.Verdicts.{worse}
use Rattle.peg_explain_files.specs.declared.ended.Ended.{Ended}
use Rattle.peg_explain_files.specs.declared.ended.ExplainFault.TheVariants.{Memory}
use Rattle.peg_explain_files.specs.declared.ended.Verdict.{Verdict}
use Rattle.peg_explain_files.specs.declared.ended.Verdict.TheVariants as verdict
use Rattle.peg_explain_files.specs.declared.entry.Entry.{Entry}
use Rattle.peg_explain_files.specs.declared.reports.TextReport.{TextReport}
use Rattle.peg_explain_files.specs.declared.ended.ExplainFault.{ExplainFault}
use Rattle.peg_explain_files.specs.declared.listing.ListEnd.{ListEnd}
use Rattle.peg_explain_files.specs.declared.listing.ListEnd.TheVariants as ends
use Rattle.peg_explain_files.proofs.ProgressLemmas.{Adds-fault, Adds-none, Adds-trans, Explains-trans}
use Rattle.peg_explain_files.proofs.ProgressLemmas.{Stops-after, Stops-explained, Stops-more, entries-append}

-- ---- what is read of a source

-- the bytes before the end, or as many as are read
pub whole-read : (left new : Option (List ℕ)) (never : Bool) (read : List ℕ) → Consumes left new read
    → length read ≤ max_list_bytes → IsAtEnd new ⊎ (length read ≡ max_list_bytes) → IsListingFrom left never (Whole read)
whole-read None new never read is short end = tt
whole-read (Some bytes) None never read is short end = absurd is
whole-read (Some bytes) (Some rest) never read is short (inl end) =
    let same : bytes ≡ read = is ∙ (ap (λ (l : List ℕ). read ++ l) end ∙ append-nil read) in
    (sym (ap (take max_list_bytes) same ∙ take_all max_list_bytes read short), λ _. tt)
whole-read (Some bytes) (Some rest) never read is short (inr full) =
    (sym (ap (take max_list_bytes) is ∙ take_at read rest max_list_bytes full), λ _. tt)

-- a read may fail after these bytes
pub broken-read : (left new : Option (List ℕ)) (never : Bool) (read : List ℕ) → Consumes left new read → never ≢ true
    → IsListingFrom left never (Broken read)
broken-read None new never read is fails = fails
broken-read (Some bytes) None never read is fails = absurd is
broken-read (Some bytes) (Some rest) never read is fails = ((rest, is), λ sure. absurd (fails sure))

-- the bytes read so far begin the list
pub begun-read : (left new : Option (List ℕ)) (never : Bool) (read : List ℕ) → Consumes left new read
    → length read ≤ max_list_bytes → (rest : List ℕ) × IsListingFrom left never (Whole (read ++ rest))
begun-read None new never read is short = ([], tt)
begun-read (Some bytes) None never read is short = absurd is
begun-read (Some bytes) (Some rest) never read is short =
    let count = max_list_bytes - length read in
    let sum : max_list_bytes ≡ length read + count = omega arith in (
      take count rest,
      (
        sym (ap (take max_list_bytes) is ∙ (ap (λ (n : ℕ). take n (read ++ rest)) sum
            ∙ take-append-add read rest count)),
        λ _. tt,
      ),
    )

-- ---- the names in what is read

-- the texts so far, and that of the last part
pub whole-names : (setting : Setting) (read carried : List ℕ) (a b c : Progress) → ExplainsParts setting read [] carried a b
    → Explains setting (filter is_nonempty (carried ∷ [])) b c → Explains setting (names_in setting.question.end read) a c
whole-names setting read carried a b c parts last =
    subst (λ (l : List (List ℕ)). Explains setting l a c) (sym (names-of setting read carried parts.parts (parts.split [] [] refl)))
    (Explains-trans setting _ _ a b c parts.explained last)
  where
    names-of : (setting : Setting) (read carried : List ℕ) (parts : List (List ℕ))
        → parts_in setting.question.end read ≡ parts ++ carried ∷ []
        → names_in setting.question.end read ≡ filter is_nonempty parts ++ filter is_nonempty (carried ∷ [])
    names-of setting read carried parts is = ap (filter is_nonempty) is ∙ filter-append is_nonempty parts (carried ∷ [])

-- the texts so far are those of the names with an end
pub ended-names : (setting : Setting) (read carried : List ℕ) (a b : Progress) → ExplainsParts setting read [] carried a b
    → Explains setting (ended_names_in setting.question.end read) a b
ended-names setting read carried a b parts =
    subst (λ (l : List (List ℕ)). Explains setting l a b) (sym (ap (filter is_nonempty) front)) parts.explained
  where
    but-last : (all parts : List (List ℕ)) (last : List ℕ) → all ≡ parts ++ last ∷ [] → take (length all - 1) all ≡ parts
    but-last all parts last is =
        ap (λ (l : List (List ℕ)). take (length l - 1) l) is
        ∙ take_at parts (last ∷ []) (length (parts ++ last ∷ []) - 1)
        (let size = length-append parts (last ∷ []) in omega arith)

    front : take (length (parts_in setting.question.end read) - 1) (parts_in setting.question.end read) ≡ parts.parts
    front = but-last (parts_in setting.question.end read) parts.parts carried (parts.split [] [] refl)

-- a fault in the bytes read so far, whatever comes after them
pub stopped-names : (setting : Setting) (fault : ExplainFault) (read rest : List ℕ) (old new : Option (List ℕ))
    → StopsInParts setting fault read [] old new → Stops setting fault (names_in setting.question.end (read ++ rest)) old new
stopped-names setting fault read rest old new stops =
    let more = stops.split [] rest [] refl in
    subst (λ (l : List (List ℕ)). Stops setting fault l old new)
    (sym (ap (filter is_nonempty) more.1 ∙ filter-append is_nonempty stops.parts more.0))
    (Stops-more setting fault _ (filter is_nonempty more.0) old new stops.stops)

-- a fault in the last part
pub stopped-last : (setting : Setting) (fault : ExplainFault) (read carried : List ℕ) (a b : Progress) (new : Option (List ℕ))
    → ExplainsParts setting read [] carried a b → Stops setting fault (filter is_nonempty (carried ∷ [])) b.written new
    → Stops setting fault (names_in setting.question.end read) a.written new
stopped-last setting fault read carried a b new parts last =
    subst (λ (l : List (List ℕ)). Stops setting fault l a.written new)
    (sym (ap (filter is_nonempty) (parts.split [] [] refl) ∙ filter-append is_nonempty parts.parts (carried ∷ [])))
    (Stops-after setting fault _ _ a b new parts.explained last)

-- ---- lists in files

-- what is read of a source is read of the file
pub listing-of : (file : NamedFile) (left : Option (List ℕ)) (never : Bool) (listing : Listing) → ¬ IsMissing file
    → IfSome (bytes_of file) (λ bytes. left ≡ Some bytes) → (is_readable file ≡ true → never ≡ true)
    → IsListingFrom left never listing → IsListingOf file listing
listing-of Unspecified left never listing there bytes sure is = tt
listing-of (Missing kind) left never listing there bytes sure is = absurd (there tt)
listing-of (Holds bytes) left never listing there same sure is =
    (subst (λ (l : Option (List ℕ)). IsListingFrom l never listing) same is).0
listing-of (Readable bytes) left never listing there same sure is =
    let both = subst (λ (l : Option (List ℕ)). IsListingFrom l never listing) same is in (both.0, both.1 (sure refl))
listing-of (Folder names) left never listing there bytes sure is = tt

-- something can be read of each file
pub some-listing : (file : NamedFile) → (listing : Listing) × IsListingOf file listing
some-listing Unspecified = (Unopened, tt)
some-listing (Missing kind) = (Unopened, refl)
some-listing (Holds bytes) = (Whole (take max_list_bytes bytes), refl)
some-listing (Readable bytes) = (Whole (take max_list_bytes bytes), (refl, tt))
some-listing (Folder names) = (Unopened, tt)

-- the input as a list
pub listing-of_input : (input : Option (List ℕ)) (never : Bool) (listing : Listing) → IsListingFrom input never listing
    → IsListingOf (input_file input) listing
listing-of_input None never listing is = tt
listing-of_input (Some bytes) never listing is = is.0

-- ---- how a source is read

-- the last part, after what is read
pub leads-last : (setting : Setting) (left : Option (List ℕ)) (never : Bool) (read carried : List ℕ) (a b c : Progress)
    (result : Result ListEnd ExplainFault) → IsListingFrom left never (Whole read) → ExplainsParts setting read [] carried a b
    → Leads setting (filter is_nonempty (carried ∷ [])) b c result → IfOk result (λ end. end ≡ ends.Whole)
    → LeadsBySource left never setting a c result
leads-last setting left never read carried a b c (Ok end) is parts last whole =
    subst (λ (e : ListEnd). LeadsBySource left never setting a c (Ok e)) (sym whole)
    (read, is, whole-names setting read carried a b c parts last)
leads-last setting left never read carried a b c (Err fault) is parts last whole =
    (read, is, stopped-last setting fault read carried a b c.written parts last)

-- a fault in what is read
pub leads-stopped : (setting : Setting) (left new : Option (List ℕ)) (never : Bool) (read : List ℕ) (fault : ExplainFault)
    (a c : Progress) → Consumes left new read → length read ≤ max_list_bytes
    → StopsInParts setting fault read [] a.written c.written → LeadsBySource left never setting a c (Err fault)
leads-stopped setting left new never read fault a c is short stops =
    let more = begun-read left new never read is short in
    (read ++ more.0, more.1, stopped-names setting fault read more.0 a.written c.written stops)

-- ---- the fault of a list itself

-- a list that is read to its end
pub list-whole : {T : Type 0} (IsRight : Listing → Type 0) (setting : Setting) (read : List ℕ) (a b : Progress) (value : T)
    → IsRight (Whole read) → Explains setting (names_in setting.question.end read) a b
    → LeadsByListing IsRight setting a b (Ok value)
list-whole IsRight setting read a b value is explained = (
  Whole read,
  is,
  record {
    between = b;
    added = [];
    explained = explained;
    of_list = refl;
    adds = Adds-none setting.printing b;
  },
)

-- a list with a fault, whose line and verdict are added
pub list-faulty : {T : Type 0} (IsRight : Listing → Type 0) (setting : Setting) (listing : Listing) (fault : TextReport)
    (a b c : Progress) (value : T) (entry : Entry) → IsRight listing → list_fault listing ≡ Some fault
    → message_of (entry_name entry) fault ≡ []
    → Explains setting (listed_names setting.question.end listing) a b
    → entry_name entry ≡ unwrap_or setting.question.list [] → entry.report ≡ fault → c.written ≡ b.written
    → c.lines ≡ b.lines ++ printed_by setting.printing (entry_fault entry) → c.worst ≡ worse b.worst (entry_verdict entry)
    → LeadsByListing IsRight setting a c (Ok value)
list-faulty IsRight setting listing fault a b c value entry is of_fault silent explained name report same lines worst = (
  listing,
  is,
  record {
    between = b;
    added = entry ∷ [];
    explained = explained;
    of_list = subst (λ (f : Option TextReport). AreFaultEntries (unwrap_or setting.question.list []) f (entry ∷ []))
        (sym of_fault) (entry, refl, name, report);
    adds = Adds-fault setting.printing entry b c (ap (message_of (entry_name entry)) report ∙ silent) same lines worst;
  },
)

-- if an allocation fails before the line of the list
pub list-unadded : (T : Type 0) (IsRight : Listing → Type 0) (setting : Setting) (listing : Listing) (a b c : Progress)
    (fault : ExplainFault) → IsRight listing → fault ≡ Memory → c.written ≡ b.written
    → Explains setting (listed_names setting.question.end listing) a b → LeadsByListing {T = T} IsRight setting a c (Err fault)
list-unadded T IsRight setting listing a b c fault is memory same explained = (
  listing,
  is,
  subst (λ (f : ExplainFault). Stops setting f (listed_names setting.question.end listing) a.written c.written) (sym memory)
      (Stops-explained setting (listed_names setting.question.end listing) a b c.written explained
      (subst (λ (w : Option (List ℕ)). Keeps b.written w) (sym same) (Keeps-refl b.written))),
)

pub list-weaker : {T : Type 0} (IsRight IsOther : Listing → Type 0) (setting : Setting) (a b : Progress)
    (result : Result T ExplainFault) → ((listing : Listing) → IsRight listing → IsOther listing)
    → LeadsByListing IsRight setting a b result → LeadsByListing IsOther setting a b result
list-weaker IsRight IsOther setting a b (Ok value) weaker leads = (leads.0, weaker leads.0 leads.1, leads.2)
list-weaker IsRight IsOther setting a b (Err fault) weaker leads = (leads.0, weaker leads.0 leads.1, leads.2)

-- ---- all texts

abbrev start_progress : Option (List ℕ) → Progress
start_progress old = record { written = old; lines = []; worst = verdict.Matches }

-- a run of which nothing is explained
pub started : (old : Option (List ℕ)) (ended : Ended) → string_bytes ended.faults ≡ [] → ended.verdict ≡ verdict.Matches
    → progress_of old ended ≡ start_progress old
started old ended lines worst =
    ap (λ (l : List ℕ). let p : Progress = record { written = old; lines = l; worst = ended.verdict } in p) lines
    ∙ ap (λ (v : Verdict). let p : Progress = record { written = old; lines = []; worst = v } in p) worst

-- the given texts and those in the list are explained
pub all-explained : {T : Type 0} (setting : Setting) (list : NamedFile) (old new : Option (List ℕ)) (ended : Ended)
    (a b : Progress) (value : T) → a ≡ start_progress old → Explains setting setting.question.texts a b
    → LeadsByListing (IsListingOf list) setting b (progress_of new ended) (Ok value)
    → ExplainsTexts setting list old new (Ok ended)
all-explained setting list old new ended a b value start texts leads =
    let first = subst (λ (p : Progress). Explains setting setting.question.texts p b) start texts in
    let second = leads.2.explained in (
      leads.0,
      leads.1,
      record {
        entries = first.entries ++ second.entries;
        added = leads.2.added;
        are = entries-append setting _ _ first.entries second.entries first.are second.are;
        of_list = leads.2.of_list;
        adds = Adds-trans setting.printing (first.entries ++ second.entries) leads.2.added _ _ _
            (Adds-trans setting.printing first.entries second.entries _ _ _ first.adds second.adds) leads.2.adds;
      },
    )

-- a fault in the given texts
pub texts-stopped : (setting : Setting) (list : NamedFile) (fault : ExplainFault) (old new : Option (List ℕ))
    → Stops setting fault setting.question.texts old new → ExplainsTexts setting list old new (Err fault)
texts-stopped setting list fault old new stops =
    let some = some-listing list in
    (some.0, some.1, Stops-more setting fault setting.question.texts _ old new stops)

-- a fault in the list
pub list-stopped : (T : Type 0) (setting : Setting) (list : NamedFile) (fault : ExplainFault) (a b c : Progress)
    → Explains setting setting.question.texts a b → LeadsByListing {T = T} (IsListingOf list) setting b c (Err fault)
    → ExplainsTexts setting list a.written c.written (Err fault)
list-stopped T setting list fault a b c texts leads =
    (leads.0, leads.1, Stops-after setting fault _ _ a b c.written texts leads.2)
