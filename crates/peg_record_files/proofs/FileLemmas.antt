-- The records of several streams.
use Rattle.std.proofs.Common.{◌≡◌, ◌∙◌, ℕ, List, [], ◌∷◌, ◌++◌, Bool, true, false, Option, Some, IfSome, IfErr, Result, Ok, Err, ap, append_assoc, map, refl, subst, sym}
use Rattle.std.proofs.lemmas.Grind.{flat_map-append}
use Rattle.std.specs.Prelude.{IsErrAnd}
use Rattle.std.specs.List.{flat_map}
use Rattle.peg_io.specs.NamedFile.{IsMissing, NamedFile, is_readable}
use Rattle.peg_io.proofs.NamedFileLemmas.{no-open_error}
use Rattle.peg_records.specs.Records.{records}
use Rattle.peg_records.specs.declared.end.RecordEnd.{RecordEnd}
use Rattle.peg_record_files.specs.Faults.{IsFaultOfOpen, IsFaultOfText}
use Rattle.peg_record_files.specs.Places.{first_place}
use Rattle.peg_record_files.specs.RecordReplies.{WritesReplies}
use Rattle.peg_record_files.specs.Runs.{AddsPart, AddsReplies, LeadsTo}
use Rattle.peg_record_files.specs.declared.fault.RecordsFault.{RecordsFault}
use Rattle.peg_record_files.specs.declared.fault.RecordsFault.TheVariants as faults
use Rattle.peg_record_files.specs.declared.filter.RecordFilter.{RecordFilter}
use Rattle.peg_record_files.specs.declared.lines.RecordLines.{RecordLines}
use Rattle.peg_record_files.specs.declared.outcome.RecordOutcome.{RecordOutcome}
use Rattle.peg_record_files.specs.declared.place.RecordPlace.{RecordPlace}
use Rattle.peg_record_files.specs.declared.run.RecordRun.{RecordRun}
use Rattle.peg_record_files.proofs.ReplyLemmas.{adds-none, adds-trans, part-after, part-before, part-none}
use Rattle.peg_record_files.proofs.StreamLemmas.{first-stream, known, records-more, split-streams, texts-empty}

-- ---- what is added

-- no stream is read
pub texts-none : (IsReply : RecordPlace → (text line : List ℕ) → RecordOutcome → Type 0) (filter : RecordFilter)
    (end : RecordEnd) (f : List ℕ → Option (List ℕ)) (lines : RecordLines) (bytes : Option (List ℕ))
    (streams : List (List ℕ)) → map f [] ≡ map Some streams
    → AddsReplies IsReply filter end (flat_map (records end) streams) lines lines bytes bytes
texts-none IsReply filter end f lines bytes [] is = adds-none IsReply filter end lines bytes
texts-none IsReply filter end f lines bytes (s ∷ streams) is = let bad : [] ≡ Some s ∷ map Some streams = is in cc

-- one more stream is read
pub texts-added : (IsReply : RecordPlace → (text line : List ℕ) → RecordOutcome → Type 0) (filter : RecordFilter)
    (end : RecordEnd) (f : List ℕ → Option (List ℕ)) (names : List (List ℕ)) (name : List ℕ) (a b c : RecordLines)
    (old mid new : Option (List ℕ))
    → ((streams : List (List ℕ)) → map f names ≡ map Some streams
    → AddsReplies IsReply filter end (flat_map (records end) streams) a b old mid)
    → IfSome (f name) (λ stream. AddsReplies IsReply filter end (records end stream) b c mid new)
    → (streams : List (List ℕ)) → map f (names ++ name ∷ []) ≡ map Some streams
    → AddsReplies IsReply filter end (flat_map (records end) streams) a c old new
texts-added IsReply filter end f names name a b c old mid new done more streams are =
    let split = split-streams f names (name ∷ []) streams are in
    let last = first-stream f name [] split.1 split.4 in
    let none = texts-empty f last.1 last.4 in
    let next = known (f name) last.0 (λ stream. AddsReplies IsReply filter end (records end stream) b c mid new) last.3 more in
    let all = adds-trans IsReply filter end (flat_map (records end) split.0) (records end last.0) a b c old mid new
    (done split.0 split.3) next in
    subst (λ (l : List (List ℕ)). AddsReplies IsReply filter end l a c old new)
    (sym (ap (flat_map (records end)) (split.2 ∙ ap (λ (l : List (List ℕ)). split.0 ++ l) (last.2
    ∙ ap (λ (l : List (List ℕ)). last.0 ∷ l) none)) ∙ records-more end split.0 last.0)) all

-- a stream is read in part, and others aren't read
pub texts-part : (IsReply : RecordPlace → (text line : List ℕ) → RecordOutcome → Type 0) (filter : RecordFilter)
    (end : RecordEnd) (f : List ℕ → Option (List ℕ)) (names others : List (List ℕ)) (name : List ℕ) (a b : RecordLines)
    (old mid new : Option (List ℕ))
    → ((streams : List (List ℕ)) → map f names ≡ map Some streams
    → AddsReplies IsReply filter end (flat_map (records end) streams) a b old mid)
    → IfSome (f name) (λ stream. AddsPart IsReply filter end b.place (records end stream) mid new)
    → (streams : List (List ℕ)) → map f ((names ++ name ∷ []) ++ others) ≡ map Some streams
    → AddsPart IsReply filter end a.place (flat_map (records end) streams) old new
texts-part IsReply filter end f names others name a b old mid new done more streams are =
    let named = ap (map f) (sym (append_assoc names (name ∷ []) others)) ∙ are in
    let split = split-streams f names (name ∷ others) streams named in
    let next = first-stream f name others split.1 split.4 in
    let part = known (f name) next.0 (λ stream. AddsPart IsReply filter end b.place (records end stream) mid new) next.3 more in
    let all = part-after IsReply filter end (flat_map (records end) split.0)
    (records end next.0 ++ flat_map (records end) next.1) a b old mid new (done split.0 split.3)
    (part-before IsReply filter end b.place (records end next.0) (flat_map (records end) next.1) mid new part) in
    subst (λ (l : List (List ℕ)). AddsPart IsReply filter end a.place l old new)
    (sym (ap (flat_map (records end)) (split.2 ∙ ap (λ (l : List (List ℕ)). split.0 ++ l) next.2)
    ∙ flat_map-append (records end) split.0 (next.0 ∷ next.1))) all

-- ---- faults

-- a fault of a text that is open is a fault of the text
pub fault-of-open : {X : Type 0} (result : Result X RecordsFault) (file_at : List ℕ → NamedFile) (name : List ℕ)
    (never : Bool) → ¬ IsMissing (file_at name) → (is_readable (file_at name) ≡ true → never ≡ true)
    → IfErr result (IsFaultOfOpen name never) → IfErr result (IsFaultOfText file_at name)
fault-of-open (Ok x) file_at name never there sure is = tt
fault-of-open (Err (faults.Text text kind)) file_at name never there sure is =
    (is.0, unsure (is_readable (file_at name)) refl, no-open_error (file_at name) (λ error. kind ≡ error) there)
  where
    unsure : (b : Bool) → is_readable (file_at name) ≡ b → b ≡ false
    unsure true readable = sym (sure readable) ∙ is.1
    unsure false readable = refl
fault-of-open (Err faults.Input) file_at name never there sure is = is
fault-of-open (Err faults.Output) file_at name never there sure is = tt
fault-of-open (Err faults.Memory) file_at name never there sure is = tt

-- ---- ends that are passed on

-- what leads to a part leads to it with another fault
pub leads-error : {E : Type 0} (IsReply : RecordPlace → (text line : List ℕ) → RecordOutcome → Type 0)
    (filter : RecordFilter) (end : RecordEnd) (texts : List (List ℕ)) (a b : RecordRun) (old new : Option (List ℕ))
    (why : E) (result : Result Unit E) → IsErrAnd result (λ stated. stated ≡ why)
    → AddsPart IsReply filter end a.lines.place texts old new → LeadsTo IsReply filter end texts a b old new result
leads-error IsReply filter end texts a b old new why (Ok done) failed part = absurd failed
leads-error IsReply filter end texts a b old new why (Err fault) failed part = part

-- ---- a query

-- nothing is written if there is no memory for a run
pub writes-none : (IsReply : RecordPlace → (text line : List ℕ) → RecordOutcome → Type 0) (filter : RecordFilter) (end : RecordEnd)
    (texts : List (List ℕ)) (written : Option (List ℕ)) (why : RecordsFault) (result : Result RecordOutcome RecordsFault)
    → IsErrAnd result (λ stated. stated ≡ why) → WritesReplies IsReply filter end texts written written result
writes-none IsReply filter end texts written why (Ok worst) failed = absurd failed
writes-none IsReply filter end texts written why (Err stated) failed =
    let part = part-none IsReply filter end first_place texts written in (part.part, part.of, part.appends)
