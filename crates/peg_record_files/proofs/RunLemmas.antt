-- The records ahead of a run, and what is added for the first of them.
use Rattle.std.proofs.Common.{◌≡◌, ◌∙◌, ℕ, List, [], ◌++◌, Option, Some, Result, Ok, Err, IsErrAnd, ap, append_assoc, refl, subst, sym}
use Rattle.std.specs.Io.KnownBytes.{Appends}
use Rattle.peg_io.specs.Transfer.{AppendsProperPrefix}
use Rattle.peg_records.specs.Readers.{IsAheadOf}
use Rattle.peg_records.specs.declared.end.RecordEnd.{RecordEnd}
use Rattle.peg_record_files.specs.Runs.{AddsFirst, AddsPart, AddsReplies, LeadsFirst, LeadsTo}
use Rattle.peg_record_files.specs.declared.fault.StreamFault.{StreamFault}
use Rattle.peg_record_files.specs.declared.filter.RecordFilter.{RecordFilter}
use Rattle.peg_record_files.specs.declared.lines.RecordLines.{RecordLines}
use Rattle.peg_record_files.specs.declared.outcome.RecordOutcome.{RecordOutcome}
use Rattle.peg_record_files.specs.declared.place.RecordPlace.{RecordPlace}
use Rattle.peg_record_files.specs.declared.run.RecordRun.{RecordRun}
use Rattle.peg_record_files.proofs.ReplyLemmas.{adds-none, adds-part, adds-trans, adds-written, part-after, part-before, part-written}

-- no record is done
pub first-none : (IsReply : RecordPlace → (text line : List ℕ) → RecordOutcome → Type 0) (filter : RecordFilter) (end : RecordEnd)
    (left : List ℕ) (ahead : List (List ℕ)) (run : RecordRun) (bytes : Option (List ℕ)) → IsAheadOf run.reader left ahead
    → AddsFirst IsReply filter end left ahead run run bytes bytes
first-none IsReply filter end left ahead run bytes before = record {
  first = [];
  later = ahead;
  all = refl;
  adds = adds-none IsReply filter end run.lines bytes;
  rest = before;
}

-- some more records are done, and others are ahead
pub first-more : (IsReply : RecordPlace → (text line : List ℕ) → RecordOutcome → Type 0) (filter : RecordFilter) (end : RecordEnd)
    (left later : List ℕ) (ahead next rest : List (List ℕ)) (a b c : RecordRun) (old mid new : Option (List ℕ))
    (done : AddsFirst IsReply filter end left ahead a b old mid) → done.later ≡ next ++ rest
    → AddsReplies IsReply filter end next b.lines c.lines mid new → IsAheadOf c.reader later rest
    → AddsFirst IsReply filter end later ahead a c old new
first-more IsReply filter end left later ahead next rest a b c old mid new done is adds before = record {
  first = done.first ++ next;
  later = rest;
  all = done.all ∙ (ap (λ (l : List (List ℕ)). done.first ++ l) is ∙ sym (append_assoc done.first next rest));
  adds = adds-trans IsReply filter end done.first next a.lines b.lines c.lines old mid new done.adds adds;
  rest = before;
}

-- the records ahead of a run whose reader alone has changed
pub first-read : (IsReply : RecordPlace → (text line : List ℕ) → RecordOutcome → Type 0) (filter : RecordFilter) (end : RecordEnd)
    (left later : List ℕ) (ahead : List (List ℕ)) (a b c : RecordRun) (old new : Option (List ℕ))
    (done : AddsFirst IsReply filter end left ahead a b old new) → c.lines ≡ b.lines
    → IsAheadOf c.reader later done.later → AddsFirst IsReply filter end later ahead a c old new
first-read IsReply filter end left later ahead a b c old new done same before = record {
  first = done.first;
  later = done.later;
  all = done.all;
  adds = subst (λ (l : RecordLines). AddsReplies IsReply filter end done.first a.lines l old new) (sym same) done.adds;
  rest = before;
}

-- lines that were collected are written
pub first-written : (IsReply : RecordPlace → (text line : List ℕ) → RecordOutcome → Type 0) (filter : RecordFilter) (end : RecordEnd)
    (left : List ℕ) (ahead : List (List ℕ)) (a b c : RecordRun) (xs ys : List ℕ) (old new : Option (List ℕ)) → xs ≡ []
    → AddsFirst IsReply filter end left ahead a b (Some xs) (Some ys) → Appends old new ys
    → (c.lines.place ≡ b.lines.place) × (c.lines.outcome ≡ b.lines.outcome) → c.reader ≡ b.reader
    → AddsFirst IsReply filter end left ahead a c old new
first-written IsReply filter end left ahead a b c xs ys old new none done wrote same reader = record {
  first = done.first;
  later = done.later;
  all = done.all;
  adds = adds-written IsReply filter end done.first a.lines b.lines c.lines xs ys old new none done.adds wrote same;
  rest = subst (λ r. IsAheadOf r left done.later) (sym reader) done.rest;
}

-- a part of collected lines is written
pub first-part-written : (IsReply : RecordPlace → (text line : List ℕ) → RecordOutcome → Type 0) (filter : RecordFilter) (end : RecordEnd)
    (left : List ℕ) (ahead : List (List ℕ)) (a b : RecordRun) (xs ys : List ℕ) (old new : Option (List ℕ)) → xs ≡ []
    → AddsFirst IsReply filter end left ahead a b (Some xs) (Some ys) → AppendsProperPrefix old new ys
    → AddsPart IsReply filter end a.lines.place ahead old new
first-part-written IsReply filter end left ahead a b xs ys old new none done wrote =
    subst (λ (l : List (List ℕ)). AddsPart IsReply filter end a.lines.place l old new) (sym done.all)
    (part-after-all IsReply filter end done.first done.later a.lines b.lines xs ys old new none done.adds wrote)
  where
    part-after-all : (IsReply : RecordPlace → (text line : List ℕ) → RecordOutcome → Type 0) (filter : RecordFilter) (end : RecordEnd)
        (first later : List (List ℕ)) (a b : RecordLines) (xs ys : List ℕ) (old new : Option (List ℕ)) → xs ≡ []
        → AddsReplies IsReply filter end first a b (Some xs) (Some ys) → AppendsProperPrefix old new ys
        → AddsPart IsReply filter end a.place (first ++ later) old new
    part-after-all IsReply filter end first later a b xs ys old new none adds wrote =
        part-before IsReply filter end a.place first later old new
        (part-written IsReply filter end first a b xs ys old new none adds wrote)

-- a part after what is done
pub first-part : (IsReply : RecordPlace → (text line : List ℕ) → RecordOutcome → Type 0) (filter : RecordFilter) (end : RecordEnd)
    (left : List ℕ) (ahead : List (List ℕ)) (a b : RecordRun) (old mid new : Option (List ℕ))
    (done : AddsFirst IsReply filter end left ahead a b old mid)
    → AddsPart IsReply filter end b.lines.place done.later mid new
    → AddsPart IsReply filter end a.lines.place ahead old new
first-part IsReply filter end left ahead a b old mid new done part =
    subst (λ (l : List (List ℕ)). AddsPart IsReply filter end a.lines.place l old new) (sym done.all)
    (part-after IsReply filter end done.first done.later a.lines b.lines old mid new done.adds part)

-- what is done, as a part
pub first-as-part : (IsReply : RecordPlace → (text line : List ℕ) → RecordOutcome → Type 0) (filter : RecordFilter) (end : RecordEnd)
    (left : List ℕ) (ahead : List (List ℕ)) (a b : RecordRun) (old new : Option (List ℕ))
    → AddsFirst IsReply filter end left ahead a b old new → AddsPart IsReply filter end a.lines.place ahead old new
first-as-part IsReply filter end left ahead a b old new done =
    subst (λ (l : List (List ℕ)). AddsPart IsReply filter end a.lines.place l old new) (sym done.all)
    (adds-part IsReply filter end done.first done.later a.lines b.lines old new done.adds)

-- the last records are done
pub first-last : (IsReply : RecordPlace → (text line : List ℕ) → RecordOutcome → Type 0) (filter : RecordFilter) (end : RecordEnd)
    (left : List ℕ) (ahead : List (List ℕ)) (a b c : RecordRun) (old mid new : Option (List ℕ))
    (done : AddsFirst IsReply filter end left ahead a b old mid)
    → AddsReplies IsReply filter end done.later b.lines c.lines mid new
    → AddsReplies IsReply filter end ahead a.lines c.lines old new
first-last IsReply filter end left ahead a b c old mid new done adds =
    subst (λ (l : List (List ℕ)). AddsReplies IsReply filter end l a.lines c.lines old new) (sym done.all)
    (adds-trans IsReply filter end done.first done.later a.lines b.lines c.lines old mid new done.adds adds)

-- ---- ends

-- what is added in part before a fault
pub leads-in-part : (IsReply : RecordPlace → (text line : List ℕ) → RecordOutcome → Type 0)
    (filter : RecordFilter) (end : RecordEnd) (texts : List (List ℕ)) (a b : RecordRun) (old new : Option (List ℕ))
    (why : StreamFault) (result : Result Unit StreamFault) → IsErrAnd result (λ stated. stated ≡ why) → AddsPart IsReply filter end a.lines.place texts old new
    → LeadsTo IsReply filter end texts a b old new result
leads-in-part IsReply filter end texts a b old new why (Ok done) failed part = absurd failed
leads-in-part IsReply filter end texts a b old new why (Err fault) failed part = part

pub first-in-part : (IsReply : RecordPlace → (text line : List ℕ) → RecordOutcome → Type 0)
    (filter : RecordFilter) (end : RecordEnd) (left : List ℕ) (ahead : List (List ℕ)) (a b : RecordRun) (old new : Option (List ℕ))
    (why : StreamFault) (result : Result Unit StreamFault) → IsErrAnd result (λ stated. stated ≡ why) → AddsPart IsReply filter end a.lines.place ahead old new
    → LeadsFirst IsReply filter end left ahead a b old new result
first-in-part IsReply filter end left ahead a b old new why (Ok done) failed part = absurd failed
first-in-part IsReply filter end left ahead a b old new why (Err fault) failed part = part

-- ---- a reader alone has changed before the others

-- the last records lead to the same end as all records
pub leads-last-read : (IsReply : RecordPlace → (text line : List ℕ) → RecordOutcome → Type 0) (filter : RecordFilter) (end : RecordEnd)
    (left : List ℕ) (ahead : List (List ℕ)) (a b read c : RecordRun) (old mid new : Option (List ℕ))
    (result : Result Unit StreamFault) (done : AddsFirst IsReply filter end left ahead a b old mid) → read.lines ≡ b.lines
    → LeadsTo IsReply filter end done.later read c mid new result → LeadsTo IsReply filter end ahead a c old new result
leads-last-read IsReply filter end left ahead a b read c old mid new (Ok over) done same leads =
    first-last IsReply filter end left ahead a b c old mid new done
    (subst (λ (l : RecordLines). AddsReplies IsReply filter end done.later l c.lines mid new) same leads)
leads-last-read IsReply filter end left ahead a b read c old mid new (Err fault) done same leads =
    first-part IsReply filter end left ahead a b old mid new done
    (subst (λ (l : RecordLines). AddsPart IsReply filter end l.place done.later mid new) same leads)

-- some more records are done
pub first-trans-read : (IsReply : RecordPlace → (text line : List ℕ) → RecordOutcome → Type 0) (filter : RecordFilter) (end : RecordEnd)
    (left later : List ℕ) (ahead : List (List ℕ)) (a b read c : RecordRun) (old mid new : Option (List ℕ))
    (done : AddsFirst IsReply filter end left ahead a b old mid) → read.lines ≡ b.lines
    → AddsFirst IsReply filter end later done.later read c mid new → AddsFirst IsReply filter end later ahead a c old new
first-trans-read IsReply filter end left later ahead a b read c old mid new done same more =
    first-more IsReply filter end left later ahead more.first more.later a b c old mid new done more.all
    (subst (λ (l : RecordLines). AddsReplies IsReply filter end more.first l c.lines mid new) same more.adds) more.rest
