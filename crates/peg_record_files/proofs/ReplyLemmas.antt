-- What is written for records, one after the other.
use Rattle.std.proofs.Common.{◌≡◌, ◌∙◌, ℕ, ◌+◌, Bool, true, false, List, [], ◌∷◌, ◌++◌, Option, Some, ap, append_assoc, arith, if◌then◌else◌, length, refl, suc, subst, sym, take}
use Rattle.std.proofs.lemmas.Grind.{common_steps}
use Rattle.std.proofs.lemmas.List.{append-nil}
use Rattle.std.proofs.KnownBytes.{Appends-nil, Appends-trans}
use Rattle.std.specs.Io.KnownBytes.{Appends}
use Rattle.peg_io.specs.Transfer.{AppendsProperPrefix}
use Rattle.peg_records.specs.Records.{line_feeds_of}
use Rattle.peg_records.specs.declared.end.RecordEnd.{RecordEnd}
use Rattle.peg_record_files.specs.Places.{failures, next_place}
use Rattle.peg_record_files.specs.RecordReplies.{HaveRepliesTo, a_record, has_line, no_record, worse_outcome}
use Rattle.peg_record_files.specs.Runs.{AddsPart, AddsReplies}
use Rattle.peg_record_files.specs.declared.filter.RecordFilter.{RecordFilter}
use Rattle.peg_record_files.specs.declared.lines.RecordLines.{RecordLines}
use Rattle.peg_record_files.specs.declared.outcome.RecordOutcome.{RecordOutcome}
use Rattle.peg_record_files.specs.declared.place.RecordPlace.{RecordPlace}
use Rattle.peg_record_files.specs.declared.outcome.RecordOutcome.TheVariants.{Matches, Differs, Refused}

-- ---- outcomes

pub worse-none : (a : RecordOutcome) → worse_outcome a Matches ≡ a
worse-none Matches = refl
worse-none Differs = refl
worse-none Refused = refl

pub worse-assoc : (a b c : RecordOutcome) → worse_outcome (worse_outcome a b) c ≡ worse_outcome a (worse_outcome b c)
worse-assoc Matches b c = refl
worse-assoc Differs Matches c = refl
worse-assoc Differs Differs Matches = refl
worse-assoc Differs Differs Differs = refl
worse-assoc Differs Differs Refused = refl
worse-assoc Differs Refused c = refl
worse-assoc Refused b c = refl

-- ---- places

-- the place after a record with this many line feeds
pub place-next : (end : RecordEnd) (place after : RecordPlace) (text : List ℕ) (line_feeds : ℕ) (outcome : RecordOutcome)
    → after.number ≡ place.number + 1 → after.line_feeds ≡ place.line_feeds + line_feeds
    → after.failed ≡ place.failed + failures outcome → line_feeds ≡ line_feeds_of end text
    → after ≡ next_place end place text outcome
place-next end place after text line_feeds outcome number feeds failed is = λ i. record {
  number = number i;
  line_feeds = (feeds ∙ ap (λ n. place.line_feeds + n) is) i;
  failed = failed i;
}

-- ---- what is written

-- what is written for the first records and for the others
pub replies-append : (IsReply : RecordPlace → (text line : List ℕ) → RecordOutcome → Type 0) (filter : RecordFilter) (end : RecordEnd)
    (place next after : RecordPlace) (xs ys : List (List ℕ)) (written more : List ℕ) (worst worse : RecordOutcome)
    → HaveRepliesTo IsReply filter end place xs written worst next
    → HaveRepliesTo IsReply filter end next ys more worse after
    → HaveRepliesTo IsReply filter end place (xs ++ ys) (written ++ more) (worse_outcome worst worse) after
replies-append IsReply filter end place next after [] ys written more worst worse no_record others = others
replies-append IsReply filter end place next after (x ∷ xs) ys written more worst worse
    (a_record {line} {later} {outcome} {worst = rest} reply replies) others =
    let shown = if has_line filter outcome then line else [] in
    let all = a_record reply
    (replies-append IsReply filter end (next_place end place x outcome) next after xs ys later more rest worse replies others) in
    subst (λ (l : List ℕ). HaveRepliesTo IsReply filter end place (x ∷ (xs ++ ys)) l
    (worse_outcome (worse_outcome outcome rest) worse) after) (sym (append_assoc shown later more))
    (subst (λ (o : RecordOutcome). HaveRepliesTo IsReply filter end place (x ∷ (xs ++ ys)) (shown ++ (later ++ more)) o after)
    (sym (worse-assoc outcome rest worse)) all)

-- ---- what is added

pub adds-none : (IsReply : RecordPlace → (text line : List ℕ) → RecordOutcome → Type 0) (filter : RecordFilter) (end : RecordEnd)
    (lines : RecordLines) (bytes : Option (List ℕ)) → AddsReplies IsReply filter end [] lines lines bytes bytes
adds-none IsReply filter end lines bytes = record {
  written = [];
  worst = Matches;
  replies = no_record;
  appends = Appends-nil bytes;
  outcome = sym (worse-none lines.outcome);
}

pub adds-trans : (IsReply : RecordPlace → (text line : List ℕ) → RecordOutcome → Type 0) (filter : RecordFilter) (end : RecordEnd)
    (xs ys : List (List ℕ)) (a b c : RecordLines) (old mid new : Option (List ℕ))
    → AddsReplies IsReply filter end xs a b old mid → AddsReplies IsReply filter end ys b c mid new
    → AddsReplies IsReply filter end (xs ++ ys) a c old new
adds-trans IsReply filter end xs ys a b c old mid new first second = record {
  written = first.written ++ second.written;
  worst = worse_outcome first.worst second.worst;
  replies = replies-append IsReply filter end a.place b.place c.place xs ys first.written second.written first.worst
      second.worst first.replies second.replies;
  appends = Appends-trans old mid new first.written second.written first.appends second.appends;
  outcome = second.outcome ∙ (ap (λ o. worse_outcome o second.worst) first.outcome
      ∙ worse-assoc a.outcome first.worst second.worst);
}

-- a line that is kept only if it is shown
kept-line : (shown : Bool) (before line after : List ℕ) (len : ℕ) → len ≡ length before
    → after ≡ (if shown then before ++ line else take len (before ++ line))
    → after ≡ before ++ (if shown then line else [])
kept-line true before line after len is kept = kept
kept-line false before line after len is kept = grind (arith, common_steps, is, kept)

-- the line of one record is added
pub adds-one : (IsReply : RecordPlace → (text line : List ℕ) → RecordOutcome → Type 0) (filter : RecordFilter) (end : RecordEnd)
    (text line pushed : List ℕ) (len : ℕ) (shown : Bool) (outcome : RecordOutcome) (before after : RecordLines)
    → IsReply before.place text line outcome → pushed ≡ before.lines.items ++ line → len ≡ length before.lines.items
    → shown ≡ has_line filter outcome
    → after.lines.items ≡ (if shown then pushed else take len pushed)
    → after.outcome ≡ worse_outcome before.outcome outcome → after.place ≡ next_place end before.place text outcome
    → AddsReplies IsReply filter end (text ∷ []) before after (Some before.lines.items) (Some after.lines.items)
adds-one IsReply filter end text line pushed len shown outcome before after reply is size shows kept worst place =
    let items = kept-line shown before.lines.items line after.lines.items len size
    (subst (λ (l : List ℕ). after.lines.items ≡ (if shown then l else take len l)) is kept) in
    let some = subst (λ (b : Bool). after.lines.items ≡ before.lines.items ++ (if b then line else [])) shows items in
    record {
      written = (if has_line filter outcome then line else []) ++ [];
      worst = worse_outcome outcome Matches;
      replies = subst (λ (p : RecordPlace). HaveRepliesTo IsReply filter end before.place (text ∷ [])
          ((if has_line filter outcome then line else []) ++ []) (worse_outcome outcome Matches) p) (sym place)
          (a_record reply no_record);
      appends = some ∙ ap (λ (l : List ℕ). before.lines.items ++ l) (sym (append-nil (if has_line filter outcome then line else [])));
      outcome = worst ∙ ap (worse_outcome before.outcome) (sym (worse-none outcome));
    }

-- lines that were collected are written
pub adds-written : (IsReply : RecordPlace → (text line : List ℕ) → RecordOutcome → Type 0) (filter : RecordFilter) (end : RecordEnd)
    (texts : List (List ℕ)) (a b c : RecordLines) (xs ys : List ℕ) (old new : Option (List ℕ)) → xs ≡ []
    → AddsReplies IsReply filter end texts a b (Some xs) (Some ys) → Appends old new ys
    → (c.place ≡ b.place) × (c.outcome ≡ b.outcome) → AddsReplies IsReply filter end texts a c old new
adds-written IsReply filter end texts a b c xs ys old new none adds wrote same = record {
  written = adds.written;
  worst = adds.worst;
  replies = subst (λ (p : RecordPlace). HaveRepliesTo IsReply filter end a.place texts adds.written adds.worst p)
      (sym same.0) adds.replies;
  appends = subst (Appends old new) (adds.appends ∙ ap (λ (l : List ℕ). l ++ adds.written) none) wrote;
  outcome = same.1 ∙ adds.outcome;
}

-- ---- parts

-- nothing is written
pub part-none : (IsReply : RecordPlace → (text line : List ℕ) → RecordOutcome → Type 0) (filter : RecordFilter) (end : RecordEnd)
    (place : RecordPlace) (texts : List (List ℕ)) (bytes : Option (List ℕ)) → AddsPart IsReply filter end place texts bytes bytes
part-none IsReply filter end place texts bytes = record {
  part = [];
  of = record {
    first = [];
    later = texts;
    all = refl;
    written = [];
    worst = Matches;
    replies = (place, no_record);
    count = 0;
    is = refl;
  };
  appends = Appends-nil bytes;
}

take-past : (written more : List ℕ) (n : ℕ) → take (length written + n) (written ++ more) ≡ written ++ take n more
take-past [] more n = ap (λ k. take k more) (omega arith)
take-past (x ∷ written) more n =
    let next : length (x ∷ written) + n ≡ suc (length written + n) = omega arith in
    ap (λ k. take k (x ∷ (written ++ more))) next ∙ ap (λ (l : List ℕ). x ∷ l) (take-past written more n)

-- a part after the first records
pub part-after : (IsReply : RecordPlace → (text line : List ℕ) → RecordOutcome → Type 0) (filter : RecordFilter) (end : RecordEnd)
    (xs ys : List (List ℕ)) (a b : RecordLines) (old mid new : Option (List ℕ))
    → AddsReplies IsReply filter end xs a b old mid → AddsPart IsReply filter end b.place ys mid new
    → AddsPart IsReply filter end a.place (xs ++ ys) old new
part-after IsReply filter end xs ys a b old mid new first second = record {
  part = first.written ++ second.part;
  of = record {
    first = xs ++ second.of.first;
    later = second.of.later;
    all = ap (λ (l : List (List ℕ)). xs ++ l) second.of.all ∙ sym (append_assoc xs second.of.first second.of.later);
    written = first.written ++ second.of.written;
    worst = worse_outcome first.worst second.of.worst;
    replies = (
      second.of.replies.0,
      replies-append IsReply filter end a.place b.place second.of.replies.0 xs second.of.first first.written
          second.of.written first.worst second.of.worst first.replies second.of.replies.1,
    );
    count = length first.written + second.of.count;
    is = ap (λ (l : List ℕ). first.written ++ l) second.of.is
        ∙ sym (take-past first.written second.of.written second.of.count);
  };
  appends = Appends-trans old mid new first.written second.part first.appends second.appends;
}

-- more records may follow a part
pub part-before : (IsReply : RecordPlace → (text line : List ℕ) → RecordOutcome → Type 0) (filter : RecordFilter) (end : RecordEnd)
    (place : RecordPlace) (xs ys : List (List ℕ)) (old new : Option (List ℕ)) → AddsPart IsReply filter end place xs old new
    → AddsPart IsReply filter end place (xs ++ ys) old new
part-before IsReply filter end place xs ys old new part = record {
  part = part.part;
  of = record {
    first = part.of.first;
    later = part.of.later ++ ys;
    all = ap (λ (l : List (List ℕ)). l ++ ys) part.of.all ∙ append_assoc part.of.first part.of.later ys;
    written = part.of.written;
    worst = part.of.worst;
    replies = part.of.replies;
    count = part.of.count;
    is = part.of.is;
  };
  appends = part.appends;
}

-- what is added for the first records, as a part
pub adds-part : (IsReply : RecordPlace → (text line : List ℕ) → RecordOutcome → Type 0) (filter : RecordFilter) (end : RecordEnd)
    (xs ys : List (List ℕ)) (a b : RecordLines) (old new : Option (List ℕ)) → AddsReplies IsReply filter end xs a b old new
    → AddsPart IsReply filter end a.place (xs ++ ys) old new
adds-part IsReply filter end xs ys a b old new adds =
    part-after IsReply filter end xs ys a b old new new adds (part-none IsReply filter end b.place ys new)

-- a part of collected lines is written
pub part-written : (IsReply : RecordPlace → (text line : List ℕ) → RecordOutcome → Type 0) (filter : RecordFilter) (end : RecordEnd)
    (texts : List (List ℕ)) (a b : RecordLines) (xs ys : List ℕ) (old new : Option (List ℕ)) → xs ≡ []
    → AddsReplies IsReply filter end texts a b (Some xs) (Some ys) → AppendsProperPrefix old new ys
    → AddsPart IsReply filter end a.place texts old new
part-written IsReply filter end texts a b xs ys old new none adds wrote = record {
  part = take wrote.0 ys;
  of = record {
    first = texts;
    later = [];
    all = sym (append-nil texts);
    written = adds.written;
    worst = adds.worst;
    replies = (b.place, adds.replies);
    count = wrote.0;
    is = ap (take wrote.0) (adds.appends ∙ ap (λ (l : List ℕ). l ++ adds.written) none);
  };
  appends = wrote.2;
}
