-- What a run over the records of a stream covers.
use Rattle.std.proofs.Common.{◌≡◌, ◌∙◌, ℕ, ◌≤◌, All, List, [], ◌∷◌, ◌++◌, Option, Some, IfErr, OnOk, Result, Ok, Err, IsErrAnd, inl, inr, ap, append-nil, append_assoc, arith, false, is_some, length, map, refl, subst, suc, sym, take, true}
use Rattle.std.proofs.lemmas.List.{map-append}
use Rattle.std.proofs.lemmas.List.Elements.{All-append, All-cons, All-head, All-nil, All-tail}
use Rattle.peg_coverage.specs.Covered.{settings_of}
use Rattle.peg_coverage.specs.CoverageParser.{IsCoverageParserOf}
use Rattle.peg_coverage.specs.declared.coverage_parser.CoverageParser.{CoverageParser}
use Rattle.peg_parser.specs.Parser.{start_named}
use Rattle.peg_semantics.specs.Rules.{Rule}
use Rattle.peg_semantics.specs.Starts.{start_name}
use Rattle.peg_records.specs.Ahead.{IsGivenFor}
use Rattle.peg_records.specs.Readers.{IsAheadOf}
use Rattle.peg_grammar.specs.Limits.{max_text_bytes}
use Rattle.peg_io.specs.declared.transfer.ReadFault.{ReadFault}
use Rattle.peg_io.specs.declared.transfer.ReadFault.TheVariants as reading
use Rattle.peg_coverage_files.specs.CoverRuns.{CoversFirst, CoversMore, EndsBlock, EndsRecord, EndsStream, IfTooLong}
use Rattle.peg_coverage_files.specs.CoverTerms.{AreTermsOf, CoverTerms}
use Rattle.peg_coverage_files.specs.CoveredTexts.{AddsText, AreCovered}
use Rattle.peg_coverage_files.specs.CoveringFaults.{IsFaultOfBytes, IsFirst, IsLong, IsShort, read_fault}
use Rattle.peg_coverage_files.specs.declared.cover_query.CoverQuery.{CoverQuery}
use Rattle.peg_coverage_files.specs.declared.cover_run.CoverRun.{CoverRun}
use Rattle.peg_coverage_files.specs.declared.covered.CoveredTexts.{CoveredTexts}
use Rattle.peg_coverage_files.specs.declared.fault.CoveringFault.{CoveringFault}
use Rattle.peg_coverage_files.specs.declared.fault.CoveringFault.TheVariants.{File, Input, NoSuchStart, TextTooLong, Memory}
use Rattle.peg_coverage_files.proofs.CoveringLemmas.{covered-more, some-of}

-- ---- texts after other texts

pub covers-none : (terms : CoverTerms) (a : CoveredTexts) → CoversMore terms [] a a
covers-none terms a = λ set prior are.
    subst (λ (texts : List (Option (List ℕ))). AreCovered terms.rules terms.start terms.settings terms.needed texts set a)
    (sym (append-nil prior)) are

pub covers-one : (terms : CoverTerms) (text : List ℕ) (a b : CoveredTexts)
    → AddsText terms.rules terms.start terms.settings terms.needed (Some text) a b → CoversMore terms (text ∷ []) a b
covers-one terms text a b adds = λ set prior are.
    covered-more terms.rules terms.start terms.settings terms.needed prior (Some text) set a b are adds

pub covers-trans : (terms : CoverTerms) (xs ys : List (List ℕ)) (a b c : CoveredTexts) → CoversMore terms xs a b
    → CoversMore terms ys b c → CoversMore terms (xs ++ ys) a c
covers-trans terms xs ys a b c first second = λ set prior are.
    let joined : (prior ++ map Some xs) ++ map Some ys ≡ prior ++ map Some (xs ++ ys) =
    append_assoc prior (map Some xs) (map Some ys)
    ∙ ap (λ (l : List (Option (List ℕ))). prior ++ l) (sym (map-append Some xs ys)) in
    subst (λ (texts : List (Option (List ℕ))). AreCovered terms.rules terms.start terms.settings terms.needed texts set c)
    joined (second set (prior ++ map Some xs) (first set prior are))

-- ---- texts that are too long

pub too-long : (A B : Type 0) (why : CoveringFault) → (A → B) → IfTooLong A why → IfTooLong B why
too-long A B (File name kind) more is = tt
too-long A B Input more is = tt
too-long A B NoSuchStart more is = tt
too-long A B TextTooLong more is = more is
too-long A B Memory more is = tt

-- ---- one record

-- the bytes that are given of a record are covered as the record
pub record-ends : (terms : CoverTerms) (named : Option (List ℕ)) (limit : ℕ) (given text : List ℕ) (a b : CoverRun)
    (result : Result Unit CoveringFault) → limit ≡ max_text_bytes → IsGivenFor limit given text
    → OnOk result (AddsText terms.rules terms.start terms.settings terms.needed (Some given) a.covered b.covered)
    → OnOk result (length given ≤ max_text_bytes) → IfErr result (IsFaultOfBytes terms.rules given named)
    → EndsRecord terms text a b result
record-ends terms named limit given text a b (Ok done) is (inl same) adds within fault = (
  covers-one terms text a.covered b.covered
      (subst (λ (l : List ℕ). AddsText terms.rules terms.start terms.settings terms.needed (Some l) a.covered b.covered)
      same adds),
  subst IsShort same within,
)
record-ends terms named limit given text a b (Ok done) is (inr long) adds within fault =
    absurd (omega (arith, is, long.0, within))
record-ends terms named limit given text a b (Err (File name kind)) is of adds within fault = tt
record-ends terms named limit given text a b (Err Input) is of adds within fault = tt
record-ends terms named limit given text a b (Err NoSuchStart) is of adds within fault = tt
record-ends terms named limit given text a b (Err TextTooLong) is (inl same) adds within fault = subst IsLong same fault
record-ends terms named limit given text a b (Err TextTooLong) is (inr long) adds within fault =
    omega (arith, is, long.1)
record-ends terms named limit given text a b (Err Memory) is of adds within fault = tt

-- ---- the records ahead of a run

pub first-none : (terms : CoverTerms) (left : List ℕ) (ahead : List (List ℕ)) (a : CoverRun)
    → IsAheadOf a.reader left ahead → CoversFirst terms left ahead a a
first-none terms left ahead a before = record {
  first = [];
  later = ahead;
  all = refl;
  covers = covers-none terms a.covered;
  short = All-nil IsShort;
  rest = before;
}

-- some more records are covered
pub first-more : (terms : CoverTerms) (left after : List ℕ) (ahead next rest : List (List ℕ)) (a b c : CoverRun)
    (done : CoversFirst terms left ahead a b) → done.later ≡ next ++ rest → CoversMore terms next b.covered c.covered
    → All IsShort next → IsAheadOf c.reader after rest → CoversFirst terms after ahead a c
first-more terms left after ahead next rest a b c done is covers short before = record {
  first = done.first ++ next;
  later = rest;
  all = done.all ∙ (ap (λ (l : List (List ℕ)). done.first ++ l) is ∙ sym (append_assoc done.first next rest));
  covers = covers-trans terms done.first next a.covered b.covered c.covered done.covers covers;
  short = All-append IsShort done.first next done.short short;
  rest = before;
}

-- the reader alone has changed
pub first-read : (terms : CoverTerms) (left after : List ℕ) (ahead : List (List ℕ)) (a b c : CoverRun)
    (done : CoversFirst terms left ahead a b) → c.covered ≡ b.covered → IsAheadOf c.reader after done.later
    → CoversFirst terms after ahead a c
first-read terms left after ahead a b c done same before = record {
  first = done.first;
  later = done.later;
  all = done.all;
  covers = subst (CoversMore terms done.first a.covered) (sym same) done.covers;
  short = done.short;
  rest = before;
}

-- the first record that is too long comes after others that aren't
pub after-short : (first later : List (List ℕ)) → All IsShort first → IsFirst IsShort IsLong later
    → IsFirst IsShort IsLong (first ++ later)
after-short [] later short long = long
after-short (text ∷ first) later short long =
    let rest = after-short first later (All-tail IsShort text first short) long in
    record {
      index = suc rest.index;
      element = rest.element;
      here = rest.here;
      before = All-cons IsShort text (take rest.index (first ++ later)) (All-head IsShort text first short) rest.before;
      is = rest.is;
    }

-- one of the records after the first ones is too long
pub first-long : (terms : CoverTerms) (left : List ℕ) (ahead : List (List ℕ)) (a b : CoverRun)
    (done : CoversFirst terms left ahead a b) → IsFirst IsShort IsLong done.later → IsFirst IsShort IsLong ahead
first-long terms left ahead a b done long =
    subst (IsFirst IsShort IsLong) (sym done.all) (after-short done.first done.later done.short long)

-- the next record is too long
pub next-long : (text : List ℕ) (rest : List (List ℕ)) → IsLong text → IsFirst IsShort IsLong (text ∷ rest)
next-long text rest long = record {
  index = 0;
  element = text;
  here = refl;
  before = All-nil IsShort;
  is = long;
}

-- the last record of a stream
pub last-ends : (terms : CoverTerms) (text : List ℕ) (a b : CoverRun) (result : Result Unit CoveringFault)
    → EndsRecord terms text a b result → EndsStream terms (text ∷ []) a b result
last-ends terms text a b (Ok done) ends = (ends.0, All-cons IsShort text [] ends.1 (All-nil IsShort))
last-ends terms text a b (Err why) ends =
    too-long (IsLong text) (IsFirst IsShort IsLong (text ∷ [])) why (next-long text []) ends

-- all records are covered once the last ones are
pub stream-ends : (terms : CoverTerms) (left : List ℕ) (ahead : List (List ℕ)) (a b c : CoverRun)
    (result : Result Unit CoveringFault) (done : CoversFirst terms left ahead a b)
    → EndsStream terms done.later b c result → EndsStream terms ahead a c result
stream-ends terms left ahead a b c (Ok end) done ends = (
  subst (λ (l : List (List ℕ)). CoversMore terms l a.covered c.covered) (sym done.all)
      (covers-trans terms done.first done.later a.covered b.covered c.covered done.covers ends.0),
  subst (All IsShort) (sym done.all) (All-append IsShort done.first done.later done.short ends.1),
)
stream-ends terms left ahead a b c (Err why) done ends =
    too-long (IsFirst IsShort IsLong done.later) (IsFirst IsShort IsLong ahead) why
    (first-long terms left ahead a b done) ends

-- ---- faults that are passed on

-- a failed read says nothing of the length of a record
pub read-ends : (Is : Type 0) (error : ReadFault) → IfTooLong Is (read_fault error)
read-ends Is reading.Device = tt
read-ends Is reading.Memory = tt

pub block-fault : (terms : CoverTerms) (left : List ℕ) (ahead : List (List ℕ)) (a b : CoverRun) (why : CoveringFault)
    (result : Result Unit CoveringFault) → IsErrAnd result (λ stated. stated ≡ why)
    → IfTooLong (IsFirst IsShort IsLong ahead) why → EndsBlock terms left ahead a b result
block-fault terms left ahead a b why (Ok done) failed is = absurd failed
block-fault terms left ahead a b why (Err stated) failed is =
    subst (IfTooLong (IsFirst IsShort IsLong ahead)) (sym failed) is

pub stream-fault : (terms : CoverTerms) (texts : List (List ℕ)) (a b : CoverRun) (why : CoveringFault)
    (result : Result Unit CoveringFault) → IsErrAnd result (λ stated. stated ≡ why)
    → IfTooLong (IsFirst IsShort IsLong texts) why → EndsStream terms texts a b result
stream-fault terms texts a b why (Ok done) failed is = absurd failed
stream-fault terms texts a b why (Err stated) failed is =
    subst (IfTooLong (IsFirst IsShort IsLong texts)) (sym failed) is

-- ---- the terms of a query

-- a query whose start is a rule has terms
pub terms-of : (parser : CoverageParser) (query : CoverQuery) (rules : List Rule) → IsCoverageParserOf rules parser
    → is_some (start_name rules (start_named query.options)) ≡ true
    → (terms : CoverTerms) × AreTermsOf parser query terms
terms-of parser query rules made known =
    let from = some-of (start_name rules (start_named query.options))
    (λ none. let bad : true ≡ false = sym known ∙ ap is_some none in cc) in
    let terms : CoverTerms = record {
      rules = rules;
      start = from.0;
      settings = settings_of query.options;
      needed = query.needed;
    } in
    let of : AreTermsOf parser query terms = record { made = made; from = from.1; settings = refl; needed = refl } in
    (terms, of)
