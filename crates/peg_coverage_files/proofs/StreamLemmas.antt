-- The records of several streams.
use Rattle.std.proofs.Common.{◌≡◌, ◌∙◌, ℕ, ◌<◌, All, List, [], ◌∷◌, ◌++◌, Bool, true, false, Option, None, Some, IfErr, IfSome, IsErrAnd, OnOk, Result, Ok, Err, ap, get_or, length, map, refl, string_bytes, subst, suc, sym, take, zero}
use Rattle.std.proofs.lemmas.List.Elements.{All-cons, All-head, All-nil, All-tail}
use Rattle.std.specs.List.{flat_map, slice_get}
use Rattle.std.specs.declared.alloc.Global.{Global}
use Rattle.std.specs.declared.string.String.{String}
use Rattle.peg_io.specs.NamedFile.{IsMissing, NamedFile, bytes_of, is_readable}
use Rattle.peg_io.proofs.NamedFileLemmas.{no-open_error}
use Rattle.peg_records.specs.Records.{records}
use Rattle.peg_records.specs.declared.end.RecordEnd.{RecordEnd}
use Rattle.peg_record_files.proofs.StreamLemmas.{first-stream, if-known, input-stream, known, records-more, split-streams, texts-empty}
use Rattle.peg_record_files.specs.Streams.{bytes_of_streams}
use Rattle.peg_semantics.specs.Rules.{Rule}
use Rattle.peg_semantics.specs.Starts.{start_name}
use Rattle.peg_coverage_files.specs.CoverRuns.{CoversMore, EndsStream}
use Rattle.peg_coverage_files.specs.CoverTerms.{CoverTerms}
use Rattle.peg_coverage_files.specs.CoveringFaults.{IsFirst, IsLong, IsShort}
use Rattle.peg_coverage_files.specs.RecordFaults.{HasLongRecord, HasShortRecords, IsFaultOfInput, IsFaultOfNamed, IsFaultOfOpen, IsFaultOfRecords, IsFaultOfStream, IsFaultOfStreams, IsFaultOfTexts}
use Rattle.peg_coverage_files.specs.declared.cover_run.CoverRun.{CoverRun}
use Rattle.peg_coverage_files.specs.declared.covered.CoveredTexts.{CoveredTexts}
use Rattle.peg_coverage_files.specs.declared.fault.CoveringFault.{CoveringFault}
use Rattle.peg_coverage_files.specs.declared.fault.CoveringFault.TheVariants.{File, Input, NoSuchStart, TextTooLong, Memory}
use Rattle.peg_coverage_files.proofs.CoveringLemmas.{first-name}
use Rattle.peg_coverage_files.proofs.RunLemmas.{after-short, covers-none, covers-trans}

-- ---- one stream

-- the records of a stream that ends without a fault are covered
stream-covered : (terms : CoverTerms) (texts : List (List ℕ)) (a b : CoverRun) (result : Result Unit CoveringFault)
    → EndsStream terms texts a b result → OnOk result (CoversMore terms texts a.covered b.covered)
stream-covered terms texts a b (Ok done) ends = ends.0
stream-covered terms texts a b (Err fault) ends = tt

pub named-covered : (terms : CoverTerms) (end : RecordEnd) (bytes : Option (List ℕ)) (a b : CoverRun)
    (result : Result Unit CoveringFault)
    → IfSome bytes (λ stream. EndsStream terms (records end stream) a b result)
    → IfSome bytes (λ stream. OnOk result (CoversMore terms (records end stream) a.covered b.covered))
named-covered terms end bytes a b result ends =
    if-known bytes (λ stream. EndsStream terms (records end stream) a b result)
    (λ stream. OnOk result (CoversMore terms (records end stream) a.covered b.covered)) ends
    (λ stream e. stream-covered terms (records end stream) a b result e)

-- none of them is too long
pub named-short : (terms : CoverTerms) (end : RecordEnd) (file : NamedFile) (a b : CoverRun)
    (result : Result Unit CoveringFault) → ¬ IsMissing file
    → IfSome (bytes_of file) (λ stream. EndsStream terms (records end stream) a b result)
    → OnOk result (HasShortRecords end file)
named-short terms end file a b (Ok done) there ends = (
  there,
  if-known (bytes_of file) (λ stream. EndsStream terms (records end stream) a b (Ok done))
      (λ stream. All IsShort (records end stream)) ends (λ stream e. e.1),
)
named-short terms end file a b (Err fault) there ends = tt

-- the fault of an open file is a fault of its text
pub named-fault : (terms : CoverTerms) (end : RecordEnd) (file_at : List ℕ → NamedFile) (name : List ℕ)
    (start : Option (List ℕ)) (never : Bool) (a b : CoverRun) (result : Result Unit CoveringFault)
    → ¬ IsMissing (file_at name) → (is_readable (file_at name) ≡ true → never ≡ true)
    → start_name terms.rules start ≡ Some terms.start → IfErr result (IsFaultOfOpen terms.rules start name never)
    → IfSome (bytes_of (file_at name)) (λ stream. EndsStream terms (records end stream) a b result)
    → IfErr result (IsFaultOfNamed end file_at name)
named-fault terms end file_at name start never a b (Ok done) there sure from is ends = tt
named-fault terms end file_at name start never a b (Err (File unread kind)) there sure from is ends =
    (is.0, unsure (is_readable (file_at name)) refl, no-open_error (file_at name) (λ error. kind ≡ error) there)
  where
    unsure : (b : Bool) → is_readable (file_at name) ≡ b → b ≡ false
    unsure true readable = sym (sure readable) ∙ is.1
    unsure false readable = refl
named-fault terms end file_at name start never a b (Err Input) there sure from is ends = is
named-fault terms end file_at name start never a b (Err NoSuchStart) there sure from is ends =
    let bad : None ≡ Some terms.start = sym is ∙ from in cc
named-fault terms end file_at name start never a b (Err TextTooLong) there sure from is ends = (there, ends)
named-fault terms end file_at name start never a b (Err Memory) there sure from is ends = tt

-- the fault of an input
pub input-fault : (terms : CoverTerms) (end : RecordEnd) (bytes : Option (List ℕ)) (start : Option (List ℕ))
    (a b : CoverRun) (result : Result Unit CoveringFault) → start_name terms.rules start ≡ Some terms.start
    → IfErr result (IsFaultOfStream terms.rules start)
    → IfSome bytes (λ stream. EndsStream terms (records end stream) a b result)
    → IfErr result (IsFaultOfInput end bytes)
input-fault terms end bytes start a b (Ok done) from is ends = tt
input-fault terms end bytes start a b (Err (File unread kind)) from is ends = is
input-fault terms end bytes start a b (Err Input) from is ends = tt
input-fault terms end bytes start a b (Err NoSuchStart) from is ends =
    let bad : None ≡ Some terms.start = sym is ∙ from in cc
input-fault terms end bytes start a b (Err TextTooLong) from is ends = ends
input-fault terms end bytes start a b (Err Memory) from is ends = tt

-- ---- several streams

-- no stream is read
pub texts-none : (terms : CoverTerms) (end : RecordEnd) (f : List ℕ → Option (List ℕ)) (a : CoveredTexts)
    (streams : List (List ℕ)) → map f [] ≡ map Some streams → CoversMore terms (flat_map (records end) streams) a a
texts-none terms end f a streams is =
    subst (λ (l : List (List ℕ)). CoversMore terms (flat_map (records end) l) a a) (sym (texts-empty f streams is))
    (covers-none terms a)

-- one more stream is read
pub texts-more : (terms : CoverTerms) (end : RecordEnd) (f : List ℕ → Option (List ℕ)) (names : List (List ℕ))
    (name : List ℕ) (a b c : CoveredTexts)
    → ((streams : List (List ℕ)) → map f names ≡ map Some streams
    → CoversMore terms (flat_map (records end) streams) a b)
    → IfSome (f name) (λ stream. CoversMore terms (records end stream) b c)
    → (streams : List (List ℕ)) → map f (names ++ name ∷ []) ≡ map Some streams
    → CoversMore terms (flat_map (records end) streams) a c
texts-more terms end f names name a b c done more streams are =
    let split = split-streams f names (name ∷ []) streams are in
    let last = first-stream f name [] split.1 split.4 in
    let none = texts-empty f last.1 last.4 in
    let next = known (f name) last.0 (λ stream. CoversMore terms (records end stream) b c) last.3 more in
    let all = covers-trans terms (flat_map (records end) split.0) (records end last.0) a b c (done split.0 split.3) next in
    subst (λ (l : List (List ℕ)). CoversMore terms l a c)
    (sym (ap (flat_map (records end)) (split.2 ∙ ap (λ (l : List (List ℕ)). split.0 ++ l) (last.2
    ∙ ap (λ (l : List (List ℕ)). last.0 ∷ l) none)) ∙ records-more end split.0 last.0)) all

-- a fault of the first text that has one is a fault of the texts
pub texts-fault : (end : RecordEnd) (file_at : List ℕ → NamedFile) (names : List (String Global)) (i : ℕ)
    (name : String Global) (fault : CoveringFault) → i < length names → name ≡ get_or names i name
    → All (λ (n : List ℕ). HasShortRecords end (file_at n)) (map string_bytes (take i names))
    → IsFaultOfNamed end file_at (string_bytes name) fault → IsFaultOfTexts end file_at (map string_bytes names) fault
texts-fault end file_at names i name (File unread kind) within is before fault =
    first-name (λ n. HasShortRecords end (file_at n)) (λ n. IsFaultOfNamed end file_at n (File unread kind)) names i name
    within is before fault
texts-fault end file_at names i name Input within is before fault = fault
texts-fault end file_at names i name NoSuchStart within is before fault = fault
texts-fault end file_at names i name TextTooLong within is before fault =
    first-name (λ n. HasShortRecords end (file_at n)) (λ n. IsFaultOfNamed end file_at n TextTooLong) names i name
    within is before fault
texts-fault end file_at names i name Memory within is before fault = tt

-- ---- a query

-- the records of an input are those of a query without names
pub input-covered : (terms : CoverTerms) (end : RecordEnd) (file_at : List ℕ → NamedFile) (input : Option (List ℕ))
    (names streams : List (List ℕ)) (a b : CoverRun) (result : Result Unit CoveringFault) → names ≡ []
    → bytes_of_streams file_at input names ≡ map Some streams
    → IfSome input (λ stream. EndsStream terms (records end stream) a b result)
    → OnOk result (CoversMore terms (flat_map (records end) streams) a.covered b.covered)
input-covered terms end file_at input names streams a b result none are ends =
    let one = input-stream end file_at input names streams none are in
    let covers = known input one.0 (λ stream. EndsStream terms (records end stream) a b result) one.1 ends in
    subst (λ (l : List (List ℕ)). OnOk result (CoversMore terms l a.covered b.covered)) (sym one.2)
    (stream-covered terms (records end one.0) a b result covers)

-- without names the fault is that of the input
pub alone-fault : (end : RecordEnd) (file_at : List ℕ → NamedFile) (input : Option (List ℕ)) (names : List (List ℕ))
    (result : Result Unit CoveringFault) → names ≡ [] → IfErr result (IsFaultOfInput end input)
    → IfErr result (IsFaultOfStreams end file_at input names)
alone-fault end file_at input names result none is =
    subst (λ (l : List (List ℕ)). IfErr result (IsFaultOfStreams end file_at input l)) (sym none) is

-- with names it is that of a text
pub named-faults : (end : RecordEnd) (file_at : List ℕ → NamedFile) (input : Option (List ℕ)) (names : List (List ℕ))
    (result : Result Unit CoveringFault) → ¬ (names ≡ []) → IfErr result (IsFaultOfTexts end file_at names)
    → IfErr result (IsFaultOfStreams end file_at input names)
named-faults end file_at input [] result some is = absurd (some refl)
named-faults end file_at input (name ∷ names) (Ok done) some is = tt
named-faults end file_at input (name ∷ names) (Err fault) some is = is

-- ---- the first record that is too long

-- it is the first of more records
before-others : (texts others : List (List ℕ)) (index : ℕ) (text : List ℕ) → slice_get texts index ≡ Some text
    → All IsShort (take index texts) → IsLong text → IsFirst IsShort IsLong (texts ++ others)
before-others [] others index text here before long = let bad : None ≡ Some text = here in cc
before-others (first ∷ texts) others zero text here before long = record {
  index = 0;
  element = text;
  here = here;
  before = All-nil IsShort;
  is = long;
}
before-others (first ∷ texts) others (suc index) text here before long =
    let rest = before-others texts others index text here (All-tail IsShort first (take index texts) before) long in
    record {
      index = suc rest.index;
      element = rest.element;
      here = rest.here;
      before = All-cons IsShort first (take rest.index (texts ++ others)) (All-head IsShort first (take index texts) before)
          rest.before;
      is = rest.is;
    }

-- it is in the first text that has one
named-long : (end : RecordEnd) (file_at : List ℕ → NamedFile) (names streams : List (List ℕ)) (index : ℕ) (name : List ℕ)
    → map (λ (n : List ℕ). bytes_of (file_at n)) names ≡ map Some streams → slice_get names index ≡ Some name
    → All (λ (n : List ℕ). HasShortRecords end (file_at n)) (take index names) → HasLongRecord end (file_at name)
    → IsFirst IsShort IsLong (flat_map (records end) streams)
named-long end file_at [] streams index name are here before long = let bad : None ≡ Some name = here in cc
named-long end file_at (first ∷ names) streams zero name are here before long =
    let f = λ (n : List ℕ). bytes_of (file_at n) in
    let one = first-stream f first names streams are in
    let is : first ≡ name = let both : Some first ≡ Some name = here in cc in
    let found = known (f first) one.0 (λ bytes. IsFirst IsShort IsLong (records end bytes)) one.3
    (subst (λ (n : List ℕ). IfSome (f n) (λ bytes. IsFirst IsShort IsLong (records end bytes))) (sym is) long.1) in
    subst (λ (l : List (List ℕ)). IsFirst IsShort IsLong (flat_map (records end) l)) (sym one.2)
    (before-others (records end one.0) (flat_map (records end) one.1) found.index found.element found.here found.before
    found.is)
named-long end file_at (first ∷ names) streams (suc index) name are here before long =
    let f = λ (n : List ℕ). bytes_of (file_at n) in
    let Short = λ (n : List ℕ). HasShortRecords end (file_at n) in
    let one = first-stream f first names streams are in
    let short = known (f first) one.0 (λ bytes. All IsShort (records end bytes)) one.3
    (All-head Short first (take index names) before).1 in
    let later = named-long end file_at names one.1 index name one.4 here (All-tail Short first (take index names) before)
    long in
    subst (λ (l : List (List ℕ)). IsFirst IsShort IsLong (flat_map (records end) l)) (sym one.2)
    (after-short (records end one.0) (flat_map (records end) one.1) short later)

-- it is the first of all records
pub streams-long : (end : RecordEnd) (file_at : List ℕ → NamedFile) (input : Option (List ℕ)) (names streams : List (List ℕ))
    → bytes_of_streams file_at input names ≡ map Some streams → IsFaultOfStreams end file_at input names TextTooLong
    → IsFirst IsShort IsLong (flat_map (records end) streams)
streams-long end file_at input [] streams are long =
    let one = input-stream end file_at input [] streams refl are in
    subst (IsFirst IsShort IsLong) (sym one.2)
    (known input one.0 (λ bytes. IsFirst IsShort IsLong (records end bytes)) one.1 long)
streams-long end file_at input (name ∷ names) streams are long =
    named-long end file_at (name ∷ names) streams long.index long.element are long.here long.before long.is

-- it isn't that of the start
pub no-start-fault : (end : RecordEnd) (file_at : List ℕ → NamedFile) (input : Option (List ℕ)) (names : List (List ℕ))
    → IsFaultOfStreams end file_at input names NoSuchStart → ⊥
no-start-fault end file_at input [] is = is
no-start-fault end file_at input (name ∷ names) is = is

-- a fault that is passed on is the one that is returned
pub stated-same : {X : Type 0} (result : Result X CoveringFault) (why stated : CoveringFault)
    → IsErrAnd result (λ fault. fault ≡ why) → result ≡ Err stated → why ≡ stated
stated-same (Ok x) why stated is same = absurd is
stated-same (Err fault) why stated is same = let found : fault ≡ stated = cc in sym is ∙ found

-- a fault of the streams of a query is a fault of its records
pub streams-fault : (rules : List Rule) (end : RecordEnd) (file_at : List ℕ → NamedFile) (input : Option (List ℕ))
    (names : List (List ℕ)) (start : Option (List ℕ)) (why : CoveringFault) → IsFaultOfStreams end file_at input names why
    → IsFaultOfRecords rules end file_at input names start why
streams-fault rules end file_at input names start (File unread kind) is = is
streams-fault rules end file_at input names start Input is = is
streams-fault rules end file_at input [] start NoSuchStart is = absurd is
streams-fault rules end file_at input (name ∷ names) start NoSuchStart is = absurd is
streams-fault rules end file_at input names start TextTooLong is = is
streams-fault rules end file_at input names start Memory is = is

-- what is true of all names is true of none
pub all-none : {T E : Type 0} (P : List ℕ → Type 0) (names : List (List ℕ)) (result : Result T E) → names ≡ []
    → OnOk result (All P names)
all-none P names (Ok x) none = subst (All P) (sym none) (All-nil P)
all-none P names (Err fault) none = tt
