-- The texts in files, and what they use.
use Rattle.std.proofs.Common.{◌≡◌, ◌↔◌, ◌∙◌, ℕ, zero, suc, ◌+◌, ◌<◌, ◌≤◌, ◌++◌, inl, inr, All, Bool, true, false, ◌||◌, List, [], ◌∷◌}
use Rattle.std.proofs.Common.{Option, None, Some, IfSome, add-one, ap, arith, cond, count_by, filter, get_or, length, length-append, map, not, option_map, refl, slice_index_or, string_bytes}
use Rattle.std.proofs.Common.{IfErr, IfOk, OnErr, OnOk, Result, Ok, Err, subst, sym, take}
use Rattle.std.specs.Prelude.{IsErrAnd}
use Rattle.std.proofs.Math.Seq.{take-suc}
use Rattle.std.proofs.lemmas.List.{length-map, map-append, take-map, take_all}
use Rattle.std.proofs.lemmas.Bool.{cases_lt, false≢true}
use Rattle.std.proofs.lemmas.Option.{slice_get-get_or, slice_get-map}
use Rattle.std.proofs.lemmas.List.Elements.{All-cons, All-filter, All-head, All-map, All-nil, All-push, All-tail, filter-append}
use Rattle.std.proofs.lemmas.List.FromFn.{get_or-range_with_len, length-range_with_len}
use Rattle.std.proofs.lemmas.List.Folds.{list_any-append}
use Rattle.std.proofs.lemmas.List.Sums.{sum_by_push}
use Rattle.std.specs.List.{enumerate_from, list_any, range_with_len}
use Rattle.std.specs.declared.alloc.Global.{Global}
use Rattle.std.specs.declared.string.String.{String}
use Rattle.peg_coverage.specs.Covered.{Ended, HasCovered, HaveCovered, IsOutcomeOf, IsParsed, ParsedText, ParseSettings}
use Rattle.peg_coverage.specs.Covered.{Stopped, TextOutcome}
use Rattle.peg_coverage.specs.Covered.{AreParsed, IsAttemptIn, has_noted, is_enough, is_made, is_match, is_stopped, makes}
use Rattle.peg_coverage.specs.Covered.{stopped_numbers}
use Rattle.peg_coverage.specs.Steps.{IsWithinSteps}
use Rattle.peg_coverage.specs.Unused.{RuleUse, rule_use, unmatched, unused_alternatives, unused_rules}
use Rattle.peg_coverage.specs.declared.coverage.UnusedRule.{UnusedRule}
use Rattle.peg_coverage.specs.declared.text_match.RequiredMatch.{RequiredMatch}
use Rattle.peg_coverage.specs.declared.text_match.TextMatch.{TextMatch}
use Rattle.peg_diagnostics.specs.Attempts.{Attempt, TriedRule, MatchedRule, TriedAlternative, MatchedAlternative}
use Rattle.peg_diagnostics.specs.Attempts.{shown_by}
use Rattle.peg_diagnostics.specs.Marked.{alternatives_of_rules, extents_of_alternatives, marked_rules}
use Rattle.peg_diagnostics.proofs.MarkBounds.{length-extents_of_rules}
use Rattle.peg_bytes.specs.Extent.{Extent, between}
use Rattle.peg_coverage_files.specs.CoveredTexts.{AddsText, AreCovered, HasCoveredText, IsReadFault, IsReadOf}
use Rattle.peg_coverage_files.specs.CoveringFaults.{IsFaultOf, IsFaultOfBytes, IsFaultOfText, IsFirst, IsParsable}
use Rattle.peg_coverage_files.specs.NamedTexts.{files_named, texts_in}
use Rattle.peg_coverage_files.specs.TextEnds.{end_of, end_of_parse, ended_by, matches_of, stops_of}
use Rattle.peg_coverage_files.specs.declared.counts.TextEnd.{TextEnd}
use Rattle.peg_coverage_files.specs.declared.covered.CoveredTexts.{CoveredTexts}
use Rattle.peg_coverage_files.specs.declared.fault.CoveringFault.{CoveringFault}
use Rattle.peg_coverage_files.specs.declared.fault.CoveringFault.TheVariants as covering
use Rattle.peg_grammar.specs.Limits.{max_text_bytes}
use Rattle.peg_parser.specs.ParseContract.{HasParseFaults}
use Rattle.peg_semantics.specs.Starts.{start_name}
use Rattle.peg_parser.specs.StepLimits.{TakesMoreSteps}
use Rattle.peg_parser.specs.declared.parser.ParseFault.{ParseFault}
use Rattle.peg_parser.specs.declared.parser.ParseFault.TheVariants as parse
use Rattle.peg_io.specs.NamedFile.{IsMissing, NamedFile, bytes_of, is_readable, open_error}
use Rattle.peg_io.proofs.NamedFileLemmas.{no-open_error}
use Rattle.peg_semantics.specs.Rules.{Rule}
use Rattle.peg_tree.specs.Selected.{has_rule}

-- ---- what is read of a file

-- the fault of a file that was opened
pub read-fault : {X : Type 0} (result : Result X CoveringFault) (name : List ℕ) (file : NamedFile) (never : Bool)
    → ¬ IsMissing file → (is_readable file ≡ true → never ≡ true) → IfErr result (IsReadFault name never None)
    → IfErr result (IsReadFault name (is_readable file) (open_error file))
read-fault (Ok x) name file never there sure is = tt
read-fault (Err (covering.File unread kind)) name file never there sure is =
    (is.0, unsure (is_readable file) refl, no-open_error file (λ error. kind ≡ error) there)
  where
    unsure : (b : Bool) → is_readable file ≡ b → b ≡ false
    unsure true readable = sym (sure readable) ∙ is.1
    unsure false readable = refl
read-fault (Err covering.Input) name file never there sure is = is
read-fault (Err covering.NoSuchStart) name file never there sure is = is
read-fault (Err covering.TextTooLong) name file never there sure is = is
read-fault (Err covering.Memory) name file never there sure is = tt

-- what is true of the bytes read is true of the file
pub of-known : (known : Option (List ℕ)) (held : List ℕ) (P : List ℕ → Type 0) → IfSome known (λ bytes. bytes ≡ held)
    → P held → IfSome known P
of-known None held P same p = tt
of-known (Some bytes) held P same p = subst P (sym same) p

-- ---- one text

pub some-of : (o : Option (List ℕ)) → ¬ (o ≡ None) → (x : List ℕ) × (o ≡ Some x)
some-of None none = absurd (none refl)
some-of (Some x) none = (x, refl)

-- a text that isn't too long is read as a whole
whole-text : (known : Option (List ℕ)) (text : List ℕ) (covered : Result TextMatch ParseFault) → IsReadOf known text
    → (covered ≡ Err parse.TextTooLong) ↔ (max_text_bytes < length text) → ¬ (covered ≡ Err parse.TextTooLong)
    → IfSome known (λ bytes. bytes ≡ text)
whole-text known text covered read long not_long =
    let over : ¬ (max_text_bytes < length text) = λ more. not_long (long.1 more) in
    read.whole (omega (arith, over))

-- what the text in a file adds to a set
pub text-covered : (rules : List Rule) (start : List ℕ) (settings : ParseSettings) (needed : RequiredMatch)
    (known : Option (List ℕ)) (text : List ℕ) (before after : List Bool) (covered : Result TextMatch ParseFault)
    → IsReadOf known text → (covered ≡ Err parse.TextTooLong) ↔ (max_text_bytes < length text)
    → IfOk covered (HasCovered rules text start before after) → OnErr covered (after ≡ before)
    → (covered ≡ Err parse.StepLimit → TakesMoreSteps (marked_rules rules) text settings.start settings.steps)
    → (settings.memo ≡ 0 → OnOk covered (¬ TakesMoreSteps (marked_rules rules) text settings.start settings.steps))
    → OnOk covered (IsWithinSteps (marked_rules rules) text start settings.steps)
    → IfOk (end_of_parse needed covered) (HasCoveredText rules start settings needed known before after)
text-covered rules start settings needed known text before after (Ok found) read long covered same limited enough within =
    let outcome = Ended found covered.1 in (
      record { text = known; outcome = outcome },
      refl,
      of-known known text (λ bytes. IsOutcomeOf rules start settings bytes outcome)
          (whole-text known text (Ok found) read long (λ bad. cc)) ((covered.0, covered.2, covered.3), enough, within),
      refl,
      covered.4,
    )
text-covered rules start settings needed known text before after (Err parse.NoSuchStart) read long covered same limited enough within =
    tt
text-covered rules start settings needed known text before after (Err parse.TextTooLong) read long covered same limited enough within =
    tt
text-covered rules start settings needed known text before after (Err parse.StepLimit) read long covered same limited enough within = (
  record { text = known; outcome = Stopped },
  refl,
  of-known known text (λ bytes. IsOutcomeOf rules start settings bytes Stopped)
      (whole-text known text (Err parse.StepLimit) read long (λ bad. cc)) (limited refl),
  refl,
  λ attempt inside. ap (λ (set : List Bool). has_noted rules set attempt) same,
)
text-covered rules start settings needed known text before after (Err parse.Memory) read long covered same limited enough within = tt

-- a text whose parse doesn't refuse it isn't too long
pub short-parsed : (rules : List Rule) (text : List ℕ) (named : Option (List ℕ)) (needed : RequiredMatch)
    (covered : Result TextMatch ParseFault) → HasParseFaults rules text named covered
    → OnOk (end_of_parse needed covered) (length text ≤ max_text_bytes)
short-parsed rules text named needed covered faults = by covered refl
  where
    allowed : ¬ (covered ≡ Err parse.NoSuchStart) → ¬ (covered ≡ Err parse.TextTooLong)
        → length text ≤ max_text_bytes
    allowed known short =
        let from = some-of (start_name rules named) (λ none. known (faults.no_start.1 none)) in
        elim (cases_lt max_text_bytes (length text)) [
          | inl over ↦ absurd (short ((faults.long from.0 from.1).1 over))
          | inr within ↦ within
        ]

    by : (found : Result TextMatch ParseFault) → covered ≡ found
        → OnOk (end_of_parse needed found) (length text ≤ max_text_bytes)
    by (Ok found) is = allowed (λ bad. cc) (λ bad. cc)
    by (Err parse.NoSuchStart) is = tt
    by (Err parse.TextTooLong) is = tt
    by (Err parse.StepLimit) is = allowed (λ bad. cc) (λ bad. cc)
    by (Err parse.Memory) is = tt

-- a fault of a parse is true of the text or of the start
pub fault-parsed : (rules : List Rule) (text : List ℕ) (named : Option (List ℕ)) (needed : RequiredMatch)
    (covered : Result TextMatch ParseFault) → HasParseFaults rules text named covered
    → IfErr (end_of_parse needed covered) (IsFaultOfBytes rules text named)
fault-parsed rules text named needed covered faults = by covered refl
  where
    by : (found : Result TextMatch ParseFault) → covered ≡ found
        → IfErr (end_of_parse needed found) (IsFaultOfBytes rules text named)
    by (Ok found) is = tt
    by (Err parse.NoSuchStart) is = faults.no_start.0 is
    by (Err parse.TextTooLong) is =
        let from = some-of (start_name rules named) (λ none. let bad = faults.no_start.1 none in cc) in
        (faults.long from.0 from.1).0 is
    by (Err parse.StepLimit) is = tt
    by (Err parse.Memory) is = tt

-- the bytes in memory are those of a text that is read from memory
pub read-same : (text : List ℕ) → IsReadOf (Some text) text
read-same text = record { longer = λ more. more; whole = λ within. refl }

-- what is covered of the bytes that are read of a file is covered of the file
pub adds-known : (rules : List Rule) (start : List ℕ) (settings : ParseSettings) (needed : RequiredMatch)
    (known : Option (List ℕ)) (text : List ℕ) (before after : CoveredTexts) → IsReadOf known text
    → length text ≤ max_text_bytes → AddsText rules start settings needed (Some text) before after
    → AddsText rules start settings needed known before after
adds-known rules start settings needed known text before after read within adds =
    let item = adds.covered.0 in
    let Parsed = λ (o : Option (List ℕ)). IfSome o (λ bytes. IsOutcomeOf rules start settings bytes item.outcome) in
    record {
      end = adds.end;
      covered = (
        record { text = known; outcome = item.outcome },
        refl,
        of-known known text (λ bytes. IsOutcomeOf rules start settings bytes item.outcome) (read.whole within)
            (subst Parsed adds.covered.1 adds.covered.2),
        adds.covered.3,
        adds.covered.4,
      );
      texts = adds.texts;
      matched = adds.matched;
      stopped = adds.stopped;
    }

-- the same of a result
pub adds-read : {X : Type 0} (rules : List Rule) (start : List ℕ) (settings : ParseSettings) (needed : RequiredMatch)
    (known : Option (List ℕ)) (text : List ℕ) (before after : CoveredTexts) (result : Result X CoveringFault)
    → IsReadOf known text → OnOk result (length text ≤ max_text_bytes)
    → OnOk result (AddsText rules start settings needed (Some text) before after)
    → OnOk result (AddsText rules start settings needed known before after)
adds-read rules start settings needed known text before after (Ok x) read within adds =
    adds-known rules start settings needed known text before after read within adds
adds-read rules start settings needed known text before after (Err fault) read within adds = tt

-- a text that isn't refused is there, and isn't too long
pub read-parsable : {X : Type 0} (file : NamedFile) (text : List ℕ) (result : Result X CoveringFault)
    → ¬ IsMissing file → IsReadOf (bytes_of file) text → OnOk result (length text ≤ max_text_bytes)
    → OnOk result (IsParsable file)
read-parsable file text (Ok x) present read within =
    (present, of-known (bytes_of file) text (λ bytes. length bytes ≤ max_text_bytes) (read.whole within) within)
read-parsable file text (Err fault) present read within = tt

-- a fault of the bytes that are read of a file is true of the file
pub fault-read : {X : Type 0} (rules : List Rule) (file_at : List ℕ → NamedFile) (name text : List ℕ)
    (named : Option (List ℕ)) (result : Result X CoveringFault) → ¬ IsMissing (file_at name)
    → IsReadOf (bytes_of (file_at name)) text → IfErr result (IsFaultOfBytes rules text named)
    → IfErr result (IsFaultOfText rules file_at name named)
fault-read rules file_at name text named (Ok x) present read fault = tt
fault-read rules file_at name text named (Err (covering.File unread kind)) present read fault = absurd fault
fault-read rules file_at name text named (Err covering.Input) present read fault = fault
fault-read rules file_at name text named (Err covering.NoSuchStart) present read fault = fault
fault-read rules file_at name text named (Err covering.TextTooLong) present read fault = (present, read.longer fault)
fault-read rules file_at name text named (Err covering.Memory) present read fault = tt

-- a result that is a fault
pub refused-by : {X : Type 0} (result : Result X CoveringFault) (why : CoveringFault) (Is : CoveringFault → Type 0)
    → IsErrAnd result (λ fault. fault ≡ why) → Is why → IfErr result Is
refused-by (Ok x) why Is is true_of = tt
refused-by (Err fault) why Is is true_of = subst Is (sym is) true_of

-- ---- several texts

-- one more file
pub files-more : (file_at : List ℕ → NamedFile) (names : List (String Global)) (i : ℕ) (name : String Global)
    → i < length names → name ≡ get_or names i name
    → files_named file_at (take (i + 1) names)
    ≡ files_named file_at (take i names) ++ file_at (string_bytes name) ∷ []
files-more file_at names i name within is =
    let at = λ (n : String Global). file_at (string_bytes n) in
    ap (files_named file_at) (ap (λ (n : ℕ). take n names) (add-one i) ∙ take-suc names i name within)
    ∙ ap (map file_at) (map-append string_bytes (take i names) (get_or names i name ∷ []))
    ∙ map-append file_at (map string_bytes (take i names)) (string_bytes (get_or names i name) ∷ [])
    ∙ ap (λ (n : String Global). files_named file_at (take i names) ++ at n ∷ []) (sym is)

-- the name after the first ones
pub first-name : (IsBefore Is : List ℕ → Type 0) (names : List (String Global)) (i : ℕ) (name : String Global)
    → i < length names → name ≡ get_or names i name → All IsBefore (map string_bytes (take i names))
    → Is (string_bytes name) → IsFirst IsBefore Is (map string_bytes names)
first-name IsBefore Is names i name within is before p = record {
  index = i;
  element = string_bytes name;
  here = slice_get-map string_bytes names i ∙ ap (option_map string_bytes) (slice_get-get_or names i name within
      ∙ ap Some (sym is));
  before = subst (All IsBefore) (sym (take-map string_bytes i names)) before;
  is = p;
}

-- a fault of the first text that has one is a fault of the texts
pub file-fault : (rules : List Rule) (named : Option (List ℕ)) (file_at : List ℕ → NamedFile) (names : List (String Global))
    (i : ℕ) (name : String Global) (fault : CoveringFault) → i < length names → name ≡ get_or names i name
    → All (λ (n : List ℕ). IsParsable (file_at n)) (map string_bytes (take i names))
    → IsFaultOfText rules file_at (string_bytes name) named fault
    → IsFaultOf rules file_at (map string_bytes names) named fault
file-fault rules named file_at names i name (covering.File of kind) within is before fault =
    first-name (λ n. IsParsable (file_at n)) (λ n. IsFaultOfText rules file_at n named (covering.File of kind)) names i name
    within is before fault
file-fault rules named file_at names i name covering.Input within is before fault = fault
file-fault rules named file_at names i name covering.NoSuchStart within is before fault = fault
file-fault rules named file_at names i name covering.TextTooLong within is before fault =
    first-name (λ n. IsParsable (file_at n)) (λ n. IsFaultOfText rules file_at n named covering.TextTooLong) names i name
    within is before fault
file-fault rules named file_at names i name covering.Memory within is before fault = tt

-- what is true of the first names and of the next one
pub names-more : (P : List ℕ → Type 0) (names : List (String Global)) (i : ℕ) (name : String Global) → i < length names
    → name ≡ get_or names i name → All P (map string_bytes (take i names)) → P (string_bytes name)
    → All P (map string_bytes (take (i + 1) names))
names-more P names i name within is all one =
    let more = ap (map string_bytes) (ap (λ (n : ℕ). take n names) (add-one i) ∙ take-suc names i name within)
    ∙ map-append string_bytes (take i names) (get_or names i name ∷ [])
    ∙ ap (λ (n : String Global). map string_bytes (take i names) ++ string_bytes n ∷ []) (sym is) in
    subst (All P) (sym more) (All-push P (map string_bytes (take i names)) (string_bytes name) all one)

-- what is true of the files so far and of the next one
pub all-more : (P : NamedFile → Type 0) (file_at : List ℕ → NamedFile) (names : List (String Global)) (i : ℕ)
    (name : String Global) → i < length names → name ≡ get_or names i name → All P (files_named file_at (take i names))
    → P (file_at (string_bytes name)) → All P (files_named file_at (take (i + 1) names))
all-more P file_at names i name within is all one =
    subst (All P) (sym (files-more file_at names i name within is))
    (All-push P (files_named file_at (take i names)) (file_at (string_bytes name)) all one)

-- all names
pub all-names : (names : List (String Global)) (i : ℕ) → length names ≤ i → take i names ≡ names
all-names names i over = take_all i names over

-- an attempt of the last of some texts
noted-more : (last one before after mid : Bool) → after ≡ (last || mid) → mid ≡ (one || before)
    → after ≡ ((one || (last || false)) || before)
noted-more true true before after mid now then = now
noted-more true false before after mid now then = now
noted-more false true before after mid now then = now ∙ then
noted-more false false before after mid now then = now ∙ then

-- ---- counts

-- whether a text matches
match-count : (needed : RequiredMatch) (o : TextOutcome) → cond (is_match needed o) 1 0 ≡ matches_of (end_of needed o)
match-count needed (Ended found attempts) = by (is_enough needed found)
  where
    by : (b : Bool) → cond b 1 0 ≡ matches_of (ended_by b)
    by true = refl
    by false = refl
match-count needed Stopped = refl

-- the number of matches with a further text
matches-more : (needed : RequiredMatch) (parsed : List ParsedText) (item : ParsedText) (matched more : ℕ)
    → matched ≡ count_by (λ (t : ParsedText). is_match needed t.outcome) parsed
    → more ≡ matched + matches_of (end_of needed item.outcome)
    → more ≡ count_by (λ (t : ParsedText). is_match needed t.outcome) (parsed ++ item ∷ [])
matches-more needed parsed item matched more is next =
    let one = λ (t : ParsedText). cond (is_match needed t.outcome) 1 0 in
    let last : one item ≡ matches_of (end_of needed item.outcome) = match-count needed item.outcome in
    let all : count_by (λ (t : ParsedText). is_match needed t.outcome) (parsed ++ item ∷ [])
    ≡ count_by (λ (t : ParsedText). is_match needed t.outcome) parsed + one item = sum_by_push one parsed item in
    omega (arith, is, next, last, all)

-- whether a numbered text is stopped
abbrev is_stop : ℕ × ParsedText → Bool
is_stop numbered = is_stopped numbered.1.outcome

abbrev number_in : ℕ × ParsedText → ℕ
number_in numbered = numbered.0

enumerate-more : (n : ℕ) (parsed : List ParsedText) (item : ParsedText)
    → enumerate_from n (parsed ++ item ∷ []) ≡ enumerate_from n parsed ++ (n + length parsed, item) ∷ []
enumerate-more n [] item =
    let next : n ≡ n + 0 = omega arith in
    ap (λ (k : ℕ). enumerate_from n [] ++ (k, item) ∷ []) next
enumerate-more n (first ∷ rest) item =
    let next : (n + 1) + length rest ≡ n + length (first ∷ rest) = omega arith in
    ap (λ (l : List (ℕ × ParsedText)). (n, first) ∷ l) (enumerate-more (n + 1) rest item
    ∙ ap (λ (k : ℕ). enumerate_from (n + 1) rest ++ (k, item) ∷ []) next)

one-stop : (needed : RequiredMatch) (number : ℕ) (text : Option (List ℕ)) (o : TextOutcome)
    → map number_in (filter is_stop ((number, record { text = text; outcome = o }) ∷ []))
    ≡ stops_of number (end_of needed o)
one-stop needed number text (Ended found attempts) = by (is_enough needed found)
  where
    by : (b : Bool) → [] ≡ stops_of number (ended_by b)
    by true = refl
    by false = refl
one-stop needed number text Stopped = refl

-- the numbers of the stopped texts with a further text
stops-more : (needed : RequiredMatch) (parsed : List ParsedText) (item : ParsedText)
    → stopped_numbers (parsed ++ item ∷ [])
    ≡ stopped_numbers parsed ++ stops_of (length parsed) (end_of needed item.outcome)
stops-more needed parsed item =
    let one : ℕ × ParsedText = (length parsed, item) in
    let number : 0 + length parsed ≡ length parsed = omega arith in
    ap (λ (l : List (ℕ × ParsedText)). map number_in (filter is_stop l)) (enumerate-more 0 parsed item
    ∙ ap (λ (k : ℕ). enumerate_from 0 parsed ++ (k, item) ∷ []) number)
    ∙ ap (map number_in) (filter-append is_stop (enumerate_from 0 parsed) (one ∷ []))
    ∙ map-append number_in (filter is_stop (enumerate_from 0 parsed)) (filter is_stop (one ∷ []))
    ∙ ap (λ (l : List ℕ). stopped_numbers parsed ++ l) (one-stop needed (length parsed) item.text item.outcome)

-- the texts so far and a further one
pub covered-more : (rules : List Rule) (start : List ℕ) (settings : ParseSettings) (needed : RequiredMatch)
    (prior : List (Option (List ℕ))) (text : Option (List ℕ)) (set : List Bool) (before after : CoveredTexts)
    → AreCovered rules start settings needed prior set before
    → AddsText rules start settings needed text before after
    → AreCovered rules start settings needed (prior ++ text ∷ []) set after
covered-more rules start settings needed prior text set before after so_far adds =
    let one = adds.covered in
    let item = one.0 in
    let parsed = so_far.have.parsed in
    let are = so_far.have.are in
    let text_of = λ (t : ParsedText). t.text in
    let size : before.counts.texts ≡ length parsed =
    so_far.count ∙ sym (ap length are.of_texts) ∙ length-map parsed text_of in
    record {
      have = record {
        parsed = parsed ++ item ∷ [];
        are = record {
          of_texts = map-append text_of parsed (item ∷ []) ∙ (λ i. are.of_texts i ++ one.1 i ∷ []);
          right = All-push (IsParsed rules start settings) parsed item are.right one.2;
          matches = matches-more needed parsed item before.counts.matched after.counts.matched are.matches
              (adds.matched ∙ ap (λ (e : TextEnd). before.counts.matched + matches_of e) one.3);
          stops = adds.stopped
              ∙ (λ i. are.stops i ++ stops_of (size i) (one.3 i))
              ∙ sym (stops-more needed parsed item);
        };
        noted = λ attempt within.
            let has = λ (t : ParsedText). makes attempt t.outcome in
            noted-more (has item) (list_any has parsed) (has_noted rules set attempt) (has_noted rules after.used attempt)
            (has_noted rules before.used attempt) (one.4 attempt within) (so_far.have.noted attempt within)
            ∙ ap (λ (b : Bool). b || has_noted rules set attempt) (sym (list_any-append has parsed (item ∷ [])));
      };
      count = omega (arith, adds.texts, so_far.count, length-append prior (text ∷ []));
    }

-- the texts in files so far and a further one
pub covered-file : (rules : List Rule) (start : List ℕ) (settings : ParseSettings) (needed : RequiredMatch)
    (file_at : List ℕ → NamedFile) (names : List (String Global)) (i : ℕ) (name : String Global) (set : List Bool)
    (before after : CoveredTexts) → i < length names → name ≡ get_or names i name
    → AreCovered rules start settings needed (texts_in (files_named file_at (take i names))) set before
    → AddsText rules start settings needed (bytes_of (file_at (string_bytes name))) before after
    → AreCovered rules start settings needed (texts_in (files_named file_at (take (i + 1) names))) set after
covered-file rules start settings needed file_at names i name set before after within is so_far adds =
    let files = files_named file_at (take i names) in
    let file = file_at (string_bytes name) in
    let more = ap texts_in (files-more file_at names i name within is) ∙ map-append bytes_of files (file ∷ []) in
    subst (λ (texts : List (Option (List ℕ))). AreCovered rules start settings needed texts set after) (sym more)
    (covered-more rules start settings needed (texts_in files) (bytes_of file) set before after so_far adds)

-- a set that was empty has the attempts of the texts
or-false : (b : Bool) → (b || false) ≡ b
or-false true = refl
or-false false = refl

pub noted-made : (rules : List Rule) (start : List ℕ) (settings : ParseSettings) (needed : RequiredMatch)
    (texts : List (Option (List ℕ))) (before after : List Bool) (matched : ℕ) (stopped : List ℕ)
    → ((rule : ℕ) → has_rule before rule ≡ false)
    → (covered : HaveCovered rules start settings needed texts before after matched stopped)
    → (attempt : Attempt) → IsAttemptIn rules attempt → has_noted rules after attempt ≡ is_made covered.parsed attempt
noted-made rules start settings needed texts before after matched stopped empty covered attempt within =
    covered.noted attempt within
    ∙ ap (λ (b : Bool). is_made covered.parsed attempt || b)
    (empty (shown_by (length rules) (alternatives_of_rules rules) attempt))
    ∙ or-false (is_made covered.parsed attempt)

-- ---- the same rules and alternatives by another test of attempts

same-unmatched : {X : Type 0} (f g : ℕ → X) (p q : ℕ → Bool) (first count : ℕ)
    → ((n : ℕ) → n < first + count → p n ≡ q n) → ((n : ℕ) → n < first + count → f n ≡ g n)
    → map f (filter (λ n. not (p n)) (range_with_len first count))
    ≡ map g (filter (λ n. not (q n)) (range_with_len first count))
same-unmatched f g p q first zero tests entries = refl
same-unmatched f g p q first (suc count) tests entries =
    by (p first) (q first) (tests first (omega arith)) (entries first (omega arith))
    (same-unmatched f g p q (first + 1) count (λ n less. tests n (omega (arith, less)))
    (λ n less. entries n (omega (arith, less))))
  where
    by : (b c : Bool) → b ≡ c → f first ≡ g first
        → map f (filter (λ n. not (p n)) (range_with_len (first + 1) count))
        ≡ map g (filter (λ n. not (q n)) (range_with_len (first + 1) count))
        → map f (cond (not b) (first ∷ filter (λ n. not (p n)) (range_with_len (first + 1) count))
        (filter (λ n. not (p n)) (range_with_len (first + 1) count)))
        ≡ map g (cond (not c) (first ∷ filter (λ n. not (q n)) (range_with_len (first + 1) count))
        (filter (λ n. not (q n)) (range_with_len (first + 1) count)))
    by true true is here later = later
    by false false is here later = λ i. here i ∷ later i
    by true false is here later = absurd (false≢true (sym is))
    by false true is here later = absurd (false≢true is)

module _ (rules : List Rule) (made other : Attempt → Bool)
    (same : (attempt : Attempt) → IsAttemptIn rules attempt → made attempt ≡ other attempt) where
  pub same-rules : unused_rules rules made ≡ unused_rules rules other
  same-rules =
      same-unmatched (λ rule. (rule, made (TriedRule rule))) (λ rule. (rule, other (TriedRule rule)))
      (λ rule. made (MatchedRule rule)) (λ rule. other (MatchedRule rule)) 0 (length rules)
      (λ n less. same (MatchedRule n) (omega (arith, less)))
      (λ n less. ap (λ b. (n, b)) (same (TriedRule n) (omega (arith, less))))

  pub same-alternatives : unused_alternatives rules made ≡ unused_alternatives rules other
  same-alternatives =
      let extents = extents_of_alternatives rules in
      let count = length-extents_of_rules rules in
      let extent_at : ℕ → Extent = λ n. slice_index_or extents n (between 0 0) in
      same-unmatched (λ n. (extent_at n, made (TriedAlternative n))) (λ n. (extent_at n, other (TriedAlternative n)))
      (λ n. made (MatchedAlternative n)) (λ n. other (MatchedAlternative n)) 0 (length extents)
      (λ n less. same (MatchedAlternative n) (omega (arith, less, count)))
      (λ n less. ap (λ b. (extent_at n, b)) (same (TriedAlternative n) (omega (arith, less, count))))

-- ---- the numbers of stopped texts

stops-from : (bound n : ℕ) (parsed : List ParsedText) → n + length parsed ≤ bound
    → All (λ (number : ℕ). number < bound) (map number_in (filter is_stop (enumerate_from n parsed)))
stops-from bound n [] within = All-nil (λ (number : ℕ). number < bound)
stops-from bound n (item ∷ rest) within =
    by (is_stopped item.outcome) (stops-from bound (n + 1) rest (omega (arith, within)))
  where
    more : List (ℕ × ParsedText)
    more = filter is_stop (enumerate_from (n + 1) rest)

    by : (b : Bool) → All (λ (number : ℕ). number < bound) (map number_in more)
        → All (λ (number : ℕ). number < bound) (map number_in (cond b ((n, item) ∷ more) more))
    by true later = All-cons (λ (number : ℕ). number < bound) n (map number_in more) (omega (arith, within)) later
    by false later = later

-- a stopped text is one of the texts
pub stopped-below : (rules : List Rule) (start : List ℕ) (settings : ParseSettings) (needed : RequiredMatch)
    (texts : List (Option (List ℕ))) (parsed : List ParsedText) (matched : ℕ) (stopped : List ℕ)
    → AreParsed rules start settings needed texts parsed matched stopped
    → All (λ (number : ℕ). number < length texts) stopped
stopped-below rules start settings needed texts parsed matched stopped are =
    let size = ap length are.of_texts in
    let count = length-map parsed (λ (t : ParsedText). t.text) in
    subst (All (λ (number : ℕ). number < length texts)) (sym are.stops)
    (stops-from (length texts) 0 parsed (omega (arith, size, count)))

-- ---- unused rules

-- unused rules are rules of the grammar
numbers-below : (rules : List Rule) (matches : ℕ → Bool)
    → All (λ (rule : ℕ). rule < length rules) (unmatched matches (length rules))
numbers-below rules matches =
    All-filter (λ (number : ℕ). not (matches number)) (λ (rule : ℕ). rule < length rules)
    (range_with_len 0 (length rules)) (λ k d within.
    let count = length-range_with_len 0 (length rules) in
    let at = get_or-range_with_len 0 (length rules) k d (omega (arith, within, count)) in
    omega (arith, at, within, count))

uses-below : (bound : ℕ) (made : Attempt → Bool) (numbers : List ℕ) → All (λ (rule : ℕ). rule < bound) numbers
    → All (λ (unused : RuleUse). unused.0 < bound) (map (λ rule. (rule, made (TriedRule rule))) numbers)
uses-below bound made numbers all =
    All-map (λ (unused : RuleUse). unused.0 < bound) (λ rule. (rule, made (TriedRule rule))) numbers all

items-below : (bound : ℕ) (items : List UnusedRule)
    → All (λ (unused : RuleUse). unused.0 < bound) (map rule_use items)
    → All (λ (unused : UnusedRule). unused.rule < bound) items
items-below bound [] all = All-nil (λ (unused : UnusedRule). unused.rule < bound)
items-below bound (item ∷ items) all =
    All-cons (λ (unused : UnusedRule). unused.rule < bound) item items
    (All-head (λ (unused : RuleUse). unused.0 < bound) (rule_use item) (map rule_use items) all)
    (items-below bound items (All-tail (λ (unused : RuleUse). unused.0 < bound) (rule_use item) (map rule_use items) all))

pub unused-below : (rules : List Rule) (made : Attempt → Bool) (items : List UnusedRule)
    → map rule_use items ≡ unused_rules rules made
    → All (λ (unused : UnusedRule). unused.rule < length rules) items
unused-below rules made items is =
    items-below (length rules) items (subst (All (λ (unused : RuleUse). unused.0 < length rules)) (sym is)
    (uses-below (length rules) made (unmatched (λ rule. made (MatchedRule rule)) (length rules))
    (numbers-below rules (λ rule. made (MatchedRule rule)))))
