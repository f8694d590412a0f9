-- The marked grammar of a grammar is a grammar, if no name of a rule has the mark of markers.
use Rattle.std.proofs.Common.{◌≡◌, ◌≢◌, ◌⊎◌, inl, inr, ℕ, ◌+◌, ◌*◌, ◌^◌, ◌<◌, ◌≤◌, List, [], ◌∷◌, ◌++◌, All, Contains, length}
use Rattle.std.proofs.Common.{append-nil, refl, sym, ap, ap₂, ◌∙◌, subst, arith}
use Rattle.std.specs.Fmt.{decimal}
use Rattle.std.proofs.lemmas.Fmt.{decimal_injective}
use Rattle.std.proofs.lemmas.Bool.{cases_lt}
use Rattle.std.proofs.lemmas.List.{map-append}
use Rattle.std.proofs.lemmas.List.Elements.{All-nil, All-cons, All-head, All-append, All-weaker}
use Rattle.std.proofs.lemmas.List.Elements.{Contains-append_left, Contains-append_right}
use Rattle.std.proofs.lemmas.Grind.{flat_map-append}
use Rattle.peg_bytes.specs.Extent.{Extent}
use Rattle.peg_semantics.specs.Form.{Form, Forms, Literal, Class, Any, Name, Seq, Choice, Optional, Star, Plus, Counted}
use Rattle.peg_semantics.specs.Form.{And, Not, End, Then, Reference, names_used, names_used_by_all, counts_written, counts_written_by_all}
use Rattle.peg_semantics.specs.Grammar.{IsGrammar, CountsAreInRange}
use Rattle.peg_semantics.specs.Rules.{Rule, names, references, counts}
use Rattle.peg_diagnostics.specs.Diagnostic.{HaveNoMark, form_extent}
use Rattle.peg_diagnostics.specs.Marked.{alternatives, alternatives_of_all, alternatives_of_each, alternatives_of_rules}
use Rattle.peg_diagnostics.specs.Marked.{marker_extents, mark, mark_all, mark_each, mark_rules, marked_rules}
use Rattle.peg_diagnostics.specs.Marked.{before_marker, marker_name, marker_rules, markers_of_rules, with_markers}
use Rattle.peg_diagnostics.proofs.DiagnosticGrammar.{AllPairs-nil, AllPairs-cons, AllPairs-append, Apart, InRange}
use Rattle.peg_diagnostics.proofs.KnownNames.{All-front, All-back, IsKnown}
use Rattle.peg_diagnostics.proofs.Lookups.{Distinct, Contains-first}
use Rattle.peg_diagnostics.proofs.MarkBounds.{length-marker_extents}

-- ---- distinct names

names-mark : (number marker : ℕ) (rules : List Rule) → names (mark_rules number marker rules) ≡ names rules
names-mark number marker [] = refl
names-mark number marker (rule ∷ rules) =
    ap (λ l. rule.name ∷ l) (names-mark (number + alternatives rule.body) (marker + 1) rules)

-- the marked rules without the markers
abbrev pub own_rules : List Rule → List Rule
own_rules rules = mark_rules 0 (2 * alternatives_of_rules rules) rules

pub names-marked : (rules : List Rule)
    → names (marked_rules rules) ≡ names rules ++ names (marker_rules 0 (marker_extents rules))
names-marked rules =
    map-append (λ (rule : Rule). rule.name) (own_rules rules) (marker_rules 0 (marker_extents rules))
    ∙ ap (λ l. l ++ names (marker_rules 0 (marker_extents rules)))
    (names-mark 0 (2 * alternatives_of_rules rules) rules)

pub marker-injective : (a b : ℕ) → a < 2 ^ 64 → b < 2 ^ 64 → marker_name a ≡ marker_name b → a ≡ b
marker-injective a b small less same = decimal_injective a b small less (let both : decimal a ≡ decimal b = cc in both)

-- the name of a marker is that of no marker after it
later_apart : (number next : ℕ) (spans : List Extent) → number < next → next + length spans ≤ 2 ^ 64
    → All (Apart (marker_name number)) (names (marker_rules next spans))
later_apart number next [] less within = All-nil (Apart (marker_name number))
later_apart number next (span ∷ spans) less within =
    All-cons (Apart (marker_name number)) (marker_name next) (names (marker_rules (next + 1) spans))
    (λ same. let is = marker-injective number next (omega (arith, less, within)) (omega (arith, within)) same in
    omega (arith, is, less))
    (later_apart number (next + 1) spans (omega (arith, less)) (omega (arith, within)))

marker_names-distinct : (next : ℕ) (spans : List Extent) → next + length spans ≤ 2 ^ 64
    → Distinct (names (marker_rules next spans))
marker_names-distinct next [] within = AllPairs-nil Apart
marker_names-distinct next (span ∷ spans) within =
    AllPairs-cons Apart (marker_name next) (names (marker_rules (next + 1) spans))
    (later_apart next (next + 1) spans (omega arith) (omega (arith, within)))
    (marker_names-distinct (next + 1) spans (omega (arith, within)))

-- a name without the mark is that of no marker
unmarked-apart : (name : List ℕ) (next : ℕ) (spans : List Extent) → ¬ Contains name 33
    → All (Apart name) (names (marker_rules next spans))
unmarked-apart name next [] unmarked = All-nil (Apart name)
unmarked-apart name next (span ∷ spans) unmarked =
    All-cons (Apart name) (marker_name next) (names (marker_rules (next + 1) spans))
    (λ same. unmarked (subst (λ n. Contains n 33) (sym same) (Contains-first 33 (decimal next))))
    (unmarked-apart name (next + 1) spans unmarked)

pub distinct-marked : (rules : List Rule) → Distinct (names rules) → HaveNoMark rules
    → markers_of_rules rules ≤ 2 ^ 64 → Distinct (names (marked_rules rules))
distinct-marked rules distinct unmarked few =
    let spans = marker_extents rules in
    subst Distinct (sym (names-marked rules))
    (AllPairs-append Apart (names rules) (names (marker_rules 0 spans)) distinct
    (marker_names-distinct 0 spans (omega (arith, few, length-marker_extents rules)))
    (All-weaker (λ name. ¬ Contains name 33) (λ name. All (Apart name) (names (marker_rules 0 spans)))
    (λ name no. unmarked-apart name 0 spans no) (names rules) unmarked))

-- ---- references

module _ (known shown : List (List ℕ)) (count total : ℕ)
    (kept : (name : List ℕ) → Contains known name → Contains shown name)
    (markers : (marker : ℕ) → marker < 2 * total + count → Contains shown (marker_name marker)) where
  -- an expression before the call of a marker
  before_marker-refers : (marker : ℕ) (span : Extent) (e : Form) → marker < 2 * total + count
      → All (IsKnown shown) (names_used e) → All (IsKnown shown) (names_used_by_all (before_marker marker span e))
  before_marker-refers marker span e below all =
      let call : Reference = record { name = marker_name marker; span = span } in
      All-append (IsKnown shown) (names_used e) (call ∷ []) all
      (All-cons (IsKnown shown) call [] (markers marker below) (All-nil (IsKnown shown)))

  with_markers-refers : (number : ℕ) (span : Extent) (e : Form) → number < total
      → All (IsKnown shown) (names_used e) → All (IsKnown shown) (names_used (with_markers number span e))
  with_markers-refers number span e below all =
      let call : Reference = record { name = marker_name (2 * number); span = span } in
      All-cons (IsKnown shown) call (names_used_by_all (before_marker (2 * number + 1) span e))
      (markers (2 * number) (omega (arith, below)))
      (before_marker-refers (2 * number + 1) span e (omega (arith, below)) all)

  mutual
    mark-refers : (number : ℕ) (e : Form) → number + alternatives e ≤ total → All (IsKnown known) (names_used e)
        → All (IsKnown shown) (names_used (mark number e))
    mark-refers number (Literal bytes span) within all = All-nil (IsKnown shown)
    mark-refers number (Class set span) within all = All-nil (IsKnown shown)
    mark-refers number (Any span) within all = All-nil (IsKnown shown)
    mark-refers number (Name name span) within all =
        All-cons (IsKnown shown) (record { name = name; span = span }) []
        (kept name (All-head (IsKnown known) (record { name = name; span = span }) [] all)) (All-nil (IsKnown shown))
    mark-refers number (Seq items span) within all = all_mark-refer number items within all
    mark-refers number (Choice first rest span) within all =
        let later = number + 1 + alternatives first in
        All-append (IsKnown shown) (names_used (with_markers number (form_extent first) (mark (number + 1) first)))
        (names_used_by_all (mark_each later rest))
        (with_markers-refers number (form_extent first) (mark (number + 1) first) (omega (arith, within))
        (mark-refers (number + 1) first (omega (arith, within))
        (All-front (IsKnown known) (names_used first) (names_used_by_all rest) all)))
        (each_mark-refers later rest (omega (arith, within))
        (All-back (IsKnown known) (names_used first) (names_used_by_all rest) all))
    mark-refers number (Optional part span) within all = mark-refers number part within all
    mark-refers number (Star part span) within all = mark-refers number part within all
    mark-refers number (Plus part span) within all = mark-refers number part within all
    mark-refers number (Counted part min max span) within all = mark-refers number part within all
    mark-refers number (And part span) within all = mark-refers number part within all
    mark-refers number (Not part span) within all = mark-refers number part within all

    all_mark-refer : (number : ℕ) (items : Forms) → number + alternatives_of_all items ≤ total
        → All (IsKnown known) (names_used_by_all items) → All (IsKnown shown) (names_used_by_all (mark_all number items))
    all_mark-refer number End within all = All-nil (IsKnown shown)
    all_mark-refer number (Then e rest) within all =
        All-append (IsKnown shown) (names_used (mark number e))
        (names_used_by_all (mark_all (number + alternatives e) rest))
        (mark-refers number e (omega (arith, within))
        (All-front (IsKnown known) (names_used e) (names_used_by_all rest) all))
        (all_mark-refer (number + alternatives e) rest (omega (arith, within))
        (All-back (IsKnown known) (names_used e) (names_used_by_all rest) all))

    each_mark-refers : (number : ℕ) (items : Forms) → number + alternatives_of_each items ≤ total
        → All (IsKnown known) (names_used_by_all items) → All (IsKnown shown) (names_used_by_all (mark_each number items))
    each_mark-refers number End within all = All-nil (IsKnown shown)
    each_mark-refers number (Then e rest) within all =
        let later = number + 1 + alternatives e in
        All-append (IsKnown shown) (names_used (with_markers number (form_extent e) (mark (number + 1) e)))
        (names_used_by_all (mark_each later rest))
        (with_markers-refers number (form_extent e) (mark (number + 1) e) (omega (arith, within))
        (mark-refers (number + 1) e (omega (arith, within))
        (All-front (IsKnown known) (names_used e) (names_used_by_all rest) all)))
        (each_mark-refers later rest (omega (arith, within))
        (All-back (IsKnown known) (names_used e) (names_used_by_all rest) all))

  rules-refer : (number marker : ℕ) (rules : List Rule) → number + alternatives_of_rules rules ≤ total
      → marker + length rules ≤ 2 * total + count → All (IsKnown known) (references rules)
      → All (IsKnown shown) (references (mark_rules number marker rules))
  rules-refer number marker [] within below all = All-nil (IsKnown shown)
  rules-refer number marker (r ∷ rs) within below all =
      All-append (IsKnown shown) (names_used_by_all (before_marker marker r.span (mark number r.body)))
      (references (mark_rules (number + alternatives r.body) (marker + 1) rs))
      (before_marker-refers marker r.span (mark number r.body) (omega (arith, below))
      (mark-refers number r.body (omega (arith, within))
      (All-front (IsKnown known) (names_used r.body) (references rs) all)))
      (rules-refer (number + alternatives r.body) (marker + 1) rs (omega (arith, within)) (omega (arith, below))
      (All-back (IsKnown known) (names_used r.body) (references rs) all))

-- markers refer to nothing and have no counts
references-markers : (next : ℕ) (spans : List Extent) → references (marker_rules next spans) ≡ []
references-markers next [] = refl
references-markers next (span ∷ spans) = references-markers (next + 1) spans

counts-markers : (next : ℕ) (spans : List Extent) → counts (marker_rules next spans) ≡ []
counts-markers next [] = refl
counts-markers next (span ∷ spans) = counts-markers (next + 1) spans

-- each marker has its name
pub marker_names-known : (next number : ℕ) (spans : List Extent) → next ≤ number → number < next + length spans
    → Contains (names (marker_rules next spans)) (marker_name number)
marker_names-known next number [] from below = absurd (omega (arith, from, below))
marker_names-known next number (span ∷ spans) from below =
    by (cases_lt next number)
    (λ less. marker_names-known (next + 1) number spans (omega (arith, less)) (omega (arith, below)))
  where
    more : List (List ℕ)
    more = names (marker_rules (next + 1) spans)

    by : (next < number) ⊎ (number ≤ next) → (next < number → Contains more (marker_name number))
        → Contains (marker_name next ∷ more) (marker_name number)
    by (inl less) later = Contains-append_right (marker_name next ∷ []) more (marker_name number) (later less)
    by (inr less) later =
        let same : next ≡ number = omega (arith, from, less) in
        subst (λ n. Contains (marker_name next ∷ more) (marker_name n)) same (Contains-first (marker_name next) more)

references-known : (rules : List Rule) → All (IsKnown (names rules)) (references rules)
    → All (IsKnown (names (marked_rules rules))) (references (marked_rules rules))
references-known rules all =
    let spans = marker_extents rules in
    let markers = names (marker_rules 0 spans) in
    let both = names rules ++ markers in
    subst (λ known. All (IsKnown known) (references (marked_rules rules))) (sym (names-marked rules))
    (subst (All (IsKnown both))
    (sym (flat_map-append (λ (rule : Rule). names_used rule.body) (own_rules rules) (marker_rules 0 spans)))
    (All-append (IsKnown both) (references (own_rules rules)) (references (marker_rules 0 spans))
    (rules-refer (names rules) both (length rules) (alternatives_of_rules rules)
    (λ name there. Contains-append_left (names rules) markers name there)
    (λ marker below. Contains-append_right (names rules) markers (marker_name marker)
    (marker_names-known 0 marker spans (omega arith) (omega (arith, below, length-marker_extents rules))))
    0 (2 * alternatives_of_rules rules) rules (omega arith) (omega arith) all)
    (subst (All (IsKnown both)) (sym (references-markers 0 spans)) (All-nil (IsKnown both)))))

-- ---- counts

mutual
  counts-mark : (number : ℕ) (e : Form) → counts_written (mark number e) ≡ counts_written e
  counts-mark number (Literal bytes span) = refl
  counts-mark number (Class set span) = refl
  counts-mark number (Any span) = refl
  counts-mark number (Name name span) = refl
  counts-mark number (Seq items span) = all_counts-mark number items
  counts-mark number (Choice first rest span) =
      ap₂ ◌++◌ (append-nil (counts_written (mark (number + 1) first)) ∙ counts-mark (number + 1) first)
      (each_counts-mark (number + 1 + alternatives first) rest)
  counts-mark number (Optional part span) = counts-mark number part
  counts-mark number (Star part span) = counts-mark number part
  counts-mark number (Plus part span) = counts-mark number part
  counts-mark number (Counted part min max span) =
      ap (λ l. record { min = min; max = max; span = span } ∷ l) (counts-mark number part)
  counts-mark number (And part span) = counts-mark number part
  counts-mark number (Not part span) = counts-mark number part

  all_counts-mark : (number : ℕ) (items : Forms)
      → counts_written_by_all (mark_all number items) ≡ counts_written_by_all items
  all_counts-mark number End = refl
  all_counts-mark number (Then e rest) =
      ap₂ ◌++◌ (counts-mark number e) (all_counts-mark (number + alternatives e) rest)

  each_counts-mark : (number : ℕ) (items : Forms)
      → counts_written_by_all (mark_each number items) ≡ counts_written_by_all items
  each_counts-mark number End = refl
  each_counts-mark number (Then e rest) =
      ap₂ ◌++◌ (append-nil (counts_written (mark (number + 1) e)) ∙ counts-mark (number + 1) e)
      (each_counts-mark (number + 1 + alternatives e) rest)

rules_count : (number marker : ℕ) (rules : List Rule) → counts (mark_rules number marker rules) ≡ counts rules
rules_count number marker [] = refl
rules_count number marker (r ∷ rs) =
    ap₂ ◌++◌ (append-nil (counts_written (mark number r.body)) ∙ counts-mark number r.body)
    (rules_count (number + alternatives r.body) (marker + 1) rs)

counts_in_range : (rules : List Rule) → CountsAreInRange rules → CountsAreInRange (marked_rules rules)
counts_in_range rules all =
    let spans = marker_extents rules in
    subst (All InRange)
    (sym (flat_map-append (λ (rule : Rule). counts_written rule.body) (own_rules rules) (marker_rules 0 spans)))
    (All-append InRange (counts (own_rules rules)) (counts (marker_rules 0 spans))
    (subst (All InRange) (sym (rules_count 0 (2 * alternatives_of_rules rules) rules)) all)
    (subst (All InRange) (sym (counts-markers 0 spans)) (All-nil InRange)))

-- ---- grammars

not_empty : (rules : List Rule) → rules ≢ [] → marked_rules rules ≢ []
not_empty [] some none = some refl
not_empty (r ∷ rs) some none = cc

pub IsGrammar-marked : (rules : List Rule) → IsGrammar rules → HaveNoMark rules → markers_of_rules rules ≤ 2 ^ 64
    → IsGrammar (marked_rules rules)
IsGrammar-marked rules is unmarked few = record {
  some = not_empty rules is.some;
  distinct = distinct-marked rules is.distinct unmarked few;
  defined = references-known rules is.defined;
  counted = counts_in_range rules is.counted;
}
