-- The marked grammar of a well-formed grammar is well-formed.
use Rattle.std.proofs.Common.{◌≡◌, ℕ, zero, suc, ◌+◌, ◌*◌, ◌^◌, ◌<◌, ◌≤◌, List, [], ◌∷◌, ◌++◌, All, length}
use Rattle.std.proofs.Common.{Some, sym, subst, arith}
use Rattle.std.proofs.lemmas.List.Elements.{All-nil, All-cons, All-head, All-tail, All-append}
use Rattle.peg_bytes.specs.Extent.{Extent}
use Rattle.peg_semantics.specs.AbstractOutcomes.{GivesNothing}
use Rattle.peg_semantics.specs.Form.{Form, Forms, Literal, Class, Any, Name, Seq, Choice, Optional, Star, Plus, Counted}
use Rattle.peg_semantics.specs.Form.{And, Not, End, Then, names_used, names_used_by_all}
use Rattle.peg_semantics.specs.Rules.{Rule, Meaning, names, references, meaning_of}
use Rattle.peg_semantics.specs.WellFormed.{FormPredicate, ItemsAre, AllAre, MeaningIs, RepeatsWell, WellFormedTable}
use Rattle.peg_semantics.specs.WellFormed.{IsWellFormedIn, IsWellFormed, below, below_all, subexpressions}
use Rattle.peg_semantics.specs.WellFormed.{IsWellFormedGrammar}
use Rattle.peg_semantics.proofs.RoundsLemmas.{IsWellFormedIn-more}
use Rattle.peg_diagnostics.specs.Attempts.{first_alternative_from}
use Rattle.peg_diagnostics.specs.Diagnostic.{form_extent}
use Rattle.peg_diagnostics.specs.Marked.{alternatives, alternatives_of_all, alternatives_of_each, alternatives_of_rules}
use Rattle.peg_diagnostics.specs.Marked.{before_marker, mark, mark_all, mark_each, mark_rules, marked_rules}
use Rattle.peg_diagnostics.specs.Marked.{marker_extents, marker_name, marker_rules, markers_of_rules, with_body, with_end, with_markers}
use Rattle.peg_diagnostics.proofs.DiagnosticOutcomes.{known-front, known-back, known-name}
use Rattle.peg_diagnostics.proofs.KnownNames.{All-front, All-back, IsKnown, UsesKnown, AllUseKnown}
use Rattle.peg_diagnostics.proofs.Lookups.{Distinct}
use Rattle.peg_diagnostics.proofs.MarkedLookups.{HasMarked, HasMarker, has_marked, has_marker}
use Rattle.peg_diagnostics.proofs.MarkedOutcomes.{GivesNothing-mark}
use Rattle.peg_diagnostics.proofs.MarkedRecords.{thrice}

module _ (count total : ℕ) (rules other : List Rule)
    (copied : (name : List ℕ) (m : Meaning) → meaning_of rules name ≡ Some m → HasMarked count total rules other name m)
    (closed : All (IsKnown (names rules)) (references rules))
    (markers : (marker : ℕ) → marker < 2 * total + count → HasMarker count other marker) where
  -- the names that an expression refers to are defined
  abbrev Uses : Form → Type 0
  Uses e = UsesKnown (names rules) e

  abbrev UsesAll : Forms → Type 0
  UsesAll items = AllUseKnown (names rules) items

  front : (e : Form) (rest : Forms) → All (IsKnown (names rules)) (names_used e ++ names_used_by_all rest) → Uses e
  front e rest known = known-front rules closed e rest known

  back : (e : Form) (rest : Forms) → All (IsKnown (names rules)) (names_used e ++ names_used_by_all rest) → UsesAll rest
  back e rest known = known-back rules closed e rest known

  unmarked_gives : (e : Form) (number : ℕ) → Uses e → number + alternatives e ≤ total
      → GivesNothing other (mark number e) → GivesNothing rules e
  unmarked_gives e number known within gives =
      GivesNothing-mark count total rules other copied closed markers e number known within gives

  -- ---- expressions

  -- a marker is well-formed
  marker_is : (n marker : ℕ) (span : Extent) → marker < 2 * total + count
      → IsWellFormedIn other (suc (suc n)) (Name (marker_name marker) span)
  unfolding IsWellFormedIn
  marker_is n marker span below =
      let m = markers marker below in
      subst (MeaningIs (IsWellFormedIn other (suc n))) (sym m.found)
      (subst (IsWellFormedIn other (suc n)) (sym m.empty) tt)

  -- an expression before a marker
  before_marker_is : (n marker : ℕ) (span : Extent) (e : Form) → marker < 2 * total + count
      → IsWellFormedIn other (suc (suc n)) e
      → ItemsAre other (IsWellFormedIn other (suc (suc n))) (before_marker marker span e)
  before_marker_is n marker span e below is = (is, λ gives. (marker_is n marker span below, λ gives_too. tt))

  with_end_is : (n marker : ℕ) (span : Extent) (e : Form) → marker < 2 * total + count
      → IsWellFormedIn other (suc (suc n)) e → IsWellFormedIn other (suc (suc (suc n))) (with_end marker span e)
  unfolding IsWellFormedIn
  with_end_is n marker span e below is = before_marker_is n marker span e below is

  with_markers_is : (n number : ℕ) (span : Extent) (e : Form) → number < total → IsWellFormedIn other (suc (suc n)) e
      → IsWellFormedIn other (suc (suc (suc n))) (with_markers number span e)
  unfolding IsWellFormedIn
  with_markers_is n number span e below is = (
    marker_is n (2 * number) span (omega (arith, below)),
    λ gives. before_marker_is n (2 * number + 1) span e (omega (arith, below)) is,
  )

  module _ (Is Other : FormPredicate)
      (same : (e : Form) (number : ℕ) → Uses e → number + alternatives e ≤ total → Is e → Other (mark number e))
      (after : (e : Form) (number : ℕ) → Uses e → number + 1 + alternatives e ≤ total → Is e
      → Other (with_markers number (form_extent e) (mark (number + 1) e)))
      (ended : (e : Form) (number marker : ℕ) (span : Extent) → Uses e → number + alternatives e ≤ total
      → marker < 2 * total + count → Is e → Other (with_end marker span (mark number e))) where
    items-are : (items : Forms) (number : ℕ) → UsesAll items → number + alternatives_of_all items ≤ total
        → ItemsAre rules Is items → ItemsAre other Other (mark_all number items)
    items-are End number known within are = tt
    items-are (Then e rest) number known within are = (
      same e number (front e rest known) (omega (arith, within)) are.0,
      λ gives. items-are rest (number + alternatives e) (back e rest known) (omega (arith, within))
          (are.1 (unmarked_gives e number (front e rest known) (omega (arith, within)) gives)),
    )

    each-is : (items : Forms) (number : ℕ) → UsesAll items → number + alternatives_of_each items ≤ total
        → AllAre Is items → AllAre Other (mark_each number items)
    each-is End number known within are = tt
    each-is (Then e rest) number known within are = (
      after e number (front e rest known) (omega (arith, within)) are.0,
      each-is rest (number + 1 + alternatives e) (back e rest known) (omega (arith, within)) are.1,
    )

    meaning-is : (name : List ℕ) (span : Extent) → Uses (Name name span) → MeaningIs Is (meaning_of rules name)
        → MeaningIs Other (meaning_of other name)
    meaning-is name span known is =
        let means = known-name rules closed name span known in
        let c = copied name means.0 means.1 in
        subst (MeaningIs Other) (sym c.found) (subst Other (sym c.is_marked)
        (ended (means.0).body (first_alternative_from 0 rules name) c.marker c.span means.2 c.within
        (omega (arith, c.ends, c.below)) (subst (MeaningIs Is) means.1 is)))

    repeats : (part : Form) (number : ℕ) → Uses part → number + alternatives part ≤ total → RepeatsWell rules Is part
        → RepeatsWell other Other (mark number part)
    repeats part number known within is =
        (same part number known within is.0, λ gives. is.1 (unmarked_gives part number known within gives))

    table-is : (e : Form) (number : ℕ) → Uses e → number + alternatives e ≤ total → WellFormedTable rules Is e
        → WellFormedTable other Other (mark number e)
    table-is (Literal bytes span) number known within is = tt
    table-is (Class set span) number known within is = tt
    table-is (Any span) number known within is = tt
    table-is (Name name span) number known within is = meaning-is name span known is
    table-is (Seq items span) number known within is = items-are items number known within is
    table-is (Choice first rest span) number known within is = (
      after first number (front first rest known) (omega (arith, within)) is.0,
      each-is rest (number + 1 + alternatives first) (back first rest known) (omega (arith, within)) is.1,
    )
    table-is (Optional part span) number known within is = same part number known within is
    table-is (Star part span) number known within is = repeats part number known within is
    table-is (Plus part span) number known within is = repeats part number known within is
    table-is (Counted part min max span) number known within is = same part number known within is
    table-is (And part span) number known within is = same part number known within is
    table-is (Not part span) number known within is = same part number known within is

  IsWellFormedIn-mark : (n : ℕ) (e : Form) (number : ℕ) → Uses e → number + alternatives e ≤ total
      → IsWellFormedIn rules n e → IsWellFormedIn other (suc (thrice n)) (mark number e)
  unfolding IsWellFormedIn
  IsWellFormedIn-mark zero e number known within is = absurd is
  IsWellFormedIn-mark (suc n) e number known within is =
      let here = IsWellFormedIn-mark n in
      table-is (IsWellFormedIn rules n) (IsWellFormedIn other (suc (suc (suc (thrice n)))))
      (λ part k uses fits fine. IsWellFormedIn-more other (suc (suc (thrice n))) (mark k part)
      (IsWellFormedIn-more other (suc (thrice n)) (mark k part) (here part k uses fits fine)))
      (λ part k uses fits fine. with_markers_is (thrice n) k (form_extent part) (mark (k + 1) part) (omega (arith, fits))
      (IsWellFormedIn-more other (suc (thrice n)) (mark (k + 1) part) (here part (k + 1) uses (omega (arith, fits)) fine)))
      (λ part k marker span uses fits below fine. with_end_is (thrice n) marker span (mark k part) below
      (IsWellFormedIn-more other (suc (thrice n)) (mark k part) (here part k uses fits fine)))
      e number known within is

  marked_is : (e : Form) (number : ℕ) → Uses e → number + alternatives e ≤ total → IsWellFormed rules e
      → IsWellFormed other (mark number e)
  marked_is e number known within is = (suc (thrice is.0), IsWellFormedIn-mark is.0 e number known within is.1)

  -- an alternative with its marker
  after_is : (e : Form) (number : ℕ) → Uses e → number + 1 + alternatives e ≤ total → IsWellFormed rules e
      → IsWellFormed other (with_markers number (form_extent e) (mark (number + 1) e))
  after_is e number known within is = (
    suc (suc (suc (thrice is.0))),
    with_markers_is (thrice is.0) number (form_extent e) (mark (number + 1) e) (omega (arith, within))
        (IsWellFormedIn-more other (suc (thrice is.0)) (mark (number + 1) e)
        (IsWellFormedIn-mark is.0 e (number + 1) known (omega (arith, within)) is.1)),
  )

  -- the expression of a rule with its marker
  rule_is : (e : Form) (number marker : ℕ) (span : Extent) → Uses e → number + alternatives e ≤ total
      → marker < 2 * total + count → IsWellFormed rules e → IsWellFormed other (with_end marker span (mark number e))
  rule_is e number marker span known within below is = (
    suc (suc (suc (thrice is.0))),
    with_end_is (thrice is.0) marker span (mark number e) below
        (IsWellFormedIn-more other (suc (thrice is.0)) (mark number e)
        (IsWellFormedIn-mark is.0 e number known within is.1)),
  )

  -- ---- subexpressions

  abbrev Fine : Form → Type 0
  Fine e = IsWellFormed other e

  -- an expression whose subexpressions are well-formed, marked
  whole : (e : Form) (number : ℕ) → Uses e → number + alternatives e ≤ total → All (IsWellFormed rules) (subexpressions e)
      → All Fine (below (mark number e)) → All Fine (subexpressions (mark number e))
  whole e number known within all parts =
      All-cons Fine (mark number e) (below (mark number e))
      (marked_is e number known within (All-head (IsWellFormed rules) e (below e) all)) parts

  -- a marked expression, and after it the call of a marker
  whole_before : (e : Form) (number marker : ℕ) (span : Extent) → Uses e → number + alternatives e ≤ total
      → marker < 2 * total + count → All (IsWellFormed rules) (subexpressions e) → All Fine (below (mark number e))
      → All Fine (below_all (before_marker marker span (mark number e)))
  whole_before e number marker span known within fits all parts =
      let call = Name (marker_name marker) span in
      All-append Fine (subexpressions (mark number e)) (call ∷ []) (whole e number known within all parts)
      (All-cons Fine call [] (suc (suc zero), marker_is zero marker span fits) (All-nil Fine))

  -- an alternative: the sequence, the name of its first marker, the marked alternative and the name of its last marker
  whole_alternative : (e : Form) (number : ℕ) → Uses e → number + 1 + alternatives e ≤ total
      → All (IsWellFormed rules) (subexpressions e) → All Fine (below (mark (number + 1) e))
      → All Fine (subexpressions (with_markers number (form_extent e) (mark (number + 1) e)))
  whole_alternative e number known within all parts =
      let call = Name (marker_name (2 * number)) (form_extent e) in
      let inner = mark (number + 1) e in
      let items = below_all (before_marker (2 * number + 1) (form_extent e) inner) in
      All-cons Fine (with_markers number (form_extent e) inner) (call ∷ items)
      (after_is e number known within (All-head (IsWellFormed rules) e (below e) all))
      (All-cons Fine call items
      (suc (suc zero), marker_is zero (2 * number) (form_extent e) (omega (arith, within)))
      (whole_before e (number + 1) (2 * number + 1) (form_extent e) known (omega (arith, within)) (omega (arith, within))
      all parts))

  -- the expression of a rule: the sequence, the marked expression and the name of the marker
  whole_rule : (e : Form) (number marker : ℕ) (span : Extent) → Uses e → number + alternatives e ≤ total
      → marker < 2 * total + count → All (IsWellFormed rules) (subexpressions e) → All Fine (below (mark number e))
      → All Fine (subexpressions (with_end marker span (mark number e)))
  whole_rule e number marker span known within fits all parts =
      All-cons Fine (with_end marker span (mark number e)) (below_all (before_marker marker span (mark number e)))
      (rule_is e number marker span known within fits (All-head (IsWellFormed rules) e (below e) all))
      (whole_before e number marker span known within fits all parts)

  mutual
    parts_are : (e : Form) (number : ℕ) → Uses e → number + alternatives e ≤ total
        → All (IsWellFormed rules) (subexpressions e) → All Fine (below (mark number e))
    parts_are (Literal bytes span) number known within all = All-nil Fine
    parts_are (Class set span) number known within all = All-nil Fine
    parts_are (Any span) number known within all = All-nil Fine
    parts_are (Name name span) number known within all = All-nil Fine
    parts_are (Seq items span) number known within all =
        items_parts items number known within (All-tail (IsWellFormed rules) (Seq items span) (below_all items) all)
    parts_are (Choice first rest span) number known within all =
        let parts = All-tail (IsWellFormed rules) (Choice first rest span) (below_all (Then first rest)) all in
        let here = All-front (IsWellFormed rules) (subexpressions first) (below_all rest) parts in
        let later = number + 1 + alternatives first in
        All-append Fine (subexpressions (with_markers number (form_extent first) (mark (number + 1) first)))
        (below_all (mark_each later rest))
        (whole_alternative first number (front first rest known) (omega (arith, within)) here
        (parts_are first (number + 1) (front first rest known) (omega (arith, within)) here))
        (each_part rest later (back first rest known) (omega (arith, within))
        (All-back (IsWellFormed rules) (subexpressions first) (below_all rest) parts))
    parts_are (Optional part span) number known within all =
        let parts = All-tail (IsWellFormed rules) (Optional part span) (subexpressions part) all in
        whole part number known within parts (parts_are part number known within parts)
    parts_are (Star part span) number known within all =
        let parts = All-tail (IsWellFormed rules) (Star part span) (subexpressions part) all in
        whole part number known within parts (parts_are part number known within parts)
    parts_are (Plus part span) number known within all =
        let parts = All-tail (IsWellFormed rules) (Plus part span) (subexpressions part) all in
        whole part number known within parts (parts_are part number known within parts)
    parts_are (Counted part min max span) number known within all =
        let parts = All-tail (IsWellFormed rules) (Counted part min max span) (subexpressions part) all in
        whole part number known within parts (parts_are part number known within parts)
    parts_are (And part span) number known within all =
        let parts = All-tail (IsWellFormed rules) (And part span) (subexpressions part) all in
        whole part number known within parts (parts_are part number known within parts)
    parts_are (Not part span) number known within all =
        let parts = All-tail (IsWellFormed rules) (Not part span) (subexpressions part) all in
        whole part number known within parts (parts_are part number known within parts)

    items_parts : (items : Forms) (number : ℕ) → UsesAll items → number + alternatives_of_all items ≤ total
        → All (IsWellFormed rules) (below_all items) → All Fine (below_all (mark_all number items))
    items_parts End number known within all = All-nil Fine
    items_parts (Then e rest) number known within all =
        let here = All-front (IsWellFormed rules) (subexpressions e) (below_all rest) all in
        let later = number + alternatives e in
        All-append Fine (subexpressions (mark number e)) (below_all (mark_all later rest))
        (whole e number (front e rest known) (omega (arith, within)) here
        (parts_are e number (front e rest known) (omega (arith, within)) here))
        (items_parts rest later (back e rest known) (omega (arith, within))
        (All-back (IsWellFormed rules) (subexpressions e) (below_all rest) all))

    each_part : (items : Forms) (number : ℕ) → UsesAll items → number + alternatives_of_each items ≤ total
        → All (IsWellFormed rules) (below_all items) → All Fine (below_all (mark_each number items))
    each_part End number known within all = All-nil Fine
    each_part (Then e rest) number known within all =
        let here = All-front (IsWellFormed rules) (subexpressions e) (below_all rest) all in
        let later = number + 1 + alternatives e in
        All-append Fine (subexpressions (with_markers number (form_extent e) (mark (number + 1) e)))
        (below_all (mark_each later rest))
        (whole_alternative e number (front e rest known) (omega (arith, within)) here
        (parts_are e (number + 1) (front e rest known) (omega (arith, within)) here))
        (each_part rest later (back e rest known) (omega (arith, within))
        (All-back (IsWellFormed rules) (subexpressions e) (below_all rest) all))

  -- ---- rules

  abbrev RuleIs : List Rule → Rule → Type 0
  RuleIs among rule = All (IsWellFormed among) (subexpressions rule.body)

  rules_are : (some : List Rule) (number marker : ℕ) → All (IsKnown (names rules)) (references some)
      → number + alternatives_of_rules some ≤ total → marker + length some ≤ 2 * total + count
      → All (RuleIs rules) some → All (RuleIs other) (mark_rules number marker some)
  rules_are [] number marker known within fits all = All-nil (RuleIs other)
  rules_are (r ∷ rs) number marker known within fits all =
      let here = All-head (RuleIs rules) r rs all in
      let uses = All-front (IsKnown (names rules)) (names_used r.body) (references rs) known in
      All-cons (RuleIs other) (with_body r (with_end marker r.span (mark number r.body)))
      (mark_rules (number + alternatives r.body) (marker + 1) rs)
      (whole_rule r.body number marker r.span uses (omega (arith, within)) (omega (arith, fits)) here
      (parts_are r.body number uses (omega (arith, within)) here))
      (rules_are rs (number + alternatives r.body) (marker + 1)
      (All-back (IsKnown (names rules)) (names_used r.body) (references rs) known) (omega (arith, within))
      (omega (arith, fits)) (All-tail (RuleIs rules) r rs all))

  empty_is : (span : Extent) → IsWellFormed other (Seq End span)
  unfolding IsWellFormedIn
  empty_is span = (suc zero, tt)

  markers_are : (next : ℕ) (spans : List Extent) → All (RuleIs other) (marker_rules next spans)
  markers_are next [] = All-nil (RuleIs other)
  markers_are next (span ∷ spans) =
      All-cons (RuleIs other) (record { name = marker_name next; span = span; body = Seq End span })
      (marker_rules (next + 1) spans) (All-cons Fine (Seq End span) [] (empty_is span) (All-nil Fine))
      (markers_are (next + 1) spans)

-- the marked grammar of a well-formed grammar
pub well_formed-marked : (rules : List Rule) → All (IsKnown (names rules)) (references rules)
    → Distinct (names (marked_rules rules)) → markers_of_rules rules ≤ 2 ^ 64 → IsWellFormedGrammar rules
    → IsWellFormedGrammar (marked_rules rules)
well_formed-marked rules closed distinct few is =
    let total = alternatives_of_rules rules in
    let spans = marker_extents rules in
    All-append (λ (rule : Rule). All (IsWellFormed (marked_rules rules)) (subexpressions rule.body))
    (mark_rules 0 (2 * total) rules) (marker_rules 0 spans)
    (rules_are (length rules) total rules (marked_rules rules) (has_marked rules) closed
    (has_marker rules distinct few) rules 0 (2 * total) closed (omega arith) (omega arith) is)
    (markers_are (length rules) total rules (marked_rules rules) (has_marked rules) closed
    (has_marker rules distinct few) 0 spans)
