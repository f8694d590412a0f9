-- The abstract outcomes of marked expressions in the marked grammar are among those of the expressions.
use Rattle.std.proofs.Common.{◌≡◌, ℕ, zero, suc, ◌+◌, ◌*◌, ◌<◌, ◌≤◌, Bool, true, false, List, [], ◌∷◌, All, Some}
use Rattle.std.proofs.Common.{refl, sym, subst, arith}
use Rattle.peg_bytes.specs.Extent.{Extent}
use Rattle.peg_semantics.specs.AbstractOutcomes.{Can, CanAll, no_outcome, seq_outcome, outcome_of_items, outcome_of_choice}
use Rattle.peg_semantics.specs.AbstractOutcomes.{outcome_of_meaning, can_table, can_in, GivesNothing, always_empty, OutcomeOf}
use Rattle.peg_semantics.specs.Form.{Form, Forms, Literal, Class, Any, Name, Seq, Choice, Optional, Star, Plus, Counted}
use Rattle.peg_semantics.specs.Form.{And, Not, End, Then}
use Rattle.peg_semantics.specs.Rules.{Rule, Meaning, names, references, meaning_of}
use Rattle.peg_semantics.proofs.RoundsLemmas.{CanAll-refl, CanAll-trans, CanAll-no_outcome, CanAll-seq_outcome}
use Rattle.peg_semantics.proofs.RoundsLemmas.{CanAll-choice_outcome, CanAll-optional_outcome, CanAll-star_outcome}
use Rattle.peg_semantics.proofs.RoundsLemmas.{CanAll-plus_outcome, CanAll-repeat_outcome, CanAll-and_outcome}
use Rattle.peg_semantics.proofs.RoundsLemmas.{CanAll-not_outcome, can_in-more}
use Rattle.peg_diagnostics.specs.Attempts.{first_alternative_from}
use Rattle.peg_diagnostics.specs.Diagnostic.{form_extent}
use Rattle.peg_diagnostics.specs.Marked.{alternatives, alternatives_of_all, alternatives_of_each, mark, mark_all, mark_each}
use Rattle.peg_diagnostics.specs.Marked.{before_marker, marker_name, with_end, with_markers}
use Rattle.peg_diagnostics.proofs.DiagnosticOutcomes.{known-front, known-back, known-name}
use Rattle.peg_diagnostics.proofs.KnownNames.{IsKnown, UsesKnown, AllUseKnown}
use Rattle.peg_diagnostics.proofs.MarkedLookups.{HasMarked, HasMarker}

-- an outcome of three facts
abbrev can_of : (nothing something fails : Bool) → Can
can_of nothing something fails = record { nothing = nothing; something = something; fails = fails }

-- nothing before an expression, and nothing after it
before_something : (n s f : Bool) → (seq_outcome always_empty (can_of n s f)).something ≡ true → s ≡ true
before_something n true f is = refl
before_something true false f is = cc
before_something false false f is = cc

following_nothing : (n s f : Bool) → (seq_outcome (can_of n s f) always_empty).nothing ≡ true → n ≡ true
following_nothing true s f is = refl
following_nothing false s f is = cc

following_something : (n s f : Bool) → (seq_outcome (can_of n s f) always_empty).something ≡ true → s ≡ true
following_something n true f is = refl
following_something true false f is = cc
following_something false false f is = cc

following_fails : (n s f : Bool) → (seq_outcome (can_of n s f) always_empty).fails ≡ true → f ≡ true
following_fails n s true is = refl
following_fails true s false is = cc
following_fails false true false is = cc
following_fails false false false is = cc

CanAll-before : (x : Can) → CanAll (seq_outcome always_empty x) x
CanAll-before x = record {
  nothing = λ is. is;
  something = before_something x.nothing x.something x.fails;
  fails = λ is. is;
}

CanAll-following : (x : Can) → CanAll (seq_outcome x always_empty) x
CanAll-following x = record {
  nothing = following_nothing x.nothing x.something x.fails;
  something = following_something x.nothing x.something x.fails;
  fails = following_fails x.nothing x.something x.fails;
}

module _ (count total : ℕ) (rules other : List Rule)
    (copied : (name : List ℕ) (m : Meaning) → meaning_of rules name ≡ Some m → HasMarked count total rules other name m)
    (closed : All (IsKnown (names rules)) (references rules))
    (markers : (marker : ℕ) → marker < 2 * total + count → HasMarker count other marker) where
  -- a marker matches the empty string
  CanAll-marker : (n marker : ℕ) (span : Extent) → marker < 2 * total + count
      → CanAll (can_in other n (Name (marker_name marker) span)) always_empty
  unfolding can_in
  CanAll-marker zero marker span below = CanAll-no_outcome always_empty
  CanAll-marker (suc zero) marker span below =
      let m = markers marker below in
      subst (λ found. CanAll (outcome_of_meaning (can_in other zero) found) always_empty) (sym m.found)
      (CanAll-no_outcome always_empty)
  CanAll-marker (suc (suc n)) marker span below =
      let m = markers marker below in
      subst (λ found. CanAll (outcome_of_meaning (can_in other (suc n)) found) always_empty) (sym m.found)
      (subst (λ body. CanAll (can_in other (suc n) body) always_empty) (sym m.empty) (CanAll-refl always_empty))

  -- the call of a marker follows an expression
  before_can : (n marker : ℕ) (span : Extent) (e : Form) → marker < 2 * total + count
      → CanAll (outcome_of_items (can_in other n) (before_marker marker span e)) (can_in other n e)
  before_can n marker span e below =
      let call = can_in other n (Name (marker_name marker) span) in
      let inner = can_in other n e in
      CanAll-trans (seq_outcome inner (seq_outcome call always_empty)) (seq_outcome inner always_empty) inner
      (CanAll-seq_outcome inner (seq_outcome call always_empty) inner always_empty (CanAll-refl inner)
      (CanAll-trans (seq_outcome call always_empty) call always_empty (CanAll-following call)
      (CanAll-marker n marker span below)))
      (CanAll-following inner)

  abbrev MarkedCan : ℕ → Type 0
  MarkedCan n =
      (e : Form) (number : ℕ) → UsesKnown (names rules) e → number + alternatives e ≤ total
      → CanAll (can_in other n (mark number e)) (can_in rules n e)

  abbrev AlternativeCan : ℕ → Type 0
  AlternativeCan n =
      (e : Form) (number : ℕ) → UsesKnown (names rules) e → number + 1 + alternatives e ≤ total
      → CanAll (can_in other n (with_markers number (form_extent e) (mark (number + 1) e))) (can_in rules n e)

  -- an alternative between its markers
  alternative_can : (n : ℕ) → MarkedCan n → AlternativeCan (suc n)
  unfolding can_in
  alternative_can n h e number known within =
      let call = can_in other n (Name (marker_name (2 * number)) (form_extent e)) in
      let inner = can_in other n (mark (number + 1) e) in
      let items = outcome_of_items (can_in other n)
      (before_marker (2 * number + 1) (form_extent e) (mark (number + 1) e)) in
      CanAll-trans (seq_outcome call items) (seq_outcome always_empty inner) (can_in rules (suc n) e)
      (CanAll-seq_outcome call items always_empty inner
      (CanAll-marker n (2 * number) (form_extent e) (omega (arith, within)))
      (before_can n (2 * number + 1) (form_extent e) (mark (number + 1) e) (omega (arith, within))))
      (CanAll-trans (seq_outcome always_empty inner) inner (can_in rules (suc n) e) (CanAll-before inner)
      (CanAll-trans inner (can_in rules n e) (can_in rules (suc n) e) (h e (number + 1) known (omega (arith, within)))
      (can_in-more rules n e)))

  abbrev RuleCan : ℕ → Type 0
  RuleCan n =
      (e : Form) (number marker : ℕ) (span : Extent) → UsesKnown (names rules) e → number + alternatives e ≤ total
      → marker < 2 * total + count → CanAll (can_in other n (with_end marker span (mark number e))) (can_in rules n e)

  -- the expression of a rule before its marker
  rule_can : (n : ℕ) → MarkedCan n → RuleCan (suc n)
  unfolding can_in
  rule_can n h e number marker span known within below =
      let inner = can_in other n (mark number e) in
      CanAll-trans (outcome_of_items (can_in other n) (before_marker marker span (mark number e))) inner
      (can_in rules (suc n) e) (before_can n marker span (mark number e) below)
      (CanAll-trans inner (can_in rules n e) (can_in rules (suc n) e) (h e number known within) (can_in-more rules n e))

  module _ (n : ℕ) (h : MarkedCan n) (g : AlternativeCan n) (k : RuleCan n) where
    abbrev judge : OutcomeOf
    judge = can_in rules n

    abbrev marked : OutcomeOf
    marked = can_in other n

    items-can : (items : Forms) (number : ℕ) → AllUseKnown (names rules) items → number + alternatives_of_all items ≤ total
        → CanAll (outcome_of_items marked (mark_all number items)) (outcome_of_items judge items)
    items-can End number known within = CanAll-refl always_empty
    items-can (Then e rest) number known within =
        CanAll-seq_outcome (marked (mark number e)) (outcome_of_items marked (mark_all (number + alternatives e) rest))
        (judge e) (outcome_of_items judge rest) (h e number (known-front rules closed e rest known) (omega (arith, within)))
        (items-can rest (number + alternatives e) (known-back rules closed e rest known) (omega (arith, within)))

    choice-can : (e : Form) (rest : Forms) (number : ℕ) → UsesKnown (names rules) e → AllUseKnown (names rules) rest
        → number + (1 + alternatives e + alternatives_of_each rest) ≤ total
        → CanAll (outcome_of_choice marked (with_markers number (form_extent e) (mark (number + 1) e))
        (mark_each (number + 1 + alternatives e) rest)) (outcome_of_choice judge e rest)
    choice-can e End number known also within = g e number known (omega (arith, within))
    choice-can e (Then next rest) number known also within =
        let later = number + 1 + alternatives e in
        CanAll-choice_outcome (marked (with_markers number (form_extent e) (mark (number + 1) e)))
        (outcome_of_choice marked (with_markers later (form_extent next) (mark (later + 1) next))
        (mark_each (later + 1 + alternatives next) rest))
        (judge e) (outcome_of_choice judge next rest) (g e number known (omega (arith, within)))
        (choice-can next rest later (known-front rules closed next rest also) (known-back rules closed next rest also)
        (omega (arith, within)))

    -- the marker of a rule is one of the markers
    marker_within : {name : List ℕ} {m : Meaning} → (c : HasMarked count total rules other name m) → c.marker < 2 * total + count
    marker_within c = omega (arith, c.ends, c.below)

    name-can : (name : List ℕ) (span : Extent) → UsesKnown (names rules) (Name name span)
        → CanAll (outcome_of_meaning marked (meaning_of other name)) (outcome_of_meaning judge (meaning_of rules name))
    name-can name span known =
        let means = known-name rules closed name span known in
        let c = copied name means.0 means.1 in
        subst (λ found. CanAll (outcome_of_meaning marked (meaning_of other name)) (outcome_of_meaning judge found))
        (sym means.1)
        (subst (λ o. CanAll (outcome_of_meaning marked o) (judge (means.0).body)) (sym c.found)
        (subst (λ body. CanAll (marked body) (judge (means.0).body)) (sym c.is_marked)
        (k (means.0).body (first_alternative_from 0 rules name) c.marker c.span means.2 c.within (marker_within c))))

    table-can : (e : Form) (number : ℕ) → UsesKnown (names rules) e → number + alternatives e ≤ total
        → CanAll (can_table other marked (mark number e)) (can_table rules judge e)
    table-can (Literal [] span) number known within = CanAll-refl (can_table rules judge (Literal [] span))
    table-can (Literal (b ∷ bs) span) number known within = CanAll-refl (can_table rules judge (Literal (b ∷ bs) span))
    table-can (Class set span) number known within = CanAll-refl (can_table rules judge (Class set span))
    table-can (Any span) number known within = CanAll-refl (can_table rules judge (Any span))
    table-can (Name name span) number known within = name-can name span known
    table-can (Seq items span) number known within = items-can items number known within
    table-can (Choice first rest span) number known within =
        choice-can first rest number (known-front rules closed first rest known) (known-back rules closed first rest known)
        within
    table-can (Optional part span) number known within =
        CanAll-optional_outcome (marked (mark number part)) (judge part) (h part number known within)
    table-can (Star part span) number known within =
        CanAll-star_outcome (marked (mark number part)) (judge part) (h part number known within)
    table-can (Plus part span) number known within =
        CanAll-plus_outcome (marked (mark number part)) (judge part) (h part number known within)
    table-can (Counted part min max span) number known within =
        CanAll-repeat_outcome (marked (mark number part)) (judge part) (h part number known within) min max
    table-can (And part span) number known within =
        CanAll-and_outcome (marked (mark number part)) (judge part) (h part number known within)
    table-can (Not part span) number known within =
        CanAll-not_outcome (marked (mark number part)) (judge part) (h part number known within)

  alternative_none : AlternativeCan zero
  unfolding can_in
  alternative_none e number known within = CanAll-refl no_outcome

  rule_none : RuleCan zero
  unfolding can_in
  rule_none e number marker span known within below = CanAll-refl no_outcome

  each-can : (n : ℕ) → MarkedCan n × AlternativeCan n × RuleCan n
  unfolding can_in
  each-can zero = (λ e number known within. CanAll-refl no_outcome, alternative_none, rule_none)
  each-can (suc n) = let before = each-can n in (
    λ e number known within. table-can n before.0 before.1 before.2 e number known within,
    alternative_can n before.0,
    rule_can n before.0,
  )

  pub GivesNothing-mark : (e : Form) (number : ℕ) → UsesKnown (names rules) e → number + alternatives e ≤ total
      → GivesNothing other (mark number e) → GivesNothing rules e
  GivesNothing-mark e number known within gives = (gives.0, ((each-can gives.0).0 e number known within).nothing gives.1)
