-- From what is found of each rule's text to what is found of the file.
use Rattle.std.proofs.Common.{◌≡◌, ◌<◌, inl, inr, ℕ, zero, suc, Bool, true, false, IsTrue, cond, List, [], ◌∷◌, Contains, filter, length, None, Option, refl, sym, ap, ◌∙◌, subst, arith}
use Rattle.std.proofs.lemmas.List.Elements.{All-contains, Contains-append_right}
use Rattle.peg_bytes.specs.Extent.{Extent}
use Rattle.peg_semantics.specs.Form.{Class, Form, Literal}
use Rattle.peg_semantics.specs.Rules.{Rule}
use Rattle.peg_semantics.specs.WellFormed.{subexpressions}
use Rattle.peg_lint.specs.FileWarnings.{FindsAll, SaysOfFile, is_selected, selects}
use Rattle.peg_lint.specs.Habits.{begins_with_caret, has_blanks_around, holds_high_byte, text_in}
use Rattle.peg_lint.specs.Linting.{FindsInFile, FindsText, HaveSameWarnings, Keeps}
use Rattle.peg_lint.specs.Warnings.{Decides, FindsDecided, HasWarning, IsPartOfRule}
use Rattle.peg_lint.specs.declared.warning.Selection.{Selection}
use Rattle.peg_lint.specs.declared.warning.Selection.TheVariants as selection
use Rattle.peg_lint.specs.declared.warning.Warning.{Warning}
use Rattle.peg_lint.specs.declared.warning.WarningKind.{WarningKind}
use Rattle.peg_lint.specs.declared.warning.WarningKind.TheVariants as kind
use Rattle.peg_lint.proofs.DotLemmas.{some-next}
use Rattle.peg_lint.proofs.FileLemmas.{HasWarning-later}

-- ---- selected warnings

kept-by : {X : Type 0} (b : Bool) (y x : X) (us : List X) → Contains us x → Contains (cond b (y ∷ us) us) x
kept-by true y x us in_it = Contains-append_right (y ∷ []) us x in_it
kept-by false y x us in_it = in_it

taken-by : {X : Type 0} (b : Bool) (y x : X) (us : List X) → b ≡ true → y ≡ x → Contains (cond b (y ∷ us) us) x
taken-by true y x us passes same = (0, omega arith, same)
taken-by false y x us passes same = cc

-- an element that passes a test is kept
pub Contains-filter : {X : Type 0} (p : X → Bool) (xs : List X) (x : X) → p x ≡ true → Contains xs x
    → Contains (filter p xs) x
Contains-filter p [] x h (k, within, is) = absurd (omega (arith, within))
Contains-filter p (y ∷ ys) x h (zero, within, is) =
    taken-by (p y) y x (filter p ys) (ap p is ∙ h) is
Contains-filter p (y ∷ ys) x h (suc k, within, is) =
    let shorter : k < length ys = omega (arith, within) in
    kept-by (p y) y x (filter p ys) (Contains-filter p ys x h (k, shorter, is))

-- a warning of a kind that is reported is kept
pub HasWarning-selected : (selection : Selection) (found : List Warning) (what : WarningKind) (number : ℕ) (span : Extent)
    (by : Option Extent) → IsTrue (selects selection what) → HasWarning found what number span by
    → HasWarning (filter (is_selected selection) found) what number span by
HasWarning-selected selection found what number span by h has =
    let passes : is_selected selection has.warning ≡ true = ap (selects selection) has.kind_is ∙ h in
    record {
      warning = has.warning;
      among = Contains-filter (is_selected selection) found has.warning passes has.among;
      kind_is = has.kind_is;
      rule_is = has.rule_is;
      span_is = has.span_is;
      by_is = has.by_is;
    }

-- ---- what is said of a file

module _ (file : List ℕ) (rules : List Rule) (found : List Warning) (all : FindsInFile file rules found) where
  text-of : (number : ℕ) (e : Form) → IsPartOfRule rules number e → FindsText file number found e
  text-of number e part =
      let within = some-next rules number part.0 part.1 in
      All-contains (FindsText file number found) (subexpressions part.0.body) e ((all number within).parts part.0 part.1)
      part.2

  class-text : (test : List ℕ → Bool) (what : WarningKind) (number : ℕ) (class span : Extent)
      → (IsTrue (test (text_in file class)) → HasWarning found what number class None) → class ≡ span
      → IsTrue (test (text_in file span)) → HasWarning found what number span None
  class-text test what number class span finds same h =
      subst (λ s. HasWarning found what number s None) same
      (finds (subst (λ s. IsTrue (test (text_in file s))) (sym same) h))

  -- what is said of the file is found
  pub says-found : (what : WarningKind) (number : ℕ) (span : Extent) → SaysOfFile what file rules number span
      → HasWarning found what number span None
  says-found kind.UnusedRule number span is = absurd is
  says-found kind.NeverMatches number span is = absurd is
  says-found kind.NeverTried number span is = absurd is
  says-found kind.AlwaysFails number span is = absurd is
  says-found kind.NoEffect number span is = absurd is
  says-found kind.SameAlternative number span is = absurd is
  says-found kind.Shadowed number span is = absurd is
  says-found kind.NeverStops number span is = absurd is
  says-found kind.NeverFollows number span is = absurd is
  says-found kind.TakesNothing number span is = absurd is
  says-found kind.ReversedRange number span is =
      ((text-of number (Class is.0 is.1) is.2).class is.0 is.1 refl is.3).1.reversed span is.4
  says-found kind.EmptyAlternative number span is = (text-of number is.0 is.2).empty span is.1 is.3
  says-found kind.AnyAtEnd number span is = (all number (some-next rules number is.rule is.at)).dot span is
  says-found kind.ClassBeginsWithCaret number span is =
      class-text begins_with_caret kind.ClassBeginsWithCaret number is.1 span
      ((text-of number (Class is.0 is.1) is.2).class is.0 is.1 refl is.3).0.caret is.4.0 is.4.1
  says-found kind.ClassEndsInRange number span is =
      ((text-of number (Class is.0 is.1) is.2).class is.0 is.1 refl is.3).1.to_bracket span is.4
  says-found kind.RangeOverSigns number span is =
      ((text-of number (Class is.0 is.1) is.2).class is.0 is.1 refl is.3).1.over_signs span is.4
  says-found kind.HoldsLineEnd number span is =
      elim is.0 [
        | inl literal ↦ (text-of number (Literal literal.0 span) literal.1).literal literal.0 span refl is.1 is.2
        | inr class ↦ ((text-of number (Class class.0 span) class.1).class class.0 span refl is.1).0.line_end is.2
      ]
  says-found kind.HighBytesInClass number span is =
      class-text holds_high_byte kind.HighBytesInClass number is.1 span
      ((text-of number (Class is.0 is.1) is.2).class is.0 is.1 refl is.3).0.high is.4.0 is.4.1
  says-found kind.BlanksInClass number span is =
      class-text has_blanks_around kind.BlanksInClass number is.1 span
      ((text-of number (Class is.0 is.1) is.2).class is.0 is.1 refl is.3).0.blanks is.4.0 is.4.1
  says-found kind.RepeatedByte number span is =
      ((text-of number (Class is.0 is.1) is.2).class is.0 is.1 refl is.3).1.repeats span is.4

-- ---- all of the file

-- what is decided is of a kind that is reported by any selection
decided-reported : (selected : Selection) (rules : List Rule) (start : ℕ) (what : WarningKind) (number : ℕ) (span : Extent)
    (by : Option Extent) → Decides what rules start number span by → IsTrue (selects selected what)
decided-reported selection.All rules start what number span by is = refl
decided-reported selection.Proved rules start kind.UnusedRule number span by is = refl
decided-reported selection.Proved rules start kind.NeverMatches number span by is = refl
decided-reported selection.Proved rules start kind.NeverTried number span by is = refl
decided-reported selection.Proved rules start kind.AlwaysFails number span by is = refl
decided-reported selection.Proved rules start kind.NoEffect number span by is = refl
decided-reported selection.Proved rules start kind.SameAlternative number span by is = absurd is
decided-reported selection.Proved rules start kind.Shadowed number span by is = absurd is
decided-reported selection.Proved rules start kind.NeverStops number span by is = absurd is
decided-reported selection.Proved rules start kind.NeverFollows number span by is = absurd is
decided-reported selection.Proved rules start kind.TakesNothing number span by is = absurd is
decided-reported selection.Proved rules start kind.ReversedRange number span by is = absurd is
decided-reported selection.Proved rules start kind.EmptyAlternative number span by is = absurd is
decided-reported selection.Proved rules start kind.AnyAtEnd number span by is = absurd is
decided-reported selection.Proved rules start kind.ClassBeginsWithCaret number span by is = absurd is
decided-reported selection.Proved rules start kind.ClassEndsInRange number span by is = absurd is
decided-reported selection.Proved rules start kind.RangeOverSigns number span by is = absurd is
decided-reported selection.Proved rules start kind.HoldsLineEnd number span by is = absurd is
decided-reported selection.Proved rules start kind.HighBytesInClass number span by is = absurd is
decided-reported selection.Proved rules start kind.BlanksInClass number span by is = absurd is
decided-reported selection.Proved rules start kind.RepeatedByte number span by is = absurd is

-- what was found, selected and sorted
pub FindsAll-sorted : (file : List ℕ) (rules : List Rule) (start : ℕ) (selection : Selection)
    (l0 l1 l2 l3 : List Warning) → FindsDecided rules start l0 → Keeps l0 l1 → FindsInFile file rules l1
    → l2 ≡ filter (is_selected selection) l1 → HaveSameWarnings l2 l3 → FindsAll file rules start selection l3
FindsAll-sorted file rules start selection l0 l1 l2 l3 decided keeps all chosen sorted = record {
  decided = λ what number span by is.
      last what number span by (decided-reported selection rules start what number span by is)
      (HasWarning-later l0 l1 keeps what number span by (decided what number span by is));
  in_file = λ what number span h is. last what number span None h (says-found file rules l1 all what number span is);
}
  where
    last : (what : WarningKind) (number : ℕ) (span : Extent) (by : Option Extent) → IsTrue (selects selection what)
        → HasWarning l1 what number span by → HasWarning l3 what number span by
    last what number span by h has =
        HasWarning-later l2 l3 sorted.0 what number span by
        (subst (λ l. HasWarning l what number span by) (sym chosen)
        (HasWarning-selected selection l1 what number span by h has))
