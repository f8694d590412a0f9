-- From what is found of each rule to all that is decided.
use Rattle.std.proofs.Common.{◌≡◌, inl, inr, ℕ, List, None, Option, Some, sym, subst}
use Rattle.std.proofs.lemmas.List.Elements.{All-contains}
use Rattle.peg_bytes.specs.Extent.{Extent}
use Rattle.peg_semantics.specs.Form.{Form}
use Rattle.peg_semantics.specs.Rules.{Rule}
use Rattle.peg_semantics.specs.WellFormed.{subexpressions}
use Rattle.peg_lint.specs.Linting.{FindsExcluded, FindsOf, FindsRules, FindsUnused, Keeps}
use Rattle.peg_lint.specs.Warnings.{Decides, HasWarning, IsPartOfRule, IsPlaced, extent_of}
use Rattle.peg_lint.specs.declared.warning.Warning.{Warning}
use Rattle.peg_lint.specs.declared.warning.WarningKind.{WarningKind}
use Rattle.peg_lint.specs.declared.warning.WarningKind.TheVariants as kind
use Rattle.peg_lint.proofs.DotLemmas.{some-next}
use Rattle.peg_lint.proofs.FileLemmas.{HasWarning-later}

module _ (rules : List Rule) (start : ℕ) (l0 l1 : List Warning) (all : FindsRules rules l0) (keeps : Keeps l0 l1)
    (unused : FindsUnused rules start l1) where
  part-found : (number : ℕ) (e : Form) → IsPartOfRule rules number e → FindsOf rules number l0 e
  part-found number e part =
      All-contains (FindsOf rules number l0) (subexpressions part.0.body) e
      ((all number (some-next rules number part.0 part.1)).parts part.0 part.1) part.2

  placed-found : (number : ℕ) (e : Form) → IsPlaced rules number e → FindsExcluded rules number e l0
  placed-found number e (inl body) =
      subst (λ (f : Form). FindsExcluded rules number f l0) body.2
      ((all number (some-next rules number body.0 body.1)).body body.0 body.1)
  placed-found number e (inr item) = (part-found number item.0 item.1).items e item.2

  later : (what : WarningKind) (number : ℕ) (span other : Extent) (by given : Option Extent)
      → HasWarning l0 what number span by → span ≡ other → given ≡ by → HasWarning l1 what number other given
  later what number span other by given has at because =
      subst (λ b. HasWarning l1 what number other b) (sym because)
      (subst (λ s. HasWarning l1 what number s by) at (HasWarning-later l0 l1 keeps what number span by has))

  -- what is decided is found
  pub decided-found : (what : WarningKind) (number : ℕ) (span : Extent) (by : Option Extent)
      → Decides what rules start number span by → HasWarning l1 what number span by
  decided-found kind.UnusedRule number span by is =
      subst (λ b. HasWarning l1 kind.UnusedRule number span b) (sym is.1) (unused number span is.0)
  decided-found kind.NeverMatches number span by is =
      later kind.NeverMatches number (extent_of is.0.e) span None by
      (placed-found number is.0.e is.0.placed is.0.matter is.0.excluded) is.0.span_is is.1
  decided-found kind.NeverTried number span by is =
      later kind.NeverTried number (extent_of is.later) span (Some (extent_of is.earlier)) by
      ((part-found number is.choice is.part).untried is.earlier is.later is.untried) is.span_is (sym is.by_is)
  decided-found kind.AlwaysFails number span by is =
      later kind.AlwaysFails number (extent_of is.0.0) span None by
      ((part-found number is.0.0 is.0.1).operator.failing is.0.3) is.0.2 is.1
  decided-found kind.NoEffect number span by is =
      later kind.NoEffect number (extent_of is.0.0) span None by
      ((part-found number is.0.0 is.0.1).operator.without_use is.0.3) is.0.2 is.1
  decided-found kind.SameAlternative number span by is = absurd is
  decided-found kind.Shadowed number span by is = absurd is
  decided-found kind.NeverStops number span by is = absurd is
  decided-found kind.NeverFollows number span by is = absurd is
  decided-found kind.TakesNothing number span by is = absurd is
  decided-found kind.ReversedRange number span by is = absurd is
  decided-found kind.EmptyAlternative number span by is = absurd is
  decided-found kind.AnyAtEnd number span by is = absurd is
  decided-found kind.ClassBeginsWithCaret number span by is = absurd is
  decided-found kind.ClassEndsInRange number span by is = absurd is
  decided-found kind.RangeOverSigns number span by is = absurd is
  decided-found kind.HoldsLineEnd number span by is = absurd is
  decided-found kind.HighBytesInClass number span by is = absurd is
  decided-found kind.BlanksInClass number span by is = absurd is
  decided-found kind.RepeatedByte number span by is = absurd is
