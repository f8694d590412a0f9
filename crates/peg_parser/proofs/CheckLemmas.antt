-- What the check of core forms implies about the rules as written, and the offsets of its faults in the file.
use Rattle.std.proofs.Common.{◌≡◌, inl, inr, ℕ, zero, suc, List, [], ◌∷◌, ◌++◌, All, Contains, Some, slice_get, subst}
use Rattle.std.proofs.lemmas.List.Elements.{All-nil, All-cons, All-head, All-tail, All-append}
use Rattle.peg_bytes.specs.Extent.{Extent}
use Rattle.peg_semantics.specs.Form.{Form, Forms, Literal, Class, Any, Name, Seq, Choice, Optional, Star, Plus, Counted, And, Not, End, Then}
use Rattle.peg_semantics.specs.Loops.{IsEmptyLoop, HasLoopOver}
use Rattle.peg_semantics.specs.Rules.{Rule}
use Rattle.peg_semantics.specs.WellFormed.{subexpressions, below, below_all}
use Rattle.peg_notation.specs.Spans.{LiesIn, FormLiesIn, FormsLieIn, RuleLiesIn}

-- all parts of an expression are within the file if the expression is
mutual
  below-inside : (size : ℕ) (e : Form) → FormLiesIn size e → All (FormLiesIn size) (below e)
  below-inside size (Literal bytes span) inside = All-nil (FormLiesIn size)
  below-inside size (Class set span) inside = All-nil (FormLiesIn size)
  below-inside size (Any span) inside = All-nil (FormLiesIn size)
  below-inside size (Name name span) inside = All-nil (FormLiesIn size)
  below-inside size (Seq items span) inside = all_below-inside size items inside.1
  below-inside size (Choice first rest span) inside =
      All-cons (FormLiesIn size) first (below first ++ below_all rest) inside.1
      (All-append (FormLiesIn size) (below first) (below_all rest) (below-inside size first inside.1)
      (all_below-inside size rest inside.2))
  below-inside size (Optional part span) inside =
      All-cons (FormLiesIn size) part (below part) inside.1 (below-inside size part inside.1)
  below-inside size (Star part span) inside =
      All-cons (FormLiesIn size) part (below part) inside.1 (below-inside size part inside.1)
  below-inside size (Plus part span) inside =
      All-cons (FormLiesIn size) part (below part) inside.1 (below-inside size part inside.1)
  below-inside size (Counted part min max span) inside =
      All-cons (FormLiesIn size) part (below part) inside.1 (below-inside size part inside.1)
  below-inside size (And part span) inside =
      All-cons (FormLiesIn size) part (below part) inside.1 (below-inside size part inside.1)
  below-inside size (Not part span) inside =
      All-cons (FormLiesIn size) part (below part) inside.1 (below-inside size part inside.1)

  all_below-inside : (size : ℕ) (items : Forms) → FormsLieIn size items → All (FormLiesIn size) (below_all items)
  all_below-inside size End inside = All-nil (FormLiesIn size)
  all_below-inside size (Then e rest) inside =
      All-cons (FormLiesIn size) e (below e ++ below_all rest) inside.0
      (All-append (FormLiesIn size) (below e) (below_all rest) (below-inside size e inside.0)
      (all_below-inside size rest inside.1))

-- an item of a list has a property that all items have
one_of_all : {X : Type 0} (P : X → Type 0) (list : List X) (x : X) → All P list → Contains list x → P x
one_of_all P list x all is = subst P is.2 (all is.0 x is.1)

rule-inside : (size : ℕ) (rules : List Rule) (number : ℕ) (rule : Rule) → All (RuleLiesIn size) rules
    → slice_get rules number ≡ Some rule → RuleLiesIn size rule
rule-inside size [] number rule inside is = cc
rule-inside size (first ∷ more) zero rule inside is =
    let same : first ≡ rule = cc in subst (RuleLiesIn size) same (All-head (RuleLiesIn size) first more inside)
rule-inside size (first ∷ more) (suc number) rule inside is =
    rule-inside size more number rule (All-tail (RuleLiesIn size) first more inside) is

-- an empty loop is within the file
pub loop-inside : (size : ℕ) (rules : List Rule) (number : ℕ) (span : Extent) → All (RuleLiesIn size) rules
    → IsEmptyLoop rules number span → LiesIn size span
loop-inside size rules number span inside empty = by empty.written
  where
    all : All (FormLiesIn size) (subexpressions empty.rule.body)
    all =
        let body = (rule-inside size rules number empty.rule inside empty.numbered).1 in
        All-cons (FormLiesIn size) empty.rule.body (below empty.rule.body) body (below-inside size empty.rule.body body)

    by : HasLoopOver (subexpressions empty.rule.body) empty.part span → LiesIn size span
    by (inl star) = (one_of_all (FormLiesIn size) (subexpressions empty.rule.body) (Star empty.part span) all star).0
    by (inr plus) = (one_of_all (FormLiesIn size) (subexpressions empty.rule.body) (Plus empty.part span) all plus).0
