-- The warnings about the text of an expression, by its form.
use Rattle.std.proofs.Common.{◌≡◌, ℕ, List, sym, ◌∙◌, subst}
use Rattle.peg_bytes.specs.ByteSet.{Bytes}
use Rattle.peg_bytes.specs.Extent.{Extent}
use Rattle.peg_semantics.specs.Form.{Form, Forms, Literal, Class, Any, Name, Seq, Choice, Optional, Star, Plus, Counted}
use Rattle.peg_semantics.specs.Form.{And, Not, End}
use Rattle.peg_lint.specs.Linting.{FindsClass, FindsEmpty, FindsLineEnd, FindsText}
use Rattle.peg_lint.specs.Warnings.{IsLaterAlternative}
use Rattle.peg_lint.specs.declared.warning.Warning.{Warning}

-- an expression is neither a literal nor a class nor a choice
abbrev pub HasNoText : Form → Type 0
HasNoText (Literal bytes span) = ⊥
HasNoText (Class set span) = ⊥
HasNoText (Any span) = Unit {0}
HasNoText (Name name span) = Unit {0}
HasNoText (Seq items span) = Unit {0}
HasNoText (Choice first rest span) = ⊥
HasNoText (Optional part span) = Unit {0}
HasNoText (Star part span) = Unit {0}
HasNoText (Plus part span) = Unit {0}
HasNoText (Counted part min max span) = Unit {0}
HasNoText (And part span) = Unit {0}
HasNoText (Not part span) = Unit {0}

same-extent : {bytes these : List ℕ} {span other : Extent} → Literal bytes span ≡ Literal these other → span ≡ other
same-extent same = cc

same-class : {set these : Bytes} {span other : Extent} → Class set span ≡ Class these other → span ≡ other
same-class same = cc

no-literal : (e : Form) → HasNoText e → (bytes : List ℕ) (span : Extent) → e ≡ Literal bytes span → ⊥
no-literal e none bytes span same = subst HasNoText same none

no-class : (e : Form) → HasNoText e → (set : Bytes) (span : Extent) → e ≡ Class set span → ⊥
no-class e none set span same = subst HasNoText same none

no-alternatives : (e : Form) → HasNoText e → (one other : Form) → IsLaterAlternative e one other → ⊥
no-alternatives (Literal bytes span) none one other is = is
no-alternatives (Class set span) none one other is = is
no-alternatives (Any span) none one other is = is
no-alternatives (Name name span) none one other is = is
no-alternatives (Seq items span) none one other is = is
no-alternatives (Choice first rest span) none one other is = none
no-alternatives (Optional part span) none one other is = is
no-alternatives (Star part span) none one other is = is
no-alternatives (Plus part span) none one other is = is
no-alternatives (Counted part min max span) none one other is = is
no-alternatives (And part span) none one other is = is
no-alternatives (Not part span) none one other is = is

module _ (file : List ℕ) (number : ℕ) (found : List Warning) (e : Form) where
  pub FindsText-none : HasNoText e → FindsText file number found e
  FindsText-none none = record {
    literal = λ bytes span same. absurd (no-literal e none bytes span same);
    class = λ set span same. absurd (no-class e none set span same);
    empty = λ span later is. absurd (no-alternatives e none (Seq End span) later is);
  }

  pub FindsText-literal : (bytes : List ℕ) (span : Extent) → e ≡ Literal bytes span
      → FindsLineEnd file number span found → FindsText file number found e
  FindsText-literal bytes span here finds = record {
    literal = λ these other same. subst (λ s. FindsLineEnd file number s found) (same-extent (sym here ∙ same)) finds;
    class = λ set other same. absurd (let bad : Literal bytes span ≡ Class set other = sym here ∙ same in cc);
    empty = λ other later is. absurd (subst (λ (f : Form). IsLaterAlternative f (Seq End other) later) here is);
  }

  pub FindsText-class : (set : Bytes) (span : Extent) → e ≡ Class set span → FindsClass file number span found
      → FindsText file number found e
  FindsText-class set span here finds = record {
    literal = λ bytes other same. absurd (let bad : Class set span ≡ Literal bytes other = sym here ∙ same in cc);
    class = λ these other same. subst (λ s. FindsClass file number s found) (same-class (sym here ∙ same)) finds;
    empty = λ other later is. absurd (subst (λ (f : Form). IsLaterAlternative f (Seq End other) later) here is);
  }

  pub FindsText-choice : (first : Form) (rest : Forms) (span : Extent) → e ≡ Choice first rest span
      → FindsEmpty number (Choice first rest span) found → FindsText file number found e
  FindsText-choice first rest span here finds = record {
    literal = λ bytes other same. absurd (let bad : Choice first rest span ≡ Literal bytes other = sym here ∙ same in cc);
    class = λ set other same. absurd (let bad : Choice first rest span ≡ Class set other = sym here ∙ same in cc);
    empty = λ other later is. finds other later
        (subst (λ (f : Form). IsLaterAlternative f (Seq End other) later) here is);
  }
