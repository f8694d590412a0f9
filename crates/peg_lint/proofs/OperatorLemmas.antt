-- What Ford's outcomes exclude of operators.
use Rattle.std.proofs.Common.{◌≡◌, ◌⊎◌, ◌↔◌, inl, inr, Bool, true, false, not, IsTrue, List, sym, ◌∙◌, subst}
use Rattle.peg_semantics.specs.Form.{Form, Literal, Class, Any, Name, Seq, Choice, Optional, Star, Plus, Counted, And, Not}
use Rattle.peg_semantics.specs.Rules.{Rule}
use Rattle.peg_lint.specs.Excluded.{CannotFail, CannotMatch}
use Rattle.peg_lint.specs.Linting.{IsOperatorOn}
use Rattle.peg_lint.specs.Never.{NeverFails, NeverMatches}
use Rattle.peg_lint.specs.Warnings.{IsFailingPredicate, IsWithoutUse, IsItemOf, IsPredicate, IsUntriedIn, IsWithoutEffect}
use Rattle.peg_lint.proofs.EffectLemmas.{optional-nothing, optional-same, star-nothing, and-fails, and-nothing, not-fails, not-nothing}
use Rattle.peg_lint.proofs.NeverLemmas.{not_true, true_not}

-- ---- tests of the code

-- from what a test decides of a part to what it decides of the operator that the code has
pub of-operator : (given whole part e : Form) (test : Bool) (Of Is : Form → Type 0) → given ≡ whole
    → (IsOperatorOn whole e → part ≡ e) → (IsTrue test ↔ Of e) → (Of part → Is whole) → (Is whole → Of part)
    → IsOperatorOn given e → (IsTrue test ↔ Is given)
of-operator given whole part e test Of Is same is_part decides up down on =
    let here : part ≡ e = is_part (subst (λ (f : Form). IsOperatorOn f e) same on) in (
      λ h. subst Is (sym same) (up (subst Of (sym here) (decides.0 h))),
      λ is. decides.1 (subst Of here (down (subst Is same is))),
    )

module _ (a b : Bool) (A B : Type 0) (one : IsTrue a ↔ A) (two : IsTrue b ↔ B) where
  pub either-true : a ≡ true → (IsTrue a ↔ (A ⊎ B))
  either-true same = (λ h. inl (one.0 h), λ is. same)

  pub either-false : a ≡ false → (IsTrue b ↔ (A ⊎ B))
  either-false same = (
    λ h. inr (two.0 h),
    λ is. elim is [ inl x ↦ absurd (let bad : false ≡ true = sym same ∙ one.1 x in cc) | inr y ↦ two.1 y ],
  )

  pub only-true : a ≡ true → (IsTrue (not b) ↔ (A × ¬ B))
  only-true same = (λ h. (one.0 same, λ y. true_not b h (two.1 y)), λ is. not_true b (λ h. is.1 (two.0 h)))

  pub only-false : a ≡ false → (IsTrue a ↔ (A × ¬ B))
  only-false same = (λ h. absurd (let bad : false ≡ true = sym same ∙ h in cc), λ is. one.1 is.0)

-- ---- what is excluded never happens

module _ (rules : List Rule) (matches : (e : Form) → CannotMatch rules e → NeverMatches rules e)
    (fails : (e : Form) → CannotFail rules e → NeverFails rules e) where
  pub failing-says : (e : Form) → IsFailingPredicate rules e → IsPredicate e × NeverMatches rules e
  failing-says (Literal bytes span) is = absurd is
  failing-says (Class set span) is = absurd is
  failing-says (Any span) is = absurd is
  failing-says (Name name span) is = absurd is
  failing-says (Seq items span) is = absurd is
  failing-says (Choice first rest span) is = absurd is
  failing-says (Optional part span) is = absurd is
  failing-says (Star part span) is = absurd is
  failing-says (Plus part span) is = absurd is
  failing-says (Counted part min max span) is = absurd is
  failing-says (And part span) is = (tt, and-fails rules part span (matches part is))
  failing-says (Not part span) is = (tt, not-fails rules part span (fails part is))

  pub without-use-says : (e : Form) → IsWithoutUse rules e → IsWithoutEffect rules e
  without-use-says (Literal bytes span) is = absurd is
  without-use-says (Class set span) is = absurd is
  without-use-says (Any span) is = absurd is
  without-use-says (Name name span) is = absurd is
  without-use-says (Seq items span) is = absurd is
  without-use-says (Choice first rest span) is = absurd is
  without-use-says (Optional part span) (inl is) = inl (optional-nothing rules part span (matches part is))
  without-use-says (Optional part span) (inr is) = inr (optional-same rules part span (fails part is))
  without-use-says (Star part span) is = star-nothing rules part span (matches part is)
  without-use-says (Plus part span) is = absurd is
  without-use-says (Counted part min max span) is = absurd is
  without-use-says (And part span) is = and-nothing rules part span (fails part is.0)
  without-use-says (Not part span) is = not-nothing rules part span (matches part is.0)

-- ---- an operator has no items

pub no-items : (e part item : Form) → IsOperatorOn e part → IsItemOf e item → ⊥
no-items (Literal bytes span) part item on is = is
no-items (Class set span) part item on is = is
no-items (Any span) part item on is = is
no-items (Name name span) part item on is = is
no-items (Seq items span) part item on is = on
no-items (Choice first rest span) part item on is = on
no-items (Optional e span) part item on is = is
no-items (Star e span) part item on is = is
no-items (Plus e span) part item on is = is
no-items (Counted e min max span) part item on is = is
no-items (And e span) part item on is = is
no-items (Not e span) part item on is = is

pub no-untried : (rules : List Rule) (e part a b : Form) → IsOperatorOn e part → IsUntriedIn rules e a b → ⊥
no-untried rules (Literal bytes span) part a b on is = is
no-untried rules (Class set span) part a b on is = is
no-untried rules (Any span) part a b on is = is
no-untried rules (Name name span) part a b on is = is
no-untried rules (Seq items span) part a b on is = is
no-untried rules (Choice first rest span) part a b on is = on
no-untried rules (Optional e span) part a b on is = is
no-untried rules (Star e span) part a b on is = is
no-untried rules (Plus e span) part a b on is = is
no-untried rules (Counted e min max span) part a b on is = is
no-untried rules (And e span) part a b on is = is
no-untried rules (Not e span) part a b on is = is
