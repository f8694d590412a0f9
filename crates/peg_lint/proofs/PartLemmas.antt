-- Parts of rules, and the warnings about them.
use Rattle.std.proofs.Common.{◌≡◌, ℕ, zero, suc, ◌<◌, ◌⊎◌, inl, inr, List, [], ◌∷◌, ◌++◌, Contains, length, get_or}
use Rattle.std.proofs.Common.{map, slice_get, Option, None, Some, option_map, refl, sym, ap, ◌∙◌, subst, arith}
use Rattle.std.proofs.lemmas.List.{append-nil, append_assoc}
use Rattle.std.proofs.lemmas.List.Elements.{Contains-append_left, Contains-append_right}
use Rattle.peg_bytes.specs.Extent.{Extent, extent}
use Rattle.peg_bytes.specs.ByteSet.{bytes_of}
use Rattle.peg_bytes.specs.declared.byte_set.ByteSet.{ByteSet}
use Rattle.peg_bytes.specs.declared.span.Span.{Span}
use Rattle.peg_grammar.proofs.WrittenForms.{form_of-Name, form_of-Optional, form_of-Star, form_of-Plus, form_of-Counted, form_of-And, form_of-Not}
use Rattle.peg_grammar.specs.Written.{form_of, node_form}
use Rattle.peg_grammar.specs.declared.expr.Expr.TheFolds.{fold-roll-Expr}
use Rattle.peg_grammar.specs.declared.expr.Expr.TheOpen as layer
use Rattle.peg_grammar.specs.declared.expr.Expr.TheVariants.{Literal, Class, Any, Name, rolls-Literal, rolls-Class, rolls-Any}
use Rattle.peg_grammar.specs.declared.expr.Expr.TheViews as code
use Rattle.std.specs.declared.alloc.Global.{Global}
use Rattle.std.specs.declared.boxed.Box.{Box}
use Rattle.std.specs.declared.string.String.{String}
use Rattle.std.specs.declared.vec.Vec.{Vec}
use Rattle.peg_grammar.specs.declared.expr.Expr.{Expr}
use Rattle.peg_semantics.specs.AbstractOutcomes.{Can}
use Rattle.peg_semantics.specs.Form as form
use Rattle.peg_semantics.specs.Form.{Form, Forms, Choice, End, Then, forms, names_used}
use Rattle.peg_semantics.specs.RuleOutcomes.{IsAbstractOutcome}
use Rattle.peg_semantics.specs.Rules.{Rule}
use Rattle.peg_semantics.specs.WellFormed.{subexpressions, below, below_all}
use Rattle.peg_lint.specs.Linting.{AreAllPlaced, ArePartsOfRule, AllArePartsOfRule, IsOperatorOn, IsChoiceWith}
use Rattle.peg_lint.specs.Outcomes.{AreOutcomes}
use Rattle.peg_lint.specs.Warnings.{IsAmong, IsItemOf, IsPartOfRule, IsPlaced}

-- an expression is one of its subexpressions
pub itself : (e : Form) (xs : List Form) → Contains (e ∷ xs) e
itself e xs = (0, omega arith, refl)

-- what is in a list is in it after one more element
pub one_more : (e x : Form) (xs : List Form) → Contains xs x → Contains (e ∷ xs) x
one_more e x xs in_it = Contains-append_right (e ∷ []) xs x in_it

-- the parts of an item are parts of the items
pub item-parts : (items : List Expr) (i : ℕ) (item : Expr) → i < length items → item ≡ get_or items i item
    → (x : Form) → Contains (subexpressions (form_of item)) x → Contains (below_all (forms (map form_of items))) x
item-parts [] i item within is x in_it = absurd (omega (arith, within))
item-parts (y ∷ ys) zero item within is x in_it =
    let same : form_of item ≡ form_of y = ap form_of is in
    let here : Contains (subexpressions (form_of y)) x = subst (λ (e : Form). Contains (subexpressions e) x) same in_it in
    Contains-append_left (subexpressions (form_of y)) (below_all (forms (map form_of ys))) x here
item-parts (y ∷ ys) (suc i) item within is x in_it =
    Contains-append_right (subexpressions (form_of y)) (below_all (forms (map form_of ys))) x
    (item-parts ys i item (omega (arith, within)) is x in_it)

-- an item is one of the items
pub item-among : (items : List Expr) (i : ℕ) (item : Expr) → i < length items → item ≡ get_or items i item
    → IsAmong (forms (map form_of items)) (form_of item)
item-among [] i item within is = absurd (omega (arith, within))
item-among (y ∷ ys) zero item within is = inl (ap form_of (sym is))
item-among (y ∷ ys) (suc i) item within is = inr (item-among ys i item (omega (arith, within)) is)

-- one item more has its outcomes
pub AreOutcomes-more : (rules : List Rule) (all now after : Forms) (e : Form) (can : Can) (cans : List Can)
    → now ≡ Then e after
    → ((rest : List Can) → AreOutcomes rules now rest → AreOutcomes rules all (cans ++ rest))
    → IsAbstractOutcome rules e can
    → (rest : List Can) → AreOutcomes rules after rest → AreOutcomes rules all ((cans ++ can ∷ []) ++ rest)
AreOutcomes-more rules all now after e can cans step so_far is rest are =
    let here : AreOutcomes rules now (can ∷ rest) =
    subst (λ (items : Forms). AreOutcomes rules items (can ∷ rest)) (sym step) (is, are) in
    subst (AreOutcomes rules all) (sym (append_assoc cans (can ∷ []) rest)) (so_far (can ∷ rest) here)

-- all items have their outcomes
pub AreOutcomes-all : (rules : List Rule) (all now : Forms) (cans : List Can) → now ≡ End
    → ((rest : List Can) → AreOutcomes rules now rest → AreOutcomes rules all (cans ++ rest))
    → AreOutcomes rules all cans
AreOutcomes-all rules all now cans none so_far =
    let here : AreOutcomes rules now [] = subst (λ (items : Forms). AreOutcomes rules items []) (sym none) tt in
    subst (AreOutcomes rules all) (append-nil cans) (so_far [] here)

-- ---- literals, classes and dots

pub form_of-Literal : (bytes : Vec ℕ Global) (span : Span)
    → form_of (Literal bytes span) ≡ form.Literal bytes.items (extent span)
form_of-Literal bytes span =
    ap form_of (sym (rolls-Literal bytes span)) ∙ fold-roll-Expr Form node_form (layer.Literal bytes span)

pub form_of-Class : (set : ByteSet) (span : Span) → form_of (Class set span) ≡ form.Class (bytes_of set) (extent span)
form_of-Class set span =
    ap form_of (sym (rolls-Class set span)) ∙ fold-roll-Expr Form node_form (layer.Class set span)

pub form_of-Any : (span : Span) → form_of (Any span) ≡ form.Any (extent span)
form_of-Any span = ap form_of (sym (rolls-Any span)) ∙ fold-roll-Expr Form node_form (layer.Any span)

-- a literal, a class, a dot or a name has no parts
pub no-parts : (expr : Expr)
    → ((bytes : Vec ℕ Global) × (span : Span) × (expr ≡ Literal bytes span))
    ⊎ (((set : ByteSet) × (span : Span) × (expr ≡ Class set span))
    ⊎ (((span : Span) × (expr ≡ Any span))
    ⊎ ((name : String Global) × (span : Span) × (expr ≡ Name name span))))
    → below (form_of expr) ≡ []
no-parts expr (inl (bytes, span, is)) = ap below (ap form_of is ∙ form_of-Literal bytes span)
no-parts expr (inr (inl (set, span, is))) = ap below (ap form_of is ∙ form_of-Class set span)
no-parts expr (inr (inr (inl (span, is)))) = ap below (ap form_of is ∙ form_of-Any span)
no-parts expr (inr (inr (inr (name, span, is)))) = ap below (ap form_of is ∙ form_of-Name name span)

-- ---- operators

-- an operator, and its part, whose parts are parts of the operator
pub record IsOn (e part : Form) : Type 0 where
  pub on : IsOperatorOn e part
  pub below_is : below e ≡ subexpressions part
  pub names_are : names_used e ≡ names_used part
  pub parts : (x : Form) → Contains (subexpressions part) x → Contains (subexpressions e) x

module _ (expr : Expr) (part : Box Expr Global) where
  at : (e : Form) → form_of expr ≡ e → IsOn e (form_of part.value) → IsOn (form_of expr) (form_of part.value)
  at e same is = subst (λ (f : Form). IsOn f (form_of part.value)) (sym same) is

  pub is_on : ((span : Span) × (expr ≡ code.Optional part span))
      ⊎ (((span : Span) × (expr ≡ code.Star part span))
      ⊎ (((span : Span) × (expr ≡ code.Plus part span))
      ⊎ (((min max : ℕ) × (span : Span) × (expr ≡ code.Counted part min max span))
      ⊎ (((span : Span) × (expr ≡ code.And part span))
      ⊎ ((span : Span) × (expr ≡ code.Not part span))))))
      → IsOn (form_of expr) (form_of part.value)
  is_on (inl (span, is)) =
      let p = form_of part.value in
      let e = form.Optional p (extent span) in
      at e (ap form_of is ∙ form_of-Optional part span) (record { on = refl; below_is = refl; names_are = refl; parts = λ x. one_more e x (subexpressions p) })
  is_on (inr (inl (span, is))) =
      let p = form_of part.value in
      let e = form.Star p (extent span) in
      at e (ap form_of is ∙ form_of-Star part span) (record { on = refl; below_is = refl; names_are = refl; parts = λ x. one_more e x (subexpressions p) })
  is_on (inr (inr (inl (span, is)))) =
      let p = form_of part.value in
      let e = form.Plus p (extent span) in
      at e (ap form_of is ∙ form_of-Plus part span) (record { on = refl; below_is = refl; names_are = refl; parts = λ x. one_more e x (subexpressions p) })
  is_on (inr (inr (inr (inl (min, max, span, is))))) =
      let p = form_of part.value in
      let e = form.Counted p min max (extent span) in
      at e (ap form_of is ∙ form_of-Counted part min max span)
      (record { on = refl; below_is = refl; names_are = refl; parts = λ x. one_more e x (subexpressions p) })
  is_on (inr (inr (inr (inr (inl (span, is)))))) =
      let p = form_of part.value in
      let e = form.And p (extent span) in
      at e (ap form_of is ∙ form_of-And part span) (record { on = refl; below_is = refl; names_are = refl; parts = λ x. one_more e x (subexpressions p) })
  is_on (inr (inr (inr (inr (inr (span, is)))))) =
      let p = form_of part.value in
      let e = form.Not p (extent span) in
      at e (ap form_of is ∙ form_of-Not part span) (record { on = refl; below_is = refl; names_are = refl; parts = λ x. one_more e x (subexpressions p) })

-- ---- sequences and choices

module _ (rules : List Rule) (number : ℕ) (e : Form) (parts : ArePartsOfRule rules number e) where
  -- the expression itself is a part
  pub whole : IsPartOfRule rules number e
  whole = parts e (itself e (below e))

  pub items-are : (items : Forms) (span : Extent) → e ≡ form.Seq items span → (now : Forms) → now ≡ items
      → AllArePartsOfRule rules number now
  items-are items span same now here x in_it =
      let seq = form.Seq items span in
      let within : Contains (below_all items) x = subst (λ (l : Forms). Contains (below_all l) x) here in_it in
      let inside : Contains (subexpressions e) x =
      subst (λ (f : Form). Contains (subexpressions f) x) (sym same) (one_more seq x (below_all items) within) in
      parts x inside

  pub items-placed : (items : Forms) (span : Extent) → e ≡ form.Seq items span → (now : Forms) → now ≡ items
      → AreAllPlaced rules number now
  items-placed items span same now here item among =
      let inside : IsItemOf e item =
      subst (λ (f : Form). IsItemOf f item) (sym same) (subst (λ (l : Forms). IsAmong l item) here among) in
      inr (e, whole, inside)

  module _ (first : Form) (rest : Forms) (span : Extent) (same : e ≡ Choice first rest span) where
    pub first-placed : (now : Form) → now ≡ first → IsPlaced rules number now
    first-placed now here =
        let inside : IsItemOf e now = subst (λ (f : Form). IsItemOf f now) (sym same) (inl (sym here)) in
        inr (e, whole, inside)

    pub rest-placed : (now : Forms) → now ≡ rest → AreAllPlaced rules number now
    rest-placed now here item among =
        let inside : IsItemOf e item =
        subst (λ (f : Form). IsItemOf f item) (sym same) (inr (subst (λ (l : Forms). IsAmong l item) here among)) in
        inr (e, whole, inside)

    pub first-is : (now : Form) → now ≡ first → ArePartsOfRule rules number now
    first-is now here x in_it =
        let choice = Choice first rest span in
        let within : Contains (subexpressions first) x =
        subst (λ (f : Form). Contains (subexpressions f) x) here in_it in
        let inside : Contains (subexpressions e) x =
        subst (λ (f : Form). Contains (subexpressions f) x) (sym same)
        (one_more choice x (subexpressions first ++ below_all rest)
        (Contains-append_left (subexpressions first) (below_all rest) x within)) in
        parts x inside

    pub rest-are : (now : Forms) → now ≡ rest → AllArePartsOfRule rules number now
    rest-are now here x in_it =
        let choice = Choice first rest span in
        let within : Contains (below_all rest) x = subst (λ (l : Forms). Contains (below_all l) x) here in_it in
        let inside : Contains (subexpressions e) x =
        subst (λ (f : Form). Contains (subexpressions f) x) (sym same)
        (one_more choice x (subexpressions first ++ below_all rest)
        (Contains-append_right (subexpressions first) (below_all rest) x within)) in
        parts x inside

    pub choice-with : (f one : Form) (r some : Forms) (can : Can) (cans given : List Can) → f ≡ first → one ≡ first
        → r ≡ rest → some ≡ rest → given ≡ cans → IsAbstractOutcome rules f can → AreOutcomes rules r cans
        → IsChoiceWith rules number one some span can given
    choice-with f one r some can cans given at_f at_one at_r at_some is outcome outcomes = record {
      part = subst (IsPartOfRule rules number) (same ∙ sym (λ i. Choice (at_one i) (at_some i) span)) whole;
      first_outcome = subst (λ (f : Form). IsAbstractOutcome rules f can) (at_f ∙ sym at_one) outcome;
      outcomes =
          subst (λ (l : Forms). AreOutcomes rules l given) (at_r ∙ sym at_some)
          (subst (AreOutcomes rules r) (sym is) outcomes);
    }

-- ---- rules

-- the expression of a rule and its parts are parts of the rule
pub body-parts : (rules : List Rule) (number : ℕ) (e : Form)
    → option_map (λ (r : Rule). r.body) (slice_get rules number) ≡ Some e → ArePartsOfRule rules number e
body-parts rules number e is = by (slice_get rules number) refl is
  where
    by : (found : Option Rule) → slice_get rules number ≡ found → option_map (λ (r : Rule). r.body) found ≡ Some e
        → ArePartsOfRule rules number e
    by None at body x in_it = absurd cc
    by (Some rule) at body x in_it =
        let same : rule.body ≡ e = cc in
        (rule, at, subst (λ (f : Form). Contains (subexpressions f) x) (sym same) in_it)

-- the expression of a rule is that of the rule with its number
pub body-is : (rules : List Rule) (number : ℕ) (rule : Rule) (e : Form)
    → option_map (λ (r : Rule). r.body) (slice_get rules number) ≡ Some e → slice_get rules number ≡ Some rule
    → rule.body ≡ e
body-is rules number rule e is at =
    let same : Some rule.body ≡ Some e = sym (ap (option_map (λ (r : Rule). r.body)) at) ∙ is in cc

pub body-placed : (rules : List Rule) (number : ℕ) (e : Form)
    → option_map (λ (r : Rule). r.body) (slice_get rules number) ≡ Some e → IsPlaced rules number e
body-placed rules number e is = by (slice_get rules number) refl is
  where
    by : (found : Option Rule) → slice_get rules number ≡ found → option_map (λ (r : Rule). r.body) found ≡ Some e
        → IsPlaced rules number e
    by None at body = absurd cc
    by (Some rule) at body = let same : rule.body ≡ e = cc in inl (rule, at, same)
