-- The forms that nodes denote, number by number.
use Rattle.std.proofs.Common.{◌≡◌, ℕ, zero, suc, ◌+◌, ◌<◌, ◌≤◌, List, [], ◌∷◌, ◌++◌, ◌⊎◌, inl, inr, length, get_or, slice_get, option_map, Some, fold, refl, sym, ap, ◌∙◌, subst, arith, length-append}
use Rattle.std.proofs.lemmas.Bool.{cases_lt}
use Rattle.std.proofs.lemmas.List.{get_or_append_left, get_or_at}
use Rattle.std.proofs.lemmas.List.Sums.{fold-append}
use Rattle.peg_bytes.specs.Extent.{Extent, extent}
use Rattle.peg_core.specs.CoreForm.{CoreForm, Empty, Seq, Choice, Star, Not}
use Rattle.peg_core.specs.Layout.{form_at}
use Rattle.peg_core.specs.CoreNodes.{shape, NodeFits, IsStarFrom}
use Rattle.peg_core.specs.BuilderForms.{after_push, forms_of, AllFit}
use Rattle.peg_core.specs.FormsOfNodes.{AreFormsOfNodes}
use Rattle.peg_core.specs.declared.node.Node.{Node}
use Rattle.peg_core.specs.declared.node.Node.TheVariants as node
use Rattle.peg_core.specs.declared.node.Entry.{Entry}

-- the form of a node among others
abbrev formed : List CoreForm → Entry → CoreForm
formed forms part = shape forms (extent part.origin) part.node

length-after_push : (forms : List CoreForm) (part : Entry) → length (after_push forms part) ≡ length forms + 1
length-after_push forms part = length-append forms (formed forms part ∷ [])

length-fold_added : (start : List CoreForm) (parts : List Entry)
    → length (fold after_push start parts) ≡ length start + length parts
length-fold_added start [] = omega arith
length-fold_added start (p ∷ ps) = omega (arith, length-fold_added (after_push start p) ps, length-after_push start p)

-- there are as many forms as nodes
pub length-forms_of : (parts : List Entry) → length (forms_of parts) ≡ length parts
length-forms_of parts = omega (arith, length-fold_added [] parts)

-- one more node is one more form
pub forms_of-push : (parts : List Entry) (part : Entry) → forms_of (parts ++ part ∷ []) ≡ after_push (forms_of parts) part
forms_of-push parts part = fold-append after_push [] parts (part ∷ [])

-- the forms so far keep their numbers
kept : (start : List CoreForm) (parts : List Entry) (k : ℕ) → k < length start
    → form_at (fold after_push start parts) k ≡ form_at start k
kept start [] k within = refl
kept start (p ∷ ps) k within =
    kept (after_push start p) ps k (omega (arith, length-after_push start p))
    ∙ get_or_append_left start (formed start p ∷ []) Empty k within

-- the form of a node depends only on forms with smaller numbers
pub shape-same : (a b : List CoreForm) (origin : Extent) (number rules terminals : ℕ) (n : Node)
    → NodeFits number rules terminals n → ((k : ℕ) → k < number → form_at a k ≡ form_at b k)
    → shape a origin n ≡ shape b origin n
shape-same a b origin number rules terminals node.Empty fits same = refl
shape-same a b origin number rules terminals (node.Test set terminal) fits same = refl
shape-same a b origin number rules terminals (node.Rule rule) fits same = refl
shape-same a b origin number rules terminals (node.Seq first rest) fits same =
    λ i. Seq (same first fits.0 i) (same rest fits.1 i)
shape-same a b origin number rules terminals (node.Choice first rest) fits same =
    λ i. Choice (same first fits.0 i) (same rest fits.1 i)
shape-same a b origin number rules terminals (node.Star part) fits same = λ i. Star (same part fits i) origin
shape-same a b origin number rules terminals (node.Not part) fits same = λ i. Not (same part fits i)

-- each node fits at its number, where `first` is the number of the first one
abbrev FitFrom : (first rules terminals : ℕ) → List Entry → Type 0
FitFrom first rules terminals parts =
    (k : ℕ) (d : Entry) → k < length parts → NodeFits (first + k) rules terminals (get_or parts k d).node

formed_at : (start : List CoreForm) (parts : List Entry) (rules terminals k : ℕ) (d : Entry)
    → FitFrom (length start) rules terminals parts → k < length parts
    → form_at (fold after_push start parts) (length start + k) ≡ formed (fold after_push start parts) (get_or parts k d)
formed_at start [] rules terminals k d fit within = absurd (omega arith)
formed_at start (p ∷ ps) rules terminals zero d fit within =
    let here : NodeFits (length start) rules terminals p.node = subst (λ n. NodeFits n rules terminals p.node) (omega arith) (fit 0 d within) in
    let number : length start + 0 ≡ length start = omega arith in
    let longer : length start < length (after_push start p) = omega (arith, length-after_push start p) in
    ap (form_at (fold after_push start (p ∷ ps))) number
    ∙ (kept (after_push start p) ps (length start) longer
    ∙ (get_or_at start (formed start p) [] Empty (length start) refl
    ∙ shape-same start (fold after_push start (p ∷ ps)) (extent p.origin) (length start) rules terminals p.node here
    (λ k below. sym (kept start (p ∷ ps) k below))))
formed_at start (p ∷ ps) rules terminals (suc k) d fit within =
    let number : length start + suc k ≡ length (after_push start p) + k = omega (arith, length-after_push start p) in
    let later : FitFrom (length (after_push start p)) rules terminals ps = λ j e h. let same : length start + suc j ≡ length (after_push start p) + j = omega (arith, length-after_push start p) in subst (λ n. NodeFits n rules terminals (get_or ps j e).node) same (fit (suc j) e (omega arith)) in
    ap (form_at (fold after_push start (p ∷ ps))) number
    ∙ formed_at (after_push start p) ps rules terminals k d later (omega arith)

-- the form with a number is the form of its node
pub form_at-node : (parts : List Entry) (rules terminals number : ℕ) (part : Entry) → AllFit rules terminals parts
    → number < length parts → part ≡ get_or parts number part
    → form_at (forms_of parts) number ≡ shape (forms_of parts) (extent part.origin) part.node
form_at-node parts rules terminals number part fit within there =
    let from_zero : FitFrom 0 rules terminals parts = λ k d h. let same : k ≡ 0 + k = omega arith in subst (λ n. NodeFits n rules terminals (get_or parts k d).node) same (fit k d h) in
    let first : number ≡ 0 + number = omega arith in
    ap (form_at (forms_of parts)) first
    ∙ (formed_at [] parts rules terminals number part from_zero within ∙ ap (formed (forms_of parts)) (sym there))

-- a node fits if it is one of several that do
pub fits-at : (parts : List Entry) (rules terminals number : ℕ) (part : Entry) → AllFit rules terminals parts
    → number < length parts → part ≡ get_or parts number part → NodeFits number rules terminals part.node
fits-at parts rules terminals number part fit within there =
    subst (λ (p : Entry). NodeFits number rules terminals p.node) (sym there) (fit number part within)

-- each number below the number of nodes has a node
node-there : (parts : List Entry) (number : ℕ) → number < length parts
    → (part : Entry) × (part ≡ get_or parts number part)
node-there [] number within = absurd (omega (arith, within))
node-there (p ∷ ps) zero within = (p, refl)
node-there (p ∷ ps) (suc k) within = node-there ps k (omega (arith, within))

-- a node with a number, by a property of it
pub part-at : {A : Type 0} (stated : Entry → A) (parts : List Entry) (number : ℕ) (a : A)
    → number < length parts → option_map stated (slice_get parts number) ≡ Some a
    → (part : Entry) × ((part ≡ get_or parts number part) × (stated part ≡ a))
part-at stated [] number a within is = absurd (omega (arith, within))
part-at stated (p ∷ ps) zero a within is = let same : stated p ≡ a = cc in (p, (refl, same))
part-at stated (p ∷ ps) (suc k) a within is = part-at stated ps k a (omega (arith, within)) is

-- so each form is the form of a node that fits at its number
pub forms_of-nodes : (parts : List Entry) (rules terminals : ℕ) → AllFit rules terminals parts
    → AreFormsOfNodes (forms_of parts) rules terminals
forms_of-nodes parts rules terminals fit number within =
    let few : number < length parts = omega (arith, within, length-forms_of parts) in
    let part = node-there parts number few in (
      part.0.node,
      (extent part.0.origin, form_at-node parts rules terminals number part.0 fit few part.1),
      fits-at parts rules terminals number part.0 fit few part.1,
    )

-- a node still fits with more terminals
fits-more : (number rules terminals more : ℕ) (n : Node) → terminals ≤ more → NodeFits number rules terminals n
    → NodeFits number rules more n
fits-more number rules terminals more node.Empty h fits = fits
fits-more number rules terminals more (node.Test set terminal) h fits = omega arith
fits-more number rules terminals more (node.Rule rule) h fits = fits
fits-more number rules terminals more (node.Seq first rest) h fits = fits
fits-more number rules terminals more (node.Choice first rest) h fits = fits
fits-more number rules terminals more (node.Star part) h fits = fits
fits-more number rules terminals more (node.Not part) h fits = fits

pub AllFit-more : (rules terminals more : ℕ) (parts : List Entry) → terminals ≤ more → AllFit rules terminals parts
    → AllFit rules more parts
AllFit-more rules terminals more parts h fit k d within =
    fits-more k rules terminals more (get_or parts k d).node h (fit k d within)

-- one more node that fits
pub AllFit-push : (rules terminals : ℕ) (parts : List Entry) (part : Entry) → AllFit rules terminals parts
    → NodeFits (length parts) rules terminals part.node → AllFit rules terminals (parts ++ part ∷ [])
AllFit-push rules terminals parts part fit here k d within =
    by (cases_lt k (length parts))
  where
    by : (k < length parts) ⊎ (length parts ≤ k) → NodeFits k rules terminals (get_or (parts ++ part ∷ []) k d).node
    by (inl before) = subst (λ (p : Entry). NodeFits k rules terminals p.node) (sym (get_or_append_left parts (part ∷ []) d k before)) (fit k d before)
    by (inr past) =
        let last : length parts ≡ k = omega (arith, length-append parts (part ∷ [])) in
        subst (λ (p : Entry). NodeFits k rules terminals p.node) (sym (get_or_at parts part [] d k last))
        (subst (λ n. NodeFits n rules terminals part.node) last here)

-- the form of a star is the form of its node
pub star-node : (forms : List CoreForm) (n : Node) (number : ℕ) (origin found : Extent)
    → IsStarFrom forms number origin → form_at forms number ≡ shape forms found n → IsStarFrom forms number found
star-node forms node.Empty number origin found star is = let bad : Star star.0 origin ≡ Empty = sym star.1 ∙ is in cc
star-node forms (node.Test set terminal) number origin found star is = let bad = sym star.1 ∙ is in cc
star-node forms (node.Rule rule) number origin found star is = let bad = sym star.1 ∙ is in cc
star-node forms (node.Seq first rest) number origin found star is = let bad = sym star.1 ∙ is in cc
star-node forms (node.Choice first rest) number origin found star is = let bad = sym star.1 ∙ is in cc
star-node forms (node.Star part) number origin found star is = (form_at forms part, is)
star-node forms (node.Not part) number origin found star is = let bad = sym star.1 ∙ is in cc
