-- Describes code: core forms encoded as data, which the views of types in code need. A form is determined by its items
-- in preorder.
use Rattle.std.specs.Prelude.{◌≡◌, ℕ, zero, suc, List, [], ◌∷◌, ◌++◌}
use Rattle.std.proofs.Common.{refl, ap, ◌∙◌, append_assoc, append-nil, sym}
use Rattle.std.specs.Coded.{Coded, code_by, coded×, coded_ℕ, coded_bool, coded_list}
use Rattle.peg_bytes.specs.ByteSet.{Bytes}
use Rattle.peg_bytes.specs.Extent.{Extent, between}
use Rattle.peg_core.specs.CoreForm.{CoreForm, Empty, Test, Rule, Seq, Choice, Star, Not}
use Rattle.peg_core.specs.Layout.{Layout, Desugared}

-- the number of the kind of a form, its set, and its two numbers; the set or a number is empty where it has none
abbrev pub FormItem : Type 0
FormItem = ℕ × (Bytes × (ℕ × ℕ))

abbrev item_code : Coded FormItem
item_code = coded× coded_ℕ (coded× (coded_list coded_bool) (coded× coded_ℕ coded_ℕ))

-- the items of a form, in preorder
abbrev pub items_of : CoreForm → List FormItem
items_of Empty = (0, ([], (0, 0))) ∷ []
items_of (Test set terminal) = (1, (set, (terminal, 0))) ∷ []
items_of (Rule rule) = (2, ([], (rule, 0))) ∷ []
items_of (Seq first rest) = (3, ([], (0, 0))) ∷ (items_of first ++ items_of rest)
items_of (Choice first rest) = (4, ([], (0, 0))) ∷ (items_of first ++ items_of rest)
items_of (Star part origin) = (5, ([], (origin.start, origin.end))) ∷ items_of part
items_of (Not part) = (6, ([], (0, 0))) ∷ items_of part

-- the forms with one more in front, which takes its parts from them
abbrev with_one : (List CoreForm) → (CoreForm → CoreForm) → List CoreForm
with_one [] make = []
with_one (part ∷ forms) make = make part ∷ forms

abbrev with_two : (List CoreForm) → (CoreForm → CoreForm → CoreForm) → List CoreForm
with_two [] make = []
with_two (first ∷ []) make = []
with_two (first ∷ rest ∷ forms) make = make first rest ∷ forms

abbrev with_item : (kind : ℕ) → Bytes → (ℕ × ℕ) → List CoreForm → List CoreForm
with_item zero set numbers forms = Empty ∷ forms
with_item (suc zero) set numbers forms = Test set numbers.0 ∷ forms
with_item (suc (suc zero)) set numbers forms = Rule numbers.0 ∷ forms
with_item (suc (suc (suc zero))) set numbers forms = with_two forms Seq
with_item (suc (suc (suc (suc zero)))) set numbers forms = with_two forms Choice
with_item (suc (suc (suc (suc (suc zero))))) set numbers forms =
    with_one forms (λ part. Star part (between numbers.0 numbers.1))
with_item (suc (suc (suc (suc (suc (suc kind)))))) set numbers forms = with_one forms Not

-- the forms that items denote, built from the last item to the first
abbrev pub forms_from : List FormItem → List CoreForm
forms_from [] = []
forms_from (item ∷ items) = with_item item.0 item.1.0 item.1.1 (forms_from items)

pub forms_from-items_of : (form : CoreForm) (items : List FormItem)
    → forms_from (items_of form ++ items) ≡ form ∷ forms_from items
forms_from-items_of Empty items = refl
forms_from-items_of (Test set terminal) items = refl
forms_from-items_of (Rule rule) items = refl
forms_from-items_of (Seq first rest) items =
    ap (λ forms. with_two forms Seq)
    (ap forms_from (append_assoc (items_of first) (items_of rest) items)
    ∙ forms_from-items_of first (items_of rest ++ items)
    ∙ ap (λ forms. first ∷ forms) (forms_from-items_of rest items))
forms_from-items_of (Choice first rest) items =
    ap (λ forms. with_two forms Choice)
    (ap forms_from (append_assoc (items_of first) (items_of rest) items)
    ∙ forms_from-items_of first (items_of rest ++ items)
    ∙ ap (λ forms. first ∷ forms) (forms_from-items_of rest items))
forms_from-items_of (Star part origin) items =
    ap (λ forms. with_one forms (λ part. Star part origin)) (forms_from-items_of part items)
forms_from-items_of (Not part) items = ap (λ forms. with_one forms Not) (forms_from-items_of part items)

-- the first form, or the empty form if there is none
abbrev first_form : List CoreForm → CoreForm
first_form [] = Empty
first_form (form ∷ forms) = form

pub first_form-items_of : (form : CoreForm) → first_form (forms_from (items_of form)) ≡ form
first_form-items_of form =
    ap (λ items. first_form (forms_from items)) (sym (append-nil (items_of form)))
    ∙ ap first_form (forms_from-items_of form [])

abbrev pub form_code : Coded CoreForm
form_code =
    code_by (List FormItem) (coded_list item_code) items_of (λ items. first_form (forms_from items)) first_form-items_of

abbrev pub extent_code : Coded Extent
extent_code =
    code_by (ℕ × ℕ) (coded× coded_ℕ coded_ℕ) (λ e. (e.start, e.end)) (λ p. between p.0 p.1) (λ _. refl)

abbrev pub layout_code : Coded Layout
layout_code =
    code_by (ℕ × (List CoreForm × List Extent))
    (coded× coded_ℕ (coded× (coded_list form_code) (coded_list extent_code)))
    (λ l. (l.rules, (l.forms, l.spans))) (λ p. record { rules = p.0; forms = p.1.0; spans = p.1.1 }) (λ _. refl)

abbrev pub desugared_code : Coded Desugared
desugared_code =
    code_by (List CoreForm × (List ℕ × List Extent))
    (coded× (coded_list form_code) (coded× (coded_list coded_ℕ) (coded_list extent_code)))
    (λ l. (l.forms, (l.bodies, l.spans))) (λ p. record { forms = p.0; bodies = p.1.0; spans = p.1.1 }) (λ _. refl)
