-- Each core form of a grammar is part of the body of a rule.
use Rattle.std.proofs.Common.{ℕ, zero, suc, ◌+◌, ◌-◌, ◌⊎◌, inl, inr, All, List, [], ◌∷◌, ◌++◌, refl}
use Rattle.std.proofs.lemmas.List.Elements.{All-nil, All-cons, All-append, All-weaker}
use Rattle.peg_semantics.specs.Form.{Form, Forms, End, Then, terminals}
use Rattle.peg_semantics.specs.Form as written
use Rattle.peg_semantics.specs.Rules.{Rule as WrittenRule}
use Rattle.peg_core.specs.CoreForm.{CoreForm, Empty, Test, Rule, Seq, Choice, Star, Not, in_order, all_in_order, one_of, tests_of, unfolded, left_out, count_form, core_form, core_forms, core_bodies, core_bodies_from}
use Rattle.peg_core.specs.CoreLoops.{IsSubformOf, IsSubformOfBody}
use Rattle.peg_core.specs.CoreParts.{sequences_from, sequences_of, choices_of, rounds_of, count_forms, core_parts, core_parts_of_all, core_parts_from, all_core_parts}

pub subform-itself : (form : CoreForm) → IsSubformOf form form
subform-itself Empty = refl
subform-itself (Test set terminal) = refl
subform-itself (Rule rule) = refl
subform-itself (Seq first rest) = inl refl
subform-itself (Choice first rest) = inl refl
subform-itself (Star part origin) = inl refl
subform-itself (Not part) = inl refl

-- a form is part of one of these
abbrev IsSubformOfAny : List CoreForm → CoreForm → Type 0
IsSubformOfAny [] form = ⊥
IsSubformOfAny (whole ∷ more) form = IsSubformOf form whole ⊎ IsSubformOfAny more form

-- one form alone
All-one : (P : CoreForm → Type 0) (form : CoreForm) → P form → All P (form ∷ [])
All-one P form h = All-cons P form [] h (All-nil P)

each-subform : (forms : List CoreForm) → All (IsSubformOfAny forms) forms
each-subform [] = All-nil (IsSubformOfAny [])
each-subform (form ∷ more) =
    All-cons (IsSubformOfAny (form ∷ more)) form more (inl (subform-itself form))
    (All-weaker (IsSubformOfAny more) (IsSubformOfAny (form ∷ more)) (λ f h. inr h) more (each-subform more))

-- ---- in sequences and choices

in-order : (first : CoreForm) (rest : List CoreForm) (form : CoreForm) → IsSubformOfAny (first ∷ rest) form
    → IsSubformOf form (in_order first rest)
in-order first [] form (inl here) = here
in-order first [] form (inr none) = absurd none
in-order first (next ∷ rest) form (inl here) = inr (inl here)
in-order first (next ∷ rest) form (inr later) = inr (inr (in-order next rest form later))

in-all_in_order : (forms : List CoreForm) (form : CoreForm) → IsSubformOfAny forms form → IsSubformOf form (all_in_order forms)
in-all_in_order [] form none = absurd none
in-all_in_order (first ∷ rest) form any = in-order first rest form any

in-one_of : (first : CoreForm) (rest : List CoreForm) (form : CoreForm) → IsSubformOfAny (first ∷ rest) form
    → IsSubformOf form (one_of first rest)
in-one_of first [] form (inl here) = here
in-one_of first [] form (inr none) = absurd none
in-one_of first (next ∷ rest) form (inl here) = inr (inl here)
in-one_of first (next ∷ rest) form (inr later) = inr (inr (in-one_of next rest form later))

sequences_from-subforms : (first : CoreForm) (rest : List CoreForm)
    → All (λ form. IsSubformOf form (in_order first rest)) (sequences_from first rest)
sequences_from-subforms first [] = All-nil (λ form. IsSubformOf form first)
sequences_from-subforms first (next ∷ rest) =
    let P = λ (form : CoreForm). IsSubformOf form (in_order first (next ∷ rest)) in
    All-append P (sequences_from next rest) (in_order first (next ∷ rest) ∷ [])
    (All-weaker (λ form. IsSubformOf form (in_order next rest)) P (λ form h. inr (inr h)) (sequences_from next rest) (sequences_from-subforms next rest))
    (All-one P (in_order first (next ∷ rest)) (inl refl))

sequences_of-subforms : (forms : List CoreForm) → All (λ form. IsSubformOf form (all_in_order forms)) (sequences_of forms)
sequences_of-subforms [] = All-one (λ form. IsSubformOf form Empty) Empty refl
sequences_of-subforms (first ∷ rest) = sequences_from-subforms first rest

choices_of-subforms : (first : CoreForm) (rest : List CoreForm)
    → All (λ form. IsSubformOf form (one_of first rest)) (choices_of first rest)
choices_of-subforms first [] = All-nil (λ form. IsSubformOf form first)
choices_of-subforms first (next ∷ rest) =
    let P = λ (form : CoreForm). IsSubformOf form (one_of first (next ∷ rest)) in
    All-append P (choices_of next rest) (one_of first (next ∷ rest) ∷ [])
    (All-weaker (λ form. IsSubformOf form (one_of next rest)) P (λ form h. inr (inr h)) (choices_of next rest) (choices_of-subforms next rest))
    (All-one P (one_of first (next ∷ rest)) (inl refl))

-- ---- in counts

in-unfolded : (part : CoreForm) (min max : ℕ) (form : CoreForm) → IsSubformOf form part
    → IsSubformOf form (unfolded part min (suc max))
in-unfolded part zero max form h = inr (inl (inr (inl h)))
in-unfolded part (suc min) max form h = inr (inl h)

in-count : (part : CoreForm) (min max : ℕ) (form : CoreForm) → IsSubformOf form part → IsSubformOf form (count_form part min max)
in-count part min zero form h = inr (inr h)
in-count part min (suc max) form h = in-unfolded part (min - left_out part min) (max - left_out part min) form h

empty-in : (part : CoreForm) (min max : ℕ) → IsSubformOf Empty (unfolded part min max)
empty-in part min zero = refl
empty-in part zero (suc max) = inr (inr refl)
empty-in part (suc min) (suc max) = inr (inr (empty-in part min max))

rounds_of-subforms : (part : CoreForm) (min max : ℕ)
    → All (λ form. IsSubformOf form (unfolded part min max)) (rounds_of part min max)
rounds_of-subforms part min zero = All-nil (λ form. IsSubformOf form Empty)
rounds_of-subforms part zero (suc max) =
    let inner = unfolded part zero max in
    let whole = unfolded part zero (suc max) in
    let P = λ (form : CoreForm). IsSubformOf form whole in
    All-append P (rounds_of part zero max) (Seq part inner ∷ whole ∷ [])
    (All-weaker (λ form. IsSubformOf form inner) P (λ form h. inr (inl (inr (inr h)))) (rounds_of part zero max) (rounds_of-subforms part zero max))
    (All-cons P (Seq part inner) (whole ∷ []) (inr (inl (inl refl))) (All-one P whole (inl refl)))
rounds_of-subforms part (suc min) (suc max) =
    let inner = unfolded part min max in
    let whole = unfolded part (suc min) (suc max) in
    let P = λ (form : CoreForm). IsSubformOf form whole in
    All-append P (rounds_of part min max) (whole ∷ [])
    (All-weaker (λ form. IsSubformOf form inner) P (λ form h. inr (inr h)) (rounds_of part min max) (rounds_of-subforms part min max))
    (All-one P whole (inl refl))

count_forms-subforms : (part : CoreForm) (min max : ℕ)
    → All (λ form. IsSubformOf form (count_form part min max)) (count_forms part min max)
count_forms-subforms part min zero =
    let P = λ (form : CoreForm). IsSubformOf form (Choice Empty part) in
    All-cons P Empty (Choice Empty part ∷ []) (inr (inl refl)) (All-one P (Choice Empty part) (inl refl))
count_forms-subforms part min (suc max) =
    let least = min - left_out part min in
    let most = suc (max - left_out part min) in
    All-cons (λ form. IsSubformOf form (unfolded part least most)) Empty (rounds_of part least most)
    (empty-in part least most) (rounds_of-subforms part least most)

-- ---- of an expression, and of all rules

module _ (rules : List WrittenRule) where
  mutual
    pub parts-subforms : (terminal : ℕ) (e : Form)
        → All (λ form. IsSubformOf form (core_form rules terminal e)) (core_parts rules terminal e)
    parts-subforms terminal (written.Literal bytes span) =
        let tests = tests_of terminal bytes in
        let P = λ (form : CoreForm). IsSubformOf form (all_in_order tests) in
        All-append P tests (sequences_of tests)
        (All-weaker (IsSubformOfAny tests) P (in-all_in_order tests) tests (each-subform tests)) (sequences_of-subforms tests)
    parts-subforms terminal (written.Class set span) =
        All-one (λ form. IsSubformOf form (core_form rules terminal (written.Class set span)))
        (core_form rules terminal (written.Class set span)) refl
    parts-subforms terminal (written.Any span) =
        All-one (λ form. IsSubformOf form (core_form rules terminal (written.Any span)))
        (core_form rules terminal (written.Any span)) refl
    parts-subforms terminal (written.Name name span) =
        All-one (λ form. IsSubformOf form (core_form rules terminal (written.Name name span)))
        (core_form rules terminal (written.Name name span)) refl
    parts-subforms terminal (written.Seq items span) =
        let forms = core_forms rules terminal items in
        let P = λ (form : CoreForm). IsSubformOf form (all_in_order forms) in
        All-append P (core_parts_of_all rules terminal items) (sequences_of forms)
        (All-weaker (IsSubformOfAny forms) P (in-all_in_order forms) (core_parts_of_all rules terminal items) (all-parts-subforms terminal items))
        (sequences_of-subforms forms)
    parts-subforms terminal (written.Choice first rest span) =
        let one = core_form rules terminal first in
        let others = core_forms rules (terminal + terminals first) rest in
        let P = λ (form : CoreForm). IsSubformOf form (one_of one others) in
        All-append P (core_parts rules terminal first ++ core_parts_of_all rules (terminal + terminals first) rest)
        (choices_of one others)
        (All-append P (core_parts rules terminal first) (core_parts_of_all rules (terminal + terminals first) rest)
        (All-weaker (λ form. IsSubformOf form one) P (λ form h. in-one_of one others form (inl h)) (core_parts rules terminal first) (parts-subforms terminal first))
        (All-weaker (IsSubformOfAny others) P (λ form h. in-one_of one others form (inr h)) (core_parts_of_all rules (terminal + terminals first) rest) (all-parts-subforms (terminal + terminals first) rest)))
        (choices_of-subforms one others)
    parts-subforms terminal (written.Optional part span) =
        let one = core_form rules terminal part in
        let P = λ (form : CoreForm). IsSubformOf form (Choice one Empty) in
        All-append P (core_parts rules terminal part) (Empty ∷ Choice one Empty ∷ [])
        (All-weaker (λ form. IsSubformOf form one) P (λ form h. inr (inl h)) (core_parts rules terminal part) (parts-subforms terminal part))
        (All-cons P Empty (Choice one Empty ∷ []) (inr (inr refl)) (All-one P (Choice one Empty) (inl refl)))
    parts-subforms terminal (written.Star part span) =
        let one = core_form rules terminal part in
        let whole = core_form rules terminal (written.Star part span) in
        let P = λ (form : CoreForm). IsSubformOf form whole in
        All-append P (core_parts rules terminal part) (whole ∷ [])
        (All-weaker (λ form. IsSubformOf form one) P (λ form h. inr h) (core_parts rules terminal part) (parts-subforms terminal part))
        (All-one P whole (inl refl))
    parts-subforms terminal (written.Plus part span) =
        let one = core_form rules terminal part in
        let again = core_form rules terminal (written.Star part span) in
        let P = λ (form : CoreForm). IsSubformOf form (Seq one again) in
        All-append P (core_parts rules terminal part) (again ∷ Seq one again ∷ [])
        (All-weaker (λ form. IsSubformOf form one) P (λ form h. inr (inl h)) (core_parts rules terminal part) (parts-subforms terminal part))
        (All-cons P again (Seq one again ∷ []) (inr (inr (inl refl))) (All-one P (Seq one again) (inl refl)))
    parts-subforms terminal (written.Counted part min max span) =
        let one = core_form rules terminal part in
        let P = λ (form : CoreForm). IsSubformOf form (count_form one min max) in
        All-append P (core_parts rules terminal part) (count_forms one min max)
        (All-weaker (λ form. IsSubformOf form one) P (λ form h. in-count one min max form h) (core_parts rules terminal part) (parts-subforms terminal part))
        (count_forms-subforms one min max)
    parts-subforms terminal (written.And part span) =
        let one = core_form rules terminal part in
        let P = λ (form : CoreForm). IsSubformOf form (Not (Not one)) in
        All-append P (core_parts rules terminal part) (Not one ∷ Not (Not one) ∷ [])
        (All-weaker (λ form. IsSubformOf form one) P (λ form h. inr (inr h)) (core_parts rules terminal part) (parts-subforms terminal part))
        (All-cons P (Not one) (Not (Not one) ∷ []) (inr (inl refl)) (All-one P (Not (Not one)) (inl refl)))
    parts-subforms terminal (written.Not part span) =
        let one = core_form rules terminal part in
        let P = λ (form : CoreForm). IsSubformOf form (Not one) in
        All-append P (core_parts rules terminal part) (Not one ∷ [])
        (All-weaker (λ form. IsSubformOf form one) P (λ form h. inr h) (core_parts rules terminal part) (parts-subforms terminal part))
        (All-one P (Not one) (inl refl))

    all-parts-subforms : (terminal : ℕ) (items : Forms)
        → All (IsSubformOfAny (core_forms rules terminal items)) (core_parts_of_all rules terminal items)
    all-parts-subforms terminal End = All-nil (IsSubformOfAny [])
    all-parts-subforms terminal (Then e rest) =
        let one = core_form rules terminal e in
        let others = core_forms rules (terminal + terminals e) rest in
        let P = IsSubformOfAny (one ∷ others) in
        All-append P (core_parts rules terminal e) (core_parts_of_all rules (terminal + terminals e) rest)
        (All-weaker (λ form. IsSubformOf form one) P (λ form h. inl h) (core_parts rules terminal e) (parts-subforms terminal e))
        (All-weaker (IsSubformOfAny others) P (λ form h. inr h) (core_parts_of_all rules (terminal + terminals e) rest) (all-parts-subforms (terminal + terminals e) rest))

  rules-subforms : (terminal : ℕ) (some : List WrittenRule)
      → All (IsSubformOfAny (core_bodies_from rules terminal some)) (core_parts_from rules terminal some)
  rules-subforms terminal [] = All-nil (IsSubformOfAny [])
  rules-subforms terminal (rule ∷ more) =
      let next = terminal + terminals rule.body in
      let others = core_bodies_from rules next more in
      let P = IsSubformOfAny (core_form rules terminal rule.body ∷ others) in
      All-append P (core_parts rules terminal rule.body) (core_parts_from rules next more)
      (All-weaker (λ form. IsSubformOf form (core_form rules terminal rule.body)) P (λ form h. inl h) (core_parts rules terminal rule.body) (parts-subforms terminal rule.body))
      (All-weaker (IsSubformOfAny others) P (λ form h. inr h) (core_parts_from rules next more) (rules-subforms next more))

-- by the number of the rule
numbered : (bodies : List CoreForm) (form : CoreForm) → IsSubformOfAny bodies form → IsSubformOfBody bodies form
numbered [] form none = absurd none
numbered (body ∷ more) form (inl here) = (0, here)
numbered (body ∷ more) form (inr later) = let rest = numbered more form later in (suc rest.0, rest.1)

pub all-subforms : (rules : List WrittenRule) → All (IsSubformOfBody (core_bodies rules)) (all_core_parts rules)
all-subforms rules =
    All-weaker (IsSubformOfAny (core_bodies rules)) (IsSubformOfBody (core_bodies rules)) (numbered (core_bodies rules))
    (all_core_parts rules) (rules-subforms rules 0 rules)
