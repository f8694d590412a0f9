-- Plans of forms.
use Rattle.std.proofs.Common.{◌≡◌, ℕ, ◌+◌, ◌<◌, ◌≤◌, ◌⊎◌, inl, inr, List, [], ◌∷◌, ◌++◌, length, get_or, sym, ap, ◌∙◌, subst, arith, length-append}
use Rattle.std.proofs.lemmas.Bool.{cases_lt}
use Rattle.std.proofs.lemmas.List.{get_or_append_left, get_or_at}
use Rattle.peg_core.specs.CoreForm.{CoreForm, Seq}
use Rattle.peg_core.specs.Layout.{form_at}
use Rattle.peg_code.specs.Code.{size}
use Rattle.peg_code.specs.Compiled.{max_instructions}
use Rattle.peg_code.specs.Sizes.{AreFormSizesSoFar, capped, HaveSameCode, IsFormSize, IsTight}
use Rattle.peg_code.specs.declared.sizes.FormSize.{FormSize}
use Rattle.peg_code.proofs.CodeLemmas.{same-first, same-rest, same-itself, same-through}

-- a form that is emitted itself
pub IsFormSize-own : (forms : List CoreForm) (number count : ℕ) (form_size : FormSize) → form_size.size ≡ capped count → form_size.form ≡ number
    → capped count ≡ capped (size (form_at forms number)) → IsTight (form_at forms number) → IsFormSize forms number form_size
IsFormSize-own forms number count form_size counts itself right tight =
    record {
      counts = counts ∙ right;
      within = omega arith;
      same = subst (λ k. HaveSameCode (form_at forms k) (form_at forms number)) (sym itself) (same-itself (form_at forms number));
      tight = subst (λ k. IsTight (form_at forms k)) (sym itself) tight;
    }

-- a form with the same code as one of its parts, which is emitted instead
part-form_size : (forms : List CoreForm) (number part : ℕ) (of_part form_size : FormSize)
    → form_size.size ≡ capped (size (form_at forms number)) → IsFormSize forms part of_part → part < number
    → HaveSameCode (form_at forms part) (form_at forms number) → form_size.form ≡ of_part.form → IsFormSize forms number form_size
part-form_size forms number part of_part form_size counts of below alike is =
    record {
      counts = counts;
      within = omega (arith, of.within, is);
      same = subst (λ k. HaveSameCode (form_at forms k) (form_at forms number)) (sym is) (same-through (form_at forms of_part.form) (form_at forms part) (form_at forms number) of.same alike);
      tight = subst (λ k. IsTight (form_at forms k)) (sym is) of.tight;
    }

capped-sum : (a b x y : ℕ) → a ≡ capped x → b ≡ capped y → capped (a + b) ≡ capped (x + y)
capped-sum a b x y p q = omega arith

capped-none : (a x : ℕ) → a ≡ capped x → a ≡ 0 → x ≡ 0
capped-none a x p q = omega arith

capped-some : (a x : ℕ) → a ≡ capped x → 0 < a → 0 < x
capped-some a x p q = omega arith

-- a sequence
pub IsFormSize-seq : (forms : List CoreForm) (number first rest : ℕ) (a b form_size : FormSize)
    → form_at forms number ≡ Seq (form_at forms first) (form_at forms rest)
    → IsFormSize forms first a → IsFormSize forms rest b → first < number → rest < number
    → form_size.size ≡ capped (a.size + b.size)
    → (a.size ≡ 0 → form_size.form ≡ b.form)
    → (0 < a.size → b.size ≡ 0 → form_size.form ≡ a.form)
    → (0 < a.size → 0 < b.size → form_size.form ≡ number)
    → IsFormSize forms number form_size
IsFormSize-seq forms number first rest a b form_size is of_first of_rest below_first below_rest counts no_first no_rest full =
    by (cases_lt 0 a.size) (cases_lt 0 b.size)
  where
    F : CoreForm
    F = form_at forms first

    R : CoreForm
    R = form_at forms rest

    all : form_size.size ≡ capped (size (form_at forms number))
    all = counts ∙ (capped-sum a.size b.size (size (form_at forms first)) (size (form_at forms rest)) of_first.counts of_rest.counts ∙ ap (λ (form : CoreForm). capped (size form)) (sym is))

    to : (form : CoreForm) → HaveSameCode form (Seq (form_at forms first) (form_at forms rest)) → HaveSameCode form (form_at forms number)
    to form alike = subst (HaveSameCode form) (sym is) alike

    by : (0 < a.size) ⊎ (a.size ≤ 0) → (0 < b.size) ⊎ (b.size ≤ 0) → IsFormSize forms number form_size
    by (inr none) _ =
        let zero_first : a.size ≡ 0 = omega arith in
        part-form_size forms number rest b form_size all of_rest below_rest (to (form_at forms rest) (same-rest (form_at forms first) (form_at forms rest) (capped-none a.size (size (form_at forms first)) of_first.counts zero_first))) (no_first zero_first)
    by (inl some) (inr none) =
        let zero_rest : b.size ≡ 0 = omega arith in
        part-form_size forms number first a form_size all of_first below_first (to (form_at forms first) (same-first (form_at forms first) (form_at forms rest) (capped-none b.size (size (form_at forms rest)) of_rest.counts zero_rest))) (no_rest some zero_rest)
    by (inl some) (inl more) =
        IsFormSize-own forms number (a.size + b.size) form_size counts (full some more) (sym counts ∙ all) (subst IsTight (sym is) (capped-some a.size (size (form_at forms first)) of_first.counts some, capped-some b.size (size (form_at forms rest)) of_rest.counts more))

-- one more form has a plan
pub AreFormSizesSoFar-push : (forms : List CoreForm) (form_sizes : List FormSize) (form_size : FormSize) → AreFormSizesSoFar forms form_sizes
    → IsFormSize forms (length form_sizes) form_size → AreFormSizesSoFar forms (form_sizes ++ form_size ∷ [])
AreFormSizesSoFar-push forms form_sizes form_size are here k d within =
    by (cases_lt k (length form_sizes))
  where
    by : (k < length form_sizes) ⊎ (length form_sizes ≤ k) → IsFormSize forms k (get_or (form_sizes ++ form_size ∷ []) k d)
    by (inl before) = subst (IsFormSize forms k) (sym (get_or_append_left form_sizes (form_size ∷ []) d k before)) (are k d before)
    by (inr past) =
        let last : length form_sizes ≡ k = omega (arith, length-append form_sizes (form_size ∷ [])) in
        subst (IsFormSize forms k) (sym (get_or_at form_sizes form_size [] d k last)) (subst (λ n. IsFormSize forms n form_size) last here)

-- a capped size within the limit is exact
pub capped-few : (a x : ℕ) → a ≡ capped x → x ≤ max_instructions → a ≡ x
capped-few a x p few = omega arith
