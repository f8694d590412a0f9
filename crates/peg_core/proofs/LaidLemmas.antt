-- How flat lists of core forms grow, step by step.
use Rattle.std.proofs.Common.{◌≡◌, ℕ, ◌+◌, ◌-◌, ◌<◌, ◌≤◌, List, [], ◌∷◌, ◌++◌, All, length, map, get_or, take, drop, OnOk, Result, Ok, Err, IfOk, refl, sym, ap, ◌∙◌, subst, arith, length-append, append_assoc, append-nil}
use Rattle.std.proofs.lemmas.List.{get_or_append_left, get_or_at, take_more, drop_more, drop_all, length-map, length-drop, map-append}
use Rattle.std.proofs.lemmas.List.Elements.{All-nil, All-head, All-tail, All-push, All-weaker}
use Rattle.peg_bytes.specs.ByteSet.{only}
use Rattle.peg_bytes.specs.Extent.{Extent}
use Rattle.peg_core.specs.CoreForm.{CoreForm, Empty, Test, Seq, Choice, in_order, all_in_order, one_of, tests_of}
use Rattle.peg_core.specs.CoreParts.{sequences_of, choices_of}
use Rattle.peg_core.specs.Appending.{Appends, AppendsAll}
use Rattle.peg_core.specs.Layout.{Layout, form_at}

-- forms keep their numbers when others are appended
pub form_at-kept : (old new : Layout) (parts : List CoreForm) (number : ℕ) → new.forms ≡ old.forms ++ parts
    → number < length old.forms → form_at new.forms number ≡ form_at old.forms number
form_at-kept old new parts number grown within =
    ap (λ forms. form_at forms number) grown ∙ get_or_append_left old.forms parts Empty number within

pub within-grown : (old new : Layout) (parts : List CoreForm) (number : ℕ) → new.forms ≡ old.forms ++ parts
    → number < length old.forms → number < length new.forms
within-grown old new parts number grown within =
    omega (arith, within, ap length grown, length-append old.forms parts)

-- one more form
abbrev pub pushed : Layout → CoreForm → Layout
pushed old form = record old { forms = old.forms ++ form ∷ [] }

-- one form was appended
pub Appends-one : (old new : Layout) (form : CoreForm) (number : ℕ) → new ≡ pushed old form → number ≡ length old.forms
    → Appends old (form ∷ []) [] form number new
Appends-one old new form number put last =
    let forms : new.forms ≡ old.forms ++ form ∷ [] = ap (λ (l : Layout). l.forms) put in
    record {
      forms = forms;
      spans = ap (λ (l : Layout). l.spans) put ∙ sym (append-nil old.spans);
      rules = ap (λ (l : Layout). l.rules) put;
      within = omega (arith, last, ap length forms, length-append old.forms (form ∷ []));
      last = ap (λ forms. form_at forms number) forms ∙ get_or_at old.forms form [] Empty number (sym last);
    }

-- one step after the other
pub Appends-then : (old mid new : Layout) (parts more : List CoreForm) (extents : List Extent) (part form : CoreForm)
    (number last : ℕ) → Appends old parts extents part number mid → Appends mid more [] form last new
    → Appends old (parts ++ more) extents form last new
Appends-then old mid new parts more extents part form number last first then =
    record {
      forms = then.forms ∙ (ap (λ forms. forms ++ more) first.forms ∙ append_assoc old.forms parts more);
      spans = then.spans ∙ (append-nil mid.spans ∙ first.spans);
      rules = then.rules ∙ first.rules;
      within = then.within;
      last = then.last;
    }

-- two forms were appended, the second after the first
pub Appends-two : (old mid new : Layout) (first second : CoreForm) (number last : ℕ) → Appends old (first ∷ []) [] first number mid
    → new ≡ pushed mid second → last ≡ length mid.forms → Appends old (first ∷ second ∷ []) [] second last new
Appends-two old mid new first second number last one put at =
    Appends-then old mid new (first ∷ []) (second ∷ []) [] first second number last one (Appends-one mid new second last put at)

pub if_ok : {A E : Type 0} (P Q : A → Type 0) (r : Result A E) → ((x : A) → P x → Q x) → IfOk r P → IfOk r Q
if_ok P Q (Ok x) to h = to x h
if_ok P Q (Err e) to h = h

pub if_ok_both : {A E : Type 0} (P R : A → Type 0) (Q : Type 0) (r : Result A E) → ((x : A) → P x → Q → R x)
    → IfOk r P → OnOk r Q → IfOk r R
if_ok_both P R Q (Ok x) to p q = to x p q
if_ok_both P R Q (Err e) to p q = tt

-- no form was appended
pub Appends-none : (old : Layout) (form : CoreForm) (number : ℕ) → number < length old.forms
    → form_at old.forms number ≡ form → Appends old [] [] form number old
Appends-none old form number within last =
    record {
      forms = sym (append-nil old.forms);
      spans = sym (append-nil old.spans);
      rules = refl;
      within = within;
      last = last;
    }

-- nothing was appended
pub AppendsAll-none : (old : Layout) → AppendsAll old [] [] [] [] old
AppendsAll-none old =
    record {
      forms = sym (append-nil old.forms);
      spans = sym (append-nil old.spans);
      rules = refl;
      within = All-nil (λ number. number < length old.forms);
      each = refl;
    }

-- the forms with these numbers stay when others are appended
pub forms-kept : (old new : Layout) (parts : List CoreForm) → new.forms ≡ old.forms ++ parts → (numbers : List ℕ)
    → All (λ number. number < length old.forms) numbers
    → map (form_at new.forms) numbers ≡ map (form_at old.forms) numbers
forms-kept old new parts grown [] within = refl
forms-kept old new parts grown (n ∷ ns) within =
    let P : ℕ → Type 0 = λ number. number < length old.forms in
    λ i. form_at-kept old new parts n grown (All-head P n ns within) i
    ∷ forms-kept old new parts grown ns (All-tail P n ns within) i

pub all_within-grown : (old new : Layout) (parts : List CoreForm) → new.forms ≡ old.forms ++ parts → (numbers : List ℕ)
    → All (λ number. number < length old.forms) numbers → All (λ number. number < length new.forms) numbers
all_within-grown old new parts grown numbers within =
    All-weaker (λ number. number < length old.forms) (λ number. number < length new.forms)
    (λ number h. within-grown old new parts number grown h) numbers within

-- one more form, with its number
pub AppendsAll-push : (old mid new : Layout) (parts some : List CoreForm) (extents : List Extent) (numbers : List ℕ)
    (form : CoreForm) (number : ℕ) → AppendsAll old parts extents some numbers mid → new ≡ pushed mid form
    → number ≡ length mid.forms
    → AppendsAll old (parts ++ form ∷ []) extents (some ++ form ∷ []) (numbers ++ number ∷ []) new
AppendsAll-push old mid new parts some extents numbers form number all put at =
    let forms : new.forms ≡ mid.forms ++ form ∷ [] = ap (λ (l : Layout). l.forms) put in
    let one = Appends-one mid new form number put at in
    record {
      forms = forms ∙ (ap (λ forms. forms ++ form ∷ []) all.forms ∙ append_assoc old.forms parts (form ∷ []));
      spans = ap (λ (l : Layout). l.spans) put ∙ all.spans;
      rules = ap (λ (l : Layout). l.rules) put ∙ all.rules;
      within = All-push (λ n. n < length new.forms) numbers number
          (all_within-grown mid new (form ∷ []) forms numbers all.within) one.within;
      each =
          map-append (form_at new.forms) numbers (number ∷ [])
          ∙ (λ i. (forms-kept mid new (form ∷ []) forms numbers all.within ∙ all.each) i ++ one.last i ∷ []);
    }

-- ---- sequences and choices, from the last form to the first

-- one more form in front of a sequence
sequences_of-more : (form : CoreForm) (forms : List CoreForm) → 0 < length forms
    → sequences_of (form ∷ forms) ≡ sequences_of forms ++ Seq form (all_in_order forms) ∷ []
sequences_of-more form [] some = absurd (omega arith)
sequences_of-more form (next ∷ rest) some = refl

all_in_order-more : (form : CoreForm) (forms : List CoreForm) → 0 < length forms
    → all_in_order (form ∷ forms) ≡ Seq form (all_in_order forms)
all_in_order-more form [] some = absurd (omega arith)
all_in_order-more form (next ∷ rest) some = refl

-- the choice of some forms, and the shorter ones in it
abbrev pub any_of : List CoreForm → CoreForm
any_of [] = Empty
any_of (first ∷ rest) = one_of first rest

abbrev pub choices_in : List CoreForm → List CoreForm
choices_in [] = []
choices_in (first ∷ rest) = choices_of first rest

choices_in-more : (form : CoreForm) (forms : List CoreForm) → 0 < length forms
    → choices_in (form ∷ forms) ≡ choices_in forms ++ Choice form (any_of forms) ∷ []
choices_in-more form [] some = absurd (omega arith)
choices_in-more form (next ∷ rest) some = refl

any_of-more : (form : CoreForm) (forms : List CoreForm) → 0 < length forms
    → any_of (form ∷ forms) ≡ Choice form (any_of forms)
any_of-more form [] some = absurd (omega arith)
any_of-more form (next ∷ rest) some = refl

-- the forms with these numbers, from one on
abbrev pub forms_from : Layout → ℕ → List ℕ → List CoreForm
forms_from old at numbers = map (form_at old.forms) (drop at numbers)

pub forms_from-more : (old : Layout) (at : ℕ) (numbers : List ℕ) → at < length numbers
    → forms_from old at numbers ≡ form_at old.forms (get_or numbers at 0) ∷ forms_from old (at + 1) numbers
forms_from-more old at numbers within = ap (map (form_at old.forms)) (drop_more numbers at 0 within)

pub length-forms_from : (old : Layout) (at : ℕ) (numbers : List ℕ) → length (forms_from old at numbers) ≡ length numbers - at
length-forms_from old at numbers = length-map (drop at numbers) (form_at old.forms) ∙ length-drop at numbers

-- what is appended for the forms from one on, by one more step
module _ (old mid new : Layout) (at : ℕ) (numbers : List ℕ) (rest number : ℕ) (some : at + 1 < length numbers) (all : All (λ n. n < length old.forms) numbers) where
  abbrev later : List CoreForm
  later = forms_from old (at + 1) numbers

  first : ℕ
  first = get_or numbers at 0

  later-some : 0 < length later
  later-some = omega (arith, length-forms_from old (at + 1) numbers)

  first-within : first < length old.forms
  unfolding first
  first-within = all at 0 (omega arith)

  unfolded : forms_from old at numbers ≡ form_at old.forms first ∷ later
  unfolding first
  unfolded = forms_from-more old at numbers (omega arith)

  pub sequence-more : Appends old (sequences_of later) [] (all_in_order later) rest mid
      → new ≡ pushed mid (Seq (form_at mid.forms (get_or numbers at 0)) (form_at mid.forms rest)) → number ≡ length mid.forms
      → Appends old (sequences_of (forms_from old at numbers)) [] (all_in_order (forms_from old at numbers)) number new
  unfolding first
  sequence-more so_far put last =
      let a = form_at old.forms first in
      let is : Seq (form_at mid.forms first) (form_at mid.forms rest) ≡ Seq a (all_in_order later) = λ i. Seq (form_at-kept old mid (sequences_of later) first so_far.forms first-within i) (so_far.last i) in
      let one = Appends-one mid new (Seq a (all_in_order later)) number (put ∙ ap (pushed mid) is) last in
      let both = Appends-then old mid new (sequences_of later) (Seq a (all_in_order later) ∷ []) [] (all_in_order later) (Seq a (all_in_order later)) rest number so_far one in
      subst (λ forms. Appends old (sequences_of forms) [] (all_in_order forms) number new) (sym unfolded)
      (subst (λ parts. Appends old parts [] (all_in_order (a ∷ later)) number new) (sym (sequences_of-more a later later-some))
      (subst (λ form. Appends old (sequences_of later ++ Seq a (all_in_order later) ∷ []) [] form number new)
      (sym (all_in_order-more a later later-some)) both))

  pub choice-more : Appends old (choices_in later) [] (any_of later) rest mid
      → new ≡ pushed mid (Choice (form_at mid.forms (get_or numbers at 0)) (form_at mid.forms rest)) → number ≡ length mid.forms
      → Appends old (choices_in (forms_from old at numbers)) [] (any_of (forms_from old at numbers)) number new
  unfolding first
  choice-more so_far put last =
      let a = form_at old.forms first in
      let is : Choice (form_at mid.forms first) (form_at mid.forms rest) ≡ Choice a (any_of later) = λ i. Choice (form_at-kept old mid (choices_in later) first so_far.forms first-within i) (so_far.last i) in
      let one = Appends-one mid new (Choice a (any_of later)) number (put ∙ ap (pushed mid) is) last in
      let both = Appends-then old mid new (choices_in later) (Choice a (any_of later) ∷ []) [] (any_of later) (Choice a (any_of later)) rest number so_far one in
      subst (λ forms. Appends old (choices_in forms) [] (any_of forms) number new) (sym unfolded)
      (subst (λ parts. Appends old parts [] (any_of (a ∷ later)) number new) (sym (choices_in-more a later later-some))
      (subst (λ form. Appends old (choices_in later ++ Choice a (any_of later) ∷ []) [] form number new)
      (sym (any_of-more a later later-some)) both))

-- the last form alone
pub forms_from-last : (old : Layout) (at : ℕ) (numbers : List ℕ) → at + 1 ≡ length numbers
    → forms_from old at numbers ≡ form_at old.forms (get_or numbers at 0) ∷ []
forms_from-last old at numbers last =
    forms_from-more old at numbers (omega arith)
    ∙ ap (λ l. form_at old.forms (get_or numbers at 0) ∷ map (form_at old.forms) l) (drop_all (at + 1) numbers (omega arith))

pub sequence-last : (old : Layout) (at : ℕ) (numbers : List ℕ) → at + 1 ≡ length numbers
    → All (λ n. n < length old.forms) numbers
    → Appends old (sequences_of (forms_from old at numbers)) [] (all_in_order (forms_from old at numbers)) (get_or numbers at 0) old
sequence-last old at numbers last all =
    let number = get_or numbers at 0 in
    subst (λ forms. Appends old (sequences_of forms) [] (all_in_order forms) number old) (sym (forms_from-last old at numbers last))
    (Appends-none old (form_at old.forms number) number (all at 0 (omega arith)) refl)

pub choice-last : (old : Layout) (at : ℕ) (numbers : List ℕ) → at + 1 ≡ length numbers
    → All (λ n. n < length old.forms) numbers
    → Appends old (choices_in (forms_from old at numbers)) [] (any_of (forms_from old at numbers)) (get_or numbers at 0) old
choice-last old at numbers last all =
    let number = get_or numbers at 0 in
    subst (λ forms. Appends old (choices_in forms) [] (any_of forms) number old) (sym (forms_from-last old at numbers last))
    (Appends-none old (form_at old.forms number) number (all at 0 (omega arith)) refl)

-- the number of forms that a sequence adds
pub length-sequences_of : (forms : List CoreForm) → length (sequences_of forms) ≤ length forms + 1
length-sequences_of [] = omega arith
length-sequences_of (first ∷ []) = omega arith
length-sequences_of (first ∷ next ∷ rest) =
    omega (arith, length-sequences_of (next ∷ rest), length-append (sequences_of (next ∷ rest)) (Seq first (in_order next rest) ∷ []))

pub length-pushed : (old new : Layout) (form : CoreForm) → new ≡ pushed old form → length new.forms ≡ length old.forms + 1
length-pushed old new form put = ap (λ (l : Layout). length l.forms) put ∙ length-append old.forms (form ∷ [])

-- a last form was appended, unless an allocation failed
pub if_pushed : {E : Type 0} (P : ℕ → Type 0) (r : Result ℕ E) (mid new : Layout) (form : CoreForm)
    → IfOk r (λ number. number ≡ length mid.forms) → OnOk r (new ≡ pushed mid form)
    → ((number : ℕ) → number ≡ length mid.forms → new ≡ pushed mid form → P number) → IfOk r P
if_pushed P (Ok number) mid new form last put to = to number last put
if_pushed P (Err e) mid new form last put to = tt

-- a choice with a first form in front
pub choice-first : (old mid new : Layout) (first : ℕ) (others : List ℕ) (rest number : ℕ) → 0 < length others
    → first < length old.forms
    → Appends old (choices_in (map (form_at old.forms) others)) [] (any_of (map (form_at old.forms) others)) rest mid
    → new ≡ pushed mid (Choice (form_at mid.forms first) (form_at mid.forms rest)) → number ≡ length mid.forms
    → Appends old (choices_of (form_at old.forms first) (map (form_at old.forms) others)) []
    (one_of (form_at old.forms first) (map (form_at old.forms) others)) number new
choice-first old mid new first others rest number some within so_far put last =
    let a = form_at old.forms first in
    let later = map (form_at old.forms) others in
    let is : Choice (form_at mid.forms first) (form_at mid.forms rest) ≡ Choice a (any_of later) = λ i. Choice (form_at-kept old mid (choices_in later) first so_far.forms within i) (so_far.last i) in
    let one = Appends-one mid new (Choice a (any_of later)) number (put ∙ ap (pushed mid) is) last in
    let both = Appends-then old mid new (choices_in later) (Choice a (any_of later) ∷ []) [] (any_of later) (Choice a (any_of later)) rest number so_far one in
    let many : 0 < length later = omega (arith, length-map others (form_at old.forms)) in
    subst (λ parts. Appends old parts [] (one_of a later) number new) (sym (choices_in-more a later many))
    (subst (λ form. Appends old (choices_in later ++ Choice a (any_of later) ∷ []) [] form number new)
    (sym (any_of-more a later many)) both)

-- the tests of one more byte
pub tests_of-more : (terminal at : ℕ) (bytes : List ℕ) → at < length bytes
    → tests_of terminal (take (at + 1) bytes) ≡ tests_of terminal (take at bytes) ++ Test (only (get_or bytes at 0)) terminal ∷ []
tests_of-more terminal at bytes within =
    ap (tests_of terminal) (take_more bytes at 0 within)
    ∙ map-append (λ byte. Test (only byte) terminal) (take at bytes) (get_or bytes at 0 ∷ [])
