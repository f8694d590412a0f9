-- The first empty loop of a core form is the first one of the written expression.
use Rattle.std.proofs.Common.{◌≡◌, ℕ, zero, suc, ◌+◌, ◌-◌, ◌⊎◌, inl, inr, List, [], ◌∷◌, ◌++◌, Option, None, Some, slice_get, refl, sym, ap, ◌∙◌, subst, append-nil}
use Rattle.std.specs.Option.{option_or}
use Rattle.std.proofs.lemmas.Option.{slice_get_within, get_or_from_slice_get}
use Rattle.peg_bytes.specs.Extent.{Extent, extent}
use Rattle.peg_core.specs.CoreForm.{CoreForm, Empty, Test, Rule, Seq, Choice, Star, Not, in_order, all_in_order, one_of}
use Rattle.peg_core.specs.CoreForm.{tests_of, unfolded, left_out, count_form, core_form, core_forms, core_bodies}
use Rattle.peg_core.specs.CoreOutcomes.{BodyIs}
use Rattle.peg_core.specs.CoreParts.{AreCoreFormsOf}
use Rattle.peg_core.specs.Layout.{Desugared, bodies_of}
use Rattle.peg_core.proofs.SugarLoops.{IsEmptyLoop-to_core}
use Rattle.peg_core.proofs.SugarMeets.{BodyAt, body-at}
use Rattle.peg_core.proofs.SugarOutcomes.{GivesNothing-to_core, GivesNothing-from_core}
use Rattle.peg_semantics.specs.Form.{Form, Forms, End, Then, terminals}
use Rattle.peg_semantics.specs.Form as written
use Rattle.peg_semantics.specs.Rules as grammar
use Rattle.peg_semantics.specs.WrittenLoops.{WrittenLoop, loops_written, loops_written_by_all, IsFirstIdle, IsFirstEmptyLoop}
use Rattle.peg_semantics.specs.WrittenLoops.{HasSpan, HaveOwnSpans, SpansNameLoops}
use Rattle.peg_check.specs.FirstLoops.{NamesFirstLoop, NamesFirstCoreLoop}
use Rattle.peg_check.specs.FirstLoops.{FormLoops, IsFirstInSequence, IsFirstCoreLoop, HasFirstLoop, IsFirstCoreEmptyLoop}
use Rattle.peg_check.specs.declared.fault.CheckFault.{CheckFault}
use Rattle.peg_check.specs.declared.fault.CheckFault.TheVariants.{EmptyLoop, LeftRecursion, Memory}

-- ---- lists of written loops

has-left : (some more : List WrittenLoop) (span : Extent) → HasSpan some span → HasSpan (some ++ more) span
has-left [] more span has = absurd has
has-left (loop ∷ some) more span (inl here) = inl here
has-left (loop ∷ some) more span (inr there) = inr (has-left some more span there)

has-right : (some more : List WrittenLoop) (span : Extent) → HasSpan more span → HasSpan (some ++ more) span
has-right [] more span has = has
has-right (loop ∷ some) more span has = inr (has-right some more span has)

own-left : (some more : List WrittenLoop) → HaveOwnSpans (some ++ more) → HaveOwnSpans some
own-left [] more own = tt
own-left (loop ∷ some) more own = (λ has. own.0 (has-left some more loop.span has), own-left some more own.1)

own-right : (some more : List WrittenLoop) → HaveOwnSpans (some ++ more) → HaveOwnSpans more
own-right [] more own = own
own-right (loop ∷ some) more own = own-right some more own.1

own-apart : (some more : List WrittenLoop) (span : Extent) → HaveOwnSpans (some ++ more) → HasSpan some span
    → HasSpan more span → ⊥
own-apart [] more span own has also = has
own-apart (loop ∷ some) more span own (inl here) also =
    own.0 (has-right some more loop.span (subst (HasSpan more) (sym here) also))
own-apart (loop ∷ some) more span own (inr there) also = own-apart some more span own.1 there also

or-nothing : (one : Option Extent) → option_or one None ≡ one
or-nothing None = refl
or-nothing (Some span) = refl

or-itself : (one : Option Extent) → option_or one one ≡ one
or-itself None = refl
or-itself (Some span) = refl

module _ (rules : List grammar.Rule) where
  idle-append : (some more : List WrittenLoop) (one rest : Option Extent) → IsFirstIdle rules some one
      → IsFirstIdle rules more rest → IsFirstIdle rules (some ++ more) (option_or one rest)
  idle-append [] more one rest is also = subst (λ o. IsFirstIdle rules more (option_or o rest)) (sym is) also
  idle-append (loop ∷ some) more one rest (inl (gives, is)) also = inl (gives, ap (λ o. option_or o rest) is)
  idle-append (loop ∷ some) more one rest (inr (never, later)) also =
      inr (never, idle-append some more one rest later also)

  idle-has : (some : List WrittenLoop) (span : Extent) → IsFirstIdle rules some (Some span) → HasSpan some span
  idle-has [] span is = cc
  idle-has (loop ∷ some) span (inl (gives, is)) = inl (let same : loop.span ≡ span = cc in same)
  idle-has (loop ∷ some) span (inr (never, later)) = inr (idle-has some span later)

  -- what was found is the first of these loops, and the one in the part of a star is among them
  record Agrees (loops : List WrittenLoop) (found : FormLoops) : Type 0 where
    first : IsFirstIdle rules loops found.first
    in_part : (span : Extent) → found.in_part ≡ Some span → HasSpan loops span

  -- a form that is no star
  not_star : (loops : List WrittenLoop) (found : FormLoops) → found.in_part ≡ None
      → IsFirstIdle rules loops found.first → Agrees loops found
  not_star loops found none is = record {
    first = is;
    in_part = λ span some. let bad : None ≡ Some span = sym none ∙ some in cc;
  }

  sequence-agrees : (some more : List WrittenLoop) (one rest found : FormLoops) → Agrees some one → Agrees more rest
      → HaveOwnSpans (some ++ more) → IsFirstInSequence one rest found → Agrees (some ++ more) found
  sequence-agrees some more one rest found left right own (none, inr (other, is)) =
      not_star (some ++ more) found none
      (subst (IsFirstIdle rules (some ++ more)) (sym is)
      (idle-append some more one.first rest.first left.first right.first))
  sequence-agrees some more one rest found left right own (none, inl (same, is)) =
      not_star (some ++ more) found none (subst (IsFirstIdle rules (some ++ more)) (sym is) (by one.first refl))
    where
      by : (o : Option Extent) → one.first ≡ o → IsFirstIdle rules (some ++ more) rest.first
      by None nothing =
          subst (λ o. IsFirstIdle rules (some ++ more) (option_or o rest.first)) nothing
          (idle-append some more one.first rest.first left.first right.first)
      by (Some span) here =
          absurd (own-apart some more span own
          (idle-has some span (subst (IsFirstIdle rules some) here left.first))
          (right.in_part span (same ∙ here)))

-- ---- one form has one first loop

module _ (bodies : List CoreForm) where
  sequence-same : (one rest found one' rest' found' : FormLoops) → one.first ≡ one'.first → rest.first ≡ rest'.first
      → rest.in_part ≡ rest'.in_part → IsFirstInSequence one rest found → IsFirstInSequence one' rest' found'
      → found.first ≡ found'.first
  sequence-same one rest found one' rest' found' a b c (none, inl (same, is)) (none', inl (same', is')) =
      is ∙ (b ∙ sym is')
  sequence-same one rest found one' rest' found' a b c (none, inl (same, is)) (none', inr (other, is')) =
      absurd (other (sym c ∙ (same ∙ a)))
  sequence-same one rest found one' rest' found' a b c (none, inr (other, is)) (none', inl (same, is')) =
      absurd (other (c ∙ (same ∙ sym a)))
  sequence-same one rest found one' rest' found' a b c (none, inr (other, is)) (none', inr (other', is')) =
      is ∙ ((λ i. option_or (a i) (b i)) ∙ sym is')

  same-first : (form : CoreForm) (found also : FormLoops) → IsFirstCoreLoop bodies form found
      → IsFirstCoreLoop bodies form also → (found.first ≡ also.first) × (found.in_part ≡ also.in_part)
  same-first Empty found also is are = (is.0 ∙ sym are.0, is.1 ∙ sym are.1)
  same-first (Test set terminal) found also is are = (is.0 ∙ sym are.0, is.1 ∙ sym are.1)
  same-first (Rule rule) found also is are = (is.0 ∙ sym are.0, is.1 ∙ sym are.1)
  same-first (Seq one rest) found also is are =
      let a = same-first one is.0 are.0 is.2 are.2 in
      let b = same-first rest is.1 are.1 is.3 are.3 in
      (sequence-same is.0 is.1 found are.0 are.1 also a.0 b.0 b.1 is.4 are.4, is.4.0 ∙ sym are.4.0)
  same-first (Choice one rest) found also is are =
      let a = same-first one is.0 are.0 is.2 are.2 in
      let b = same-first rest is.1 are.1 is.3 are.3 in
      (is.5 ∙ ((λ i. option_or (a.0 i) (b.0 i)) ∙ sym are.5), is.4 ∙ sym are.4)
  same-first (Star part origin) found also (a, first, in_part, inl idle) (b, first', in_part', inl idle') =
      let same = same-first part a b first first' in
      (idle.1 ∙ sym idle'.1, in_part ∙ (same.0 ∙ sym in_part'))
  same-first (Star part origin) found also (a, first, in_part, inl idle) (b, first', in_part', inr never) =
      absurd (never.0 idle.0)
  same-first (Star part origin) found also (a, first, in_part, inr never) (b, first', in_part', inl idle) =
      absurd (never.0 idle.0)
  same-first (Star part origin) found also (a, first, in_part, inr never) (b, first', in_part', inr never') =
      let same = same-first part a b first first' in
      (never.1 ∙ (same.0 ∙ sym never'.1), in_part ∙ (same.0 ∙ sym in_part'))
  same-first (Not part) found also is are =
      (is.3 ∙ ((same-first part is.0 are.0 is.1 are.1).0 ∙ sym are.3), is.2 ∙ sym are.2)

  -- ---- the first loop of a count is that of its part

  module _ (part : CoreForm) where
    -- this many iterations have the part's first loop, or none
    abbrev IsCounted : FormLoops → Type 0
    IsCounted found =
        (found.in_part ≡ None)
        × ((found.first ≡ None)
        ⊎ ((a : FormLoops) × IsFirstCoreLoop bodies part a × (found.first ≡ a.first)))

    -- the part, and then other iterations
    once : (a rest found : FormLoops) → IsFirstCoreLoop bodies part a → IsCounted rest
        → IsFirstInSequence a rest found → found.first ≡ a.first
    once a rest found is (none, inl nothing) (in_part, inl (same, first)) =
        first ∙ (nothing ∙ (sym none ∙ same))
    once a rest found is (none, inl nothing) (in_part, inr (other, first)) =
        first ∙ (ap (option_or a.first) nothing ∙ or-nothing a.first)
    once a rest found is (none, inr (b, also, first)) (in_part, inl (same, last)) =
        last ∙ (first ∙ (same-first part b a also is).0)
    once a rest found is (none, inr (b, also, first)) (in_part, inr (other, last)) =
        last ∙ (ap (option_or a.first) (first ∙ (same-first part b a also is).0) ∙ or-itself a.first)

    counted : (min max : ℕ) (found : FormLoops) → IsFirstCoreLoop bodies (unfolded part min max) found → IsCounted found
    counted min zero found is = (is.1, inl is.0)
    counted zero (suc max) found is =
        let a = is.2.0 in
        let rest = is.2.1 in
        let seq = once a rest is.0 is.2.2 (counted zero max rest is.2.3) is.2.4 in
        (is.4, inr (a, is.2.2, is.5 ∙ (ap (option_or is.0.first) is.3.0 ∙ (or-nothing is.0.first ∙ seq))))
    counted (suc min) (suc max) found is =
        (is.4.0, inr (is.0, is.2, once is.0 is.1 found is.2 (counted min max is.1 is.3) is.4))

    again : (min max : ℕ) (found : FormLoops) → IsFirstCoreLoop bodies (unfolded part min (suc max)) found
        → (found.in_part ≡ None) × ((a : FormLoops) × (IsFirstCoreLoop bodies part a × (found.first ≡ a.first)))
    again zero max found is =
        let a = is.2.0 in
        let rest = is.2.1 in
        let seq = once a rest is.0 is.2.2 (counted zero max rest is.2.3) is.2.4 in
        (is.4, (a, (is.2.2, is.5 ∙ (ap (option_or is.0.first) is.3.0 ∙ (or-nothing is.0.first ∙ seq)))))
    again (suc min) max found is =
        (is.4.0, (is.0, (is.2, once is.0 is.1 found is.2 (counted min max is.1 is.3) is.4)))

    count-first : (min max : ℕ) (found : FormLoops) → IsFirstCoreLoop bodies (count_form part min max) found
        → (found.in_part ≡ None) × ((a : FormLoops) × (IsFirstCoreLoop bodies part a × (found.first ≡ a.first)))
    count-first min zero found is =
        (is.4, (is.1, (is.3, is.5 ∙ ap (λ o. option_or o is.1.first) is.2.0)))
    count-first min (suc max) found is = again (min - left_out part min) (max - left_out part min) found is

  -- ---- a literal has no loop

  sequence-nothing : (one rest found : FormLoops) → one.first ≡ None → rest.first ≡ None
      → IsFirstInSequence one rest found → found.first ≡ None
  sequence-nothing one rest found left right (none, inl (same, first)) = first ∙ right
  sequence-nothing one rest found left right (none, inr (other, first)) =
      first ∙ (ap (λ o. option_or o rest.first) left ∙ right)

  literal-first : (terminal : ℕ) (bytes : List ℕ) (found : FormLoops)
      → IsFirstCoreLoop bodies (all_in_order (tests_of terminal bytes)) found
      → (found.first ≡ None) × (found.in_part ≡ None)
  literal-first terminal [] found is = is
  literal-first terminal (byte ∷ []) found is = is
  literal-first terminal (byte ∷ next ∷ bytes) found is =
      let rest = literal-first terminal (next ∷ bytes) is.1 is.3 in
      (sequence-nothing is.0 is.1 found is.2.0 rest.0 is.4, is.4.0)

-- ---- written expressions

module _ (rules : List grammar.Rule) where
  abbrev First : CoreForm → FormLoops → Type 0
  First form found = IsFirstCoreLoop (core_bodies rules) form found

  -- what is found in the core form agrees with these written loops
  abbrev IsRight : List WrittenLoop → CoreForm → Type 0
  IsRight loops form = (found : FormLoops) → HaveOwnSpans loops → First form found → Agrees rules loops found

  no-loops : (found : FormLoops) → found.first ≡ None → found.in_part ≡ None → Agrees rules [] found
  no-loops found first in_part = not_star rules [] found in_part first

  star-right : (part : Form) (span : Extent) (terminal : ℕ) → IsRight (loops_written part) (core_form rules terminal part)
      → IsRight (record { part = part; span = span } ∷ loops_written part) (Star (core_form rules terminal part) span)
  star-right part span terminal right found own (a, first, in_part, alternatives) =
      record {
        first = elim alternatives [
          | inl idle ↦ inl (GivesNothing-from_core rules part terminal idle.0, idle.1)
          | inr never ↦ inr (
            (λ gives. never.0 (GivesNothing-to_core rules part terminal gives)),
            subst (IsFirstIdle rules (loops_written part)) (sym never.1) inside.first,
          )
        ];
        in_part = λ other some. inr (idle-has rules (loops_written part) other
            (subst (IsFirstIdle rules (loops_written part)) (sym in_part ∙ some) inside.first));
      }
    where
      inside : Agrees rules (loops_written part) a
      inside = right a own.1 first

  -- the same first loop, in a form that is no star
  through : (loops : List WrittenLoop) (a found : FormLoops) → Agrees rules loops a → found.first ≡ a.first
      → found.in_part ≡ None → Agrees rules loops found
  through loops a found agrees first none =
      not_star rules loops found none (subst (IsFirstIdle rules loops) (sym first) agrees.first)

  plus-right : (part : Form) (span : Extent) (terminal : ℕ) → IsRight (loops_written part) (core_form rules terminal part)
      → IsRight (record { part = part; span = span } ∷ loops_written part)
      (Seq (core_form rules terminal part) (Star (core_form rules terminal part) span))
  plus-right part span terminal right found own is =
      through (record { part = part; span = span } ∷ loops_written part) is.1 found
      (star-right part span terminal right is.1 own is.3) (by is.4) is.4.0
    where
      repeated : is.1.in_part ≡ is.0.first
      repeated = is.3.2 ∙ (same-first (core_bodies rules) (core_form rules terminal part) is.3.0 is.0 is.3.1 is.2).0

      by : IsFirstInSequence is.0 is.1 found → found.first ≡ is.1.first
      by (none, inl (same, first)) = first
      by (none, inr (other, first)) = absurd (other repeated)

  mutual
    expression-right : (e : Form) (terminal : ℕ) → IsRight (loops_written e) (core_form rules terminal e)
    expression-right (written.Literal bytes span) terminal found own is =
        let none = literal-first (core_bodies rules) terminal bytes found is in no-loops found none.0 none.1
    expression-right (written.Class set span) terminal found own is = no-loops found is.0 is.1
    expression-right (written.Any span) terminal found own is = no-loops found is.0 is.1
    expression-right (written.Name name span) terminal found own is = no-loops found is.0 is.1
    expression-right (written.Seq End span) terminal found own is = no-loops found is.0 is.1
    expression-right (written.Seq (Then e rest) span) terminal found own is =
        sequence-right rest (terminal + terminals e) (core_form rules terminal e) (loops_written e)
        (λ a owned first. expression-right e terminal a owned first) found own is
    expression-right (written.Choice first rest span) terminal found own is =
        choice-right rest (terminal + terminals first) (core_form rules terminal first) (loops_written first)
        (λ a owned one. expression-right first terminal a owned one) found own is
    expression-right (written.Optional part span) terminal found own is =
        through (loops_written part) is.0 found (expression-right part terminal is.0 own is.2)
        (is.5 ∙ (ap (option_or is.0.first) is.3.0 ∙ or-nothing is.0.first)) is.4
    expression-right (written.Star part span) terminal found own is =
        star-right part span terminal (λ a owned first. expression-right part terminal a owned first) found own is
    expression-right (written.Plus part span) terminal found own is =
        plus-right part span terminal (λ a owned first. expression-right part terminal a owned first) found own is
    expression-right (written.Counted part min max span) terminal found own is =
        let counts = count-first (core_bodies rules) (core_form rules terminal part) min max found is in
        through (loops_written part) counts.1.0 found (expression-right part terminal counts.1.0 own counts.1.1.0)
        counts.1.1.1 counts.0
    expression-right (written.And part span) terminal found own is =
        through (loops_written part) is.1.0 found (expression-right part terminal is.1.0 own is.1.1)
        (is.3 ∙ is.1.3) is.2
    expression-right (written.Not part span) terminal found own is =
        through (loops_written part) is.0 found (expression-right part terminal is.0 own is.1) is.3 is.2

    -- the items of a sequence after a form
    sequence-right : (rest : Forms) (terminal : ℕ) (one : CoreForm) (loops : List WrittenLoop) → IsRight loops one
        → IsRight (loops ++ loops_written_by_all rest) (in_order one (core_forms rules terminal rest))
    sequence-right End terminal one loops right found own is =
        subst (λ l. IsRight l one) (sym (append-nil loops)) right found own is
    sequence-right (Then e rest) terminal one loops right found own is =
        let more = loops_written e ++ loops_written_by_all rest in
        sequence-agrees rules loops more is.0 is.1 found (right is.0 (own-left loops more own) is.2)
        (sequence-right rest (terminal + terminals e) (core_form rules terminal e) (loops_written e)
        (λ a owned first. expression-right e terminal a owned first) is.1 (own-right loops more own) is.3)
        own is.4

    -- the alternatives of a choice after a form
    choice-right : (rest : Forms) (terminal : ℕ) (one : CoreForm) (loops : List WrittenLoop) → IsRight loops one
        → IsRight (loops ++ loops_written_by_all rest) (one_of one (core_forms rules terminal rest))
    choice-right End terminal one loops right found own is =
        subst (λ l. IsRight l one) (sym (append-nil loops)) right found own is
    choice-right (Then e rest) terminal one loops right found own is =
        let more = loops_written e ++ loops_written_by_all rest in
        let left = right is.0 (own-left loops more own) is.2 in
        let later = choice-right rest (terminal + terminals e) (core_form rules terminal e) (loops_written e)
        (λ a owned first. expression-right e terminal a owned first) is.1 (own-right loops more own) is.3 in
        not_star rules (loops ++ more) found is.4
        (subst (IsFirstIdle rules (loops ++ more)) (sym is.5)
        (idle-append rules loops more is.0.first is.1.first left.first later.first))

-- ---- rules

module _ (rules : List grammar.Rule) (span : Extent) where
  first-at : (number : ℕ) (rule : Option grammar.Rule) (body : Option CoreForm) → BodyAt rules rule body
      → slice_get rules number ≡ rule → SpansNameLoops rules
      → BodyIs (HasFirstLoop (core_bodies rules) span) body
      → (r : grammar.Rule) × ((slice_get rules number ≡ Some r) × IsFirstIdle rules (loops_written r.body) (Some span))
  first-at number rule body (inl none) at own loop =
      absurd (subst (BodyIs (HasFirstLoop (core_bodies rules) span)) none.1 loop)
  first-at number rule body (inr some) at own loop =
      let here = subst (BodyIs (HasFirstLoop (core_bodies rules) span)) some.3 loop in
      let is : slice_get rules number ≡ Some some.0 = at ∙ some.2 in
      let owned = subst (λ (r : grammar.Rule). HaveOwnSpans (loops_written r.body)) (get_or_from_slice_get rules number some.0 some.0 is)
      (own number some.0 (slice_get_within rules number some.0 is)) in
      let agrees = expression-right rules some.0.body some.1 here.0 owned here.1 in
      (some.0, (is, subst (IsFirstIdle rules (loops_written some.0.body)) here.2 agrees.first))

  first-written : (number : ℕ) → SpansNameLoops rules → IsFirstCoreEmptyLoop (core_bodies rules) number span
      → IsFirstEmptyLoop rules number span
  first-written number own loop =
      let found = first-at number (slice_get rules number) (slice_get (core_bodies rules) number) (body-at rules number) refl own loop.first in
      record {
        rule = found.0;
        numbered = found.1.0;
        first = found.1.1;
        earlier = λ before other less empty. loop.earlier before other less (IsEmptyLoop-to_core rules other before empty);
      }

pub first-from_core : (rules : List grammar.Rule) (core : Desugared) → AreCoreFormsOf rules core → SpansNameLoops rules
    → (why : CheckFault) → NamesFirstCoreLoop (bodies_of core) why → NamesFirstLoop rules why
first-from_core rules core are own (EmptyLoop rule span) first =
    first-written rules (extent span) rule own
    (subst (λ bodies. IsFirstCoreEmptyLoop bodies rule (extent span)) are.bodies first)
first-from_core rules core are own (LeftRecursion path) first = tt
first-from_core rules core are own Memory first = tt
