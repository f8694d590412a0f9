-- A rule has the same empty loops in its written expression and in its core form.
use Rattle.std.proofs.Common.{◌≡◌, ◌⊎◌, inl, inr, ℕ, zero, suc, ◌+◌, ◌-◌, List, [], ◌∷◌, ◌++◌, All, Contains}
use Rattle.std.proofs.Common.{Option, None, Some, slice_get, refl, sym, ap, ◌∙◌, subst}
use Rattle.std.proofs.lemmas.List.Elements.{All-contains, All-weaker, All-map, Contains-append_left}
use Rattle.std.proofs.lemmas.List.Elements.{Contains-append_right, Contains-push}
use Rattle.peg_bytes.specs.Extent.{Extent}
use Rattle.peg_semantics.specs.Form.{Form, Forms, Literal, Class, Any, Name, Optional, Plus, Counted, And, End, Then, terminals}
use Rattle.peg_semantics.specs.Form as written_form
use Rattle.peg_semantics.specs.Loops.{HasLoopOver, IsEmptyLoop}
use Rattle.peg_semantics.specs.Rules as grammar
use Rattle.peg_semantics.specs.WellFormed.{below, below_all, subexpressions}
use Rattle.peg_core.specs.CoreForm.{CoreForm, Empty, Test, Rule, Seq, Choice, Star, Not, in_order, all_in_order, one_of}
use Rattle.peg_core.specs.CoreForm.{tests_of, unfolded, left_out, count_form}
use Rattle.peg_core.specs.CoreForm.{core_form, core_forms, core_bodies}
use Rattle.peg_core.specs.CoreLoops.{IsSubformOf, IsCoreEmptyLoop}
use Rattle.peg_core.specs.CoreOutcomes.{CoreGivesNothing, BodyIs}
use Rattle.peg_core.specs.CoreParts.{core_parts}
use Rattle.peg_core.specs.Subexpressions.{Numbered, numbered_in}
use Rattle.peg_core.proofs.PartsLemmas.{HasCoreForm, has_core_forms, forms_below}
use Rattle.peg_core.proofs.SubformLemmas.{subform-itself, parts-subforms}
use Rattle.peg_core.proofs.SugarMeets.{BodyAt, body-at}
use Rattle.peg_core.proofs.SugarOutcomes.{GivesNothing-to_core, GivesNothing-from_core}

-- ---- the star of a written loop is part of the core form

-- the last part of a form is part of each form that contains the form
last-subform : (first last whole : CoreForm) → IsSubformOf (Seq first last) whole → IsSubformOf last whole
last-subform first last Empty is = cc
last-subform first last (Test set terminal) is = cc
last-subform first last (Rule rule) is = cc
last-subform first last (Seq a b) (inl is) =
    let same : last ≡ b = cc in inr (inr (subst (IsSubformOf last) same (subform-itself last)))
last-subform first last (Seq a b) (inr (inl in_first)) = inr (inl (last-subform first last a in_first))
last-subform first last (Seq a b) (inr (inr in_rest)) = inr (inr (last-subform first last b in_rest))
last-subform first last (Choice a b) (inl is) = cc
last-subform first last (Choice a b) (inr (inl in_first)) = inr (inl (last-subform first last a in_first))
last-subform first last (Choice a b) (inr (inr in_rest)) = inr (inr (last-subform first last b in_rest))
last-subform first last (Star part origin) (inl is) = cc
last-subform first last (Star part origin) (inr in_part) = inr (last-subform first last part in_part)
last-subform first last (Not part) (inl is) = cc
last-subform first last (Not part) (inr in_part) = inr (last-subform first last part in_part)

module _ (rules : List grammar.Rule) where
  -- the core form of an expression is part of this one
  abbrev IsCoreFormIn : CoreForm → Form → Type 0
  IsCoreFormIn whole e = (terminal : ℕ) × IsSubformOf (core_form rules terminal e) whole

  subexpressions-in_core_form : (e : Form) (terminal : ℕ) → All (IsCoreFormIn (core_form rules terminal e)) (subexpressions e)
  subexpressions-in_core_form e terminal =
      let whole = core_form rules terminal e in
      let parts = core_parts rules terminal e in
      let numbered = numbered_in terminal e in
      subst (All (IsCoreFormIn whole)) (ap (λ l. e ∷ l) (forms_below e terminal))
      (All-map (IsCoreFormIn whole) (λ (n : Numbered). n.form) numbered
      (All-weaker (HasCoreForm rules parts) (λ (n : Numbered). IsCoreFormIn whole n.form)
      (λ n there.
      let form = core_form rules n.terminal n.form in
      (n.terminal, All-contains (λ form. IsSubformOf form whole) parts form (parts-subforms rules terminal e) there))
      numbered (has_core_forms rules e terminal)))

  loop-in_core_form : (e : Form) (terminal : ℕ) (part : Form) (span : Extent) → HasLoopOver (subexpressions e) part span
      → (t : ℕ) × IsSubformOf (Star (core_form rules t part) span) (core_form rules terminal e)
  loop-in_core_form e terminal part span (inl star) =
      All-contains (IsCoreFormIn (core_form rules terminal e)) (subexpressions e) (written_form.Star part span)
      (subexpressions-in_core_form e terminal) star
  loop-in_core_form e terminal part span (inr plus) =
      let whole = core_form rules terminal e in
      let all = subexpressions-in_core_form e terminal in
      let there = All-contains (IsCoreFormIn whole) (subexpressions e) (Plus part span) all plus in
      let form = core_form rules there.0 part in
      (there.0, last-subform form (Star form span) whole there.1)

-- ---- a star in a core form comes from a written loop

module _ (part : CoreForm) (origin : Extent) where
  abbrev star : CoreForm
  star = Star part origin

  -- the star is part of one of these
  abbrev InSome : List CoreForm → Type 0
  InSome [] = ⊥
  InSome (form ∷ forms) = IsSubformOf star form ⊎ InSome forms

  in_order-some : (first : CoreForm) (rest : List CoreForm) → IsSubformOf star (in_order first rest)
      → InSome (first ∷ rest)
  in_order-some first [] is_subform = inl is_subform
  in_order-some first (next ∷ rest) (inl is) = cc
  in_order-some first (next ∷ rest) (inr (inl here)) = inl here
  in_order-some first (next ∷ rest) (inr (inr there)) = inr (in_order-some next rest there)

  all_in_order-some : (forms : List CoreForm) → IsSubformOf star (all_in_order forms) → InSome forms
  all_in_order-some [] is = cc
  all_in_order-some (first ∷ rest) is_subform = in_order-some first rest is_subform

  one_of-some : (first : CoreForm) (rest : List CoreForm) → IsSubformOf star (one_of first rest) → InSome (first ∷ rest)
  one_of-some first [] is_subform = inl is_subform
  one_of-some first (next ∷ rest) (inl is) = cc
  one_of-some first (next ∷ rest) (inr (inl here)) = inl here
  one_of-some first (next ∷ rest) (inr (inr there)) = inr (one_of-some next rest there)

  not-test : (terminal : ℕ) (bytes : List ℕ) → InSome (tests_of terminal bytes) → ⊥
  not-test terminal [] there = there
  not-test terminal (b ∷ bs) (inl is) = cc
  not-test terminal (b ∷ bs) (inr there) = not-test terminal bs there

  -- a star in a count is part of the count's part
  unfolded-part : (round : CoreForm) (min max : ℕ) → IsSubformOf star (unfolded round min max) → IsSubformOf star round
  unfolded-part round min zero is = cc
  unfolded-part round zero (suc max) (inl is) = cc
  unfolded-part round zero (suc max) (inr (inl (inl is))) = cc
  unfolded-part round zero (suc max) (inr (inl (inr (inl here)))) = here
  unfolded-part round zero (suc max) (inr (inl (inr (inr there)))) = unfolded-part round zero max there
  unfolded-part round zero (suc max) (inr (inr is)) = cc
  unfolded-part round (suc min) (suc max) (inl is) = cc
  unfolded-part round (suc min) (suc max) (inr (inl here)) = here
  unfolded-part round (suc min) (suc max) (inr (inr there)) = unfolded-part round min max there

  count-part : (round : CoreForm) (min max : ℕ) → IsSubformOf star (count_form round min max) → IsSubformOf star round
  count-part round min zero (inl is) = cc
  count-part round min zero (inr (inl is)) = cc
  count-part round min zero (inr (inr here)) = here
  count-part round min (suc max) is_subform =
      unfolded-part round (min - left_out round min) (suc (max - left_out round min)) is_subform

  module _ (rules : List grammar.Rule) where
    -- the star is that of a loop among these expressions
    abbrev ComesOf : List Form → Type 0
    ComesOf some = (e : Form) × (terminal : ℕ) × (part ≡ core_form rules terminal e) × HasLoopOver some e origin

    comes-left : (some more : List Form) → ComesOf some → ComesOf (some ++ more)
    comes-left some more (e, terminal, is, inl there) =
        (e, terminal, is, inl (Contains-append_left some more (written_form.Star e origin) there))
    comes-left some more (e, terminal, is, inr there) =
        (e, terminal, is, inr (Contains-append_left some more (Plus e origin) there))

    comes-right : (some more : List Form) → ComesOf more → ComesOf (some ++ more)
    comes-right some more (e, terminal, is, inl there) =
        (e, terminal, is, inl (Contains-append_right some more (written_form.Star e origin) there))
    comes-right some more (e, terminal, is, inr there) =
        (e, terminal, is, inr (Contains-append_right some more (Plus e origin) there))

    comes-below : (e : Form) (some : List Form) → ComesOf some → ComesOf (e ∷ some)
    comes-below e some comes = comes-right (e ∷ []) some comes

    first_of : (e : Form) (some : List Form) → Contains (e ∷ some) e
    first_of e some = Contains-append_left (e ∷ []) some e (Contains-push [] e)

    -- this star or plus
    from-star : (e : Form) (span : Extent) (terminal : ℕ) → star ≡ Star (core_form rules terminal e) span
        → ComesOf (subexpressions (written_form.Star e span))
    from-star e span terminal is =
        let same : span ≡ origin = cc in
        let whole = written_form.Star e span in
        let here = first_of whole (below whole) in
        let there = subst (λ s. Contains (subexpressions whole) (written_form.Star e s)) same here in
        (e, terminal, cc, inl there)

    from-plus : (e : Form) (span : Extent) (terminal : ℕ) → star ≡ Star (core_form rules terminal e) span
        → ComesOf (subexpressions (Plus e span))
    from-plus e span terminal is =
        let same : span ≡ origin = cc in
        let whole = Plus e span in
        let there = subst (λ s. Contains (subexpressions whole) (Plus e s)) same (first_of whole (below whole)) in
        (e, terminal, cc, inr there)

    mutual
      star-comes : (e : Form) (terminal : ℕ) → IsSubformOf star (core_form rules terminal e) → ComesOf (subexpressions e)
      star-comes (Literal bytes span) terminal is_subform =
          absurd (not-test terminal bytes (all_in_order-some (tests_of terminal bytes) is_subform))
      star-comes (Class set span) terminal is = cc
      star-comes (Any span) terminal is = cc
      star-comes (Name name span) terminal is = cc
      star-comes (written_form.Seq items span) terminal is_subform =
          comes-below (written_form.Seq items span) (below_all items)
          (items-come items terminal (all_in_order-some (core_forms rules terminal items) is_subform))
      star-comes (written_form.Choice first rest span) terminal is_subform =
          let later = terminal + terminals first in
          comes-below (written_form.Choice first rest span) (subexpressions first ++ below_all rest)
          (elim (one_of-some (core_form rules terminal first) (core_forms rules later rest) is_subform) [
            | inl here ↦ comes-left (subexpressions first) (below_all rest) (star-comes first terminal here)
            | inr there ↦ comes-right (subexpressions first) (below_all rest) (items-come rest later there)
          ])
      star-comes (Optional e span) terminal (inl is) = cc
      star-comes (Optional e span) terminal (inr (inl here)) =
          comes-below (Optional e span) (subexpressions e) (star-comes e terminal here)
      star-comes (Optional e span) terminal (inr (inr is)) = cc
      star-comes (written_form.Star e span) terminal (inl is) = from-star e span terminal is
      star-comes (written_form.Star e span) terminal (inr here) =
          comes-below (written_form.Star e span) (subexpressions e) (star-comes e terminal here)
      star-comes (Plus e span) terminal (inl is) = cc
      star-comes (Plus e span) terminal (inr (inl here)) =
          comes-below (Plus e span) (subexpressions e) (star-comes e terminal here)
      star-comes (Plus e span) terminal (inr (inr (inl is))) = from-plus e span terminal is
      star-comes (Plus e span) terminal (inr (inr (inr here))) =
          comes-below (Plus e span) (subexpressions e) (star-comes e terminal here)
      star-comes (Counted e min max span) terminal is_subform =
          comes-below (Counted e min max span) (subexpressions e)
          (star-comes e terminal (count-part (core_form rules terminal e) min max is_subform))
      star-comes (And e span) terminal (inl is) = cc
      star-comes (And e span) terminal (inr (inl is)) = cc
      star-comes (And e span) terminal (inr (inr here)) =
          comes-below (And e span) (subexpressions e) (star-comes e terminal here)
      star-comes (written_form.Not e span) terminal (inl is) = cc
      star-comes (written_form.Not e span) terminal (inr here) =
          comes-below (written_form.Not e span) (subexpressions e) (star-comes e terminal here)

      items-come : (items : Forms) (terminal : ℕ) → InSome (core_forms rules terminal items) → ComesOf (below_all items)
      items-come End terminal there = absurd there
      items-come (Then e rest) terminal (inl here) =
          comes-left (subexpressions e) (below_all rest) (star-comes e terminal here)
      items-come (Then e rest) terminal (inr there) =
          comes-right (subexpressions e) (below_all rest) (items-come rest (terminal + terminals e) there)

-- ---- so the empty loops are the same

module _ (rules : List grammar.Rule) (span : Extent) where
  -- a star in a body, written at this span, whose part can succeed without consuming a byte
  abbrev HasLoop : CoreForm → Type 0
  HasLoop body = (part : CoreForm) × (IsSubformOf (Star part span) body × CoreGivesNothing (core_bodies rules) part)

  loop-at : (number : ℕ) (rule : Option grammar.Rule) (body : Option CoreForm) → BodyAt rules rule body
      → slice_get rules number ≡ rule → IsEmptyLoop rules number span → BodyIs HasLoop body
  loop-at number rule body (inl none) at loop =
      let bad : None ≡ Some loop.rule = sym (at ∙ none.0) ∙ loop.numbered in cc
  loop-at number rule body (inr some) at loop =
      let is : Some some.0 ≡ Some loop.rule = sym (at ∙ some.2) ∙ loop.numbered in
      let same : loop.rule ≡ some.0 = cc in
      let Writes : grammar.Rule → Type 0 = λ r. HasLoopOver (subexpressions r.body) loop.part span in
      let written = subst Writes same loop.written in
      let there = loop-in_core_form rules some.0.body some.1 loop.part span written in
      subst (BodyIs HasLoop) (sym some.3) (
        core_form rules there.0 loop.part,
        (there.1, GivesNothing-to_core rules loop.part there.0 loop.idle),
      )

  pub IsEmptyLoop-to_core : (number : ℕ) → IsEmptyLoop rules number span
      → IsCoreEmptyLoop (core_bodies rules) number span
  IsEmptyLoop-to_core number loop =
      loop-at number (slice_get rules number) (slice_get (core_bodies rules) number) (body-at rules number) refl loop

  core_loop-at : (number : ℕ) (rule : Option grammar.Rule) (body : Option CoreForm) → BodyAt rules rule body
      → slice_get rules number ≡ rule → BodyIs HasLoop body → IsEmptyLoop rules number span
  core_loop-at number rule body (inl none) at loop = absurd (subst (BodyIs HasLoop) none.1 loop)
  core_loop-at number rule body (inr some) at loop =
      let here = subst (BodyIs HasLoop) some.3 loop in
      let comes = star-comes here.0 span rules some.0.body some.1 here.1.0 in
      let idle = subst (CoreGivesNothing (core_bodies rules)) comes.2 here.1.1 in
      record {
        rule = some.0;
        part = comes.0;
        numbered = at ∙ some.2;
        written = comes.3;
        idle = GivesNothing-from_core rules comes.0 comes.1 idle;
      }

  pub IsEmptyLoop-from_core : (number : ℕ) → IsCoreEmptyLoop (core_bodies rules) number span
      → IsEmptyLoop rules number span
  IsEmptyLoop-from_core number loop =
      core_loop-at number (slice_get rules number) (slice_get (core_bodies rules) number) (body-at rules number) refl
      loop
