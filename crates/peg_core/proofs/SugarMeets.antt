-- Rules left-call the same rules in their written expressions and in their core forms, so they have the same left
-- cycles.
use Rattle.std.proofs.Common.{◌≡◌, ◌⊎◌, inl, inr, ℕ, zero, suc, ◌+◌, ◌-◌, ◌<◌, List, [], ◌∷◌, ◌++◌, length}
use Rattle.std.proofs.Common.{Option, None, Some, option_map, unwrap_or, slice_get, refl, sym, ap, ◌∙◌, subst, arith}
use Rattle.std.proofs.lemmas.Option.{slice_get_within}
use Rattle.peg_semantics.specs.AbstractOutcomes.{GivesNothing}
use Rattle.peg_semantics.specs.Form.{Form, Forms, Literal, Class, Any, Name, Optional, Plus, Counted, And, End, Then, terminals}
use Rattle.peg_semantics.specs.Form as written_form
use Rattle.peg_semantics.specs.Loops.{CanCallFirst, ItemsCanCallFirst, SomeCanCallFirst, LeftCalls, IsChain, IsLeftCycle}
use Rattle.peg_semantics.specs.Rules.{Meaning, meaning_of}
use Rattle.peg_semantics.specs.Rules as grammar
use Rattle.peg_bytes.specs.ByteSet.{only}
use Rattle.peg_core.specs.CoreForm.{CoreForm, Test, in_order, all_in_order, one_of, tests_of, unfolded, left_out, count_form, number_of}
use Rattle.peg_core.specs.CoreForm.{core_form, core_forms, core_bodies_from, core_bodies}
use Rattle.peg_core.specs.CoreLoops.{CoreCanCallFirst, CoreLeftCalls, IsCoreChain, IsCoreLeftCycle}
use Rattle.peg_core.specs.CoreOutcomes.{CoreGivesNothing, BodyIs}
use Rattle.peg_core.proofs.SugarOutcomes.{GivesNothing-to_core, GivesNothing-from_core}

-- ---- sequences and choices

module _ (bodies : List CoreForm) (rule : ℕ) where
  -- A sequence left-calls a rule if its first form does, or if that has outcome 0 and the others do.
  order-to : (first : CoreForm) (rest : List CoreForm)
      → CoreCanCallFirst bodies first rule ⊎ (CoreGivesNothing bodies first × CoreCanCallFirst bodies (all_in_order rest) rule)
      → CoreCanCallFirst bodies (in_order first rest) rule
  order-to first [] meets = elim meets [ inl here ↦ here | inr there ↦ absurd there.1 ]
  order-to first (next ∷ rest) meets = meets

  order-from : (first : CoreForm) (rest : List CoreForm) → CoreCanCallFirst bodies (in_order first rest) rule
      → CoreCanCallFirst bodies first rule ⊎ (CoreGivesNothing bodies first × CoreCanCallFirst bodies (all_in_order rest) rule)
  order-from first [] meets = inl meets
  order-from first (next ∷ rest) meets = meets

  -- one of these left-calls the rule
  abbrev SomeMeet : List CoreForm → Type 0
  SomeMeet [] = ⊥
  SomeMeet (form ∷ forms) = CoreCanCallFirst bodies form rule ⊎ SomeMeet forms

  one-to : (first : CoreForm) (rest : List CoreForm) → SomeMeet (first ∷ rest)
      → CoreCanCallFirst bodies (one_of first rest) rule
  one-to first [] meets = elim meets [ inl here ↦ here | inr there ↦ absurd there ]
  one-to first (next ∷ rest) meets = elim meets [ inl here ↦ inl here | inr there ↦ inr (one-to next rest there) ]

  one-from : (first : CoreForm) (rest : List CoreForm) → CoreCanCallFirst bodies (one_of first rest) rule
      → SomeMeet (first ∷ rest)
  one-from first [] meets = inl meets
  one-from first (next ∷ rest) meets =
      elim meets [ inl here ↦ inl here | inr there ↦ inr (one-from next rest there) ]

  -- a literal left-calls no rule
  tests-meet : (terminal : ℕ) (bytes : List ℕ) → CoreCanCallFirst bodies (all_in_order (tests_of terminal bytes)) rule → ⊥
  tests-meet terminal [] meets = meets
  tests-meet terminal (b ∷ bs) meets =
      elim (order-from (Test (only b) terminal) (tests_of terminal bs) meets) [
        | inl here ↦ here
        | inr there ↦ tests-meet terminal bs there.1
      ]

  -- a count left-calls the rules that its part does
  unfolded-to : (part : CoreForm) (min max : ℕ) → CoreCanCallFirst bodies part rule
      → CoreCanCallFirst bodies (unfolded part min (suc max)) rule
  unfolded-to part zero max meets = inl (inl meets)
  unfolded-to part (suc min) max meets = inl meets

  count-to : (part : CoreForm) (min max : ℕ) → CoreCanCallFirst bodies part rule → CoreCanCallFirst bodies (count_form part min max) rule
  count-to part min zero meets = inr meets
  count-to part min (suc max) meets = unfolded-to part (min - left_out part min) (max - left_out part min) meets

  unfolded-from : (part : CoreForm) (min max : ℕ) → CoreCanCallFirst bodies (unfolded part min max) rule
      → CoreCanCallFirst bodies part rule
  unfolded-from part min zero meets = absurd meets
  unfolded-from part zero (suc max) meets =
      elim meets [
        | inl round ↦ elim round [ inl here ↦ here | inr there ↦ unfolded-from part zero max there.1 ]
        | inr nothing ↦ absurd nothing
      ]
  unfolded-from part (suc min) (suc max) meets =
      elim meets [ inl here ↦ here | inr there ↦ unfolded-from part min max there.1 ]

  count-from : (part : CoreForm) (min max : ℕ) → CoreCanCallFirst bodies (count_form part min max) rule
      → CoreCanCallFirst bodies part rule
  count-from part min zero meets = elim meets [ inl nothing ↦ absurd nothing | inr here ↦ here ]
  count-from part min (suc max) meets = unfolded-from part (min - left_out part min) (suc (max - left_out part min)) meets

-- ---- an expression reaches a name if its core form left-calls the name's rule

module _ (rules : List grammar.Rule) where
  abbrev bodies : List CoreForm
  bodies = core_bodies rules

  abbrev Idles : Form → Type 0
  Idles = GivesNothing rules

  module _ (name : List ℕ) where
    abbrev number : ℕ
    number = number_of rules name

    mutual
      reached-met : (e : Form) (terminal : ℕ) → CanCallFirst Idles e name
          → CoreCanCallFirst bodies (core_form rules terminal e) number
      reached-met (Literal bytes span) terminal reached = absurd reached
      reached-met (Class set span) terminal reached = reached
      reached-met (Any span) terminal reached = reached
      reached-met (Name other span) terminal reached = ap (number_of rules) reached
      reached-met (written_form.Seq items span) terminal reached = items-met items terminal reached
      reached-met (written_form.Choice first rest span) terminal reached =
          let later = terminal + terminals first in
          one-to bodies number (core_form rules terminal first) (core_forms rules later rest) (elim reached [
            | inl here ↦ inl (reached-met first terminal here)
            | inr there ↦ inr (some-met rest later there)
          ])
      reached-met (Optional part span) terminal reached = inl (reached-met part terminal reached)
      reached-met (written_form.Star part span) terminal reached = reached-met part terminal reached
      reached-met (Plus part span) terminal reached = inl (reached-met part terminal reached)
      reached-met (Counted part min max span) terminal reached =
          count-to bodies number (core_form rules terminal part) min max (reached-met part terminal reached)
      reached-met (And part span) terminal reached = reached-met part terminal reached
      reached-met (written_form.Not part span) terminal reached = reached-met part terminal reached

      items-met : (items : Forms) (terminal : ℕ) → ItemsCanCallFirst Idles items name
          → CoreCanCallFirst bodies (all_in_order (core_forms rules terminal items)) number
      items-met End terminal reached = reached
      items-met (Then e rest) terminal reached =
          let later = terminal + terminals e in
          order-to bodies number (core_form rules terminal e) (core_forms rules later rest) (elim reached [
            | inl here ↦ inl (reached-met e terminal here)
            | inr there ↦ inr (GivesNothing-to_core rules e terminal there.0, items-met rest later there.1)
          ])

      some-met : (items : Forms) (terminal : ℕ) → SomeCanCallFirst Idles items name
          → SomeMeet bodies number (core_forms rules terminal items)
      some-met End terminal reached = reached
      some-met (Then e rest) terminal reached =
          elim reached [
            | inl here ↦ inl (reached-met e terminal here)
            | inr there ↦ inr (some-met rest (terminal + terminals e) there)
          ]

  module _ (rule : ℕ) where
    -- a name of this rule is reached
    abbrev ReachedBy : (List ℕ → Type 0) → Type 0
    ReachedBy Reached = (name : List ℕ) × Reached name × (number_of rules name ≡ rule)

    also : (Reached More : List ℕ → Type 0) → ((name : List ℕ) → Reached name → More name) → ReachedBy Reached
        → ReachedBy More
    also Reached More more by = (by.0, more by.0 by.1, by.2)

    mutual
      met-reached : (e : Form) (terminal : ℕ) → CoreCanCallFirst bodies (core_form rules terminal e) rule
          → ReachedBy (CanCallFirst Idles e)
      met-reached (Literal bytes span) terminal meets = absurd (tests-meet bodies rule terminal bytes meets)
      met-reached (Class set span) terminal meets = absurd meets
      met-reached (Any span) terminal meets = absurd meets
      met-reached (Name name span) terminal meets = (name, refl, meets)
      met-reached (written_form.Seq items span) terminal meets = met-items items terminal meets
      met-reached (written_form.Choice first rest span) terminal meets =
          let later = terminal + terminals first in
          let e : Form = written_form.Choice first rest span in
          elim (one-from bodies rule (core_form rules terminal first) (core_forms rules later rest) meets) [
            | inl here ↦
                also (CanCallFirst Idles first) (CanCallFirst Idles e) (λ name h. inl h) (met-reached first terminal here)
            | inr there ↦ also (SomeCanCallFirst Idles rest) (CanCallFirst Idles e) (λ name h. inr h) (met-some rest later there)
          ]
      met-reached (Optional part span) terminal meets =
          elim meets [ inl here ↦ met-reached part terminal here | inr there ↦ absurd there ]
      met-reached (written_form.Star part span) terminal meets = met-reached part terminal meets
      met-reached (Plus part span) terminal meets =
          elim meets [ inl here ↦ met-reached part terminal here | inr there ↦ met-reached part terminal there.1 ]
      met-reached (Counted part min max span) terminal meets =
          met-reached part terminal (count-from bodies rule (core_form rules terminal part) min max meets)
      met-reached (And part span) terminal meets = met-reached part terminal meets
      met-reached (written_form.Not part span) terminal meets = met-reached part terminal meets

      met-items : (items : Forms) (terminal : ℕ)
          → CoreCanCallFirst bodies (all_in_order (core_forms rules terminal items)) rule
          → ReachedBy (ItemsCanCallFirst Idles items)
      met-items End terminal meets = absurd meets
      met-items (Then e rest) terminal meets =
          let later = terminal + terminals e in
          elim (order-from bodies rule (core_form rules terminal e) (core_forms rules later rest) meets) [
            | inl here ↦
                also (CanCallFirst Idles e) (ItemsCanCallFirst Idles (Then e rest)) (λ name h. inl h) (met-reached e terminal here)
            | inr there ↦
                let idle = GivesNothing-from_core rules e terminal there.0 in
                let following = met-items rest later there.1 in
                also (ItemsCanCallFirst Idles rest) (ItemsCanCallFirst Idles (Then e rest)) (λ name h. inr (idle, h)) following
          ]

      met-some : (items : Forms) (terminal : ℕ) → SomeMeet bodies rule (core_forms rules terminal items)
          → ReachedBy (SomeCanCallFirst Idles items)
      met-some End terminal meets = absurd meets
      met-some (Then e rest) terminal meets =
          elim meets [
            | inl here ↦
                also (CanCallFirst Idles e) (SomeCanCallFirst Idles (Then e rest)) (λ name h. inl h) (met-reached e terminal here)
            | inr there ↦
                let following = met-some rest (terminal + terminals e) there in
                also (SomeCanCallFirst Idles rest) (SomeCanCallFirst Idles (Then e rest)) (λ name h. inr h) following
          ]

-- ---- a rule and its body have the same number

-- there is neither, or the body is the core form of the rule's expression
abbrev pub BodyAt : List grammar.Rule → Option grammar.Rule → Option CoreForm → Type 0
BodyAt rules rule body =
    ((rule ≡ None) × (body ≡ None))
    ⊎ ((r : grammar.Rule) × (terminal : ℕ) × (rule ≡ Some r) × (body ≡ Some (core_form rules terminal r.body)))

body_from-at : (rules : List grammar.Rule) (terminal : ℕ) (some : List grammar.Rule) (i : ℕ)
    → BodyAt rules (slice_get some i) (slice_get (core_bodies_from rules terminal some) i)
body_from-at rules terminal [] i = inl (refl, refl)
body_from-at rules terminal (r ∷ rs) zero = inr (r, terminal, refl, refl)
body_from-at rules terminal (r ∷ rs) (suc i) = body_from-at rules (terminal + terminals r.body) rs i

pub body-at : (rules : List grammar.Rule) (i : ℕ) → BodyAt rules (slice_get rules i) (slice_get (core_bodies rules) i)
body-at rules i = body_from-at rules 0 rules i

-- ---- so the same rules are left-called

module _ (rules : List grammar.Rule) where
  -- the number of a name that denotes a rule is the rule's
  number-means : (name : List ℕ) (rule : ℕ) → option_map (λ (m : Meaning). m.rule) (meaning_of rules name) ≡ Some rule
      → number_of rules name ≡ rule
  number-means name rule means = ap (λ o. unwrap_or o (length rules)) means

  means-number : (name : List ℕ) (rule : ℕ) → rule < length rules → number_of rules name ≡ rule
      → option_map (λ (m : Meaning). m.rule) (meaning_of rules name) ≡ Some rule
  means-number name rule within is = by (option_map (λ (m : Meaning). m.rule) (meaning_of rules name)) is
    where
      by : (o : Option ℕ) → unwrap_or o (length rules) ≡ rule → o ≡ Some rule
      by None same = absurd (omega (arith, within, same))
      by (Some n) same = ap Some same

  met_first-at : (first second : ℕ) (rule : Option grammar.Rule) (body : Option CoreForm) → BodyAt rules rule body
      → slice_get rules first ≡ rule → LeftCalls rules first second
      → BodyIs (λ form. CoreCanCallFirst (core_bodies rules) form second) body
  met_first-at first second rule body (inl none) at meets =
      let bad : None ≡ Some meets.rule = sym (at ∙ none.0) ∙ meets.numbered in cc
  met_first-at first second rule body (inr some) at meets =
      let is : Some some.0 ≡ Some meets.rule = sym (at ∙ some.2) ∙ meets.numbered in
      let same : meets.rule ≡ some.0 = cc in
      let FromRule : grammar.Rule → Type 0 = λ r. CanCallFirst (GivesNothing rules) r.body meets.name in
      let reached = subst FromRule same meets.reached in
      let met = reached-met rules meets.name some.0.body some.1 reached in
      let number = number-means meets.name second meets.means in
      subst (BodyIs (λ form. CoreCanCallFirst (core_bodies rules) form second)) (sym some.3)
      (subst (CoreCanCallFirst (core_bodies rules) (core_form rules some.1 some.0.body)) number met)

  pub LeftCalls-to_core : (first second : ℕ) → LeftCalls rules first second
      → CoreLeftCalls (core_bodies rules) first second
  LeftCalls-to_core first second meets =
      met_first-at first second (slice_get rules first) (slice_get (core_bodies rules) first) (body-at rules first) refl
      meets

  meets_first-at : (first second : ℕ) (rule : Option grammar.Rule) (body : Option CoreForm) → BodyAt rules rule body
      → slice_get rules first ≡ rule → second < length rules
      → BodyIs (λ form. CoreCanCallFirst (core_bodies rules) form second) body → LeftCalls rules first second
  meets_first-at first second rule body (inl none) at within meets =
      absurd (subst (BodyIs (λ form. CoreCanCallFirst (core_bodies rules) form second)) none.1 meets)
  meets_first-at first second rule body (inr some) at within meets =
      let met = subst (BodyIs (λ form. CoreCanCallFirst (core_bodies rules) form second)) some.3 meets in
      let reached = met-reached rules second some.0.body some.1 met in
      record {
        rule = some.0;
        name = reached.0;
        numbered = at ∙ some.2;
        reached = reached.1;
        means = means-number reached.0 second within reached.2;
      }

  pub LeftCalls-from_core : (first second : ℕ) → second < length rules
      → CoreLeftCalls (core_bodies rules) first second → LeftCalls rules first second
  LeftCalls-from_core first second within meets =
      meets_first-at first second (slice_get rules first) (slice_get (core_bodies rules) first) (body-at rules first)
      refl within meets

  -- ---- and the left cycles are the same

  in_turn-to_core : (before : ℕ) (path : List ℕ) → IsChain (LeftCalls rules) before path
      → IsCoreChain (core_bodies rules) before path
  in_turn-to_core before [] meet = tt
  in_turn-to_core before (next ∷ more) meet = (LeftCalls-to_core before next meet.0, in_turn-to_core next more meet.1)

  pub IsLeftCycle-to_core : (path : List ℕ) → IsLeftCycle rules path → IsCoreLeftCycle (core_bodies rules) path
  IsLeftCycle-to_core [] cycle = cycle
  IsLeftCycle-to_core (first ∷ more) cycle = in_turn-to_core first (more ++ first ∷ []) cycle

  -- a rule that left-calls another is one of the rules
  meeting-at : (first second : ℕ) (rule : Option grammar.Rule) (body : Option CoreForm) → BodyAt rules rule body
      → slice_get rules first ≡ rule → BodyIs (λ form. CoreCanCallFirst (core_bodies rules) form second) body
      → first < length rules
  meeting-at first second rule body (inl none) at meets =
      absurd (subst (BodyIs (λ form. CoreCanCallFirst (core_bodies rules) form second)) none.1 meets)
  meeting-at first second rule body (inr some) at meets = slice_get_within rules first some.0 (at ∙ some.2)

  meeting-within : (first second : ℕ) → CoreLeftCalls (core_bodies rules) first second → first < length rules
  meeting-within first second meets =
      meeting-at first second (slice_get rules first) (slice_get (core_bodies rules) first) (body-at rules first) refl
      meets

  first-within : (before : ℕ) (path : List ℕ) (last : ℕ) → IsCoreChain (core_bodies rules) before (path ++ last ∷ [])
      → before < length rules
  first-within before [] last meet = meeting-within before last meet.0
  first-within before (next ∷ more) last meet = meeting-within before next meet.0

  in_turn-from_core : (before : ℕ) (path : List ℕ) (last : ℕ) → last < length rules
      → IsCoreChain (core_bodies rules) before (path ++ last ∷ [])
      → IsChain (LeftCalls rules) before (path ++ last ∷ [])
  in_turn-from_core before [] last within meet = (LeftCalls-from_core before last within meet.0, tt)
  in_turn-from_core before (next ∷ more) last within meet = (
    LeftCalls-from_core before next (first-within next more last meet.1) meet.0,
    in_turn-from_core next more last within meet.1,
  )

  pub IsLeftCycle-from_core : (path : List ℕ) → IsCoreLeftCycle (core_bodies rules) path → IsLeftCycle rules path
  IsLeftCycle-from_core [] cycle = cycle
  IsLeftCycle-from_core (first ∷ more) cycle =
      in_turn-from_core first more first (first-within first more first cycle) cycle
