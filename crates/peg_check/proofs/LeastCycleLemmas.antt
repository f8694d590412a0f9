-- Distances and labels of forms, as facts on rules.
use Rattle.std.proofs.Common.{◌≡◌, ◌≢◌, ℕ, zero, suc, ◌+◌, ◌<◌, ◌≤◌, ◌⊎◌, inl, inr, min, cond, nat_eq, All, List, [], ◌∷◌, ◌++◌, Option, None, Some, length, get_or, slice_get, option_map, unwrap_or, refl, sym, ap, ◌∙◌, subst, arith}
use Rattle.std.proofs.lemmas.Bool.{cases_eq, cases_lt, eq-eqb, ne_eqb}
use Rattle.std.proofs.lemmas.List.Sums.{get_or-le-sum_by}
use Rattle.std.proofs.lemmas.Option.{slice_get_within, get_or_from_slice_get, slice_get-map}
use Rattle.peg_core.specs.CoreForm.{CoreForm, Empty, Test, Rule, Seq, Choice, Star, Not}
use Rattle.peg_core.specs.CoreLoops.{CoreCanCallFirst, CoreLeftCalls, IsCoreChain, IsCoreLeftCycle}
use Rattle.peg_core.specs.CoreOutcomes.{BodyIs}
use Rattle.peg_core.specs.Layout.{bodies_of, Desugared, form_at}
use Rattle.peg_check.specs.Dependencies.{DependsOn, DepFits, dep_at}
use Rattle.peg_check.specs.Distances.{AreOrdered, label_at, far_of, distance_at, nearest_part, distance_by}
use Rattle.peg_check.specs.Distances.{one_if_far, AreDistances, distance_of, next_of, IsNext, AreNexts, IsGuide}
use Rattle.peg_check.specs.WellFormednessDeps.{HasDeps, deps_empty, deps_test, deps_body, deps_first, deps_both, deps_either, deps_star, deps_not, AreWellFormednessDeps}
use Rattle.peg_check.specs.declared.dependency.Dependency.{Dependency}
use Rattle.peg_check.specs.declared.dependency.Dependency.TheVariants as dep
use Rattle.peg_check.proofs.DepLemmas.{body-form, HasDeps-part}
use Rattle.peg_check.proofs.DistanceLemmas.{nearest-le}
use Rattle.peg_check.proofs.Refutations.{meets-within}

-- ---- what a form calls first

module _ (core : Desugared) (number : ℕ) where
  -- a smaller part of a form that is no call of a rule
  abbrev pub CallsInPart : Dependency → (rule : ℕ) → Type 0
  CallsInPart l rule =
      ((other : ℕ) → ¬ (form_at core.forms number ≡ Rule other))
      × ((part : ℕ) × (DependsOn l part × ((part < number) × CoreCanCallFirst (bodies_of core) (form_at core.forms part) rule)))

  seen-as : (form : CoreForm) (rule : ℕ) → form_at core.forms number ≡ form → CoreCanCallFirst (bodies_of core) (form_at core.forms number) rule
      → CoreCanCallFirst (bodies_of core) form rule
  seen-as form rule is calls = subst (λ f. CoreCanCallFirst (bodies_of core) f rule) is calls

  -- a form calls the rule itself, or a dependency calls it first
  pub calls-down : (l : Dependency) (rule : ℕ) → HasDeps core number l
      → CoreCanCallFirst (bodies_of core) (form_at core.forms number) rule
      → (form_at core.forms number ≡ Rule rule) ⊎ CallsInPart l rule
  calls-down _ rule (deps_empty can is) calls = absurd (seen-as _ rule is calls)
  calls-down _ rule (deps_test can set terminal is) calls = absurd (seen-as _ rule is calls)
  calls-down _ rule (deps_body other body is there below) calls = inl (is ∙ ap Rule (seen-as _ rule is calls))
  calls-down _ rule (deps_first first rest is below never) calls =
      inr (
        (λ other called. let bad : Seq (form_at core.forms first) (form_at core.forms rest) ≡ Rule other = sym is ∙ called in cc),
        elim (seen-as _ rule is calls) [ inl here ↦ (first, (refl, (below, here))) | inr there ↦ absurd (never there.0) ],
      )
  calls-down _ rule (deps_both first rest is below also gives) calls =
      inr (
        (λ other called. let bad : Seq (form_at core.forms first) (form_at core.forms rest) ≡ Rule other = sym is ∙ called in cc),
        elim (seen-as _ rule is calls) [ inl here ↦ (first, (inl refl, (below, here))) | inr there ↦ (rest, (inr refl, (also, there.1))) ],
      )
  calls-down _ rule (deps_either first rest is below also) calls =
      inr (
        (λ other called. let bad : Choice (form_at core.forms first) (form_at core.forms rest) ≡ Rule other = sym is ∙ called in cc),
        elim (seen-as _ rule is calls) [ inl here ↦ (first, (inl refl, (below, here))) | inr there ↦ (rest, (inr refl, (also, there))) ],
      )
  calls-down _ rule (deps_star part origin is below) calls =
      inr (
        (λ other called. let bad : Star (form_at core.forms part) origin ≡ Rule other = sym is ∙ called in cc),
        (part, (refl, (below, seen-as _ rule is calls))),
      )
  calls-down _ rule (deps_not part is below) calls =
      inr (
        (λ other called. let bad : Not (form_at core.forms part) ≡ Rule other = sym is ∙ called in cc),
        (part, (refl, (below, seen-as _ rule is calls))),
      )

  -- a call of a rule depends on the rule's body
  pub call-dep : (l : Dependency) (rule : ℕ) → HasDeps core number l → form_at core.forms number ≡ Rule rule
      → (body : ℕ) × ((l ≡ dep.Alias body) × (slice_get core.bodies rule ≡ Some body))
  call-dep _ rule (deps_empty can is) called = let bad : Empty ≡ Rule rule = sym is ∙ called in cc
  call-dep _ rule (deps_test can set terminal is) called = let bad : Test set terminal ≡ Rule rule = sym is ∙ called in cc
  call-dep _ rule (deps_body other body is there below) called =
      let both : Rule other ≡ Rule rule = sym is ∙ called in
      let same : other ≡ rule = cc in
      (body, (refl, subst (λ r. slice_get core.bodies r ≡ Some body) same there))
  call-dep _ rule (deps_first first rest is below never) called = let bad : Seq (form_at core.forms first) (form_at core.forms rest) ≡ Rule rule = sym is ∙ called in cc
  call-dep _ rule (deps_both first rest is below also gives) called = let bad : Seq (form_at core.forms first) (form_at core.forms rest) ≡ Rule rule = sym is ∙ called in cc
  call-dep _ rule (deps_either first rest is below also) called = let bad : Choice (form_at core.forms first) (form_at core.forms rest) ≡ Rule rule = sym is ∙ called in cc
  call-dep _ rule (deps_star part origin is below) called = let bad : Star (form_at core.forms part) origin ≡ Rule rule = sym is ∙ called in cc
  call-dep _ rule (deps_not part is below) called = let bad : Not (form_at core.forms part) ≡ Rule rule = sym is ∙ called in cc

  -- the dependencies of a form that is no call are smaller
  pub whole-fits : (l : Dependency) → HasDeps core number l → ((rule : ℕ) → ¬ (form_at core.forms number ≡ Rule rule))
      → DepFits number l
  whole-fits _ (deps_empty can is) none = tt
  whole-fits _ (deps_test can set terminal is) none = tt
  whole-fits _ (deps_body rule body is there below) none = absurd (none rule is)
  whole-fits _ (deps_first first rest is below never) none = below
  whole-fits _ (deps_both first rest is below also gives) none = (below, also)
  whole-fits _ (deps_either first rest is below also) none = (below, also)
  whole-fits _ (deps_star part origin is below) none = below
  whole-fits _ (deps_not part is below) none = below

-- a left call is one of the body
pub left-body : (core : Desugared) (rule other : ℕ) → CoreLeftCalls (bodies_of core) rule other
    → (body : ℕ) × ((slice_get core.bodies rule ≡ Some body) × CoreCanCallFirst (bodies_of core) (form_at core.forms body) other)
left-body core rule other calls = by (slice_get core.bodies rule) refl
  where
    as_form : (o : Option ℕ) → slice_get core.bodies rule ≡ o → slice_get (bodies_of core) rule ≡ option_map (form_at core.forms) o
    as_form o is = slice_get-map (form_at core.forms) core.bodies rule ∙ ap (option_map (form_at core.forms)) is

    by : (o : Option ℕ) → slice_get core.bodies rule ≡ o
        → (body : ℕ) × ((slice_get core.bodies rule ≡ Some body) × CoreCanCallFirst (bodies_of core) (form_at core.forms body) other)
    by None is = absurd (subst (BodyIs (λ form. CoreCanCallFirst (bodies_of core) form other)) (as_form None is) calls)
    by (Some body) is = (body, (is, subst (BodyIs (λ form. CoreCanCallFirst (bodies_of core) form other)) (as_form (Some body) is) calls))

-- ---- distances

plain : (form : CoreForm) (start far nearest : ℕ) → ((rule : ℕ) → ¬ (form ≡ Rule rule)) → distance_by form start far nearest ≡ nearest
plain Empty start far nearest none = refl
plain (Test set terminal) start far nearest none = refl
plain (Rule rule) start far nearest none = absurd (none rule refl)
plain (Seq first rest) start far nearest none = refl
plain (Choice first rest) start far nearest none = refl
plain (Star part origin) start far nearest none = refl
plain (Not part) start far nearest none = refl

module _ (core : Desugared) (well_formedness : List Dependency) (checked : AreWellFormednessDeps core well_formedness)
    (start : ℕ) (distances : List ℕ) (are : AreDistances core well_formedness start distances) where
  abbrev pub far : ℕ
  far = far_of core

  abbrev pub link : ℕ → Dependency
  link number = dep_at well_formedness number

  -- a form that is no call has the least distance of its dependencies
  pub whole-distance : (number : ℕ) → number < length core.forms → ((rule : ℕ) → ¬ (form_at core.forms number ≡ Rule rule))
      → distance_at core distances number ≡ nearest_part far distances (link number)
  whole-distance number within none =
      are.exact number within ∙ plain (form_at core.forms number) start far (nearest_part far distances (link number)) none

  pub distance-known : (rule body : ℕ) → slice_get core.bodies rule ≡ Some body
      → distance_of core distances rule ≡ distance_at core distances body
  distance-known rule body there = ap (λ o. unwrap_or (option_map (distance_at core distances) o) far) there

  -- a call of the start has distance 1, and one of another rule one more than that rule
  call-distance : (number rule : ℕ) → number < length core.forms → form_at core.forms number ≡ Rule rule
      → ((rule ≡ start) × (distance_at core distances number ≡ 1))
      ⊎ ((rule ≢ start) × (distance_at core distances number ≡ min far (distance_of core distances rule + 1)))
  call-distance number rule within is =
      let called = call-dep core number (link number) rule (checked number within) is in
      let nearest : nearest_part far distances (link number) ≡ distance_of core distances rule =
      ap (nearest_part far distances) called.1.0 ∙ sym (distance-known rule called.0 called.1.1) in
      let exact : distance_at core distances number ≡ cond (nat_eq rule start) 1 (min far (nearest_part far distances (link number) + 1)) =
      are.exact number within ∙ ap (λ f. distance_by f start far (nearest_part far distances (link number))) is in
      elim (cases_eq rule start) [
        | inl same ↦ inl (same, exact ∙ ap (λ b. cond b 1 (min far (nearest_part far distances (link number) + 1))) (eq-eqb rule start same))
        | inr other ↦ inr (other, exact ∙ (ap (λ b. cond b 1 (min far (nearest_part far distances (link number) + 1))) (ne_eqb rule start other) ∙ ap (λ n. min far (n + 1)) nearest))
      ]

  -- the distance of a form is at most that of each rule that it can call first
  pub distance-up : (bound number rule : ℕ) → number < bound → number < length core.forms
      → CoreCanCallFirst (bodies_of core) (form_at core.forms number) rule
      → (rule ≡ start → distance_at core distances number ≤ 1)
      × (distance_at core distances number ≤ distance_of core distances rule + 1)
  distance-up zero number rule less within calls = absurd (omega arith)
  distance-up (suc bound) number rule less within calls =
      elim (calls-down core number (link number) rule (checked number within) calls) [
        | inl is ↦ elim (call-distance number rule within is) [
          | inl back ↦ (let one : distance_at core distances number ≡ 1 = back.1 in ((λ same. omega arith), omega arith))
          | inr other ↦ (let more : distance_at core distances number ≡ min far (distance_of core distances rule + 1) = other.1 in ((λ same. absurd (other.0 same)), omega arith))
        ]
        | inr down ↦
            (let part = down.1.0 in
            let before : part < number = down.1.1.1.0 in
            let below : distance_at core distances number ≤ distance_at core distances part =
            omega (arith, whole-distance number within down.0, nearest-le far distances (link number) part down.1.1.0) in
            let rest = distance-up bound part rule (omega arith) (omega arith) down.1.1.1.1 in
            ((λ same. omega (arith, below, rest.0 same)), omega (arith, below, rest.1)))
      ]

  -- ---- next rules

  pub next-call : (number rule : ℕ) → number < length core.forms → form_at core.forms number ≡ Rule rule
      → distance_at core distances number < far → IsNext core start distances number rule
  next-call number rule within is near = record {
    calls = subst (λ f. CoreCanCallFirst (bodies_of core) f rule) (sym is) refl;
    cost = elim (call-distance number rule within is) [
      | inl back ↦ inl back
      | inr other ↦ inr (other.0, omega (arith, other.1, near))
    ];
    least = λ called calls other more. let same : rule ≡ called = subst (λ f. CoreCanCallFirst (bodies_of core) f called) is calls in omega arith;
  }

  pub next-whole : (nexts : List ℕ) (number next : ℕ) → number < length core.forms → length nexts ≡ number
      → AreNexts core start distances nexts → ((rule : ℕ) → ¬ (form_at core.forms number ≡ Rule rule))
      → distance_at core distances number < far
      → ((part : ℕ) × (DependsOn (link number) part) × (get_or distances part far ≡ distance_at core distances number) × (get_or nexts part 0 ≡ next))
      → ((part : ℕ) → DependsOn (link number) part → get_or distances part far ≡ distance_at core distances number → next ≤ get_or nexts part 0)
      → IsNext core start distances number next
  next-whole nexts number next within counted nexts_are none near attained least =
      let part = attained.0 in
      let inner : (part < number) × ((rule : ℕ) → CoreCanCallFirst (bodies_of core) (form_at core.forms part) rule → CoreCanCallFirst (bodies_of core) (form_at core.forms number) rule) =
      elim (HasDeps-part core number (link number) part (checked number within) attained.1) [ inl body ↦ absurd (none body.0 body.1) | inr before ↦ before ] in
      let before : part < number = inner.0 in
      let here = nexts_are part (omega arith) (omega (arith, attained.2, near)) in
      subst (IsNext core start distances number) attained.3 (record {
        calls = inner.1 (get_or nexts part 0) here.calls;
        cost = elim here.cost [
          | inl back ↦ inl (back.0, sym attained.2 ∙ back.1)
          | inr other ↦ inr (other.0, sym attained.2 ∙ other.1)
        ];
        least = λ called calls other more.
            elim (calls-down core number (link number) called (checked number within) calls) [
              | inl is ↦ absurd (none called is)
              | inr down ↦
                  (let q = down.1.0 in
                  let smaller : q < number = down.1.1.1.0 in
                  let most : distance_at core distances number ≤ distance_at core distances q =
                  omega (arith, whole-distance number within none, nearest-le far distances (link number) q down.1.1.0) in
                  let up = distance-up (suc q) q called (omega arith) (omega arith) down.1.1.1.1 in
                  let few : distance_at core distances q ≤ distance_of core distances called + 1 = up.1 in
                  let equal : get_or distances q far ≡ distance_at core distances number = omega arith in
                  let there = nexts_are q (omega arith) (omega (arith, equal, near)) in
                  omega (arith, there.least called down.1.1.1.1 other (equal ∙ more), least q down.1.1.0 equal, attained.3))
            ];
      })

  -- ---- rules

  module _ (within : All (λ body. body < length core.forms) core.bodies) where
    body-within : (rule body : ℕ) → slice_get core.bodies rule ≡ Some body → body < length core.forms
    body-within rule body there =
        subst (λ b. b < length core.forms) (get_or_from_slice_get core.bodies rule body 0 there)
        (within rule 0 (slice_get_within core.bodies rule body there))

    -- a rule with a distance has a body, and a next rule
    near-body : (rule : ℕ) → distance_of core distances rule < far → (body : ℕ) × (slice_get core.bodies rule ≡ Some body)
    near-body rule near = by (slice_get core.bodies rule) refl
      where
        by : (o : Option ℕ) → slice_get core.bodies rule ≡ o → (body : ℕ) × (slice_get core.bodies rule ≡ Some body)
        by None is =
            let e : distance_of core distances rule ≡ far = ap (λ o. unwrap_or (option_map (distance_at core distances) o) far) is in
            absurd (omega (arith, e, near))
        by (Some body) is = (body, is)

    guide-reach : (rule other : ℕ) → CoreLeftCalls (bodies_of core) rule other → distance_of core distances other < far
        → distance_of core distances rule < far
    guide-reach rule other calls near =
        let body = left-body core rule other calls in
        let inside = body-within rule body.0 body.1.0 in
        let up = distance-up (suc body.0) body.0 other (omega arith) inside body.1.1 in
        let known = distance-known rule body.0 body.1.0 in
        let last = near-body other near in
        let last_known = distance-known other last.0 last.1 in
        let bound = are.bound last.0 (omega (arith, last_known, near)) in
        let part = get_or-le-sum_by (one_if_far far) distances body.0 far (omega (arith, inside, are.count)) in
        elim (cases_lt (distance_at core distances body.0) far) [
          | inl less ↦ omega (arith, known, less)
          | inr past ↦ absurd (omega (arith, past, bound, part, up.1, last_known))
        ]

    -- a rule from which a chain leads back to the start has a distance
    pub chain-near : (more : List ℕ) (rule : ℕ) → IsCoreChain (bodies_of core) rule (more ++ start ∷ [])
        → distance_of core distances rule < far
    chain-near [] rule chain =
        let body = left-body core rule start chain.0 in
        let inside = body-within rule body.0 body.1.0 in
        let one = (distance-up (suc body.0) body.0 start (omega arith) inside body.1.1).0 refl in
        omega (arith, distance-known rule body.0 body.1.0, one, inside)
    chain-near (other ∷ more) rule chain = guide-reach rule other chain.0 (chain-near more other chain.1)

    module _ (nexts : List ℕ) (counted : length nexts ≡ length core.forms) (nexts_are : AreNexts core start distances nexts) where
      near-next : (rule body : ℕ) → slice_get core.bodies rule ≡ Some body → distance_of core distances rule < far
          → IsNext core start distances body (next_of core nexts rule)
      near-next rule body there near =
          let known : next_of core nexts rule ≡ get_or nexts body 0 = ap (λ o. unwrap_or (option_map (λ b. get_or nexts b 0) o) 0) there in
          subst (IsNext core start distances body) (sym known)
          (nexts_are body (omega (arith, body-within rule body there, counted)) (omega (arith, distance-known rule body there, near)))

      pub guide-of : IsGuide (bodies_of core) start far (distance_of core distances) (next_of core nexts)
      guide-of = record {
        positive = λ rule. by-positive rule (slice_get core.bodies rule) refl;
        back = λ rule calls.
            let body = left-body core rule start calls in
            let inside = body-within rule body.0 body.1.0 in
            let known = distance-known rule body.0 body.1.0 in
            let one = (distance-up (suc body.0) body.0 start (omega arith) inside body.1.1).0 refl in
            (omega (arith, known, one), omega (arith, known, one, inside));
        on = λ rule other calls.
            let body = left-body core rule other calls in
            let known = distance-known rule body.0 body.1.0 in
            let up = (distance-up (suc body.0) body.0 other (omega arith) (body-within rule body.0 body.1.0) body.1.1).1 in
            omega (arith, known, up);
        reach = guide-reach;
        calls = λ rule near.
            let body = near-body rule near in
            let next = near-next rule body.0 body.1 near in
            subst (BodyIs (λ form. CoreCanCallFirst (bodies_of core) form (next_of core nexts rule))) (sym (body-form core rule body.0 body.1)) next.calls;
        cost = λ rule near.
            let body = near-body rule near in
            let next = near-next rule body.0 body.1 near in
            let known = distance-known rule body.0 body.1 in
            elim next.cost [ inl back ↦ inl (back.0, known ∙ back.1) | inr other ↦ inr (other.0, known ∙ other.1) ];
        least = λ rule other near calls apart more.
            let body = left-body core rule other calls in
            let next = near-next rule body.0 body.1.0 near in
            next.least other body.1.1 apart (sym (distance-known rule body.0 body.1.0) ∙ more);
      }
        where
          by-positive : (rule : ℕ) (o : Option ℕ) → slice_get core.bodies rule ≡ o → 1 ≤ distance_of core distances rule
          by-positive rule None is =
              let e : distance_of core distances rule ≡ far = ap (λ o. unwrap_or (option_map (distance_at core distances) o) far) is in
              omega (arith, e)
          by-positive rule (Some body) is = omega (arith, distance-known rule body is, are.positive body)

-- ---- labels

module _ (core : Desugared) (well_formedness : List Dependency) (checked : AreWellFormednessDeps core well_formedness)
    (counted : length well_formedness ≡ length core.forms)
    (labels : List ℕ) (ordered : AreOrdered well_formedness labels) where
  -- the call that a form reaches first has at most its label
  abbrev pub IsCallBelow : (rule label : ℕ) → Type 0
  IsCallBelow rule label =
      (number : ℕ) × ((number < length core.forms) × ((form_at core.forms number ≡ Rule rule) × (label_at labels number ≤ label)))

  call-below : (bound number rule : ℕ) → number < bound → number < length core.forms
      → CoreCanCallFirst (bodies_of core) (form_at core.forms number) rule → IsCallBelow rule (label_at labels number)
  call-below zero number rule less inside calls = absurd (omega arith)
  call-below (suc bound) number rule less inside calls =
      elim (calls-down core number (dep_at well_formedness number) rule (checked number inside) calls) [
        | inl is ↦ (number, (inside, (is, omega arith)))
        | inr down ↦
            (let part = down.1.0 in
            let before : part < number = down.1.1.1.0 in
            let rest = call-below bound part rule (omega arith) (omega arith) down.1.1.1.1 in
            (rest.0, (rest.1.0, (rest.1.1.0, omega (arith, rest.1.1.1, ordered number part (omega (arith, inside, counted)) down.1.1.0)))))
      ]

  -- a call has at least the label of the body that it calls
  call-above : (number rule : ℕ) → number < length core.forms → form_at core.forms number ≡ Rule rule
      → (body : ℕ) × ((slice_get core.bodies rule ≡ Some body) × (label_at labels body ≤ label_at labels number))
  call-above number rule inside is =
      let called = call-dep core number (dep_at well_formedness number) rule (checked number inside) is in
      (called.0, (called.1.1, ordered number called.0 (omega (arith, inside, counted)) (subst (λ l. DependsOn l called.0) (sym called.1.0) refl)))

  body-below : (rule other body : ℕ) → slice_get core.bodies rule ≡ Some body → CoreLeftCalls (bodies_of core) rule other
      → IsCallBelow other (label_at labels body)
  body-below rule other body there calls =
      let met : CoreCanCallFirst (bodies_of core) (form_at core.forms body) other =
      subst (BodyIs (λ form. CoreCanCallFirst (bodies_of core) form other)) (body-form core rule body there) calls in
      call-below (suc body) body other (omega arith) (meets-within core body other met) met

  chain-below : (more : List ℕ) (rule last body : ℕ) → slice_get core.bodies rule ≡ Some body
      → IsCoreChain (bodies_of core) rule (more ++ last ∷ []) → IsCallBelow last (label_at labels body)
  chain-below [] rule last body there chain =
      body-below rule last body there chain.0
  chain-below (other ∷ more) rule last body there chain =
      let first = body-below rule other body there chain.0 in
      let next = call-above first.0 other first.1.0 first.1.1.0 in
      let rest = chain-below more other last next.0 next.1.0 chain.1 in
      (rest.0, (rest.1.0, (rest.1.1.0, omega (arith, rest.1.1.1, next.1.1, first.1.1.1))))

  -- a rule on a left cycle has a call with the label of its body
  pub called-on-cycle : (rule : ℕ) (more : List ℕ) → IsCoreLeftCycle (bodies_of core) (rule ∷ more)
      → (number : ℕ) × (body : ℕ) × (number < length core.forms) × (form_at core.forms number ≡ Rule rule)
      × (slice_get core.bodies rule ≡ Some body) × (label_at labels number ≡ label_at labels body)
  called-on-cycle rule more cycle =
      let start = cycle-body more cycle in
      let last = chain-below more rule rule start.0 start.1 cycle in
      let above = call-above last.0 rule last.1.0 last.1.1.0 in
      let both : Some above.0 ≡ Some start.0 = sym above.1.0 ∙ start.1 in
      let same : above.0 ≡ start.0 = cc in
      let e = ap (label_at labels) same in
      (last.0, start.0, last.1.0, last.1.1.0, start.1, omega (arith, last.1.1.1, above.1.1, e))
    where
      cycle-body : (rest : List ℕ) → IsCoreChain (bodies_of core) rule (rest ++ rule ∷ [])
          → (body : ℕ) × (slice_get core.bodies rule ≡ Some body)
      cycle-body [] chain = let body = left-body core rule rule chain.0 in (body.0, body.1.0)
      cycle-body (other ∷ rest) chain = let body = left-body core rule other chain.0 in (body.0, body.1.0)
