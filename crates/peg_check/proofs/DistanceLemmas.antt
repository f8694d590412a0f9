-- The search for distances: each is at least the one that follows from its dependencies, and at the end it is that one.
use Rattle.std.proofs.Common.{◌≡◌, ℕ, suc, ◌+◌, ◌*◌, ◌<◌, ◌≤◌, ◌⊎◌, inl, inr, min, cond, Bool, true, false, All, Contains, List, [], ◌∷◌, ◌++◌, length, get_or, replicate, set, refl, sym, ap, ◌∙◌, subst, arith}
use Rattle.std.specs.List.{sum_by}
use Rattle.std.proofs.Math.Nat.{suc-mul, mul-le-mul_right}
use Rattle.std.proofs.lemmas.Bool.{cases_eq, cases_lt, ne_eqb}
use Rattle.std.proofs.lemmas.List.{get_or-replicate, get_or-set_other, get_or-set_same, get_or_past, length-replicate, length-set}
use Rattle.std.proofs.lemmas.List.Elements.{All-contains, Contains-append_left, Contains-append_right, Contains-get_or, Contains-push_cases}
use Rattle.std.proofs.lemmas.List.Sums.{sum_by-le, sum_by-set}
use Rattle.peg_core.specs.CoreForm.{CoreForm, Empty, Test, Rule, Seq, Choice, Star, Not}
use Rattle.peg_core.specs.Layout.{Desugared, form_at}
use Rattle.peg_check.specs.Dependencies.{DependsOn, dep_at}
use Rattle.peg_check.specs.Distances.{far_of, distance_at, nearest_part, distance_by, distance_from, one_if_far, far_count, AreDistances}
use Rattle.peg_check.specs.declared.dependency.Dependency.{Dependency}
use Rattle.peg_check.specs.declared.dependency.Dependency.TheVariants as dep
use Rattle.peg_check.proofs.Worklist.{all_taken, last_taken}

-- ---- the least distance of a dependency

module _ (far : ℕ) where
  pub nearest-le : (distances : List ℕ) (l : Dependency) (part : ℕ) → DependsOn l part
      → nearest_part far distances l ≤ get_or distances part far
  nearest-le distances (dep.Constant known) part goes = absurd goes
  nearest-le distances (dep.Alias one) part goes = let e = ap (λ k. get_or distances k far) goes in omega (arith, e)
  nearest-le distances (dep.Seq first rest) part (inl goes) = let e = ap (λ k. get_or distances k far) goes in omega (arith, e)
  nearest-le distances (dep.Seq first rest) part (inr goes) = let e = ap (λ k. get_or distances k far) goes in omega (arith, e)
  nearest-le distances (dep.Choice first rest) part (inl goes) = let e = ap (λ k. get_or distances k far) goes in omega (arith, e)
  nearest-le distances (dep.Choice first rest) part (inr goes) = let e = ap (λ k. get_or distances k far) goes in omega (arith, e)
  nearest-le distances (dep.Star one) part goes = let e = ap (λ k. get_or distances k far) goes in omega (arith, e)
  nearest-le distances (dep.Not one) part goes = let e = ap (λ k. get_or distances k far) goes in omega (arith, e)

  -- it is the distance of one, or there is none
  least-of : (distances : List ℕ) (l : Dependency) (first rest : ℕ)
      → DependsOn l first → DependsOn l rest
      → (part : ℕ) × (DependsOn l part × (min (get_or distances first far) (get_or distances rest far) ≡ get_or distances part far))
  least-of distances l first rest one other = by (cases_lt (get_or distances first far) (get_or distances rest far))
    where
      by : (get_or distances first far < get_or distances rest far) ⊎ (get_or distances rest far ≤ get_or distances first far)
          → (part : ℕ) × (DependsOn l part × (min (get_or distances first far) (get_or distances rest far) ≡ get_or distances part far))
      by (inl less) = (first, (one, omega arith))
      by (inr more) = (rest, (other, omega arith))

  pub nearest-attained : (distances : List ℕ) (l : Dependency) → (nearest_part far distances l ≡ far)
      ⊎ ((part : ℕ) × (DependsOn l part × (nearest_part far distances l ≡ get_or distances part far)))
  nearest-attained distances (dep.Constant known) = inl refl
  nearest-attained distances (dep.Alias one) = inr (one, (refl, refl))
  nearest-attained distances (dep.Seq first rest) = inr (least-of distances (dep.Seq first rest) first rest (inl refl) (inr refl))
  nearest-attained distances (dep.Choice first rest) = inr (least-of distances (dep.Choice first rest) first rest (inl refl) (inr refl))
  nearest-attained distances (dep.Star one) = inr (one, (refl, refl))
  nearest-attained distances (dep.Not one) = inr (one, (refl, refl))

  -- a bound on all distances is one on the nearest
  nearest-all : (P : ℕ → Type 0) (distances : List ℕ) (l : Dependency) → P far
      → ((part : ℕ) → P (get_or distances part far)) → P (nearest_part far distances l)
  nearest-all P distances l none all = by (nearest-attained distances l)
    where
      by : (nearest_part far distances l ≡ far)
          ⊎ ((part : ℕ) × (DependsOn l part × (nearest_part far distances l ≡ get_or distances part far))) → P (nearest_part far distances l)
      by (inl is) = subst P (sym is) none
      by (inr one) = subst P (sym one.1.1) (all one.0)

  nearest-less : (new old : List ℕ) → ((part : ℕ) → get_or new part far ≤ get_or old part far) → (l : Dependency)
      → nearest_part far new l ≤ nearest_part far old l
  nearest-less new old less (dep.Constant known) = omega arith
  nearest-less new old less (dep.Alias one) = less one
  nearest-less new old less (dep.Seq first rest) = omega (arith, less first, less rest)
  nearest-less new old less (dep.Choice first rest) = omega (arith, less first, less rest)
  nearest-less new old less (dep.Star one) = less one
  nearest-less new old less (dep.Not one) = less one

  module _ (new old : List ℕ) (number : ℕ) (same : (k : ℕ) → (k ≡ number → ⊥) → get_or new k far ≡ get_or old k far) where
    one : (part : ℕ) → (part ≡ number) ⊎ (get_or new part far ≡ get_or old part far)
    one part = elim (cases_eq part number) [ inl is ↦ inl is | inr other ↦ inr (same part other) ]

    goes-or-same : (l : Dependency) → DependsOn l number ⊎ (nearest_part far new l ≡ nearest_part far old l)
    goes-or-same (dep.Constant known) = inr refl
    goes-or-same (dep.Alias part) = one part
    goes-or-same (dep.Seq first rest) =
        elim (one first) [ inl is ↦ inl (inl is) | inr a ↦ elim (one rest) [ inl is ↦ inl (inr is) | inr b ↦ inr (λ i. min (a i) (b i)) ] ]
    goes-or-same (dep.Choice first rest) =
        elim (one first) [ inl is ↦ inl (inl is) | inr a ↦ elim (one rest) [ inl is ↦ inl (inr is) | inr b ↦ inr (λ i. min (a i) (b i)) ] ]
    goes-or-same (dep.Star part) = one part
    goes-or-same (dep.Not part) = one part

-- ---- the distance of a form

module _ (start far : ℕ) where
  cond-less : (b : Bool) (m n : ℕ) → m ≤ n → cond b 1 (min far (m + 1)) ≤ cond b 1 (min far (n + 1))
  cond-less true m n less = omega arith
  cond-less false m n less = omega arith

  by-less : (form : CoreForm) (m n : ℕ) → m ≤ n → distance_by form start far m ≤ distance_by form start far n
  by-less Empty m n less = less
  by-less (Test set terminal) m n less = less
  by-less (Rule rule) m n less = cond-less _ m n less
  by-less (Seq first rest) m n less = less
  by-less (Choice first rest) m n less = less
  by-less (Star part origin) m n less = less
  by-less (Not part) m n less = less

  cond-far : (b : Bool) (n : ℕ) → 1 ≤ far → cond b 1 (min far (n + 1)) ≤ far
  cond-far true n some = some
  cond-far false n some = omega arith

  by-far : (form : CoreForm) (n : ℕ) → 1 ≤ far → n ≤ far → distance_by form start far n ≤ far
  by-far Empty n some few = few
  by-far (Test set terminal) n some few = few
  by-far (Rule rule) n some few = cond-far _ n some
  by-far (Seq first rest) n some few = few
  by-far (Choice first rest) n some few = few
  by-far (Star part origin) n some few = few
  by-far (Not part) n some few = few

  cond-positive : (b : Bool) (n : ℕ) → 1 ≤ far → 1 ≤ cond b 1 (min far (n + 1))
  cond-positive true n some = omega arith
  cond-positive false n some = omega arith

  by-positive : (form : CoreForm) (n : ℕ) → 1 ≤ far → 1 ≤ n → 1 ≤ distance_by form start far n
  by-positive Empty n some few = few
  by-positive (Test set terminal) n some few = few
  by-positive (Rule rule) n some few = cond-positive _ n some
  by-positive (Seq first rest) n some few = few
  by-positive (Choice first rest) n some few = few
  by-positive (Star part origin) n some few = few
  by-positive (Not part) n some few = few

  -- a new distance is at most one more than the nearest one, and so within the bound
  cond-bound : (b : Bool) (n m k : ℕ) → suc m ≤ k → (n < far → n + suc m ≤ k) → cond b 1 (min far (n + 1)) < far
      → cond b 1 (min far (n + 1)) + m ≤ k
  cond-bound true n m k few bound near = omega arith
  cond-bound false n m k few bound near = omega arith

  by-bound : (form : CoreForm) (n m k : ℕ) → suc m ≤ k → (n < far → n + suc m ≤ k) → distance_by form start far n < far
      → distance_by form start far n + m ≤ k
  by-bound Empty n m k few bound near = omega arith
  by-bound (Test set terminal) n m k few bound near = omega arith
  by-bound (Rule rule) n m k few bound near = cond-bound _ n m k few bound near
  by-bound (Seq first rest) n m k few bound near = omega arith
  by-bound (Choice first rest) n m k few bound near = omega arith
  by-bound (Star part origin) n m k few bound near = omega arith
  by-bound (Not part) n m k few bound near = omega arith

  -- without a near dependency, a form has no distance unless it is a call of the start
  rule-far : (rule n : ℕ) → far ≤ n → (rule ≡ start) ⊎ (far ≤ distance_by (Rule rule) start far n)
  rule-far rule n past = elim (cases_eq rule start) [
    | inl is ↦ inl is
    | inr other ↦ inr (subst (λ b. far ≤ cond b 1 (min far (n + 1))) (sym (ne_eqb rule start other)) (omega arith))
  ]

  start-or-far : (form : CoreForm) (n : ℕ) → far ≤ n → (form ≡ Rule start) ⊎ (far ≤ distance_by form start far n)
  start-or-far Empty n past = inr past
  start-or-far (Test set terminal) n past = inr past
  start-or-far (Rule rule) n past = elim (rule-far rule n past) [ inl is ↦ inl (ap Rule is) | inr none ↦ inr none ]
  start-or-far (Seq first rest) n past = inr past
  start-or-far (Choice first rest) n past = inr past
  start-or-far (Star part origin) n past = inr past
  start-or-far (Not part) n past = inr past

-- ---- the search

module _ (core : Desugared) (well_formedness : List Dependency) (start : ℕ) where
  pub record IsSearch (distances pending : List ℕ) : Type 0 where
    pub count : length distances ≡ length core.forms
    pub within : All (λ number. number < length core.forms) pending
    pub real : (number : ℕ) → number < length core.forms
        → distance_from core well_formedness start distances number ≤ distance_at core distances number
    pub waiting : (number : ℕ) → number < length core.forms → Contains pending number
        ⊎ (distance_at core distances number ≤ distance_from core well_formedness start distances number)
    pub bound : (number : ℕ) → distance_at core distances number < far_of core
        → distance_at core distances number + far_count (far_of core) distances ≤ length core.forms
    pub positive : (number : ℕ) → 1 ≤ distance_at core distances number
    pub most : (number : ℕ) → distance_at core distances number ≤ far_of core

  -- at first only the calls of the start are pending
  pub search-begins : (distances pending : List ℕ) → distances ≡ replicate (length core.forms) (far_of core)
      → All (λ number. number < length core.forms) pending
      → ((number : ℕ) → number < length core.forms → form_at core.forms number ≡ Rule start → Contains pending number)
      → IsSearch distances pending
  search-begins distances pending are within all = record {
    count = ap length are ∙ length-replicate (length core.forms) (far_of core);
    within = within;
    real = λ number below. rw (every number) (by-far start (far_of core) (form_at core.forms number) _ (omega arith)
        (nearest-all (far_of core) (λ n. n ≤ far_of core) distances (dep_at well_formedness number) (omega arith) (λ part. omega (arith, every part))));
    waiting = λ number below. elim (start-or-far start (far_of core) (form_at core.forms number) _
        (nearest-all (far_of core) (λ n. far_of core ≤ n) distances (dep_at well_formedness number) (omega arith) (λ part. omega (arith, every part)))) [
          | inl is ↦ inl (all number below is)
          | inr none ↦ inr (rw (every number) none)
        ];
    bound = λ number near. absurd (omega (arith, every number, near));
    positive = λ number. omega (arith, every number);
    most = λ number. omega (arith, every number);
  }
    where
      every : (number : ℕ) → get_or distances number (far_of core) ≡ far_of core
      every number = ap (λ (l : List ℕ). get_or l number (far_of core)) are ∙ by (cases_lt number (length core.forms))
        where
          by : (number < length core.forms) ⊎ (length core.forms ≤ number)
              → get_or (replicate (length core.forms) (far_of core)) number (far_of core) ≡ far_of core
          by (inl below) = get_or-replicate (length core.forms) number (far_of core) (far_of core) below
          by (inr past) = get_or_past (replicate (length core.forms) (far_of core)) number (far_of core) (omega (arith, length-replicate (length core.forms) (far_of core)))

  module _ (distances pending rest : List ℕ) (number : ℕ) (taken : pending ≡ rest ++ number ∷ [])
      (search : IsSearch distances pending) where
    pub taken-within : number < length core.forms
    taken-within = last_taken (λ k. k < length core.forms) pending rest number taken search.within

    pub rest-within : All (λ k. k < length core.forms) rest
    rest-within = all_taken (λ k. k < length core.forms) pending rest number taken search.within

    -- the distance stays
    pub search-same : distance_at core distances number ≤ distance_from core well_formedness start distances number
        → IsSearch distances rest
    search-same least = record {
      count = search.count;
      within = rest-within;
      real = search.real;
      waiting = λ k below. by k (search.waiting k below);
      bound = search.bound;
      positive = search.positive;
      most = search.most;
    }
      where
        by : (k : ℕ) → Contains pending k ⊎ (distance_at core distances k ≤ distance_from core well_formedness start distances k)
            → Contains rest k ⊎ (distance_at core distances k ≤ distance_from core well_formedness start distances k)
        by k (inr closed) = inr closed
        by k (inl had) = elim (Contains-push_cases rest number k (subst (λ (l : List ℕ). Contains l k) taken had)) [
          | inl still ↦ inl still
          | inr is ↦ inr (subst (λ j. distance_at core distances j ≤ distance_from core well_formedness start distances j) is least)
        ]

    -- the distance gets less, and the forms that depend on it are pending again
    module _ (distance : ℕ) (is : distance ≡ distance_from core well_formedness start distances number)
        (less : distance < distance_at core distances number) (after : List ℕ)
        (inside : All (λ k. k < length core.forms) after) (kept : (k : ℕ) → Contains rest k → Contains after k)
        (dependents : (k : ℕ) → k < length core.forms → DependsOn (dep_at well_formedness k) number → Contains after k) where
      abbrev pub far : ℕ
      far = far_of core

      abbrev pub new : List ℕ
      new = set distances number distance

      here : get_or new number far ≡ distance
      here = get_or-set_same distances number distance far (omega (arith, taken-within, search.count))

      other : (k : ℕ) → (k ≡ number → ⊥) → get_or new k far ≡ get_or distances k far
      other k apart = get_or-set_other distances number k distance far apart

      lower : (k : ℕ) → get_or new k far ≤ get_or distances k far
      lower k = elim (cases_eq k number) [
        | inl same ↦ (let e = ap (λ j. get_or new j far) same in let f = ap (λ j. get_or distances j far) same in omega (arith, e, f, here, less))
        | inr apart ↦ omega (arith, other k apart)
      ]

      from-less : (k : ℕ) → distance_from core well_formedness start new k ≤ distance_from core well_formedness start distances k
      from-less k = by-less start far (form_at core.forms k) (nearest_part far new (dep_at well_formedness k)) (nearest_part far distances (dep_at well_formedness k))
          (nearest-less far new distances lower (dep_at well_formedness k))

      counts : far_count far new + one_if_far far (get_or distances number far) ≡ far_count far distances + one_if_far far distance
      counts = sum_by-set (one_if_far far) distances number distance far (omega (arith, taken-within, search.count))

      new-real : (k : ℕ) → k < length core.forms → distance_from core well_formedness start new k ≤ get_or new k far
      new-real k below = elim (cases_eq k number) [
        | inl same ↦ subst (λ j. distance_from core well_formedness start new j ≤ get_or new j far) (sym same) (omega (arith, from-less number, is, here))
        | inr apart ↦ omega (arith, from-less k, search.real k below, other k apart)
      ]

      new-waiting : (k : ℕ) → k < length core.forms → Contains after k ⊎ (get_or new k far ≤ distance_from core well_formedness start new k)
      new-waiting k below = by (goes-or-same far new distances number other (dep_at well_formedness k)) (cases_eq k number) (search.waiting k below)
        where
          by : DependsOn (dep_at well_formedness k) number ⊎ (nearest_part far new (dep_at well_formedness k) ≡ nearest_part far distances (dep_at well_formedness k))
              → (k ≡ number) ⊎ (k ≡ number → ⊥)
              → Contains pending k ⊎ (distance_at core distances k ≤ distance_from core well_formedness start distances k)
              → Contains after k ⊎ (get_or new k far ≤ distance_from core well_formedness start new k)
          by (inl goes) _ _ = inl (dependents k below goes)
          by (inr same) (inl equal) _ =
              let e : distance_from core well_formedness start new k ≡ distance_from core well_formedness start distances k = ap (distance_by (form_at core.forms k) start far) same in
              let f = ap (λ j. get_or new j far) equal in
              let g = ap (λ j. distance_from core well_formedness start distances j) equal in
              inr (omega (arith, e, f, g, here, is))
          by (inr same) (inr apart) (inl had) =
              elim (Contains-push_cases rest number k (subst (λ (l : List ℕ). Contains l k) taken had)) [ inl still ↦ inl (kept k still) | inr equal ↦ absurd (apart (sym equal)) ]
          by (inr same) (inr apart) (inr closed) =
              let e : distance_from core well_formedness start new k ≡ distance_from core well_formedness start distances k = ap (distance_by (form_at core.forms k) start far) same in
              inr (omega (arith, e, closed, other k apart))

      new-bound : (k : ℕ) → get_or new k far < far → get_or new k far + far_count far new ≤ length core.forms
      new-bound k near = by (cases_eq k number) (cases_lt (get_or distances number far) far)
        where
          few : far_count far distances ≤ length distances * 1
          few = sum_by-le (one_if_far far) 1 distances (λ j d small. omega arith)

          nearest-bound : (m : ℕ) → m ≡ far_count far distances
              → nearest_part far distances (dep_at well_formedness number) < far
              → nearest_part far distances (dep_at well_formedness number) + m ≤ length core.forms
          nearest-bound m counted near = elim (nearest-attained far distances (dep_at well_formedness number)) [
            | inl none ↦ absurd (omega (arith, none, near))
            | inr some ↦ (let e = some.1.1 in omega (arith, e, counted, near, search.bound some.0))
          ]

          by : (k ≡ number) ⊎ (k ≡ number → ⊥) → (get_or distances number far < far) ⊎ (far ≤ get_or distances number far)
              → get_or new k far + far_count far new ≤ length core.forms
          by (inr apart) _ = omega (arith, other k apart, search.bound k, counts, less, search.most number)
          by (inl same) (inl known) =
              let e = ap (λ j. get_or new j far) same in omega (arith, e, here, counts, less, search.bound number known)
          by (inl same) (inr none) =
              let e = ap (λ j. get_or new j far) same in
              let m = far_count far new in
              let counted : suc m ≡ far_count far distances = omega (arith, counts, none, less, search.most number) in
              let bound = by-bound start far (form_at core.forms number) (nearest_part far distances (dep_at well_formedness number)) m (length core.forms)
              (omega (arith, counted, few, search.count)) (nearest-bound (suc m) counted) (omega (arith, is, less, search.most number)) in
              omega (arith, e, here, is, bound)

      pub search-shorter : IsSearch new after
      search-shorter = record {
        count = length-set distances number distance ∙ search.count;
        within = inside;
        real = new-real;
        waiting = new-waiting;
        bound = new-bound;
        positive = λ k. elim (cases_eq k number) [
          | inl same ↦ (let e = ap (λ j. get_or new j far) same in
              let one = by-positive start far (form_at core.forms number) (nearest_part far distances (dep_at well_formedness number)) (omega arith)
              (nearest-all far (λ n. 1 ≤ n) distances (dep_at well_formedness number) (omega arith) search.positive) in
              omega (arith, e, here, is, one))
          | inr apart ↦ omega (arith, other k apart, search.positive k)
        ];
        most = λ k. omega (arith, lower k, search.most k);
      }

  -- at the end no form is pending
  pub search-done : (distances : List ℕ) → IsSearch distances [] → AreDistances core well_formedness start distances
  search-done distances search = record {
    count = search.count;
    exact = λ number below. elim (search.waiting number below) [
      | inl had ↦ absurd (let bad : had.0 < 0 = had.1 in omega arith)
      | inr closed ↦ omega (arith, closed, search.real number below)
    ];
    bound = search.bound;
    positive = search.positive;
  }

-- the work that is left falls
pub shorter-falls : (s t entries rest after : ℕ) → s < t → after ≤ rest + entries
    → s * (entries + 1) + after < t * (entries + 1) + (rest + 1)
shorter-falls s t entries rest after less few =
    let more : suc s * (entries + 1) ≤ t * (entries + 1) = mul-le-mul_right (entries + 1) less in omega (arith, more, suc-mul s (entries + 1))

pub sum-falls : (distances : List ℕ) (number distance far : ℕ) → number < length distances → distance < get_or distances number far
    → sum_by (λ d. d) (set distances number distance) < sum_by (λ d. d) distances
sum-falls distances number distance far within less =
    omega (arith, sum_by-set (λ d. d) distances number distance far within, less)

-- what holds of two lists holds of each of them
pub All-left : (P : ℕ → Type 0) (some more : List ℕ) → All P (some ++ more) → All P some
All-left P some more all k d below =
    All-contains P (some ++ more) (get_or some k d) all (Contains-append_left some more (get_or some k d) (Contains-get_or some k d below))

pub All-right : (P : ℕ → Type 0) (some more : List ℕ) → All P (some ++ more) → All P more
All-right P some more all k d below =
    All-contains P (some ++ more) (get_or more k d) all (Contains-append_right some more (get_or more k d) (Contains-get_or more k d below))
