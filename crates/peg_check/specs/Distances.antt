-- Describes code: the distance of each form from a rule, which is the least number of calls up to a call of that rule.
use Rattle.std.specs.Prelude.{◌≡◌, ◌≢◌, ◌⊎◌, ℕ, ◌+◌, ◌-◌, ◌<◌, ◌≤◌}
use Rattle.std.specs.Prelude.{min, cond, nat_eq, List, length, option_map, slice_get, slice_index_or, unwrap_or}
use Rattle.std.specs.List.{sum_by}
use Rattle.peg_core.specs.CoreForm.{CoreForm, Empty, Test, Rule, Seq, Choice, Star, Not}
use Rattle.peg_core.specs.CoreLoops.{CoreCanCallFirst, CoreLeftCalls}
use Rattle.peg_core.specs.Layout.{bodies_of, Desugared, form_at}
use Rattle.peg_check.specs.Dependencies.{DependsOn, dep_at}
use Rattle.peg_check.specs.declared.dependency.Dependency.{Dependency}
use Rattle.peg_check.specs.declared.dependency.Dependency.TheVariants as dep

-- the label of the component of the form with a number
abbrev pub label_at : List ℕ → ℕ → ℕ
label_at labels number = slice_index_or labels number 0

-- no form depends on one with a greater label
abbrev pub AreOrdered : List Dependency → List ℕ → Type 0
AreOrdered well_formedness labels = (number part : ℕ) → number < length well_formedness
    → DependsOn (dep_at well_formedness number) part → label_at labels part ≤ label_at labels number

-- the distance of a form that calls the rule nowhere
abbrev pub far_of : Desugared → ℕ
far_of core = length core.forms + 1

-- the distance of the form with a number
abbrev pub distance_at : Desugared → List ℕ → ℕ → ℕ
distance_at core distances number = slice_index_or distances number (far_of core)

-- the least distance of a dependency
abbrev pub nearest_part : (far : ℕ) → List ℕ → Dependency → ℕ
nearest_part far distances (dep.Constant known) = far
nearest_part far distances (dep.Alias part) = slice_index_or distances part far
nearest_part far distances (dep.Seq first rest) =
    min (slice_index_or distances first far) (slice_index_or distances rest far)
nearest_part far distances (dep.Choice first rest) =
    min (slice_index_or distances first far) (slice_index_or distances rest far)
nearest_part far distances (dep.Star part) = slice_index_or distances part far
nearest_part far distances (dep.Not part) = slice_index_or distances part far

-- the distance of a form, from the least one of its dependencies: a call of a rule adds one
abbrev pub distance_by : CoreForm → (start far nearest : ℕ) → ℕ
distance_by Empty start far nearest = nearest
distance_by (Test set terminal) start far nearest = nearest
distance_by (Rule rule) start far nearest = cond (nat_eq rule start) 1 (min far (nearest + 1))
distance_by (Seq first rest) start far nearest = nearest
distance_by (Choice first rest) start far nearest = nearest
distance_by (Star part origin) start far nearest = nearest
distance_by (Not part) start far nearest = nearest

-- the distance of the form with a number, from all distances
abbrev pub distance_from : Desugared → List Dependency → (start : ℕ) → List ℕ → (number : ℕ) → ℕ
distance_from core well_formedness start distances number =
    distance_by (form_at core.forms number) start (far_of core)
    (nearest_part (far_of core) distances (dep_at well_formedness number))

-- the number of forms without a distance
abbrev pub one_if_far : (far distance : ℕ) → ℕ
one_if_far far distance = 1 - (far - distance)

abbrev pub far_count : (far : ℕ) → List ℕ → ℕ
far_count far distances = sum_by (one_if_far far) distances

-- Each distance follows from the others. A form with a distance has at most as many as there are forms with one.
pub record AreDistances (core : Desugared) (well_formedness : List Dependency) (start : ℕ)
    (distances : List ℕ) : Type 0 where
  pub count : length distances ≡ length core.forms
  pub exact : (number : ℕ) → number < length core.forms
      → distance_at core distances number ≡ distance_from core well_formedness start distances number
  pub bound : (number : ℕ) → distance_at core distances number < far_of core
      → distance_at core distances number + far_count (far_of core) distances ≤ length core.forms
  pub positive : (number : ℕ) → 1 ≤ distance_at core distances number

-- the distance of a rule's body
abbrev pub distance_of : Desugared → List ℕ → (rule : ℕ) → ℕ
distance_of core distances rule =
    unwrap_or (option_map (distance_at core distances) (slice_get core.bodies rule)) (far_of core)

-- the rule that a rule's body calls first on the least of the shortest paths
abbrev pub next_of : Desugared → List ℕ → (rule : ℕ) → ℕ
next_of core nexts rule = unwrap_or (option_map (λ body. slice_index_or nexts body 0) (slice_get core.bodies rule)) 0

-- The rule is the least one that a form can call first on a shortest path to a call of the start.
pub record IsNext (core : Desugared) (start : ℕ) (distances : List ℕ) (number next : ℕ) : Type 0 where
  pub calls : CoreCanCallFirst (bodies_of core) (form_at core.forms number) next
  pub cost : ((next ≡ start) × (distance_at core distances number ≡ 1))
      ⊎ ((next ≢ start) × (distance_at core distances number ≡ distance_of core distances next + 1))
  pub least : (rule : ℕ) → CoreCanCallFirst (bodies_of core) (form_at core.forms number) rule → rule ≢ start
      → distance_at core distances number ≡ distance_of core distances rule + 1 → next ≤ rule

-- each form with a distance has its next rule
abbrev pub AreNexts : Desugared → (start : ℕ) → List ℕ → List ℕ → Type 0
AreNexts core start distances nexts = (number : ℕ) → number < length nexts
    → distance_at core distances number < far_of core
    → IsNext core start distances number (slice_index_or nexts number 0)

-- Distances of rules and next rules lead to the start on the least of the shortest paths.
pub record IsGuide (bodies : List CoreForm) (start far : ℕ) (distance next : ℕ → ℕ) : Type 0 where
  pub positive : (rule : ℕ) → 1 ≤ distance rule
  pub back : (rule : ℕ) → CoreLeftCalls bodies rule start → (distance rule ≤ 1) × (distance rule < far)
  pub on : (rule other : ℕ) → CoreLeftCalls bodies rule other → distance rule ≤ distance other + 1
  pub reach : (rule other : ℕ) → CoreLeftCalls bodies rule other → distance other < far → distance rule < far
  pub calls : (rule : ℕ) → distance rule < far → CoreLeftCalls bodies rule (next rule)
  pub cost : (rule : ℕ) → distance rule < far
      → ((next rule ≡ start) × (distance rule ≡ 1))
      ⊎ ((next rule ≢ start) × (distance rule ≡ distance (next rule) + 1))
  pub least : (rule other : ℕ) → distance rule < far → CoreLeftCalls bodies rule other → other ≢ start
      → distance rule ≡ distance other + 1 → next rule ≤ other
