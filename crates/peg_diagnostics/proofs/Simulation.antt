-- A relation between the records of two expressions that every combinator of the recognition rules preserves.
use Rattle.std.proofs.Common.{◌≡◌, ℕ, zero, suc, List, [], ◌∷◌, ◌++◌, Option, None, Some, IfSome, refl, sym, ap}
use Rattle.std.proofs.Common.{subst, option_map, option_and_then}
use Rattle.peg_tree.specs.Trees.{Trees, NoTrees, Tree, followed_by}
use Rattle.peg_semantics.specs.Record.{Recognition, Failed, Matched, Test, RuleCall, Record, matched_at, after_both}
use Rattle.peg_semantics.specs.Record.{prepend_trees}
use Rattle.peg_semantics.specs.Record.{then_result, then_at, choice_result, or_else, star_result, recognize_repeat}
use Rattle.peg_semantics.specs.Record.{as_tree, as_call, if_matched, if_failed, with_result}
use Rattle.peg_semantics.proofs.RecordLemmas.{Extends}

-- the call of a rule at a position
abbrev pub call_of : (rule position : ℕ) → RuleCall
call_of rule position = record { rule = rule; position = position }

-- how the trees, the failed tests and the calls of two records are related
pub record Likeness : Type 1 where
  pub Same : Trees → Trees → Type 0
  pub Fit : List Test → List Test → Type 0
  pub Calls : List RuleCall → List RuleCall → Type 0
  pub no_trees : Same NoTrees NoTrees
  pub more_trees : (a b c d : Trees) → Same a b → Same c d → Same (followed_by a c) (followed_by b d)
  pub no_tests : Fit [] []
  pub more_tests : (a b c d : List Test) → Fit a b → Fit c d → Fit (a ++ c) (b ++ d)
  pub no_calls : Calls [] []
  pub more_calls : (a b c d : List RuleCall) → Calls a b → Calls c d → Calls (a ++ c) (b ++ d)

-- both fail, or both match with the same end and related trees
abbrev pub SameResult : Likeness → Recognition → Recognition → Type 0
SameResult like Failed Failed = Unit {0}
SameResult like Failed (Matched end trees) = ⊥
SameResult like (Matched end trees) Failed = ⊥
SameResult like (Matched end trees) (Matched other more) = (end ≡ other) × like.Same trees more

pub record IsLike (like : Likeness) (x y : Record) : Type 0 where
  pub results : SameResult like x.result y.result
  pub tests : like.Fit x.tests y.tests
  pub calls : like.Calls x.calls y.calls

-- there is a second record, and it is like the first
abbrev pub Follows : Likeness → Option Record → Record → Type 0
Follows like second x = (y : Record) × (second ≡ Some y) × IsLike like x y

-- if there is a first record, there is a second one that is like it
abbrev pub Simulates : Likeness → (first second : Option Record) → Type 0
Simulates like first second = IfSome first (Follows like second)

-- the second may be replaced by what has all of its records
pub Simulates-extends : (like : Likeness) (first second third : Option Record) → Extends second third
    → Simulates like first second → Simulates like first third
Simulates-extends like None second third more h = tt
Simulates-extends like (Some x) second third more h = (h.0, more h.0 h.1, h.2)

-- a record that is given follows from a simulation
pub Simulates-gives : (like : Likeness) (first second : Option Record) (x : Record) → first ≡ Some x
    → Simulates like first second → Follows like second x
Simulates-gives like first second x is h = subst (λ o. Simulates like o second) is h

module _ (like : Likeness) where
  pub Simulates-some : (x y : Record) → IsLike like x y → Simulates like (Some x) (Some y)
  Simulates-some x y is = (y, refl, is)

  pub IsLike-matched_at : (end : ℕ) → IsLike like (matched_at end) (matched_at end)
  IsLike-matched_at end = record { results = (refl, like.no_trees); tests = like.no_tests; calls = like.no_calls }

  pub Simulates-matched_at : (end : ℕ) → Simulates like (Some (matched_at end)) (Some (matched_at end))
  Simulates-matched_at end = Simulates-some (matched_at end) (matched_at end) (IsLike-matched_at end)

  pub Simulates-map : (f g : Record → Record) → ((x y : Record) → IsLike like x y → IsLike like (f x) (g y))
      → (first second : Option Record) → Simulates like first second
      → Simulates like (option_map f first) (option_map g second)
  Simulates-map f g keeps None second h = tt
  Simulates-map f g keeps (Some x) second h = (g h.0, ap (option_map g) h.1, keeps x h.0 h.2)

  SameResult-prepend_trees : (trees more : Trees) (result other : Recognition) → like.Same trees more
      → SameResult like result other → SameResult like (prepend_trees trees result) (prepend_trees more other)
  SameResult-prepend_trees trees more Failed Failed same results = tt
  SameResult-prepend_trees trees more Failed (Matched end other) same results = absurd results
  SameResult-prepend_trees trees more (Matched end other) Failed same results = absurd results
  SameResult-prepend_trees trees more (Matched end a) (Matched other b) same results =
      (results.0, like.more_trees trees more a b same results.1)

  IsLike-after_both : (part part' next next' : Record) (result result' : Recognition) → IsLike like part part'
      → IsLike like next next' → SameResult like result result'
      → IsLike like (after_both part next result) (after_both part' next' result')
  IsLike-after_both part part' next next' result result' h k results = record {
    results = results;
    tests = like.more_tests part.tests part'.tests next.tests next'.tests h.tests k.tests;
    calls = like.more_calls part.calls part'.calls next.calls next'.calls h.calls k.calls;
  }

  abbrev SimulatesNext : (next later : ℕ → Option Record) → Type 0
  SimulatesNext next later = (end : ℕ) → Simulates like (next end) (later end)

  Simulates-then_result : (result other : Recognition) (x y : Record) (next later : ℕ → Option Record)
      → SameResult like result other → IsLike like x y → SimulatesNext next later
      → Simulates like (then_result result x next) (then_result other y later)
  Simulates-then_result Failed Failed x y next later results is h = Simulates-some x y is
  Simulates-then_result Failed (Matched end trees) x y next later results is h = absurd results
  Simulates-then_result (Matched end trees) Failed x y next later results is h = absurd results
  Simulates-then_result (Matched end trees) (Matched other more) x y next later results is h =
      Simulates-map (λ r. after_both x r (prepend_trees trees r.result))
      (λ r. after_both y r (prepend_trees more r.result))
      (λ a b ab. IsLike-after_both x y a b (prepend_trees trees a.result) (prepend_trees more b.result) is ab
      (SameResult-prepend_trees trees more a.result b.result results.1 ab.results))
      (next end) (later other) (subst (λ at. Simulates like (next end) (later at)) results.0 (h end))

  pub Simulates-then_at : (first second : Option Record) (next later : ℕ → Option Record)
      → Simulates like first second → SimulatesNext next later
      → Simulates like (then_at first next) (then_at second later)
  Simulates-then_at None second next later h k = tt
  Simulates-then_at (Some x) second next later h k =
      subst (λ o. Simulates like (then_result x.result x next) (then_at o later)) (sym h.1)
      (Simulates-then_result x.result (h.0).result x h.0 next later h.2.results h.2 k)

  Simulates-choice_result : (result other : Recognition) (x y : Record) (next later : Option Record)
      → SameResult like result other → IsLike like x y → Simulates like next later
      → Simulates like (choice_result result x next) (choice_result other y later)
  Simulates-choice_result Failed Failed x y next later results is h =
      Simulates-map (λ r. after_both x r r.result) (λ r. after_both y r r.result)
      (λ a b ab. IsLike-after_both x y a b a.result b.result is ab ab.results) next later h
  Simulates-choice_result Failed (Matched end trees) x y next later results is h = absurd results
  Simulates-choice_result (Matched end trees) Failed x y next later results is h = absurd results
  Simulates-choice_result (Matched end trees) (Matched other more) x y next later results is h = Simulates-some x y is

  pub Simulates-or_else : (first second next later : Option Record) → Simulates like first second
      → Simulates like next later → Simulates like (or_else first next) (or_else second later)
  Simulates-or_else None second next later h k = tt
  Simulates-or_else (Some x) second next later h k =
      subst (λ o. Simulates like (choice_result x.result x next) (or_else o later)) (sym h.1)
      (Simulates-choice_result x.result (h.0).result x h.0 next later h.2.results h.2 k)

  Simulates-star_result : (result other : Recognition) (position : ℕ) (x y : Record) (next later : ℕ → Option Record)
      → SameResult like result other → IsLike like x y → SimulatesNext next later
      → Simulates like (star_result result position x next) (star_result other position y later)
  Simulates-star_result Failed Failed position x y next later results is h =
      Simulates-choice_result Failed Failed x y (Some (matched_at position)) (Some (matched_at position)) results is
      (Simulates-matched_at position)
  Simulates-star_result Failed (Matched end trees) position x y next later results is h = absurd results
  Simulates-star_result (Matched end trees) Failed position x y next later results is h = absurd results
  Simulates-star_result (Matched end trees) (Matched other more) position x y next later results is h =
      Simulates-then_result (Matched end trees) (Matched other more) x y next later results is h

  -- a star's first iteration, and then the others
  pub Simulates-rounds : (first second : Option Record) (position : ℕ) (next later : ℕ → Option Record)
      → Simulates like first second → SimulatesNext next later
      → Simulates like
      (option_and_then (λ (round : Record). star_result round.result position round next) first)
      (option_and_then (λ (round : Record). star_result round.result position round later) second)
  Simulates-rounds None second position next later h k = tt
  Simulates-rounds (Some x) second position next later h k =
      subst (λ o. Simulates like (star_result x.result position x next)
      (option_and_then (λ (round : Record). star_result round.result position round later) o)) (sym h.1)
      (Simulates-star_result x.result (h.0).result position x h.0 next later h.2.results h.2 k)

  pub Simulates-recognize_repeat : (one other : ℕ → Option Record) → SimulatesNext one other
      → (min max position : ℕ)
      → Simulates like (recognize_repeat one min max position) (recognize_repeat other min max position)
  Simulates-recognize_repeat one other h min zero position = Simulates-matched_at position
  Simulates-recognize_repeat one other h zero (suc max) position =
      Simulates-rounds (one position) (other position) position (λ end. recognize_repeat one zero max end)
      (λ end. recognize_repeat other zero max end) (h position)
      (λ end. Simulates-recognize_repeat one other h zero max end)
  Simulates-recognize_repeat one other h (suc min) (suc max) position =
      Simulates-then_at (one position) (other position) (λ end. recognize_repeat one min max end)
      (λ end. recognize_repeat other min max end) (h position)
      (λ end. Simulates-recognize_repeat one other h min max end)

  -- the results of the predicates
  SameResult-if_matched : (position : ℕ) (result other : Recognition) → SameResult like result other
      → SameResult like (if_matched result position) (if_matched other position)
  SameResult-if_matched position Failed Failed results = tt
  SameResult-if_matched position Failed (Matched end trees) results = absurd results
  SameResult-if_matched position (Matched end trees) Failed results = absurd results
  SameResult-if_matched position (Matched end trees) (Matched other more) results = (refl, like.no_trees)

  SameResult-if_failed : (position : ℕ) (result other : Recognition) → SameResult like result other
      → SameResult like (if_failed result position) (if_failed other position)
  SameResult-if_failed position Failed Failed results = (refl, like.no_trees)
  SameResult-if_failed position Failed (Matched end trees) results = absurd results
  SameResult-if_failed position (Matched end trees) Failed results = absurd results
  SameResult-if_failed position (Matched end trees) (Matched other more) results = tt

  pub IsLike-if_matched : (position : ℕ) (x y : Record) → IsLike like x y
      → IsLike like (with_result x (if_matched x.result position)) (with_result y (if_matched y.result position))
  IsLike-if_matched position x y is = record {
    results = SameResult-if_matched position x.result y.result is.results;
    tests = is.tests;
    calls = is.calls;
  }

  pub IsLike-if_failed : (position : ℕ) (x y : Record) → IsLike like x y
      → IsLike like (with_result x (if_failed x.result position)) (with_result y (if_failed y.result position))
  IsLike-if_failed position x y is = record {
    results = SameResult-if_failed position x.result y.result is.results;
    tests = is.tests;
    calls = is.calls;
  }

  -- related trees stay related under nodes of two rules
  abbrev pub SameNode : (rule other : ℕ) → Type 0
  SameNode rule other = (start end : ℕ) (a b : Trees) → like.Same a b
      → like.Same (Tree rule start end a NoTrees) (Tree other start end b NoTrees)

  -- calls of two rules at the same position are related
  abbrev pub SameCall : (rule other : ℕ) → Type 0
  SameCall rule other = (position : ℕ) → like.Calls (call_of rule position ∷ []) (call_of other position ∷ [])

  pub IsLike-as_call : (rule other position : ℕ) → SameNode rule other → SameCall rule other → (x y : Record)
      → IsLike like x y → IsLike like (as_call rule position x) (as_call other position y)
  IsLike-as_call rule other position node call x y is = record {
    results = by x.result y.result is.results;
    tests = is.tests;
    calls = like.more_calls (call_of rule position ∷ []) (call_of other position ∷ []) x.calls y.calls (call position)
        is.calls;
  }
    where
      by : (result result' : Recognition) → SameResult like result result'
          → SameResult like (as_tree rule position result) (as_tree other position result')
      by Failed Failed results = tt
      by Failed (Matched end trees) results = absurd results
      by (Matched end trees) Failed results = absurd results
      by (Matched end trees) (Matched end' more) results = (
        results.0,
        subst (λ at. like.Same (Tree rule position end trees NoTrees) (Tree other position at more NoTrees))
            results.0 (node position end trees more results.1),
      )
