-- Which of several left cycles is reported: the least rule on a left cycle, the shortest cycle from it, and of these
-- the one with the least rule numbers.
use Rattle.std.specs.Prelude.{◌≡◌, ◌⊎◌, ℕ, ◌<◌, ◌≤◌, List, [], ◌∷◌, length}
use Rattle.peg_core.specs.CoreForm.{CoreForm}
use Rattle.peg_core.specs.CoreLoops.{IsCoreLeftCycle}
use Rattle.peg_semantics.specs.Loops.{IsLeftCycle}
use Rattle.peg_semantics.specs.Rules.{Rule}
use Rattle.peg_check.specs.Verdicts.{IsSimpleLeftCycle}
use Rattle.peg_check.specs.declared.fault.CheckFault.{CheckFault}
use Rattle.peg_check.specs.declared.fault.CheckFault.TheVariants.{EmptyLoop, LeftRecursion, Memory}

-- a list of numbers is less than another one where they first differ
abbrev pub IsBefore : List ℕ → List ℕ → Type 0
IsBefore [] others = ⊥
IsBefore (one ∷ more) [] = ⊥
IsBefore (one ∷ more) (other ∷ others) = (one < other) ⊎ ((one ≡ other) × IsBefore more others)

-- A path is the least cycle. A cycle can begin with any of its rules, so a rule is on a cycle if one begins with it. No
-- rule less than the path's first one is on a cycle. No cycle from that rule is shorter, and none of the same length is
-- less.
pub record IsLeastCycle (IsCycle : List ℕ → Type 0) (path : List ℕ) : Type 0 where
  pub rule : ℕ
  pub more : List ℕ
  pub is : path ≡ rule ∷ more
  pub cycle : IsCycle (rule ∷ more)
  pub least_rule : (other : ℕ) (rest : List ℕ) → IsCycle (other ∷ rest) → rule ≤ other
  pub shortest : (rest : List ℕ) → IsCycle (rule ∷ rest) → length more ≤ length rest
  pub first : (rest : List ℕ) → IsCycle (rule ∷ rest) → length rest ≡ length more → ¬ IsBefore rest more

-- A path is a left cycle from a rule, without repeated rules. None from this rule is shorter, and none of the same
-- length is less.
pub record IsLeastFrom (bodies : List CoreForm) (rule : ℕ) (path : List ℕ) : Type 0 where
  pub more : List ℕ
  pub is : path ≡ rule ∷ more
  pub simple : IsSimpleLeftCycle bodies path
  pub shortest : (rest : List ℕ) → IsCoreLeftCycle bodies (rule ∷ rest) → length more ≤ length rest
  pub first : (rest : List ℕ) → IsCoreLeftCycle bodies (rule ∷ rest) → length rest ≡ length more → ¬ IsBefore rest more

-- a fault that names a left cycle names the least one
abbrev pub NamesLeastCycleBy : (List ℕ → Type 0) → CheckFault → Type 0
NamesLeastCycleBy IsCycle (EmptyLoop rule span) = Unit {0}
NamesLeastCycleBy IsCycle (LeftRecursion path) = IsLeastCycle IsCycle path.items
NamesLeastCycleBy IsCycle Memory = Unit {0}

-- the same for core forms, and for rules as written
abbrev pub NamesLeastCoreCycle : List CoreForm → CheckFault → Type 0
NamesLeastCoreCycle bodies fault = NamesLeastCycleBy (IsCoreLeftCycle bodies) fault

abbrev pub NamesLeastCycle : List Rule → CheckFault → Type 0
NamesLeastCycle rules fault = NamesLeastCycleBy (IsLeftCycle rules) fault
