-- Why a grammar is not well-formed (Ford 2004, section 3.6). Either it has an empty loop, which can repeat on the empty
-- string forever, or a left cycle of rules that left-call each other.
use Rattle.std.specs.Prelude.{◌≡◌, ◌⊎◌, ℕ, Contains, List, [], ◌∷◌, ◌++◌, Some, option_map, slice_get}
use Rattle.peg_bytes.specs.Extent.{Extent}
use Rattle.peg_semantics.specs.AbstractOutcomes.{GivesNothing}
use Rattle.peg_semantics.specs.Form.{Form, Forms, Literal, Class, Any, Name, Seq, Choice, Optional, Star, Plus, Counted}
use Rattle.peg_semantics.specs.Form.{And, Not, End, Then}
use Rattle.peg_semantics.specs.Rules.{Rule, Meaning, meaning_of}
use Rattle.peg_semantics.specs.WellFormed.{FormPredicate, subexpressions}

-- Whether an expression left-calls a name: it may evaluate the name before it consumes anything. In a sequence the rest
-- counts only if the first item gives 0; in every other expression all parts count. `Nullable` says which expressions give
-- 0.
abbrev mutual
  pub CanCallFirst : (Nullable : FormPredicate) → Form → (name : List ℕ) → Type 0
  CanCallFirst Nullable (Literal bytes span) name = ⊥
  CanCallFirst Nullable (Class set span) name = ⊥
  CanCallFirst Nullable (Any span) name = ⊥
  CanCallFirst Nullable (Name other span) name = other ≡ name
  CanCallFirst Nullable (Seq items span) name = ItemsCanCallFirst Nullable items name
  CanCallFirst Nullable (Choice first rest span) name =
      CanCallFirst Nullable first name ⊎ SomeCanCallFirst Nullable rest name
  CanCallFirst Nullable (Optional part span) name = CanCallFirst Nullable part name
  CanCallFirst Nullable (Star part span) name = CanCallFirst Nullable part name
  CanCallFirst Nullable (Plus part span) name = CanCallFirst Nullable part name
  CanCallFirst Nullable (Counted part min max span) name = CanCallFirst Nullable part name
  CanCallFirst Nullable (And part span) name = CanCallFirst Nullable part name
  CanCallFirst Nullable (Not part span) name = CanCallFirst Nullable part name

  -- the items of a sequence
  pub ItemsCanCallFirst : (Nullable : FormPredicate) → Forms → (name : List ℕ) → Type 0
  ItemsCanCallFirst Nullable End name = ⊥
  ItemsCanCallFirst Nullable (Then e rest) name =
      CanCallFirst Nullable e name ⊎ (Nullable e × ItemsCanCallFirst Nullable rest name)

  -- any of the alternatives of a choice
  pub SomeCanCallFirst : (Nullable : FormPredicate) → Forms → (name : List ℕ) → Type 0
  SomeCanCallFirst Nullable End name = ⊥
  SomeCanCallFirst Nullable (Then e rest) name = CanCallFirst Nullable e name ⊎ SomeCanCallFirst Nullable rest name

-- Rule number `first` left-calls rule number `second`: its expression reaches a name that refers to that rule.
pub record LeftCallsBy (rules : List Rule) (Nullable : FormPredicate) (first second : ℕ) : Type 0 where
  pub rule : Rule
  pub name : List ℕ
  pub numbered : slice_get rules first ≡ Some rule
  pub reached : CanCallFirst Nullable rule.body name
  pub means : option_map (λ (m : Meaning). m.rule) (meaning_of rules name) ≡ Some second

-- left calls, with Ford's abstract outcome 0 as `Nullable`
abbrev pub LeftCalls : List Rule → (first second : ℕ) → Type 0
LeftCalls rules = LeftCallsBy rules (GivesNothing rules)

-- each number is met by the number before it, the first of them by `before`
abbrev pub IsChain : (Calls : ℕ → ℕ → Type 0) → (before : ℕ) → List ℕ → Type 0
IsChain Calls before [] = Unit {0}
IsChain Calls before (next ∷ more) = Calls before next × IsChain Calls next more

-- a nonempty list of numbers in which each meets the next, and the last meets the first
abbrev pub IsCycle : (Calls : ℕ → ℕ → Type 0) → List ℕ → Type 0
IsCycle Calls [] = ⊥
IsCycle Calls (first ∷ more) = IsChain Calls first (more ++ first ∷ [])

-- a left cycle: a nonempty list of rules in which each left-calls the next, and the last left-calls the first
abbrev pub IsLeftCycle : List Rule → List ℕ → Type 0
IsLeftCycle rules = IsCycle (LeftCalls rules)

-- one of the expressions is a star or a plus over `part`, with this span
abbrev pub HasLoopOver : List Form → (part : Form) → Extent → Type 0
HasLoopOver some part span = Contains some (Star part span) ⊎ Contains some (Plus part span)

-- an empty loop: a star or plus with this span, in the expression of rule `number`, whose part gives 0
pub record IsEmptyLoop (rules : List Rule) (number : ℕ) (span : Extent) : Type 0 where
  pub rule : Rule
  pub part : Form
  pub numbered : slice_get rules number ≡ Some rule
  pub written : HasLoopOver (subexpressions rule.body) part span
  pub idle : GivesNothing rules part
