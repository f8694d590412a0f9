-- Describes code: the rules that a start rule reaches by the names in expressions.
use Rattle.std.specs.Prelude.{◌≡◌, ◌⊎◌, ℕ, ◌+◌, ◌<◌, Bool, true, false, List, [], ◌∷◌, All, Contains, Some, bytes_eq}
use Rattle.std.specs.Prelude.{length, position, slice_get, slice_index_or}
use Rattle.peg_semantics.specs.Form.{Reference, names_used}
use Rattle.peg_semantics.specs.Rules.{Rule, names}
use Rattle.peg_lint.specs.Reaches.{Reaches, RefersTo}
use Rattle.peg_lint.specs.declared.reach.Reach.{Reach}

-- the rule with this number is marked
abbrev pub IsMarked : List Bool → ℕ → Type 0
IsMarked marks number = slice_index_or marks number false ≡ true

-- the rule of this name is marked, if there is one
abbrev pub IsNameMarked : List Rule → List Bool → List ℕ → Type 0
IsNameMarked rules marks name =
    (number : ℕ) → position (bytes_eq name) (names rules) ≡ Some number → IsMarked marks number

-- the rules that these names refer to are marked
abbrev pub AreNamesMarked : List Rule → List Bool → List Reference → Type 0
AreNamesMarked rules marks references =
    All (λ (reference : Reference). IsNameMarked rules marks reference.name) references

-- the rules that a marked rule refers to are marked
abbrev pub AreClosed : List Rule → List Bool → Type 0
AreClosed rules marks = (number : ℕ) (rule : Rule) → slice_get rules number ≡ Some rule → IsMarked marks number
    → AreNamesMarked rules marks (names_used rule.body)

-- one of these names refers to the rule with this number
abbrev pub IsNamed : List Rule → List Reference → ℕ → Type 0
IsNamed rules references number =
    (reference : Reference) × Contains references reference × RefersTo rules reference.name number

-- the later marks are those that were there, and those of rules to which the names refer
abbrev pub MarksOnly : List Rule → List Reference → (earlier later : List Bool) → Type 0
MarksOnly rules references earlier later =
    (number : ℕ) → IsMarked later number → IsMarked earlier number ⊎ IsNamed rules references number

-- the marked rules are reached
abbrev pub AreReached : List Rule → (start : ℕ) → List Bool → Type 0
AreReached rules start marks = (number : ℕ) → IsMarked marks number → Reaches rules start number

-- the number of rules that aren't marked
abbrev pub unmarked : List Bool → ℕ
unmarked [] = 0
unmarked (true ∷ marks) = unmarked marks
unmarked (false ∷ marks) = 1 + unmarked marks

-- the pending rules are rules
abbrev pub ArePendingRules : Reach → Type 0
ArePendingRules reach = All (λ number. number < length reach.marks.items) reach.pending.items

-- the pending rules are marked
abbrev pub AreMarked : Reach → Type 0
AreMarked reach = (number : ℕ) → Contains reach.pending.items number → IsMarked reach.marks.items number

-- More rules are marked, and those that were marked since are pending. Each of them is pending once.
pub record ReachesMore (old new : Reach) : Type 0 where
  pub count : length new.marks.items ≡ length old.marks.items
  pub marked : (number : ℕ) → IsMarked old.marks.items number → IsMarked new.marks.items number
  pub pending : (number : ℕ) → Contains old.pending.items number → Contains new.pending.items number
  pub added : (number : ℕ) → IsMarked new.marks.items number
      → IsMarked old.marks.items number ⊎ Contains new.pending.items number
  pub within : ArePendingRules old → ArePendingRules new
  pub waiting : AreMarked old → AreMarked new
  pub work : unmarked new.marks.items + length new.pending.items
      ≡ unmarked old.marks.items + length old.pending.items
