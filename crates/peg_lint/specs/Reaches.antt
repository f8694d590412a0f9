-- The rules that a start rule reaches by the names in expressions.
use Rattle.std.specs.Prelude.{◌≡◌, ℕ, List, Contains, Some, bytes_eq, position, slice_get}
use Rattle.peg_semantics.specs.Form.{Reference, names_used}
use Rattle.peg_semantics.specs.Rules.{Rule, name_of, names}

-- a name refers to the rule with this number
abbrev pub RefersTo : List Rule → (name : List ℕ) → (number : ℕ) → Type 0
RefersTo rules name number = position (bytes_eq name) (names rules) ≡ Some number

-- a name in the expression of one rule refers to another, wherever it is written
pub record Names (rules : List Rule) (number other : ℕ) : Type 0 where
  pub rule : Rule
  pub at : slice_get rules number ≡ Some rule
  pub reference : Reference
  pub used : Contains (names_used rule.body) reference
  pub refers : RefersTo rules reference.name other

-- a path of names leads from the start rule to a rule
pub data Reaches (rules : List Rule) (start : ℕ) : ℕ → Type 0 where
  itself : {number : ℕ} → RefersTo rules (name_of rules start) number → Reaches rules start number
  by_name : {number other : ℕ} → Reaches rules start number → Names rules number other → Reaches rules start other
