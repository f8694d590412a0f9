-- Which lists of rules are grammars (Ford 2004, section 3.1), and the faults of the other lists.
use Rattle.std.specs.Prelude.{◌≢◌, ℕ, Bool, List, [], ◌∷◌, ◌++◌, All, AllPairs, Contains, Option, None, Some, find, not}
use Rattle.std.specs.Prelude.{if◌then◌else◌, bytes_eq, ◌≡◌, ◌&&◌, nat_le, true}
use Rattle.std.specs.List.{list_any}
use Rattle.peg_semantics.specs.Form.{Reference, Count}
use Rattle.peg_semantics.specs.Rules.{Rule, names, references, counts, defined_at, is_defined}

-- the greatest number allowed in a count
abbrev pub greatest_count : ℕ
greatest_count = 255

-- Whether a count is in range: min is at most max, and max is from 1 to 255. With a max of 0 the part would never be
-- matched.
abbrev pub is_in_range : Count → Bool
is_in_range count = nat_le count.min count.max && nat_le 1 count.max && nat_le count.max greatest_count

-- every count in the rules is in range
abbrev pub CountsAreInRange : List Rule → Type 0
CountsAreInRange rules = All (λ count. is_in_range count ≡ true) (counts rules)

-- a grammar: at least one rule, distinct names, a rule for each name referred to, and all counts in range
pub record IsGrammar (rules : List Rule) : Type 0 where
  pub some : rules ≢ []
  pub distinct : AllPairs (λ (a b : List ℕ). a ≢ b) (names rules)
  pub defined : All (λ (reference : Reference). Contains (names rules) reference.name) (references rules)
  pub counted : CountsAreInRange rules

-- the maximum weight of a grammar
abbrev pub max_parts : ℕ
max_parts = 4194304

-- the first definition whose name is in the list or on an earlier definition
abbrev pub duplicate_after : List (List ℕ) → List Rule → Option Reference
duplicate_after earlier [] = None
duplicate_after earlier (rule ∷ rules) =
    if list_any (bytes_eq rule.name) earlier
    then Some (defined_at rule)
    else duplicate_after (earlier ++ rule.name ∷ []) rules

-- the first definition with the name of an earlier definition
abbrev pub first_duplicate : List Rule → Option Reference
first_duplicate rules = duplicate_after [] rules

-- the first reference, in written order, to a name that no rule defines
abbrev pub first_undefined : List Rule → Option Reference
first_undefined rules = find (λ (reference : Reference). not (is_defined rules reference.name)) (references rules)

-- the first count, in written order, that is out of range
abbrev pub first_bad_count : List Rule → Option Count
first_bad_count rules = find (λ count. not (is_in_range count)) (counts rules)

-- whether the name of a reference is not in the list of known names
abbrev pub is_unknown : List (List ℕ) → Reference → Bool
is_unknown known reference = not (list_any (bytes_eq reference.name) known)
