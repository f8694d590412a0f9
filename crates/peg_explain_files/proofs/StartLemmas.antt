-- A start by name, and the number at which the name is found.
use Rattle.std.proofs.Common.{◌≡◌, ℕ, suc, ◌+◌, ◌≤◌, Bool, true, false, not, ◌||◌, List, [], ◌∷◌, length, position}
use Rattle.std.proofs.Common.{Option, None, Some, bytes_eq, is_some, if◌then◌else◌, cond, refl, sym, ap, ◌∙◌, arith}
use Rattle.std.proofs.lemmas.Grind.{common_steps}
use Rattle.std.proofs.lemmas.List.Folds.{list_any_at}
use Rattle.std.proofs.lemmas.List.Quantifiers.{position-Some}
use Rattle.std.specs.List.{list_any, position_or_len}
use Rattle.peg_semantics.specs.Rules.{Rule, names}
use Rattle.peg_semantics.specs.Starts.{start_name}

-- if the search reaches the end, no item passes
none-passes : {X : Type 0} (p : X → Bool) (xs : List X) → length xs ≤ position_or_len p xs → list_any p xs ≡ false
none-passes p [] over = refl
none-passes p (x ∷ xs) over = by (p x) over (none-passes p xs)
  where
    by : (b : Bool) → suc (length xs) ≤ cond (not b) (1 + position_or_len p xs) 0
        → (length xs ≤ position_or_len p xs → list_any p xs ≡ false) → (b || list_any p xs) ≡ false
    by true over later = absurd (omega arith)
    by false over later = later (omega arith)

none-found : {X : Type 0} (p : X → Bool) (xs : List X) → position p xs ≡ None → list_any p xs ≡ false
none-found p xs none = none-passes p xs (grind (arith, common_steps))

-- a name that isn't found is no start
start-missing : (rules : List Rule) (start : Option (List ℕ)) (name : List ℕ) → start ≡ Some name
    → position (bytes_eq name) (names rules) ≡ None → start_name rules start ≡ None
start-missing rules start name named none =
    ap (start_name rules) named
    ∙ ap (λ (b : Bool). if b then Some name else None) (none-found (bytes_eq name) (names rules) none)

-- a name that is found is a start
start-found : (rules : List Rule) (start : Option (List ℕ)) (name : List ℕ) (k : ℕ) → start ≡ Some name
    → position (bytes_eq name) (names rules) ≡ Some k → start_name rules start ≡ Some name
start-found rules start name k named is =
    let found = position-Some (bytes_eq name) (names rules) k [] is in
    ap (start_name rules) named
    ∙ ap (λ (b : Bool). if b then Some name else None)
    (list_any_at (bytes_eq name) (names rules) k [] found.0 found.1)

-- whether a start by name has a rule
pub start-known : (rules : List Rule) (start : Option (List ℕ)) (name : List ℕ) (found : Option ℕ) → start ≡ Some name
    → found ≡ position (bytes_eq name) (names rules) → is_some found ≡ is_some (start_name rules start)
start-known rules start name None named is = ap is_some (sym (start-missing rules start name named (sym is)))
start-known rules start name (Some k) named is = ap is_some (sym (start-found rules start name k named (sym is)))

-- a start that has no rule, and one that has
pub start-none : (found : Option (List ℕ)) → is_some found ≡ false → found ≡ None
start-none None is = refl
start-none (Some name) is = cc

pub start-some : (found : Option (List ℕ)) → is_some found ≡ true → (name : List ℕ) × (found ≡ Some name)
start-some None is = cc
start-some (Some name) is = (name, refl)
