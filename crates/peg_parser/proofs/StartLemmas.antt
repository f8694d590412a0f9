-- The start that the options of a parse name.
use Rattle.std.proofs.Common.{◌≡◌, ◌↔◌, ℕ, suc, ◌+◌, ◌≤◌, Bool, true, false, not, ◌||◌, List, [], ◌∷◌, length, get_or, position}
use Rattle.std.proofs.Common.{Option, None, Some, IfSome, bytes_eq, if◌then◌else◌, cond, refl, sym, ap, ◌∙◌, arith}
use Rattle.std.proofs.lemmas.Grind.{common_steps}
use Rattle.std.proofs.lemmas.List.{length-map}
use Rattle.std.proofs.lemmas.List.Folds.{list_any_at}
use Rattle.std.proofs.lemmas.List.Quantifiers.{position-Some}
use Rattle.std.proofs.lemmas.Slice.Eq.{bytes_eq-Decides}
use Rattle.std.specs.List.{list_any, position_or_len}
use Rattle.peg_semantics.specs.Rules.{Rule, names, name_of}
use Rattle.peg_semantics.specs.Starts.{start_name}
use Rattle.peg_parser.proofs.RuleNames.{name-numbered}

-- if the search reaches the end, no item passes
none-passes : {X : Type 0} (p : X → Bool) (xs : List X) → length xs ≤ position_or_len p xs → list_any p xs ≡ false
none-passes p [] over = refl
none-passes p (x ∷ xs) over = by (p x) over (none-passes p xs)
  where
    by : (b : Bool) → suc (length xs) ≤ cond (not b) (1 + position_or_len p xs) 0
        → (length xs ≤ position_or_len p xs → list_any p xs ≡ false) → (b || list_any p xs) ≡ false
    by true over later = absurd (omega arith)
    by false over later = later (omega arith)

none-found : {X : Type 0} (p : X → Bool) (xs : List X) → position p xs ≡ None → list_any p xs ≡ false
none-found p xs none = none-passes p xs (grind (arith, common_steps))

some-found : {X : Type 0} (p : X → Bool) (xs : List X) (at : ℕ) (d : X) → position p xs ≡ Some at
    → list_any p xs ≡ true
some-found p xs at d is = let found = position-Some p xs at d is in list_any_at p xs at d found.0 found.1

start-none : (rules : List Rule) (name : List ℕ) → position (bytes_eq name) (names rules) ≡ None
    → start_name rules (Some name) ≡ None
start-none rules name none =
    ap (λ (b : Bool). if b then Some name else None) (none-found (bytes_eq name) (names rules) none)

start-some : (rules : List Rule) (name : List ℕ) (k : ℕ) → position (bytes_eq name) (names rules) ≡ Some k
    → start_name rules (Some name) ≡ Some (name_of rules k)
start-some rules name k is =
    let found = position-Some (bytes_eq name) (names rules) k [] is in
    let same : name ≡ get_or (names rules) k [] = (bytes_eq-Decides name (get_or (names rules) k [])).0 found.1 in
    ap (λ (b : Bool). if b then Some name else None) (some-found (bytes_eq name) (names rules) k [] is)
    ∙ ap Some (same ∙ name-numbered rules k (omega (arith, found.0, length-map rules (λ rule. rule.name))))

-- a start by name has the number at which its name is found, and none if it isn't found
pub start-numbered : (rules : List Rule) (start : Option (List ℕ)) (name : List ℕ) (found : Option ℕ)
    → start ≡ Some name → found ≡ position (bytes_eq name) (names rules)
    → IfSome found (λ k. start_name rules start ≡ Some (name_of rules k))
start-numbered rules start name None named is = tt
start-numbered rules start name (Some k) named is = ap (start_name rules) named ∙ start-some rules name k (sym is)

pub start-missing : (rules : List Rule) (start : Option (List ℕ)) (name : List ℕ) (found : Option ℕ)
    → start ≡ Some name → found ≡ position (bytes_eq name) (names rules)
    → (found ≡ None) ↔ (start_name rules start ≡ None)
start-missing rules start name None named is =
    (λ none. ap (start_name rules) named ∙ start-none rules name (sym is), λ none. refl)
start-missing rules start name (Some k) named is =
    let there = ap (start_name rules) named ∙ start-some rules name k (sym is) in
    (λ none. cc, λ none. let both : Some (name_of rules k) ≡ None = sym there ∙ none in cc)
