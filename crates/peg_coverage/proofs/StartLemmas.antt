-- Starts of a grammar and of its marked grammar.
use Rattle.std.proofs.Common.{◌≡◌, ℕ, suc, ◌<◌, Bool, true, false, ◌||◌, List, [], ◌∷◌, None, Option, Some, bytes_eq}
use Rattle.std.proofs.Common.{get_or, is_some, length, position, if◌then◌else◌, refl, sym, ◌∙◌, arith}
use Rattle.std.proofs.lemmas.List.{length-map}
use Rattle.std.proofs.lemmas.Slice.Eq.{bytes_eq-Decides}
use Rattle.std.specs.List.{list_any}
use Rattle.peg_diagnostics.proofs.MarkedGrammar.{names-marked}
use Rattle.peg_diagnostics.proofs.OwnStarts as own
use Rattle.peg_diagnostics.specs.Marked.{marker_extents, marked_rules, marker_rules}
use Rattle.peg_parser.proofs.RuleNames.{name-numbered}
use Rattle.peg_semantics.specs.Rules.{Rule, is_defined, name_of, names}
use Rattle.peg_semantics.specs.Starts.{start_name}

-- the first rule keeps its name
first-name : (rules : List Rule) → name_of (marked_rules rules) 0 ≡ name_of rules 0
first-name [] = refl
first-name (rule ∷ more) = refl

-- whether a start by name is a rule of the grammar
pub start-own : (rules : List Rule) (named : Option (List ℕ)) (name : List ℕ) (found : Option ℕ) → named ≡ Some name
    → found ≡ position (bytes_eq name) (names (marked_rules rules))
    → own.is_below (length rules) found ≡ is_some (start_name rules named)
start-own rules =
    own.start-below rules (marked_rules rules) (names (marker_rules 0 (marker_extents rules)))
    (names-marked rules)

-- a start of the grammar is a start of the marked grammar
pub start-marked : (rules : List Rule) (named : Option (List ℕ)) (start : List ℕ) → start_name rules named ≡ Some start
    → start_name (marked_rules rules) named ≡ Some start
start-marked rules =
    own.same-start rules (marked_rules rules) (names (marker_rules 0 (marker_extents rules)))
    (names-marked rules) (first-name rules)

-- an item that passes has an index
any-at : {X : Type 0} (p : X → Bool) (d : X) (xs : List X) → list_any p xs ≡ true
    → (k : ℕ) × (k < length xs) × (p (get_or xs k d) ≡ true)
any-at p d [] some = cc
any-at p d (x ∷ xs) some = by (p x) refl (any-at p d xs) some
  where
    by : (b : Bool) → p x ≡ b → (list_any p xs ≡ true → (k : ℕ) × (k < length xs) × (p (get_or xs k d) ≡ true))
        → (b || list_any p xs) ≡ true → (k : ℕ) × (k < length (x ∷ xs)) × (p (get_or (x ∷ xs) k d) ≡ true)
    by true is later some = (0, omega arith, is)
    by false is later some = let at = later some in (suc at.0, omega (arith, at.1), at.2)

-- a start of the grammar is a rule
pub start-numbered : (rules : List Rule) (named : Option (List ℕ)) (start : List ℕ) → 0 < length rules
    → start_name rules named ≡ Some start → (k : ℕ) × (k < length rules) × (name_of rules k ≡ start)
start-numbered rules None start some is = let same : name_of rules 0 ≡ start = cc in (0, some, same)
start-numbered rules (Some name) start some is = by (is_defined rules name) refl is
  where
    by : (b : Bool) → is_defined rules name ≡ b → (if b then Some name else None) ≡ Some start
        → (k : ℕ) × (k < length rules) × (name_of rules k ≡ start)
    by false missing is = let bad : None ≡ Some start = is in cc
    by true defined is =
        let at = any-at (bytes_eq name) [] (names rules) defined in
        let within : at.0 < length rules = omega (arith, at.1, length-map rules (λ rule. rule.name)) in
        let same : name ≡ get_or (names rules) at.0 [] =
        (bytes_eq-Decides name (get_or (names rules) at.0 [])).0 at.2 in
        let named : name ≡ start = cc in
        (at.0, within, sym (name-numbered rules at.0 within) ∙ sym same ∙ named)

-- whether there is a start
pub start-none : (start : Option (List ℕ)) → is_some start ≡ false → start ≡ None
start-none None is = refl
start-none (Some name) is = cc

pub start-some : (start : Option (List ℕ)) → is_some start ≡ true → (name : List ℕ) × (start ≡ Some name)
start-some None is = cc
start-some (Some name) is = (name, refl)
