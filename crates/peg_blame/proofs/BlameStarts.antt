-- The start of a parse by the diagnostic grammar and by the grammar as written.
use Rattle.std.proofs.Common.{◌≡◌, ℕ, suc, ◌<◌, Bool, true, false, ◌||◌, List, [], ◌∷◌}
use Rattle.std.proofs.Common.{length, map, get_or, position, Option, None, Some, is_some, bytes_eq, if◌then◌else◌}
use Rattle.std.proofs.Common.{refl, sym, ◌∙◌, arith}
use Rattle.std.proofs.lemmas.List.{length-map}
use Rattle.std.proofs.lemmas.Slice.Eq.{bytes_eq-Decides}
use Rattle.std.specs.List.{list_any}
use Rattle.peg_semantics.specs.Rules.{Rule, names, name_of, is_defined}
use Rattle.peg_semantics.specs.Starts.{start_name}
use Rattle.peg_diagnostics.specs.Diagnostic.{diagnostic_rules, quiet_rule}
use Rattle.peg_diagnostics.proofs.Lookups.{names-diagnostic}
use Rattle.peg_diagnostics.proofs.OwnStarts as own
use Rattle.peg_parser.proofs.RuleNames.{name-numbered}

-- an item that passes has an index
pub any-at : {X : Type 0} (p : X → Bool) (d : X) (xs : List X) → list_any p xs ≡ true
    → (k : ℕ) × (k < length xs) × (p (get_or xs k d) ≡ true)
any-at p d [] some = cc
any-at p d (x ∷ xs) some = by (p x) refl (any-at p d xs) some
  where
    by : (b : Bool) → p x ≡ b → (list_any p xs ≡ true → (k : ℕ) × (k < length xs) × (p (get_or xs k d) ≡ true))
        → (b || list_any p xs) ≡ true → (k : ℕ) × (k < length (x ∷ xs)) × (p (get_or (x ∷ xs) k d) ≡ true)
    by true is later some = (0, omega arith, is)
    by false is later some = let at = later some in (suc at.0, omega (arith, at.1), at.2)

-- whether a start by name is a rule of the grammar as written
pub start-below : (rules : List Rule) (named : Option (List ℕ)) (name : List ℕ) (found : Option ℕ)
    → named ≡ Some name → found ≡ position (bytes_eq name) (names (diagnostic_rules rules))
    → own.is_below (length rules) found ≡ is_some (start_name rules named)
start-below rules =
    own.start-below rules (diagnostic_rules rules) (names (map quiet_rule rules)) (names-diagnostic rules)

-- ---- the name of a start

-- the first rule keeps its name
first-name : (rules : List Rule) → 0 < length rules → name_of (diagnostic_rules rules) 0 ≡ name_of rules 0
first-name [] some = absurd (omega arith)
first-name (rule ∷ rules) some = refl

-- a start of the grammar as written is a start of the diagnostic grammar
pub same-start : (rules : List Rule) (named : Option (List ℕ)) (start : List ℕ) → 0 < length rules
    → start_name rules named ≡ Some start → start_name (diagnostic_rules rules) named ≡ Some start
same-start rules named start some is =
    own.same-start rules (diagnostic_rules rules) (names (map quiet_rule rules)) (names-diagnostic rules)
    (first-name rules some) named start is

-- a start of the grammar is a rule
pub start-numbered : (rules : List Rule) (named : Option (List ℕ)) (start : List ℕ) → 0 < length rules
    → start_name rules named ≡ Some start → (k : ℕ) × (k < length rules) × (name_of rules k ≡ start)
start-numbered rules None start some is = let same : name_of rules 0 ≡ start = cc in (0, some, same)
start-numbered rules (Some name) start some is = by (is_defined rules name) refl is
  where
    by : (b : Bool) → is_defined rules name ≡ b → (if b then Some name else None) ≡ Some start
        → (k : ℕ) × (k < length rules) × (name_of rules k ≡ start)
    by false missing is = let bad : None ≡ Some start = is in cc
    by true defined is =
        let at = any-at (bytes_eq name) [] (names rules) defined in
        let within : at.0 < length rules = omega (arith, at.1, length-map rules (λ rule. rule.name)) in
        let same : name ≡ get_or (names rules) at.0 [] =
        (bytes_eq-Decides name (get_or (names rules) at.0 [])).0 at.2 in
        let named : name ≡ start = cc in
        (at.0, within, sym (name-numbered rules at.0 within) ∙ sym same ∙ named)
