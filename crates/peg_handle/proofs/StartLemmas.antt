-- Starts whose bytes are no rule's name.
use Rattle.std.proofs.Common.{◌≡◌, ◌≢◌, ℕ, suc, ◌<◌, Bool, true, false, ◌==◌, ◌||◌, List, [], ◌∷◌, None, Option, Some, length}
use Rattle.std.proofs.Common.{bytes_eq, get_or, if◌then◌else◌, position, refl, subst, sym, ap, ◌∙◌, arith}
use Rattle.std.proofs.lemmas.Bool.{eqb-true, eq-eqb}
use Rattle.std.proofs.lemmas.List.{length-map}
use Rattle.std.proofs.lemmas.List.Folds.{list_any_at}
use Rattle.std.proofs.lemmas.List.Quantifiers.{position-Some}
use Rattle.std.proofs.lemmas.Slice.Eq.{bytes_eq-Decides}
use Rattle.std.specs.List.{list_any}
use Rattle.peg_semantics.specs.Rules.{Rule, is_defined, name_of, names}
use Rattle.peg_semantics.specs.Starts.{start_name}
use Rattle.peg_handle.specs.Starts.{start_of_bytes}
use Rattle.peg_parser.proofs.RuleNames.{name-numbered}

bytes_eq-differ : (first second : List ℕ) → second ≢ first → bytes_eq first second ≡ false
bytes_eq-differ first second differ = by (bytes_eq first second) refl
  where
    by : (equal : Bool) → bytes_eq first second ≡ equal → bytes_eq first second ≡ false
    by true is = absurd (differ (sym ((bytes_eq-Decides first second).0 is)))
    by false is = is

is_defined-no_rule : (rules : List Rule) (name : List ℕ)
    → ((rule : ℕ) → rule < length rules → name_of rules rule ≢ name) → is_defined rules name ≡ false
is_defined-no_rule [] name differ = refl
is_defined-no_rule (first ∷ rules) name differ =
    ap (λ (b : Bool). b || list_any (bytes_eq name) (names rules))
    (bytes_eq-differ name first.name (differ 0 (omega arith)))
    ∙ is_defined-no_rule rules name (λ rule within. differ (suc rule) (omega arith))

-- if no rule has the name, there is no start
pub start_name_no_rule : (rules : List Rule) (start : List ℕ) → (length start == 0) ≡ false
    → ((rule : ℕ) → rule < length rules → name_of rules rule ≢ start)
    → start_name rules (start_of_bytes start) ≡ None
start_name_no_rule rules [] some differ = cc
start_name_no_rule rules (byte ∷ bytes) some differ =
    ap (λ (b : Bool). if b then Some (byte ∷ bytes) else None) (is_defined-no_rule rules (byte ∷ bytes) differ)

-- the name of a rule is defined
pub is_defined-rule : (rules : List Rule) (name : List ℕ) (rule : ℕ) → rule < length rules
    → name_of rules rule ≡ name → is_defined rules name ≡ true
is_defined-rule rules name rule within named =
    list_any_at (bytes_eq name) (names rules) rule []
    (subst (λ (n : ℕ). rule < n) (sym (length-map rules (λ (r : Rule). r.name))) within)
    ((bytes_eq-Decides name (get_or (names rules) rule [])).1 (sym named ∙ sym (name-numbered rules rule within)))

-- no bytes name the first rule
pub start-first : (rules : List Rule) (start : List ℕ) → (length start == 0) ≡ true
    → (from : List ℕ) × (start_name rules (start_of_bytes start) ≡ Some from)
start-first rules [] empty = (name_of rules 0, refl)
start-first rules (byte ∷ bytes) empty = absurd (omega (arith, eqb-true (length (byte ∷ bytes)) 0 empty))

-- the name of a rule is a start
pub start-defined : (rules : List Rule) (start : List ℕ) → (length start == 0) ≡ false → is_defined rules start ≡ true
    → (from : List ℕ) × (start_name rules (start_of_bytes start) ≡ Some from)
start-defined rules [] some defined =
    let bad : true ≡ false = sym (eq-eqb (length {A = ℕ} []) 0 refl) ∙ some in absurd cc
start-defined rules (byte ∷ bytes) some defined =
    (byte ∷ bytes, ap (λ (b : Bool). if b then Some (byte ∷ bytes) else None) defined)

-- a name that no rule has has no number
pub unnumbered : (rules : List Rule) (name : List ℕ)
    → ((rule : ℕ) → rule < length rules → name_of rules rule ≢ name)
    → position (bytes_eq name) (names rules) ≡ None
unnumbered rules name differ = by (position (bytes_eq name) (names rules)) refl
  where
    by : (found : Option ℕ) → position (bytes_eq name) (names rules) ≡ found
        → position (bytes_eq name) (names rules) ≡ None
    by None is = is
    by (Some number) is =
        let there = position-Some (bytes_eq name) (names rules) number [] is in
        let within : number < length rules = omega (arith, there.0, length-map rules (λ (rule : Rule). rule.name)) in
        let same = (bytes_eq-Decides name (get_or (names rules) number [])).0 there.1 in
        absurd (differ number within (sym (same ∙ name-numbered rules number within)))
