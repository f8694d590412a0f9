-- A defined name refers to one of the rules; the names in a rule are among those in all rules.
use Rattle.std.proofs.Common.{◌≡◌, ℕ, zero, suc, ◌+◌, Bool, true, false, if◌then◌else◌, List, [], ◌∷◌, ◌++◌, All}
use Rattle.std.proofs.Common.{Contains, flat_map, Some, slice_get, bytes_eq, refl, sym, ap, ◌∙◌, subst, ◌||◌, zero-add}
use Rattle.std.proofs.Common.{arith}
use Rattle.std.specs.List.{list_any}
use Rattle.std.proofs.lemmas.Cmp.{nat_list_eq_equiv}
use Rattle.std.proofs.lemmas.List.Elements.{All-nil, All-cons, All-head, All-tail}
use Rattle.std.proofs.lemmas.Map.Views.{list_any-from_Contains}
use Rattle.peg_semantics.specs.Form.{terminals}
use Rattle.peg_semantics.specs.Rules.{Rule, Meaning, names, meaning_from, meaning_of}

-- a property of all elements of two lists holds for all elements of each
pub All-front : {X : Type 0} (P : X → Type 0) (xs ys : List X) → All P (xs ++ ys) → All P xs
All-front P [] ys all = All-nil P
All-front P (x ∷ xs) ys all =
    All-cons P x xs (All-head P x (xs ++ ys) all) (All-front P xs ys (All-tail P x (xs ++ ys) all))

pub All-back : {X : Type 0} (P : X → Type 0) (xs ys : List X) → All P (xs ++ ys) → All P ys
All-back P [] ys all = all
All-back P (x ∷ xs) ys all = All-back P xs ys (All-tail P x (xs ++ ys) all)

-- a property of all results of all rules holds for the results of one rule
pub All-given : {X Y : Type 0} (P : Y → Type 0) (f : X → List Y) (xs : List X) (i : ℕ) (x : X) → slice_get xs i ≡ Some x
    → All P (flat_map f xs) → All P (f x)
All-given P f [] i x at all = cc
All-given P f (y ∷ ys) zero x at all =
    let same : y ≡ x = cc in subst (λ z. All P (f z)) same (All-front P (f y) (flat_map f ys) all)
All-given P f (y ∷ ys) (suc i) x at all = All-given P f ys i x at (All-back P (f y) (flat_map f ys) all)

-- a property of all elements holds for the element at an index
pub All-numbered : {X : Type 0} (P : X → Type 0) (xs : List X) (i : ℕ) (x : X) → slice_get xs i ≡ Some x → All P xs
    → P x
All-numbered P [] i x at all = cc
All-numbered P (y ∷ ys) zero x at all = let same : y ≡ x = cc in subst P same (All-head P y ys all)
All-numbered P (y ∷ ys) (suc i) x at all = All-numbered P ys i x at (All-tail P y ys all)

-- a property of the element at each index holds for all elements
pub All-from_numbered : {X : Type 0} (P : X → Type 0) (xs : List X) → ((i : ℕ) (x : X) → slice_get xs i ≡ Some x → P x)
    → All P xs
All-from_numbered P [] each = All-nil P
All-from_numbered P (x ∷ xs) each = All-cons P x xs (each zero x refl) (All-from_numbered P xs (λ i. each (suc i)))

-- a meaning is that of the rule with its number, counted from the first
abbrev IsAt : (rule : ℕ) → List Rule → Meaning → Type 0
IsAt rule rules m = (i : ℕ) × (m.rule ≡ i + rule) × (r : Rule) × (slice_get rules i ≡ Some r) × (r.body ≡ m.body)

meaning_from-is_at : (rule terminal : ℕ) (rules : List Rule) (name : List ℕ) (m : Meaning)
    → meaning_from rule terminal rules name ≡ Some m → IsAt rule rules m
meaning_from-is_at rule terminal [] name m is = cc
meaning_from-is_at rule terminal (r ∷ rs) name m is =
    by (bytes_eq name r.name) (meaning_from-is_at (rule + 1) (terminal + terminals r.body) rs name m) is
  where
    first : Meaning
    first = record { rule = rule; terminal = terminal; body = r.body }

    by : (b : Bool)
        → (meaning_from (rule + 1) (terminal + terminals r.body) rs name ≡ Some m → IsAt (rule + 1) rs m)
        → (if b then Some first else meaning_from (rule + 1) (terminal + terminals r.body) rs name) ≡ Some m
        → IsAt rule (r ∷ rs) m
    by true later found =
        let same : first ≡ m = cc in
        (0, sym (ap (λ (m : Meaning). m.rule) same) ∙ sym (zero-add rule), r, refl, ap (λ (m : Meaning). m.body) same)
    by false later found =
        let following = later found in (suc following.0, omega (arith, following.1), following.2, following.3, following.4)

-- a meaning is that of the rule with its number
pub meaning_of-is_at : (rules : List Rule) (name : List ℕ) (m : Meaning) → meaning_of rules name ≡ Some m
    → (r : Rule) × (slice_get rules m.rule ≡ Some r) × (r.body ≡ m.body)
meaning_of-is_at rules name m is =
    let at = meaning_from-is_at 0 0 rules name m is in
    let number : m.rule ≡ at.0 = omega (arith, at.1) in
    (at.2, ap (slice_get rules) number ∙ at.3, at.4)

meaning_from-found : (rule terminal : ℕ) (rules : List Rule) (name : List ℕ)
    → list_any (bytes_eq name) (names rules) ≡ true
    → (m : Meaning) × (meaning_from rule terminal rules name ≡ Some m)
meaning_from-found rule terminal [] name there = cc
meaning_from-found rule terminal (r ∷ rs) name there =
    by (bytes_eq name r.name) refl (meaning_from-found (rule + 1) (terminal + terminals r.body) rs name)
  where
    first : Meaning
    first = record { rule = rule; terminal = terminal; body = r.body }

    by : (b : Bool) → bytes_eq name r.name ≡ b
        → (list_any (bytes_eq name) (names rs) ≡ true
        → (m : Meaning) × (meaning_from (rule + 1) (terminal + terminals r.body) rs name ≡ Some m))
        → (m : Meaning)
        × ((if b then Some first else meaning_from (rule + 1) (terminal + terminals r.body) rs name) ≡ Some m)
    by true is later = (first, refl)
    by false is later = later (sym (ap (λ b. b || list_any (bytes_eq name) (names rs)) is) ∙ there)

-- a defined name refers to a rule
pub meaning_of-known : (rules : List Rule) (name : List ℕ) → Contains (names rules) name
    → (m : Meaning) × (meaning_of rules name ≡ Some m)
meaning_of-known rules name known =
    meaning_from-found 0 0 rules name (list_any-from_Contains nat_list_eq_equiv name (names rules) known)
