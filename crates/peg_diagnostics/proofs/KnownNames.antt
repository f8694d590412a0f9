-- The rules that defined names refer to, in rules and in their diagnostic grammar.
use Rattle.std.proofs.Common.{◌≡◌, inl, inr, ℕ, ◌+◌, Bool, true, false, if◌then◌else◌, List, [], ◌∷◌, ◌++◌, All}
use Rattle.std.proofs.Common.{Contains, Option, Some, IfSome, bytes_eq, refl, sym, ap, ◌∙◌, subst, arith}
use Rattle.std.proofs.lemmas.Bool.{false≢true}
use Rattle.std.proofs.lemmas.List.Elements.{All-nil, All-cons, All-head, All-tail, Contains-append_cases}
use Rattle.std.proofs.lemmas.List.Elements.{Contains-push_cases}
use Rattle.peg_semantics.specs.Form.{Form, Forms, Reference, terminals, names_used, names_used_by_all}
use Rattle.peg_semantics.specs.Rules.{Rule, Meaning, names, references, meaning_from, meaning_of}
use Rattle.peg_diagnostics.specs.Diagnostic.{quiet, quiet_name, loud, diagnostic_rules}
use Rattle.peg_diagnostics.specs.Items.{item_meaning_of}
use Rattle.peg_diagnostics.proofs.BlameResults.{item_meaning_from-means, SameRule}
use Rattle.peg_diagnostics.proofs.Lookups.{Distinct, bytes_eq-itself, loud_copies, quiet_copy}

-- a property of all elements of two lists holds for all elements of each
pub All-front : {X : Type 0} (P : X → Type 0) (xs ys : List X) → All P (xs ++ ys) → All P xs
All-front P [] ys all = All-nil P
All-front P (x ∷ xs) ys all =
    All-cons P x xs (All-head P x (xs ++ ys) all) (All-front P xs ys (All-tail P x (xs ++ ys) all))

pub All-back : {X : Type 0} (P : X → Type 0) (xs ys : List X) → All P (xs ++ ys) → All P ys
All-back P [] ys all = all
All-back P (x ∷ xs) ys all = All-back P xs ys (All-tail P x (xs ++ ys) all)

-- a reference to a known name
abbrev pub IsKnown : List (List ℕ) → Reference → Type 0
IsKnown known reference = Contains known reference.name

-- all names that an expression refers to are known
abbrev pub UsesKnown : List (List ℕ) → Form → Type 0
UsesKnown known e = All (IsKnown known) (names_used e)

abbrev pub AllUseKnown : List (List ℕ) → Forms → Type 0
AllUseKnown known items = All (IsKnown known) (names_used_by_all items)

-- what a known name means, with an expression that uses only known names
abbrev pub MeansKnown : List (List ℕ) → Option Meaning → Type 0
MeansKnown known found = (m : Meaning) × (found ≡ Some m) × UsesKnown known m.body

later_name : (name first : List ℕ) (rest : List (List ℕ)) → bytes_eq name first ≡ false → Contains (first ∷ rest) name
    → Contains rest name
later_name name first rest apart there =
    elim (Contains-append_cases (first ∷ []) rest name there) [
      | inl a ↦ elim (Contains-push_cases [] first name a) [
        | inl none ↦ absurd (omega (arith, none.1))
        | inr same ↦ absurd (false≢true
            (sym apart ∙ subst (λ n. bytes_eq name n ≡ true) (sym same) (bytes_eq-itself name)))
      ]
      | inr b ↦ b
    ]

means_known : (known : List (List ℕ)) (rule terminal : ℕ) (rules : List Rule) (name : List ℕ)
    → All (IsKnown known) (references rules) → Contains (names rules) name
    → MeansKnown known (meaning_from rule terminal rules name)
means_known known rule terminal [] name closed there = absurd (omega (arith, there.1))
means_known known rule terminal (r ∷ rs) name closed there =
    by (bytes_eq name r.name) refl
    (means_known known (rule + 1) (terminal + terminals r.body) rs name
    (All-back (IsKnown known) (names_used r.body) (references rs) closed))
  where
    first : Meaning
    first = record { rule = rule; terminal = terminal; body = r.body }

    others : Option Meaning
    others = meaning_from (rule + 1) (terminal + terminals r.body) rs name

    by : (b : Bool) → bytes_eq name r.name ≡ b → (Contains (names rs) name → MeansKnown known others)
        → MeansKnown known (if b then Some first else others)
    by true is later = (first, refl, All-front (IsKnown known) (names_used r.body) (references rs) closed)
    by false is later = later (later_name name r.name (names rs) is there)

-- the copy in the diagnostic grammar has the changed expression
abbrev pub MeansCopy : (Form → Form) → Option Meaning → Meaning → Type 0
MeansCopy change found m = (copy : Meaning) × (found ≡ Some copy) × (copy.body ≡ change m.body)

module _ (rules : List Rule) (closed : All (IsKnown (names rules)) (references rules)) where
  pub known_meaning : (name : List ℕ) → Contains (names rules) name
      → MeansKnown (names rules) (meaning_of rules name)
  known_meaning name there = means_known (names rules) 0 0 rules name closed there

pub loud_meaning : (rules : List Rule) (name : List ℕ) (m : Meaning) → meaning_of rules name ≡ Some m
    → MeansCopy loud (meaning_of (diagnostic_rules rules) name) m
loud_meaning rules name m is =
    let also = subst (λ found. IfSome found
    (λ n. (other : Meaning) × (item_meaning_of rules name ≡ Some other) × SameRule n other))
    is (item_meaning_from-means 0 0 0 rules name) in
    let copy = loud_copies rules name also.0 also.1 in
    (copy.copy, copy.found, copy.loudened ∙ ap loud (sym (also.2).1))

pub quiet_meaning : (rules : List Rule) → Distinct (names (diagnostic_rules rules)) → (name : List ℕ) (m : Meaning)
    → meaning_of rules name ≡ Some m → MeansCopy quiet (meaning_of (diagnostic_rules rules) (quiet_name name)) m
quiet_meaning rules distinct name m is =
    let found = quiet_copy rules distinct name m is in (found.0, found.1, found.2)
