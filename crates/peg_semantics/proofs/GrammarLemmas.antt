-- Rules are a grammar exactly if no search for a fault finds one.
use Rattle.std.proofs.Common.{◌≡◌, ◌≢◌, ℕ, ◌<◌, Bool, true, false, if◌then◌else◌, not, List, [], ◌∷◌, ◌++◌, length, get_or}
use Rattle.std.proofs.Common.{All, AllPairs, Contains, None, Some, find, bytes_eq, refl, sym, ap, ◌∙◌, subst, arith}
use Rattle.std.specs.List.{list_any}
use Rattle.std.proofs.lemmas.Bool.{true≢false, false_from_ne_true}
use Rattle.std.proofs.lemmas.Cmp.{nat_list_eq_equiv}
use Rattle.std.proofs.lemmas.List.{append-nil, append_assoc, get_or_append_left, get_or_at, length-append}
use Rattle.std.proofs.lemmas.List.Elements.{All-nil, All-cons, All-head, All-tail}
use Rattle.std.proofs.lemmas.List.Folds.{list_any_at, list_any_none}
use Rattle.std.proofs.lemmas.List.Quantifiers.{all_pairs_push}
use Rattle.std.proofs.lemmas.Map.Views.{Contains-from_any, list_any-from_Contains}
use Rattle.std.proofs.lemmas.Slice.Eq.{bytes_eq-Decides}
use Rattle.peg_semantics.specs.Form.{Count, Reference}
use Rattle.peg_semantics.specs.Rules.{Rule, counts, names, references, defined_at}
use Rattle.peg_semantics.specs.Grammar.{IsGrammar, duplicate_after, first_bad_count, first_duplicate, first_undefined}
use Rattle.peg_semantics.specs.Grammar.{is_in_range, is_unknown}

-- distinct names
abbrev Distinct : List (List ℕ) → Type 0
Distinct some = AllPairs (λ (a b : List ℕ). a ≢ b) some

-- a reference to a known name
abbrev IsKnown : List (List ℕ) → Reference → Type 0
IsKnown known reference = Contains known reference.name

some≢none : {X : Type 0} {x : X} → Some x ≡ None → ⊥
some≢none e = cc

-- a name that is not in a list differs from every name in it
differs : (earlier : List (List ℕ)) (name : List ℕ) → list_any (bytes_eq name) earlier ≡ false
    → (k : ℕ) (d : List ℕ) → k < length earlier → get_or earlier k d ≢ name
differs earlier name absent k d within same =
    let equal = (bytes_eq-Decides name (get_or earlier k d)).1 (sym same) in
    true≢false (sym (list_any_at (bytes_eq name) earlier k d within equal) ∙ absent)

-- What is known of a rule and the rules after it: whether its name is an earlier one, and the faults after it.
module _ (earlier : List (List ℕ)) (rule : Rule) (rules : List Rule) where
  here : {there : Bool} → list_any (bytes_eq rule.name) earlier ≡ there
      → duplicate_after earlier (rule ∷ rules)
      ≡ (if there then Some (defined_at rule) else duplicate_after (earlier ++ rule.name ∷ []) rules)
  here is = ap (λ b. if b then Some (defined_at rule) else duplicate_after (earlier ++ rule.name ∷ []) rules) is

  joined : earlier ++ rule.name ∷ [] ++ names rules ≡ earlier ++ names (rule ∷ rules)
  joined = append_assoc earlier (rule.name ∷ []) (names rules)

-- if no duplicate is found, the names are distinct
distinct_after : (earlier : List (List ℕ)) (rules : List Rule) → duplicate_after earlier rules ≡ None
    → Distinct earlier → Distinct (earlier ++ names rules)
distinct_after earlier [] none distinct = subst Distinct (sym (append-nil earlier)) distinct
distinct_after earlier (rule ∷ rules) none distinct =
    by (list_any (bytes_eq rule.name) earlier) refl (distinct_after (earlier ++ rule.name ∷ []) rules)
  where
    by : (there : Bool) → list_any (bytes_eq rule.name) earlier ≡ there
        → (duplicate_after (earlier ++ rule.name ∷ []) rules ≡ None → Distinct (earlier ++ rule.name ∷ [])
        → Distinct (earlier ++ rule.name ∷ [] ++ names rules))
        → Distinct (earlier ++ names (rule ∷ rules))
    by true is rest = absurd (some≢none (sym (here earlier rule rules is) ∙ none))
    by false is rest =
        let more = all_pairs_push (λ (a b : List ℕ). a ≢ b) earlier rule.name distinct (differs earlier rule.name is) in
        subst Distinct (joined earlier rule rules) (rest (sym (here earlier rule rules is) ∙ none) more)

-- a name that differs from all earlier names is not among them
new_name : (earlier : List (List ℕ)) (name : List ℕ) (later : List (List ℕ)) → Distinct (earlier ++ name ∷ later)
    → list_any (bytes_eq name) earlier ≡ false
new_name earlier name later distinct =
    list_any_none (bytes_eq name) earlier (λ k d within. false_from_ne_true _ (same k d within))
  where
    same : (k : ℕ) (d : List ℕ) → k < length earlier → bytes_eq name (get_or earlier k d) ≡ true → ⊥
    same k d within equal =
        let past : length earlier < length (earlier ++ name ∷ later) =
        omega (arith, length-append earlier (name ∷ later)) in
        distinct k (length earlier) d within past
        (get_or_append_left earlier (name ∷ later) d k within
        ∙ sym ((bytes_eq-Decides name (get_or earlier k d)).0 equal)
        ∙ sym (get_or_at earlier name later d (length earlier) refl))

-- if the names are distinct, no duplicate is found
no_duplicate_after : (earlier : List (List ℕ)) (rules : List Rule) → Distinct (earlier ++ names rules)
    → duplicate_after earlier rules ≡ None
no_duplicate_after earlier [] distinct = refl
no_duplicate_after earlier (rule ∷ rules) distinct =
    here earlier rule rules (new_name earlier rule.name (names rules) distinct)
    ∙ no_duplicate_after (earlier ++ rule.name ∷ []) rules (subst Distinct (sym (joined earlier rule rules)) distinct)

-- the search from a reference on
module _ (known : List (List ℕ)) (reference : Reference) (used : List Reference) where
  found : {there : Bool} → list_any (bytes_eq reference.name) known ≡ there
      → find (is_unknown known) (reference ∷ used) ≡ (if not there then Some reference else find (is_unknown known) used)
  found is = ap (λ b. if not b then Some reference else find (is_unknown known) used) is

-- if no unknown name is found, all names are known
all_known : (known : List (List ℕ)) (used : List Reference) → find (is_unknown known) used ≡ None
    → All (IsKnown known) used
all_known known [] none = All-nil (IsKnown known)
all_known known (reference ∷ used) none =
    by (list_any (bytes_eq reference.name) known) refl (all_known known used)
  where
    by : (there : Bool) → list_any (bytes_eq reference.name) known ≡ there
        → (find (is_unknown known) used ≡ None → All (IsKnown known) used)
        → All (IsKnown known) (reference ∷ used)
    by false is rest = absurd (some≢none (sym (found known reference used is) ∙ none))
    by true is rest =
        All-cons (IsKnown known) reference used
        (Contains-from_any (λ x y. (bytes_eq-Decides x y).0) reference.name known is)
        (rest (sym (found known reference used is) ∙ none))

-- if all names are known, no unknown name is found
no_unknown : (known : List (List ℕ)) (used : List Reference) → All (IsKnown known) used
    → find (is_unknown known) used ≡ None
no_unknown known [] all = refl
no_unknown known (reference ∷ used) all =
    let is = list_any-from_Contains nat_list_eq_equiv reference.name known (All-head (IsKnown known) reference used all) in
    found known reference used is ∙ no_unknown known used (All-tail (IsKnown known) reference used all)

-- if no count out of range is found, all counts are in range
abbrev IsInRange : Count → Type 0
IsInRange count = is_in_range count ≡ true

abbrev is_bad : Count → Bool
is_bad count = not (is_in_range count)

bad_found : (count : Count) (written : List Count) {ranged : Bool} → is_in_range count ≡ ranged
    → find is_bad (count ∷ written) ≡ (if not ranged then Some count else find is_bad written)
bad_found count written is = ap (λ b. if not b then Some count else find is_bad written) is

all_in_range : (written : List Count) → find is_bad written ≡ None → All IsInRange written
all_in_range [] none = All-nil IsInRange
all_in_range (count ∷ written) none = by (is_in_range count) refl (all_in_range written)
  where
    by : (ranged : Bool) → is_in_range count ≡ ranged → (find is_bad written ≡ None → All IsInRange written)
        → All IsInRange (count ∷ written)
    by false is rest = absurd (some≢none (sym (bad_found count written is) ∙ none))
    by true is rest = All-cons IsInRange count written is (rest (sym (bad_found count written is) ∙ none))

-- if all counts are in range, no count out of range is found
no_bad_count : (written : List Count) → All IsInRange written → find is_bad written ≡ None
no_bad_count [] all = refl
no_bad_count (count ∷ written) all =
    bad_found count written (All-head IsInRange count written all)
    ∙ no_bad_count written (All-tail IsInRange count written all)

-- rules without a fault are a grammar
pub IsGrammar-from_searches : (rules : List Rule) → rules ≢ [] → first_duplicate rules ≡ None
    → first_undefined rules ≡ None → first_bad_count rules ≡ None → IsGrammar rules
IsGrammar-from_searches rules some distinct defined counted = record {
  some = some;
  distinct = distinct_after [] rules distinct (λ i j d before within. absurd (omega arith));
  defined = all_known (names rules) (references rules) defined;
  counted = all_in_range (counts rules) counted;
}

-- the rules of a grammar have no fault
pub searches_from_IsGrammar : (rules : List Rule) → IsGrammar rules
    → (rules ≢ []) × (first_duplicate rules ≡ None) × (first_undefined rules ≡ None) × (first_bad_count rules ≡ None)
searches_from_IsGrammar rules grammar = (
  grammar.some,
  no_duplicate_after [] rules grammar.distinct,
  no_unknown (names rules) (references rules) grammar.defined,
  no_bad_count (counts rules) grammar.counted,
)
