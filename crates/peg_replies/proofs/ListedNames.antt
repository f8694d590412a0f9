-- Names in a list, and the rules that have them.
use Rattle.std.proofs.Common.{◌≡◌, ◌≢◌, ℕ, zero, suc, ◌+◌, ◌<◌, ◌≤◌, ◌==◌, Bool, true, false, not, ◌||◌, ◌&&◌, AllPairs, List, [], ◌∷◌}
use Rattle.std.proofs.Common.{length, take, get_or, position, find, Option, None, Some, bytes_eq, is_some, refl, sym, ap, ◌∙◌, cond, if◌then◌else◌, inl, inr, arith}
use Rattle.std.proofs.lemmas.Bool.{cases_lt}
use Rattle.std.proofs.lemmas.Bool.Decides.{nat_tests}
use Rattle.std.proofs.lemmas.Grind.{common_steps}
use Rattle.std.proofs.lemmas.List.{length-map, take_more}
use Rattle.std.proofs.lemmas.List.Folds.{find-append, list_any_at, list_any_more}
use Rattle.std.proofs.lemmas.List.Quantifiers.{position-Some}
use Rattle.std.proofs.lemmas.Slice.Eq.{bytes_eq-Decides}
use Rattle.std.specs.List.{list_any, position_or_len}
use Rattle.std.specs.Option.{option_or}
use Rattle.peg_semantics.specs.Grammar.{IsGrammar}
use Rattle.peg_semantics.specs.Rules.{Rule, names, name_of, is_defined}
use Rattle.peg_semantics.specs.Starts.{start_name}
use Rattle.peg_replies.specs.PrintedNodes.{is_listed}

-- the name with a number
name-numbered : (rules : List Rule) (k : ℕ) → k < length rules → get_or (names rules) k [] ≡ name_of rules k
name-numbered [] k low = absurd (omega arith)
name-numbered (rule ∷ rules) zero low = refl
name-numbered (rule ∷ rules) (suc k) low = name-numbered rules k (omega arith)

-- two tests are the same if each passes where the other does
same-tests : (a b : Bool) → (a ≡ true → b ≡ true) → (b ≡ true → a ≡ true) → a ≡ b
same-tests true b to from = sym (to refl)
same-tests false true to from = from refl
same-tests false false to from = refl

-- distinct names have one number each
one-number : (list : List (List ℕ)) (a b : ℕ) → AllPairs (λ (x y : List ℕ). x ≢ y) list → a < length list → b < length list
    → get_or list a [] ≡ get_or list b [] → a ≡ b
one-number list a b differ first second same = elim (cases_lt a b) [
  | inl less ↦ absurd (differ a b [] less second same)
  | inr over ↦ elim (cases_lt b a) [
    | inl more ↦ absurd (differ b a [] more first (sym same))
    | inr under ↦ omega (arith, over, under)
  ]
]

-- the rule at which a name is found is the only one with this name
pub found-named : (rules : List Rule) (name : List ℕ) (k rule : ℕ) → IsGrammar rules
    → position (bytes_eq name) (names rules) ≡ Some k → rule < length rules
    → (rule == k) ≡ bytes_eq (name_of rules rule) name
found-named rules name k rule grammar is low = same-tests (rule == k) (bytes_eq (name_of rules rule) name) to from
  where
    found : (k < length (names rules)) × (bytes_eq name (get_or (names rules) k []) ≡ true)
        × ((other : ℕ) → other < k → bytes_eq name (get_or (names rules) other []) ≡ false)
    found = position-Some (bytes_eq name) (names rules) k [] is

    here : name ≡ get_or (names rules) k []
    here = (bytes_eq-Decides name (get_or (names rules) k [])).0 found.1

    to : (rule == k) ≡ true → bytes_eq (name_of rules rule) name ≡ true
    to test =
        let same : rule ≡ k = grind (arith, nat_tests) in
        (bytes_eq-Decides (name_of rules rule) name).1
        (sym (name-numbered rules rule low) ∙ ap (λ i. get_or (names rules) i []) same ∙ sym here)

    from : bytes_eq (name_of rules rule) name ≡ true → (rule == k) ≡ true
    from test =
        let within : rule < length (names rules) = omega (arith, low, length-map rules (λ rule. rule.name)) in
        let same : rule ≡ k = one-number (names rules) rule k grammar.distinct within found.0
        (name-numbered rules rule low ∙ (bytes_eq-Decides (name_of rules rule) name).0 test ∙ here) in
        grind (arith, nat_tests)

-- if the search reaches the end, no item passes
none-passes : {X : Type 0} (p : X → Bool) (xs : List X) → length xs ≤ position_or_len p xs → list_any p xs ≡ false
none-passes p [] over = refl
none-passes p (x ∷ xs) over = by (p x) over (none-passes p xs)
  where
    by : (b : Bool) → suc (length xs) ≤ cond (not b) (1 + position_or_len p xs) 0
        → (length xs ≤ position_or_len p xs → list_any p xs ≡ false) → (b || list_any p xs) ≡ false
    by true over later = absurd (omega arith)
    by false over later = later (omega arith)

-- a name at no position is no rule's
pub none-defined : (rules : List Rule) (name : List ℕ) → position (bytes_eq name) (names rules) ≡ None
    → is_defined rules name ≡ false
none-defined rules name none = none-passes (bytes_eq name) (names rules) (grind (arith, common_steps))

-- a name at a position is a rule's
pub some-defined : (rules : List Rule) (name : List ℕ) (k : ℕ) → position (bytes_eq name) (names rules) ≡ Some k
    → is_defined rules name ≡ true
some-defined rules name k is =
    let found = position-Some (bytes_eq name) (names rules) k [] is in
    list_any_at (bytes_eq name) (names rules) k [] found.0 found.1

-- a name whose rule isn't found is unknown
pub unknown-name : (rules : List Rule) (name : List ℕ) (found : Option ℕ) → found ≡ position (bytes_eq name) (names rules)
    → (none : Bool) → is_some found ≡ not none → none ≡ true → not (is_defined rules name) ≡ true
unknown-name rules name None is none test missing = ap not (none-defined rules name (sym is))
unknown-name rules name (Some k) is none test missing =
    absurd (let bad : true ≡ false = test ∙ ap not missing in cc)

-- a name whose rule is found is known
pub known-name : (rules : List Rule) (name : List ℕ) (found : Option ℕ) → found ≡ position (bytes_eq name) (names rules)
    → (none : Bool) → is_some found ≡ not none → none ≡ false → not (is_defined rules name) ≡ false
known-name rules name None is none test there = absurd (let bad : false ≡ true = test ∙ ap not there in cc)
known-name rules name (Some k) is none test there = ap not (some-defined rules name k (sym is))

-- whether a name is found says whether it is known
found-defined : (rules : List Rule) (name : List ℕ) (found : Option ℕ) → found ≡ position (bytes_eq name) (names rules)
    → is_some found ≡ is_defined rules name
found-defined rules name None is = sym (none-defined rules name (sym is))
found-defined rules name (Some k) is = sym (some-defined rules name k (sym is))

-- whether the name of a start is found says whether there is a start
pub start-known : (rules : List Rule) (start : Option (List ℕ)) (name : List ℕ) (found : Option ℕ) → start ≡ Some name
    → found ≡ position (bytes_eq name) (names rules) → is_some found ≡ is_some (start_name rules start)
start-known rules start name found named is =
    found-defined rules name found is ∙ kept (is_defined rules name)
    ∙ sym (ap (λ (s : Option (List ℕ)). is_some (start_name rules s)) named)
  where
    kept : (known : Bool) → known ≡ is_some (if known then Some name else None)
    kept true = refl
    kept false = refl

-- no rule has a name that is at no position
pub missing-named : (rules : List Rule) (name : List ℕ) (rule : ℕ) → position (bytes_eq name) (names rules) ≡ None
    → rule < length rules → bytes_eq (name_of rules rule) name ≡ false
missing-named rules name rule none low = by (bytes_eq (name_of rules rule) name) refl
  where
    by : (b : Bool) → bytes_eq (name_of rules rule) name ≡ b → b ≡ false
    by false is = refl
    by true is =
        let within : rule < length (names rules) = omega (arith, low, length-map rules (λ rule. rule.name)) in
        let same : name ≡ get_or (names rules) rule [] =
        sym (name-numbered rules rule low ∙ (bytes_eq-Decides (name_of rules rule) name).0 is) in
        let passes : is_defined rules name ≡ true =
        list_any_at (bytes_eq name) (names rules) rule [] within ((bytes_eq-Decides name (get_or (names rules) rule [])).1 same) in
        let bad : true ≡ false = sym passes ∙ none-defined rules name none in
        bad

-- ---- the first item that passes, and whether one does, item by item

pub find-at : {X : Type 0} (p : X → Bool) (xs : List X) (i : ℕ) (d : X) → i < length xs → find p (take i xs) ≡ None
    → p (get_or xs i d) ≡ true → find p xs ≡ Some (get_or xs i d)
find-at p [] i d low none passes = absurd (omega arith)
find-at p (x ∷ xs) zero d low none passes = ap (λ (b : Bool). cond b (Some x) (find p xs)) passes
find-at p (x ∷ xs) (suc i) d low none passes =
    by (p x) none (λ later. find-at p xs i d (omega arith) later passes)
  where
    by : (b : Bool) → cond b (Some x) (find p (take i xs)) ≡ None
        → (find p (take i xs) ≡ None → find p xs ≡ Some (get_or xs i d))
        → cond b (Some x) (find p xs) ≡ Some (get_or xs i d)
    by true none later = absurd (cc)
    by false none later = later none

pub find-more : {X : Type 0} (p : X → Bool) (xs : List X) (i : ℕ) (d : X) → i < length xs → find p (take i xs) ≡ None
    → p (get_or xs i d) ≡ false → find p (take (i + 1) xs) ≡ None
find-more p xs i d low none fails =
    let next = get_or xs i d in
    ap (find p) (take_more xs i d low) ∙ find-append p (take i xs) (next ∷ [])
    ∙ ap (λ first. option_or first (find p (next ∷ []))) none ∙ ap (λ (b : Bool). cond b (Some next) None) fails

-- ---- the rules that are listed, name by name

-- with one more name, the rule of the name is listed too
pub listed-more : (rules : List Rule) (all : List (List ℕ)) (i rule : ℕ) (name : List ℕ) (before : Bool) → i < length all
    → name ≡ get_or all i name → before ≡ is_listed rules (take i all) rule
    → (bytes_eq (name_of rules rule) name || before) ≡ is_listed rules (take (i + 1) all) rule
listed-more rules all i rule name before low here so_far =
    let test : List ℕ → Bool = bytes_eq (name_of rules rule) in
    swapped (test name) before ∙ ap (λ (b : Bool). b || test name) so_far
    ∙ ap (λ (n : List ℕ). list_any test (take i all) || test n) here ∙ sym (list_any_more test all i name low)
  where
    swapped : (a b : Bool) → (a || b) ≡ (b || a)
    swapped true true = refl
    swapped true false = refl
    swapped false true = refl
    swapped false false = refl

-- the same for the rules that aren't listed
pub unlisted-more : (rules : List Rule) (all : List (List ℕ)) (i rule : ℕ) (name : List ℕ) (before : Bool) → i < length all
    → name ≡ get_or all i name → before ≡ not (is_listed rules (take i all) rule)
    → (not (bytes_eq (name_of rules rule) name) && before) ≡ not (is_listed rules (take (i + 1) all) rule)
unlisted-more rules all i rule name before low here so_far =
    let here_named : Bool = bytes_eq (name_of rules rule) name in
    let listed : Bool = is_listed rules (take i all) rule in
    ap (λ (b : Bool). not here_named && b) so_far ∙ neither here_named listed
    ∙ ap not (listed-more rules all i rule name listed low here refl)
  where
    neither : (a b : Bool) → (not a && not b) ≡ not (a || b)
    neither true b = refl
    neither false b = refl
