-- Rules whose names begin with those of a grammar: a start of the grammar is a start of these rules, too.
use Rattle.std.proofs.Common.{◌≡◌, ℕ, suc, ◌+◌, Bool, true, false, not, cond, ◌||◌, List, [], ◌∷◌, ◌++◌}
use Rattle.std.proofs.Common.{length, nat_lt, position, Option, None, Some, is_some, bytes_eq, if◌then◌else◌}
use Rattle.std.proofs.Common.{refl, sym, ap, ◌∙◌, arith}
use Rattle.std.proofs.lemmas.Bool.Decides.{nat_tests}
use Rattle.std.proofs.lemmas.List.{length-append, length-map}
use Rattle.std.proofs.lemmas.List.Folds.{list_any-append}
use Rattle.std.specs.List.{list_any, position_or_len}
use Rattle.peg_semantics.specs.Rules.{Rule, names, name_of, is_defined}
use Rattle.peg_semantics.specs.Starts.{start_name}

-- an item of the first list passes exactly if the search in both lists ends before the second
early : {X : Type 0} (p : X → Bool) (xs ys : List X)
    → nat_lt (position_or_len p (xs ++ ys)) (length xs) ≡ list_any p xs
early p [] ys = grind (arith, nat_tests)
early p (x ∷ xs) ys = by (p x) (early p xs ys)
  where
    by : (b : Bool) → nat_lt (position_or_len p (xs ++ ys)) (length xs) ≡ list_any p xs
        → nat_lt (cond (not b) (1 + position_or_len p (xs ++ ys)) 0) (suc (length xs)) ≡ (b || list_any p xs)
    by true later = grind (arith, nat_tests)
    by false later = grind (arith, nat_tests) ∙ later

-- whether there is a number, and it is below `most`
abbrev pub is_below : (most : ℕ) → Option ℕ → Bool
is_below most None = false
is_below most (Some number) = nat_lt number most

-- the search in both lists finds an index below the length of the first exactly if an item of the first passes
below-first : {X : Type 0} (p : X → Bool) (xs ys : List X)
    → is_below (length xs) (position p (xs ++ ys)) ≡ list_any p xs
below-first p xs ys = by (nat_lt (position_or_len p (xs ++ ys)) (length (xs ++ ys))) refl
  where
    by : (b : Bool) → nat_lt (position_or_len p (xs ++ ys)) (length (xs ++ ys)) ≡ b
        → is_below (length xs) (cond b (Some (position_or_len p (xs ++ ys))) None) ≡ list_any p xs
    by true inside = early p xs ys
    by false outside =
        let size = length-append xs ys in
        let none : false ≡ nat_lt (position_or_len p (xs ++ ys)) (length xs) = grind (arith, nat_tests) in
        none ∙ early p xs ys

module _ (rules other : List Rule) (more : List (List ℕ)) (begin : names other ≡ names rules ++ more) where
  -- the search for a name among all rules
  below-defined : (name : List ℕ)
      → is_below (length rules) (position (bytes_eq name) (names other)) ≡ is_defined rules name
  below-defined name =
      ap (λ (all : List (List ℕ)). is_below (length rules) (position (bytes_eq name) all)) begin
      ∙ ap (λ (n : ℕ). is_below n (position (bytes_eq name) (names rules ++ more)))
      (sym (length-map rules (λ rule. rule.name)))
      ∙ below-first (bytes_eq name) (names rules) more

  -- whether a start by name is a rule of the grammar
  pub start-below : (named : Option (List ℕ)) (name : List ℕ) (found : Option ℕ) → named ≡ Some name
      → found ≡ position (bytes_eq name) (names other) → is_below (length rules) found ≡ is_some (start_name rules named)
  start-below named name found is at =
      ap (is_below (length rules)) at ∙ below-defined name ∙ as_some (is_defined rules name)
      ∙ sym (ap (λ (n : Option (List ℕ)). is_some (start_name rules n)) is)
    where
      as_some : (b : Bool) → b ≡ is_some (if b then Some name else None)
      as_some true = refl
      as_some false = refl

  -- a start of the grammar is a start of all rules
  pub same-start : name_of other 0 ≡ name_of rules 0 → (named : Option (List ℕ)) (start : List ℕ)
      → start_name rules named ≡ Some start → start_name other named ≡ Some start
  same-start first None start is = ap Some first ∙ is
  same-start first (Some name) start is = by (is_defined rules name) refl is
    where
      by : (b : Bool) → is_defined rules name ≡ b → (if b then Some name else None) ≡ Some start
          → start_name other (Some name) ≡ Some start
      by false missing is = let bad : None ≡ Some start = is in cc
      by true defined is =
          let found : is_defined other name ≡ true =
          ap (list_any (bytes_eq name)) begin ∙ list_any-append (bytes_eq name) (names rules) more
          ∙ ap (λ b. b || list_any (bytes_eq name) more) defined in
          ap (λ (b : Bool). if b then Some name else None) found ∙ is
