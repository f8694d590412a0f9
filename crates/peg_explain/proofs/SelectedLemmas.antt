-- Lists that are searched, filtered and merged item by item.
use Rattle.std.proofs.Common.{◌≡◌, ◌∙◌, ℕ, ◌+◌, ◌<◌, Bool, true, false, ◌&&◌, ◌||◌, List, [], ◌∷◌, ◌++◌, add-one, ap}
use Rattle.std.proofs.Common.{arith, cond, filter, get_or, length, refl, sym, take}
use Rattle.std.proofs.Math.Seq.{take-suc}
use Rattle.std.proofs.lemmas.List.{map-id}
use Rattle.std.proofs.lemmas.List.Elements.{filter-append}
use Rattle.std.proofs.lemmas.List.Folds.{list_any-append}
use Rattle.std.proofs.lemmas.List.FromFn.{filter_of_map_range_with_len_more}
use Rattle.std.specs.List.{list_any, range_with_len}

pub or-false : (b : Bool) → (b || false) ≡ b
or-false true = refl
or-false false = refl

-- the first items and one more
pub take-more : {X : Type 0} (xs : List X) (i : ℕ) (x : X) → i < length xs → x ≡ get_or xs i x
    → take (i + 1) xs ≡ take i xs ++ x ∷ []
take-more xs i x within is =
    ap (λ (n : ℕ). take n xs) (add-one i) ∙ take-suc xs i x within
    ∙ ap (λ (y : _). take i xs ++ y ∷ []) (sym is)

-- one more item is searched
pub any-more : {X : Type 0} (test : X → Bool) (xs : List X) (i : ℕ) (x : X) → i < length xs → x ≡ get_or xs i x
    → list_any test (take (i + 1) xs) ≡ (list_any test (take i xs) || test x)
any-more test xs i x within is =
    ap (list_any test) (take-more xs i x within is)
    ∙ list_any-append test (take i xs) (x ∷ [])
    ∙ ap (λ (b : Bool). list_any test (take i xs) || b) (or-false (test x))

-- one more item is filtered
pub filter-more : {X : Type 0} (test : X → Bool) (xs : List X) (i : ℕ) (x : X) (b : Bool) → i < length xs
    → x ≡ get_or xs i x → test x ≡ b → filter test (take (i + 1) xs) ≡ filter test (take i xs) ++ cond b (x ∷ []) []
filter-more test xs i x b within is passes =
    ap (filter test) (take-more xs i x within is)
    ∙ filter-append test (take i xs) (x ∷ [])
    ∙ ap (λ (l : List _). filter test (take i xs) ++ l) (alone x b passes)
  where
    alone : (y : _) (b : Bool) → test y ≡ b → filter test (y ∷ []) ≡ cond b (y ∷ []) []
    alone y true pass = ap (λ (b : Bool). cond b (y ∷ []) []) pass
    alone y false pass = ap (λ (b : Bool). cond b (y ∷ []) []) pass

-- one more number is filtered
pub numbers-more : (test : ℕ → Bool) (count : ℕ) (b : Bool) → test count ≡ b
    → filter test (range_with_len 0 (count + 1)) ≡ filter test (range_with_len 0 count) ++ cond b (count ∷ []) []
numbers-more test count b passes =
    ap (filter test) (sym (map-id (range_with_len 0 (count + 1))))
    ∙ filter_of_map_range_with_len_more test (λ n. n) 0 count count (let at : 0 + count ≡ count = omega arith in at)
    ∙ ap (λ (l : List ℕ). filter test l ++ cond (test count) (count ∷ []) []) (map-id (range_with_len 0 count))
    ∙ ap (λ (b : Bool). filter test (range_with_len 0 count) ++ cond b (count ∷ []) []) passes

-- what is among the first items, and within a bound, and what is added
pub or-within : (before here within : Bool) → ((before && within) || (here && within)) ≡ ((before || here) && within)
or-within true here true = refl
or-within true true false = refl
or-within true false false = refl
or-within false here within = refl
