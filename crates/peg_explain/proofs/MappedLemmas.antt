-- Lists that are mapped item by item.
use Rattle.std.proofs.Common.{◌≡◌, ◌∙◌, ℕ, ◌+◌, ◌<◌, ◌≤◌, List, [], ◌∷◌, ◌++◌, add-one, ap, get_or, length, map, sym, take}
use Rattle.std.proofs.Math.Seq.{take-suc}
use Rattle.std.proofs.lemmas.List.{map-append, take_all}
use Rattle.std.proofs.lemmas.Option.{get_or_from_slice_get, slice_get-get_or}

-- inside a list, the default of a read doesn't matter
pub get_or-other : {A : Type 0} (xs : List A) (i : ℕ) (d e : A) → i < length xs → get_or xs i d ≡ get_or xs i e
get_or-other xs i d e within =
    let both = slice_get-get_or xs i d within in
    sym (get_or_from_slice_get xs i (get_or xs i d) e both)

-- one more item is mapped
pub mapped-more : {A B : Type 0} (f : A → B) (xs : List A) (i : ℕ) (x : A) (done : List B) → i < length xs
    → x ≡ get_or xs i x → done ≡ map f (take i xs) → done ++ f x ∷ [] ≡ map f (take (i + 1) xs)
mapped-more f xs i x done within is so_far =
    ap (λ l. l ++ f x ∷ []) so_far
    ∙ ap (λ (y : _). map f (take i xs) ++ f y ∷ []) is
    ∙ sym (map-append f (take i xs) (get_or xs i x ∷ []))
    ∙ ap (map f) (sym (ap (λ (n : ℕ). take n xs) (add-one i) ∙ take-suc xs i x within))

-- all items are mapped
pub mapped-all : {A B : Type 0} (f : A → B) (xs : List A) (i : ℕ) (done : List B) → length xs ≤ i
    → done ≡ map f (take i xs) → done ≡ map f xs
mapped-all f xs i done over so_far = so_far ∙ ap (map f) (take_all i xs over)
