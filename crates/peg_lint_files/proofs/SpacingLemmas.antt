-- The rules with a flag, one more at a time.
use Rattle.std.proofs.Common.{◌≡◌, ◌∙◌, ◌+◌, ℕ, Bool, true, false, List, [], ◌∷◌, ◌++◌, ap, arith, cond, filter, map, sym}
use Rattle.std.proofs.lemmas.List.{append-nil, map-append, map-id}
use Rattle.std.proofs.lemmas.List.FromFn.{filter_of_map_range_with_len_more}
use Rattle.std.specs.List.{range_with_len}

-- one more number, if it passes a test
filter-more : (p : ℕ → Bool) (n : ℕ)
    → filter p (range_with_len 0 (n + 1)) ≡ filter p (range_with_len 0 n) ++ cond (p n) (n ∷ []) []
filter-more p n =
    ap (filter p) (sym (map-id (range_with_len 0 (n + 1))))
    ∙ (filter_of_map_range_with_len_more p (λ (k : ℕ). k) 0 n n (omega arith)
    ∙ ap (λ (l : List ℕ). filter p l ++ cond (p n) (n ∷ []) []) (map-id (range_with_len 0 n)))

pub names-more : (f : ℕ → List ℕ) (p : ℕ → Bool) (n : ℕ) → p n ≡ true
    → map f (filter p (range_with_len 0 (n + 1))) ≡ map f (filter p (range_with_len 0 n)) ++ f n ∷ []
names-more f p n is =
    ap (map f) (filter-more p n ∙ ap (λ (b : Bool). filter p (range_with_len 0 n) ++ cond b (n ∷ []) []) is)
    ∙ map-append f (filter p (range_with_len 0 n)) (n ∷ [])

pub names-same : (f : ℕ → List ℕ) (p : ℕ → Bool) (n : ℕ) → p n ≡ false
    → map f (filter p (range_with_len 0 (n + 1))) ≡ map f (filter p (range_with_len 0 n))
names-same f p n is =
    ap (map f) (filter-more p n ∙ (ap (λ (b : Bool). filter p (range_with_len 0 n) ++ cond b (n ∷ []) []) is
    ∙ append-nil (filter p (range_with_len 0 n))))
