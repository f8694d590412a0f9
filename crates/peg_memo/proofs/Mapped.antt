-- Entries of a cache whose values are mapped by a function, and the operations of caches and maps on them.
use Rattle.std.proofs.Common.{◌≡◌, ℕ, zero, suc, ◌-◌, Bool, true, false, cond, List, [], ◌∷◌, length, map, take, Option, Some, None, refl, ap, ◌∙◌}
use Rattle.std.specs.List.{slice_get}
use Rattle.std.proofs.lemmas.List.{length-map, take-map}
use Rattle.std.specs.Map.{keys_of, lookup, lookup_entry, remove_entry}
use Rattle.std.specs.Option.{option_map, option_map_or}
use Rattle.lru.specs.LruCache.{LruCache, last_entry, lru_cache, promoted, put_entries}

cond-map : {A B : Type 0} (g : A → B) (b : Bool) (x y : A) → cond b (g x) (g y) ≡ g (cond b x y)
cond-map g true x y = refl
cond-map g false x y = refl

module _ {K V W : Type 0} (f : V → W) where
  -- an entry with its value mapped
  abbrev pub read_entry : K × V → K × W
  read_entry e = (e.0, f e.1)

  abbrev pub read : List (K × V) → List (K × W)
  read es = map (λ e. (e.0, f e.1)) es

  pub keys_of-read : (es : List (K × V)) → keys_of (read es) ≡ keys_of es
  keys_of-read [] = refl
  keys_of-read (e ∷ es) = ap (λ ks. e.0 ∷ ks) (keys_of-read es)

  pub butlast-read : (es : List (K × V)) → take (length (read es) - 1) (read es) ≡ read (take (length es - 1) es)
  butlast-read es =
      ap (λ count. take (count - 1) (read es)) (length-map es read_entry) ∙ take-map read_entry (length es - 1) es

  slice_get-read : (es : List (K × V)) (k : ℕ) → slice_get (read es) k ≡ option_map read_entry (slice_get es k)
  slice_get-read [] k = refl
  slice_get-read (e ∷ es) zero = refl
  slice_get-read (e ∷ es) (suc k) = slice_get-read es k

  pub last_entry-read : (es : List (K × V)) → last_entry (read es) ≡ option_map read_entry (last_entry es)
  last_entry-read es =
      ap (λ count. slice_get (read es) (count - 1)) (length-map es read_entry) ∙ slice_get-read es (length es - 1)

  module _ (test : K → Bool) where
    pub lookup-read : (es : List (K × V)) → lookup test (read es) ≡ option_map f (lookup test es)
    lookup-read [] = refl
    lookup-read (e ∷ es) =
        ap (cond (test e.0) (Some (f e.1))) (lookup-read es)
        ∙ cond-map (option_map f) (test e.0) (Some e.1) (lookup test es)

    pub lookup_entry-read : (es : List (K × V))
        → lookup_entry test (read es) ≡ option_map read_entry (lookup_entry test es)
    lookup_entry-read [] = refl
    lookup_entry-read (e ∷ es) =
        ap (cond (test e.0) (Some (read_entry e))) (lookup_entry-read es)
        ∙ cond-map (option_map read_entry) (test e.0) (Some e) (lookup_entry test es)

    pub remove_entry-read : (es : List (K × V)) → remove_entry test (read es) ≡ read (remove_entry test es)
    remove_entry-read [] = refl
    remove_entry-read (e ∷ es) =
        ap (λ l. cond (test e.0) (read es) (read_entry e ∷ l)) (remove_entry-read es)
        ∙ cond-map read (test e.0) es (e ∷ remove_entry test es)

    promoted-cases : (es : List (K × V)) (o : Option (K × V))
        → option_map_or (λ e. e ∷ remove_entry test (read es)) (option_map read_entry o) (read es)
        ≡ read (option_map_or (λ e. e ∷ remove_entry test es) o es)
    promoted-cases es None = refl
    promoted-cases es (Some e) = ap (λ l. read_entry e ∷ l) (remove_entry-read es)

    pub promoted-read : (es : List (K × V)) → promoted test (read es) ≡ read (promoted test es)
    promoted-read es =
        ap (λ o. option_map_or (λ e. e ∷ remove_entry test (read es)) o (read es)) (lookup_entry-read es)
        ∙ promoted-cases es (lookup_entry test es)

  module _ (eq : K → K → Bool) (c : LruCache K V) (k : K) (v : V) where
    put-cases : (o : Option (K × V))
        → option_map_or (λ e. (e.0, f v) ∷ remove_entry (eq k) (read c.entries)) (option_map read_entry o)
        ((k, f v) ∷ take (c.cap - 1) (read c.entries))
        ≡ read (option_map_or (λ e. (e.0, v) ∷ remove_entry (eq k) c.entries) o ((k, v) ∷ take (c.cap - 1) c.entries))
    put-cases None = ap (λ l. (k, f v) ∷ l) (take-map read_entry (c.cap - 1) c.entries)
    put-cases (Some e) = ap (λ l. (e.0, f v) ∷ l) (remove_entry-read (eq k) c.entries)

    pub put_entries-read : put_entries eq (lru_cache (read c.entries) c.cap) k (f v) ≡ read (put_entries eq c k v)
    put_entries-read =
        ap (λ o. option_map_or (λ e. (e.0, f v) ∷ remove_entry (eq k) (read c.entries)) o
        ((k, f v) ∷ take (c.cap - 1) (read c.entries))) (lookup_entry-read (eq k) c.entries)
        ∙ put-cases (lookup_entry (eq k) c.entries)
