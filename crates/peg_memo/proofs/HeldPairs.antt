-- The map of a list of pairs, and how it changes with the pairs.
use Rattle.std.proofs.Common.{◌≡◌, ℕ, zero, suc, ◌+◌, ◌-◌, ◌<◌, ◌≤◌, ◌⊎◌, inl, inr, Bool, true, false, cond, List, [], ◌∷◌, take, length, Option, Some, None, is_some, IsSome, refl, sym, ap, ◌∙◌, arith}
use Rattle.std.proofs.lemmas.Bool.{cond-true, cond-false}
use Rattle.std.proofs.lemmas.List.{take_all}
use Rattle.std.proofs.lemmas.Map.{NonePasses, lookup-none}
use Rattle.std.specs.FinMap as map
use Rattle.std.specs.List.{AllByRecursion, IsDistinct}
use Rattle.std.specs.Map.{keys_of, lookup, lookup_entry, remove_entry}
use Rattle.std.specs.Option.{option_map, option_map_or}
use Rattle.lru.proofs.CallerLemmas.{Contains-lookup_entry}
use Rattle.lru.proofs.Pairs.{lookup-lookup_entry}
use Rattle.lru.specs.LruCache.{LruCache, promoted, put_entries}
use Rattle.peg_memo.specs.MemoMap.{MemoMap, IsPartOf, entries_in}
use Rattle.peg_memo.specs.StoredResult.{StoredResult}
use Rattle.peg_memo.specs.MemoKey.{MemoKey, key_cmp, key_eq}
use Rattle.peg_memo.proofs.KeyOrder.{key_cmp-IsTotalOrder, key_cmp-IsAntisymmetric, key_eq-eq_by_cmp, key_eq-IsEquivalence}

abbrev Pairs : Type 0
Pairs = List (MemoKey × StoredResult)

by_answer : {P : Type 0} (b : Bool) → (b ≡ true → P) → (b ≡ false → P) → P
by_answer true p q = p refl
by_answer false p q = q refl

find-lookup : (asked : MemoKey) (pairs : Pairs) → map.find key_cmp asked pairs ≡ lookup (key_eq asked) pairs
find-lookup asked [] = refl
find-lookup asked (pair ∷ pairs) =
    ap (λ b. cond b (Some pair.1) (map.find key_cmp asked pairs)) (sym (key_eq-eq_by_cmp asked pair.0))
    ∙ ap (cond (key_eq asked pair.0) (Some pair.1)) (find-lookup asked pairs)

pub get-entries_in : (pairs : Pairs) (asked : MemoKey) → map.get (entries_in pairs) asked ≡ lookup (key_eq asked) pairs
get-entries_in pairs asked = map.get-from_entries key_cmp-IsTotalOrder pairs asked ∙ find-lookup asked pairs

-- two maps in which the same is found are equal
same_held : (pairs : Pairs) (stored : MemoMap) → ((other : MemoKey) → lookup (key_eq other) pairs ≡ map.get stored other)
    → entries_in pairs ≡ stored
same_held pairs stored same =
    map.same_map key_cmp-IsTotalOrder key_cmp-IsAntisymmetric (entries_in pairs) stored
    (λ other. get-entries_in pairs other ∙ same other)

-- the map with one more pair
get-inserted : (pairs : Pairs) (asked : MemoKey) (kept : StoredResult) (other : MemoKey)
    → map.get (map.insert (entries_in pairs) asked kept) other
    ≡ cond (key_eq other asked) (Some kept) (lookup (key_eq other) pairs)
get-inserted pairs asked kept other =
    map.get-insert key_cmp-IsTotalOrder (entries_in pairs) asked kept other
    ∙ ap (λ b. cond b (Some kept) (map.get (entries_in pairs) other)) (sym (key_eq-eq_by_cmp other asked))
    ∙ ap (cond (key_eq other asked) (Some kept)) (get-entries_in pairs other)

-- the number of entries of the map

passes_none : (asked : MemoKey) (pairs : Pairs) → AllByRecursion (λ other. key_eq asked other ≡ false) (keys_of pairs)
    → NonePasses (key_eq asked) pairs
passes_none asked [] none = tt
passes_none asked (pair ∷ pairs) none = (none.0, passes_none asked pairs none.1)

pub len-entries_in : (pairs : Pairs) → IsDistinct key_eq (keys_of pairs) → map.len (entries_in pairs) ≡ length pairs
unfolding IsDistinct
len-entries_in [] distinct = map.len-empty key_cmp StoredResult
len-entries_in (pair ∷ pairs) distinct =
    let absent : map.contains_key (entries_in pairs) pair.0 ≡ false =
    ap is_some (get-entries_in pairs pair.0 ∙ lookup-none (key_eq pair.0) pairs (passes_none pair.0 pairs distinct.0)) in
    let before = len-entries_in pairs distinct.1 in
    let inserted = map.len-insert key_cmp-IsTotalOrder (entries_in pairs) pair.0 pair.1 in
    let one_more = cond-false _ (map.len (entries_in pairs)) (map.len (entries_in pairs) + 1) absent in
    inserted ∙ one_more ∙ omega (arith, before)

found_first : (pair : MemoKey × StoredResult) (pairs : Pairs) → lookup (key_eq pair.0) (pair ∷ pairs) ≡ Some pair.1
found_first pair pairs = cond-true _ (Some pair.1) _ (key_eq-IsEquivalence.refl pair.0)

pub no_pairs : (pairs : Pairs) → map.len (entries_in pairs) ≡ 0 → pairs ≡ []
no_pairs [] none = refl
no_pairs (pair ∷ pairs) none =
    let found : map.get (entries_in (pair ∷ pairs)) pair.0 ≡ Some pair.1 =
    get-entries_in (pair ∷ pairs) pair.0 ∙ found_first pair pairs in
    let missed : map.get (entries_in (pair ∷ pairs)) pair.0 ≡ None =
    ap (λ stored. map.get stored pair.0) (map.empty_of_len (entries_in (pair ∷ pairs)) none) ∙ map.get-empty key_cmp pair.0 in
    cc

-- the pair of a call is put in front

apart : (asked other stored : MemoKey) → key_eq other asked ≡ false → key_eq asked stored ≡ true → key_eq other stored ≡ false
apart asked other stored differs same =
    key_eq-IsEquivalence.symm other stored
    ∙ sym (key_eq-IsEquivalence.congr asked stored other same)
    ∙ key_eq-IsEquivalence.symm asked other
    ∙ differs

lookup-remaining : (asked other : MemoKey) → key_eq other asked ≡ false → (pairs : Pairs)
    → lookup (key_eq other) (remove_entry (key_eq asked) pairs) ≡ lookup (key_eq other) pairs
lookup-remaining asked other differs [] = refl
lookup-remaining asked other differs (pair ∷ pairs) =
    let without = remove_entry (key_eq asked) pairs in
    by_answer (key_eq asked pair.0)
    (λ same. ap (lookup (key_eq other)) (cond-true _ pairs (pair ∷ without) same)
    ∙ sym (cond-false _ (Some pair.1) (lookup (key_eq other) pairs) (apart asked other pair.0 differs same)))
    (λ not_same. ap (lookup (key_eq other)) (cond-false _ pairs (pair ∷ without) not_same)
    ∙ ap (cond (key_eq other pair.0) (Some pair.1)) (lookup-remaining asked other differs pairs))

lookup-same : (asked other : MemoKey) → key_eq other asked ≡ true → (pairs : Pairs)
    → lookup (key_eq other) pairs ≡ lookup (key_eq asked) pairs
lookup-same asked other same [] = refl
lookup-same asked other same (pair ∷ pairs) =
    ap (λ b. cond b (Some pair.1) (lookup (key_eq other) pairs)) (key_eq-IsEquivalence.congr other asked pair.0 same)
    ∙ ap (cond (key_eq asked pair.0) (Some pair.1)) (lookup-same asked other same pairs)

lookup-in_front : (asked front other : MemoKey) (kept : StoredResult) (pairs : Pairs) → key_eq asked front ≡ true
    → lookup (key_eq other) ((front, kept) ∷ remove_entry (key_eq asked) pairs)
    ≡ cond (key_eq other asked) (Some kept) (lookup (key_eq other) pairs)
lookup-in_front asked front other kept pairs is =
    let rest = lookup (key_eq other) (remove_entry (key_eq asked) pairs) in
    by_answer (key_eq other asked)
    (λ same. cond-true _ (Some kept) rest (key_eq-IsEquivalence.congr other asked front same ∙ is)
    ∙ sym (cond-true _ (Some kept) (lookup (key_eq other) pairs) same))
    (λ differs. cond-false _ (Some kept) rest (apart asked other front differs is)
    ∙ lookup-remaining asked other differs pairs
    ∙ sym (cond-false _ (Some kept) (lookup (key_eq other) pairs) differs))

-- a pair is moved to the front

lookup-promoted : (asked other : MemoKey) (pairs : Pairs) (o : Option (MemoKey × StoredResult))
    → lookup_entry (key_eq asked) pairs ≡ o
    → lookup (key_eq other) (option_map_or (λ e. e ∷ remove_entry (key_eq asked) pairs) o pairs)
    ≡ lookup (key_eq other) pairs
lookup-promoted asked other pairs None is = refl
lookup-promoted asked other pairs (Some pair) is =
    let stored : lookup (key_eq asked) pairs ≡ Some pair.1 =
    sym (lookup-lookup_entry (key_eq asked) pairs) ∙ ap (option_map (λ e. e.1)) is in
    lookup-in_front asked pair.0 other pair.1 pairs (Contains-lookup_entry (key_eq asked) pairs pair is).1
    ∙ by_answer (key_eq other asked)
    (λ same. cond-true _ (Some pair.1) (lookup (key_eq other) pairs) same
    ∙ sym (lookup-same asked other same pairs ∙ stored))
    (λ differs. cond-false _ (Some pair.1) (lookup (key_eq other) pairs) differs)

pub entries_in-promoted : (asked : MemoKey) (pairs : Pairs) → entries_in (promoted (key_eq asked) pairs) ≡ entries_in pairs
entries_in-promoted asked pairs =
    same_held (promoted (key_eq asked) pairs) (entries_in pairs)
    (λ other. lookup-promoted asked other pairs (lookup_entry (key_eq asked) pairs) refl
    ∙ sym (get-entries_in pairs other))

-- a pair is stored

lookup-take : (test : MemoKey → Bool) (count : ℕ) (pairs : Pairs) (kept : StoredResult)
    → lookup test (take count pairs) ≡ Some kept → lookup test pairs ≡ Some kept
lookup-take test zero pairs kept found = cc
lookup-take test (suc count) [] kept found = found
lookup-take test (suc count) (pair ∷ pairs) kept found =
    let front = Some pair.1 in
    by_answer (test pair.0)
    (λ passes. cond-true _ front (lookup test pairs) passes
    ∙ sym (cond-true _ front (lookup test (take count pairs)) passes) ∙ found)
    (λ fails. cond-false _ front (lookup test pairs) fails
    ∙ lookup-take test count pairs kept (sym (cond-false _ front (lookup test (take count pairs)) fails) ∙ found))

-- the entries of the first pairs are entries of all pairs
pub IsPartOf-take : (count : ℕ) (pairs : Pairs) → IsPartOf (entries_in (take count pairs)) (entries_in pairs)
IsPartOf-take count pairs asked kept found =
    get-entries_in pairs asked
    ∙ lookup-take (key_eq asked) count pairs kept (sym (get-entries_in (take count pairs) asked) ∙ found)

module _ (cache : LruCache MemoKey StoredResult) (asked : MemoKey) (kept : StoredResult) where
  -- the pairs after storing, if the lookup returns o
  abbrev after : Option (MemoKey × StoredResult) → Pairs
  after o =
      option_map_or (λ e. (e.0, kept) ∷ remove_entry (key_eq asked) cache.entries) o
      ((asked, kept) ∷ take (cache.cap - 1) cache.entries)

  abbrev with_pair : MemoKey → Option StoredResult
  with_pair other = cond (key_eq other asked) (Some kept) (lookup (key_eq other) cache.entries)

  after_replaced : (pair : MemoKey × StoredResult) → lookup_entry (key_eq asked) cache.entries ≡ Some pair → (other : MemoKey)
      → lookup (key_eq other) (after (Some pair)) ≡ with_pair other
  after_replaced pair is other =
      lookup-in_front asked pair.0 other kept cache.entries
      (Contains-lookup_entry (key_eq asked) cache.entries pair is).1

  -- each entry was there, or was stored
  part-cases : (o : Option (MemoKey × StoredResult)) → lookup_entry (key_eq asked) cache.entries ≡ o → (other : MemoKey) (seen : StoredResult)
      → lookup (key_eq other) (after o) ≡ Some seen → with_pair other ≡ Some seen
  part-cases None is other seen found =
      let front = Some kept in
      let rest = lookup (key_eq other) cache.entries in
      let cut = lookup (key_eq other) (take (cache.cap - 1) cache.entries) in
      by_answer (key_eq other asked)
      (λ same. cond-true _ front rest same ∙ sym (cond-true _ front cut same) ∙ found)
      (λ differs. cond-false _ front rest differs
      ∙ lookup-take (key_eq other) (cache.cap - 1) cache.entries seen (sym (cond-false _ front cut differs) ∙ found))
  part-cases (Some pair) is other seen found = sym (after_replaced pair is other) ∙ found

  pub IsPartOf-put_entries
      : IsPartOf (entries_in (put_entries key_eq cache asked kept)) (map.insert (entries_in cache.entries) asked kept)
  IsPartOf-put_entries other seen found =
      get-inserted cache.entries asked kept other
      ∙ part-cases (lookup_entry (key_eq asked) cache.entries) refl other seen
      (sym (get-entries_in (put_entries key_eq cache asked kept) other) ∙ found)

  front-cases : (o : Option (MemoKey × StoredResult)) → lookup_entry (key_eq asked) cache.entries ≡ o
      → lookup (key_eq asked) (after o) ≡ Some kept
  front-cases None is = found_first (asked, kept) (take (cache.cap - 1) cache.entries)
  front-cases (Some pair) is =
      after_replaced pair is asked
      ∙ cond-true _ (Some kept) (lookup (key_eq asked) cache.entries) (key_eq-IsEquivalence.refl asked)

  pub get-put_entries : map.get (entries_in (put_entries key_eq cache asked kept)) asked ≡ Some kept
  get-put_entries =
      get-entries_in (put_entries key_eq cache asked kept) asked
      ∙ front-cases (lookup_entry (key_eq asked) cache.entries) refl

  -- the cache isn't full, or the call has an entry
  abbrev pub HasRoom : Type 0
  HasRoom = (length cache.entries < cache.cap) ⊎ IsSome (lookup (key_eq asked) cache.entries)

  capacity-cases : (o : Option (MemoKey × StoredResult)) → lookup_entry (key_eq asked) cache.entries ≡ o → HasRoom → (other : MemoKey)
      → lookup (key_eq other) (after o) ≡ with_pair other
  capacity-cases None is (inl short) other =
      let whole : length cache.entries ≤ cache.cap - 1 = omega arith in
      ap (λ l. cond (key_eq other asked) (Some kept) (lookup (key_eq other) l))
      (take_all (cache.cap - 1) cache.entries whole)
  capacity-cases None is (inr stored) other =
      let missed : lookup (key_eq asked) cache.entries ≡ None =
      sym (lookup-lookup_entry (key_eq asked) cache.entries) ∙ ap (option_map (λ e. e.1)) is in
      let answer : false ≡ true = sym (ap is_some missed) ∙ stored in
      cc
  capacity-cases (Some pair) is capacity other = after_replaced pair is other

  pub entries_in-put_entries : HasRoom
      → entries_in (put_entries key_eq cache asked kept) ≡ map.insert (entries_in cache.entries) asked kept
  entries_in-put_entries capacity =
      same_held (put_entries key_eq cache asked kept) (map.insert (entries_in cache.entries) asked kept)
      (λ other. capacity-cases (lookup_entry (key_eq asked) cache.entries) refl capacity other
      ∙ sym (get-inserted cache.entries asked kept other))
