-- The entries of a map from calls after an insertion, and how many calls a map can hold.
use Rattle.std.proofs.Common.{◌≡◌, ◌≢◌, ℕ, suc, ◌+◌, ◌*◌, ◌<◌, ◌≤◌, ◌⊎◌, inl, inr, ⊎_elim, T, Bool, true, false, List, [], ◌∷◌, length, Option, Some, None, IsTrue, is_some, Ordering, Less, Equal, Greater, is_eq, is_lt, refl, sym, ap, subst, ◌∙◌, zero-le, mul_comm, arith}
use Rattle.std.proofs.lemmas.Bool.{cases_Bool, cond-true, cond-false, false_from_ne_true, and_parts}
use Rattle.std.proofs.lemmas.Map.Views.{tells_apart}
use Rattle.std.proofs.lemmas.Nat.{mul-add-lt}
use Rattle.std.specs.Cmp.{tied_itself, ranked}
use Rattle.std.specs.FinMap as map
use Rattle.std.specs.FinMap.Entries.{below_all, is_sorted}
use Rattle.std.specs.Ordering.{nat_cmp, eq_by_cmp, ordering_then}
use Rattle.peg_memo.specs.MemoMap.{MemoMap}
use Rattle.peg_memo.specs.StoredResult.{StoredResult, StoredFailure}
use Rattle.peg_memo.specs.MemoKey.{MemoKey, key_cmp}
use Rattle.peg_memo.proofs.KeyOrder.{key_cmp-IsTotalOrder, key_cmp-IsAntisymmetric}

-- the order makes a call equal to itself
tied : (a b : MemoKey) → a ≡ b → eq_by_cmp key_cmp a b ≡ true
tied a b same = subst (λ c. eq_by_cmp key_cmp a c ≡ true) same (ap is_eq (tied_itself key_cmp-IsTotalOrder a))

-- and different from each other call
untied : (a b : MemoKey) → a ≢ b → eq_by_cmp key_cmp a b ≡ false
untied a b differ = false_from_ne_true _ (λ is. differ (tells_apart key_cmp-IsAntisymmetric a b is))

-- two calls are the same, or they differ
pub same_or_other : (a b : MemoKey) → (a ≡ b) ⊎ (a ≢ b)
same_or_other a b =
    ⊎_elim (λ is. inl (tells_apart key_cmp-IsAntisymmetric a b is))
    (λ is. inr (λ same. let answer = tied a b same in cc)) (cases_Bool (eq_by_cmp key_cmp a b))

-- an inserted result is found
pub get_inserted : (stored : MemoMap) (asked : MemoKey) (kept : StoredResult)
    → map.get (map.insert stored asked kept) asked ≡ Some kept
get_inserted stored asked kept =
    map.get-insert key_cmp-IsTotalOrder stored asked kept asked
    ∙ cond-true _ (Some kept) (map.get stored asked) (tied asked asked refl)

-- the entries of other calls are the same as before
pub get_other : (stored : MemoMap) (asked other : MemoKey) (kept : StoredResult) → other ≢ asked
    → map.get (map.insert stored asked kept) other ≡ map.get stored other
get_other stored asked other kept differs =
    map.get-insert key_cmp-IsTotalOrder stored asked kept other
    ∙ cond-false _ (Some kept) (map.get stored other) (untied other asked differs)

-- the result that is found for an inserted call is the inserted one
found_there : (stored : MemoMap) (asked other : MemoKey) (kept found : StoredResult) → other ≡ asked
    → map.get (map.insert stored asked kept) other ≡ Some found → found ≡ kept
found_there stored asked other kept found same is =
    let there = get_inserted stored asked kept in
    let here = ap (map.get (map.insert stored asked kept)) same in
    cc

-- each entry was inserted, or was there before
pub found_after : (stored : MemoMap) (asked other : MemoKey) (kept found : StoredResult)
    → map.get (map.insert stored asked kept) other ≡ Some found
    → ((other ≡ asked) × (found ≡ kept)) ⊎ (map.get stored other ≡ Some found)
found_after stored asked other kept found is =
    ⊎_elim
    (λ same. inl (same, found_there stored asked other kept found same is))
    (λ differs. inr (sym (get_other stored asked other kept differs) ∙ is))
    (same_or_other other asked)

-- an empty map has no entries
pub none_in_empty : (stored : MemoMap) (asked : MemoKey) → map.len stored ≡ 0 → map.get stored asked ≡ None
none_in_empty stored asked none =
    ap (λ m. map.get m asked) (map.empty_of_len stored none) ∙ map.get-empty key_cmp asked

-- an option is Some or None
some_or_none : {A : Type 0} (o : Option A) → IsTrue (is_some o) ⊎ (o ≡ None)
some_or_none None = inr refl
some_or_none (Some x) = inl refl

-- the value of a Some
what_is_some : {A : Type 0} (o : Option A) → IsTrue (is_some o) → (x : A) × (o ≡ Some x)
what_is_some None is = cc
what_is_some (Some x) is = (x, refl)

-- a call has an entry, or none is found
pub contains_or_not : (stored : MemoMap) (asked : MemoKey) → IsTrue (map.contains_key stored asked) ⊎ (map.get stored asked ≡ None)
contains_or_not stored asked = some_or_none (map.get stored asked)

-- the entry of a call that has one
pub contained : (stored : MemoMap) (asked : MemoKey) → IsTrue (map.contains_key stored asked)
    → (kept : StoredResult) × (map.get stored asked ≡ Some kept)
contained stored asked is = what_is_some (map.get stored asked) is

-- a call with a result has an entry
pub contains_found : (stored : MemoMap) (asked : MemoKey) (kept : StoredResult) → map.get stored asked ≡ Some kept
    → IsTrue (map.contains_key stored asked)
contains_found stored asked kept found = ap is_some found

-- ---- the number of entries

-- a lexicographic order is less if its first part is less, or the first parts tie and the second is less
less_parts : (first second : Ordering) → ordering_then first second ≡ Less
    → (first ≡ Less) ⊎ ((first ≡ Equal) × (second ≡ Less))
less_parts Less second is = inl refl
less_parts Equal second is = inr (refl, is)
less_parts Greater second is = cc

-- an ordering that passes the test for less is Less
is_less : (o : Ordering) → is_lt o ≡ true → o ≡ Less
is_less Less is = refl
is_less Equal is = cc
is_less Greater is = cc

-- a test that holds is true
is_true : (b : Bool) → T b → b ≡ true
is_true true holds = refl
is_true false holds = absurd holds

-- a call below each pair is below each call found among them
below_found : (first other : MemoKey) (kept : StoredResult) (pairs : List (MemoKey × StoredResult)) → below_all key_cmp first pairs ≡ true
    → map.find key_cmp other pairs ≡ Some kept → key_cmp first other ≡ Less
below_found first other kept [] below found = cc
below_found first other kept (pair ∷ pairs) below found =
    let parts = and_parts (is_lt (key_cmp first pair.0)) (below_all key_cmp first pairs) below in
    ⊎_elim
    (λ is. ap (key_cmp first) (tells_apart key_cmp-IsAntisymmetric other pair.0 is)
    ∙ is_less (key_cmp first pair.0) parts.0)
    (λ is. below_found first other kept pairs parts.1
    (sym (cond-false _ (Some pair.1) (map.find key_cmp other pairs) is) ∙ found))
    (cases_Bool (eq_by_cmp key_cmp other pair.0))

-- the first pair is found
found_first : (pair : MemoKey × StoredResult) (pairs : List (MemoKey × StoredResult))
    → map.find key_cmp pair.0 (pair ∷ pairs) ≡ Some pair.1
found_first pair pairs = cond-true _ (Some pair.1) (map.find key_cmp pair.0 pairs) (tied pair.0 pair.0 refl)

-- a call that is found is still found with one more pair in front
found_later : (pair : MemoKey × StoredResult) (pairs : List (MemoKey × StoredResult)) (other : MemoKey) (kept : StoredResult)
    → map.find key_cmp other pairs ≡ Some kept
    → (seen : StoredResult) × (map.find key_cmp other (pair ∷ pairs) ≡ Some seen)
found_later pair pairs other kept found =
    ⊎_elim
    (λ is. (pair.1, cond-true _ (Some pair.1) (map.find key_cmp other pairs) is))
    (λ is. (kept, cond-false _ (Some pair.1) (map.find key_cmp other pairs) is ∙ found))
    (cases_Bool (eq_by_cmp key_cmp other pair.0))

module _ (rules places : ℕ) where
  -- a call of one of the rules at one of the positions
  abbrev IsWithin : MemoKey → Type 0
  IsWithin asked = (asked.0 < rules) × (asked.1 < places)

  -- each call that is found among the pairs is one of these
  abbrev AreWithin : List (MemoKey × StoredResult) → Type 0
  AreWithin pairs = (other : MemoKey) (kept : StoredResult) → map.find key_cmp other pairs ≡ Some kept → IsWithin other

  -- the number of a call, counted rule by rule
  abbrev number : MemoKey → ℕ
  number asked = asked.0 * places + asked.1

  -- each number is below the number of all calls
  number-lt : (asked : MemoKey) → IsWithin asked → number asked < rules * places
  number-lt asked within =
      let low = mul-add-lt asked.0 places asked.1 rules within.0 within.1 in
      omega (arith, mul_comm rules places)

  -- a call of a smaller rule has the smaller number
  rule-rises : (a b : MemoKey) → a.1 < places → a.0 < b.0 → number a < number b
  rule-rises a b within lower =
      let row = mul-add-lt a.0 places a.1 b.0 lower within in
      omega (arith, mul_comm b.0 places)

  -- and so has a call of the same rule at a smaller position
  place-rises : (a b : MemoKey) → a.0 ≡ b.0 → a.1 < b.1 → number a < number b
  place-rises a b same lower = omega (arith, ap (λ n. n * places) same)

  -- a call that is less than another has the smaller number
  number-rises : (a b : MemoKey) → a.1 < places → key_cmp a b ≡ Less → number a < number b
  number-rises a b within less =
      ⊎_elim
      (λ is. rule-rises a b within (ranked a.0 b.0 Less (sym is)))
      (λ is. place-rises a b (ranked a.0 b.0 Equal (sym is.0)) (ranked a.1 b.1 Less (sym is.1)))
      (less_parts (nat_cmp a.0 b.0) (nat_cmp a.1 b.1) less)

  -- sorted pairs are at most as many as the numbers from the least of theirs on
  length-pairs : (low : ℕ) (pairs : List (MemoKey × StoredResult)) → low ≤ rules * places → is_sorted key_cmp pairs ≡ true
      → AreWithin pairs
      → ((other : MemoKey) (kept : StoredResult) → map.find key_cmp other pairs ≡ Some kept → low ≤ number other)
      → low + length pairs ≤ rules * places
  length-pairs low [] fits sorted within above = omega arith
  length-pairs low (pair ∷ pairs) fits sorted within above =
      let parts = and_parts (below_all key_cmp pair.0 pairs) (is_sorted key_cmp pairs) sorted in
      let first : IsWithin pair.0 = within pair.0 pair.1 (found_first pair pairs) in
      let from : low ≤ number pair.0 = above pair.0 pair.1 (found_first pair pairs) in
      let rest : suc (number pair.0) + length pairs ≤ rules * places =
      length-pairs (suc (number pair.0)) pairs (number-lt pair.0 first) parts.1
      (λ other kept found. let seen = found_later pair pairs other kept found in within other seen.0 seen.1)
      (λ other kept found.
      number-rises pair.0 other first.1 (below_found pair.0 other kept pairs parts.0 found)) in
      omega arith

  -- there are at most as many entries as calls
  len-le : (stored : MemoMap)
      → ((other : MemoKey) (kept : StoredResult) → map.get stored other ≡ Some kept → IsWithin other)
      → map.len stored ≤ rules * places
  len-le stored within =
      let counted : 0 + length (map.entries stored) ≤ rules * places =
      length-pairs 0 (map.entries stored) zero-le (is_true _ (map.entries_sorted stored))
      (λ other kept found. within other kept (map.get-entries stored other ∙ found)) (λ other kept found. zero-le) in
      omega (arith, map.len-entries stored)

-- if one of the calls has no entry, there are fewer entries than calls
pub fewer_are_held : (stored : MemoMap) (rules places : ℕ) (asked : MemoKey)
    → ((other : MemoKey) (kept : StoredResult) → map.get stored other ≡ Some kept → (other.0 < rules) × (other.1 < places))
    → asked.0 < rules → asked.1 < places → map.get stored asked ≡ None → map.len stored < rules * places
fewer_are_held stored rules places asked within rule position missed =
    let one_more = map.insert stored asked StoredFailure in
    let most : map.len one_more ≤ rules * places =
    len-le rules places one_more
    (λ other kept found.
    ⊎_elim (λ put. subst (IsWithin rules places) (sym put.0) (rule, position)) (λ before. within other kept before)
    (found_after stored asked other StoredFailure kept found)) in
    let counted : map.len one_more ≡ map.len stored + 1 =
    map.len-insert key_cmp-IsTotalOrder stored asked StoredFailure
    ∙ cond-false _ (map.len stored) (map.len stored + 1) (ap is_some missed) in
    omega arith
