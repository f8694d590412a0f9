-- Parts of a memo's entries, and pairs without the last one.
use Rattle.std.proofs.Common.{◌≡◌, ℕ, ◌-◌, Bool, true, false, List, [], ◌∷◌, length, slice_get, take, None, sym, ap, ◌∙◌, ⊎_elim, arith}
use Rattle.std.proofs.lemmas.Option.{slice_get-get_or}
use Rattle.std.specs.Bool.{if◌then◌else◌}
use Rattle.std.specs.FinMap as map
use Rattle.std.specs.Option.{option_map}
use Rattle.peg_memo.specs.MemoMap.{MemoMap, IsPartOf, entries_in}
use Rattle.peg_memo.specs.StoredResult.{StoredResult, stored_node_count}
use Rattle.peg_memo.specs.MemoKey.{MemoKey, key_cmp}
use Rattle.peg_memo.proofs.HeldLemmas.{get_inserted, get_other, same_or_other}

-- `IsPartOf` is transitive
pub IsPartOf-trans : (part middle whole : MemoMap) → IsPartOf part middle → IsPartOf middle whole → IsPartOf part whole
IsPartOf-trans part middle whole below above asked stored found = above asked stored (below asked stored found)

-- a part and the whole with the same result stored: the one is still a part of the other
pub IsPartOf-insert : (part whole : MemoMap) (asked : MemoKey) (stored : StoredResult) → IsPartOf part whole
    → IsPartOf (map.insert part asked stored) (map.insert whole asked stored)
IsPartOf-insert part whole asked stored is other seen found =
    ⊎_elim
    (λ same. ap (map.get (map.insert whole asked stored)) same
    ∙ get_inserted whole asked stored
    ∙ sym (get_inserted part asked stored)
    ∙ sym (ap (map.get (map.insert part asked stored)) same)
    ∙ found)
    (λ differs. get_other whole asked other stored differs
    ∙ is other seen (sym (get_other part asked other stored differs) ∙ found))
    (same_or_other other asked)

-- the entries after `keep`, if those before it are part of the old ones
pub IsPartOf-stored : (old middle new : MemoMap) (asked : MemoKey) (stored : StoredResult) (done : Bool) → IsPartOf middle old
    → IsPartOf new (if done then map.insert middle asked stored else middle)
    → IsPartOf new (if done then map.insert old asked stored else old)
IsPartOf-stored old middle new asked stored true part after =
    IsPartOf-trans new (map.insert middle asked stored) (map.insert old asked stored) after
    (IsPartOf-insert middle old asked stored part)
IsPartOf-stored old middle new asked stored false part after = IsPartOf-trans new middle old after part

abbrev rows_of_pair : MemoKey × StoredResult → ℕ
rows_of_pair pair = stored_node_count pair.1

-- pairs without a last one are none, and have no entries
pub no_entries-no_last : (pairs : List (MemoKey × StoredResult)) → option_map rows_of_pair (slice_get pairs (length pairs - 1)) ≡ None
    → map.len (entries_in (take (length pairs - 1) pairs)) ≡ 0
no_entries-no_last [] none = map.len-empty key_cmp StoredResult
no_entries-no_last (pair ∷ pairs) none =
    let there = ap (option_map rows_of_pair)
    (slice_get-get_or (pair ∷ pairs) (length (pair ∷ pairs) - 1) pair (omega arith)) in
    let not = none in
    cc
