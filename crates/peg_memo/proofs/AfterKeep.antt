-- The entries of a memo after `keep`.
use Rattle.std.proofs.Common.{◌≡◌, ◌<◌, ◌⊎◌, inl, inr, Bool, true, false, Some, is_some, sym, ap, ◌∙◌, arith}
use Rattle.std.specs.Bool.{IsTrue, if◌then◌else◌}
use Rattle.std.specs.FinMap as map
use Rattle.std.specs.List.{IsDistinct}
use Rattle.std.specs.Map.{keys_of}
use Rattle.lru.specs.LruCache.{lru_cache}
use Rattle.peg_memo.specs.MemoMap.{IsPartOf, entries_in}
use Rattle.peg_memo.specs.StoredResult.{StoredResult}
use Rattle.peg_memo.specs.Memo.{Memo, after_keep}
use Rattle.peg_memo.specs.MemoKey.{MemoKey, key_eq}
use Rattle.peg_memo.proofs.HeldPairs.{get-entries_in, len-entries_in, IsPartOf-put_entries, get-put_entries, entries_in-put_entries, HasRoom}

module _ (old : Memo) (asked : MemoKey) (kept : StoredResult) where
  pub IsPartOf-after_keep : (done : Bool)
      → IsPartOf (entries_in (after_keep done old asked kept).pairs)
      (if done then map.insert (entries_in old.pairs) asked kept else entries_in old.pairs)
  IsPartOf-after_keep true = IsPartOf-put_entries (lru_cache old.pairs old.capacity) asked kept
  IsPartOf-after_keep false = λ other seen found. found

  pub get-after_keep : (done : Bool) → IsTrue done
      → map.get (entries_in (after_keep done old asked kept).pairs) asked ≡ Some kept
  get-after_keep true is = get-put_entries (lru_cache old.pairs old.capacity) asked kept
  get-after_keep false is = cc

  room_for : IsDistinct key_eq (keys_of old.pairs)
      → (map.len (entries_in old.pairs) < old.capacity) ⊎ IsTrue (map.contains_key (entries_in old.pairs) asked)
      → HasRoom (lru_cache old.pairs old.capacity) asked kept
  room_for distinct (inl short) = let same = len-entries_in old.pairs distinct in inl (omega arith)
  room_for distinct (inr stored) = inr (sym (ap is_some (get-entries_in old.pairs asked)) ∙ stored)

  pub entries_in-after_keep : (done : Bool) → IsDistinct key_eq (keys_of old.pairs)
      → (after_keep done old asked kept).allocation_failed ≡ false
      → (map.len (entries_in old.pairs) < old.capacity) ⊎ IsTrue (map.contains_key (entries_in old.pairs) asked)
      → entries_in (after_keep done old asked kept).pairs ≡ map.insert (entries_in old.pairs) asked kept
  entries_in-after_keep true distinct given capacity =
      entries_in-put_entries (lru_cache old.pairs old.capacity) asked kept (room_for distinct capacity)
  entries_in-after_keep false distinct given capacity = cc
