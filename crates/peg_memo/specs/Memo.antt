-- The model of an LRU memo in contracts.
use Rattle.std.specs.Prelude.{ℕ, Bool, true, false, List}
use Rattle.lru.specs.LruCache.{lru_cache, put_entries}
use Rattle.peg_memo.specs.StoredResult.{StoredResult}
use Rattle.peg_memo.specs.MemoKey.{MemoKey, key_eq}

-- the entries, the most recently used first; the capacity; and whether an allocation has failed
pub record Memo : Type 0 where
  pub pairs : List (MemoKey × StoredResult)
  pub capacity : ℕ
  pub allocation_failed : Bool

abbrev pub memo : List (MemoKey × StoredResult) → ℕ → Bool → Memo
memo pairs capacity allocation_failed = record { pairs = pairs; capacity = capacity; allocation_failed = allocation_failed }

-- The memo after `keep`. If it returned true, the result is the first entry and replaces one of the same call. If the
-- call had no entry and the memo was full, the last entry is evicted. If `keep` returned false, an allocation failed.
abbrev pub after_keep : Bool → Memo → MemoKey → StoredResult → Memo
after_keep true old asked kept =
    memo (put_entries key_eq (lru_cache old.pairs old.capacity) asked kept) old.capacity old.allocation_failed
after_keep false old asked kept = memo old.pairs old.capacity true
