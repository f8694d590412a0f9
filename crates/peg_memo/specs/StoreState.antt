-- What a run stores: the nodes so far, and the memo.
use Rattle.std.specs.Prelude.{◌≡◌, ◌-◌, ◌<◌, ◌⊎◌, ◌++◌, ℕ, Bool, false, if◌then◌else◌, IsTrue, List, None, Some}
use Rattle.std.specs.Prelude.{length, set}
use Rattle.std.specs.FinMap as map
use Rattle.peg_memo.specs.MemoKey.{MemoKey}
use Rattle.peg_memo.specs.MemoMap.{MemoMap, IsPartOf}
use Rattle.peg_memo.specs.StoredResult.{StoredResult, StoredFailure, StoredMatch}
use Rattle.peg_memo.specs.declared.node_store.Recalled.{Recalled}
use Rattle.peg_memo.specs.declared.node_store.Recalled.TheVariants.{Nothing, Failed, Matched}
use Rattle.peg_tree.specs.Rows.{Row}

-- ---- a memo at a moment

-- a memo: its entries, its capacity before it may evict one, and whether an allocation failed
pub record MemoState : Type 0 where
  pub entries : MemoMap
  pub capacity : ℕ
  pub allocation_failed : Bool

abbrev pub memo_state : MemoMap → (capacity : ℕ) → (allocation_failed : Bool) → MemoState
memo_state stored capacity allocation_failed = record { entries = stored; capacity = capacity; allocation_failed = allocation_failed }

-- a memo after an entry was marked as used
pub record IsTouched (old new : MemoState) : Type 0 where
  pub part : IsPartOf new.entries old.entries
  pub same : 0 < old.capacity → new.entries ≡ old.entries
  pub capacity : new.capacity ≡ old.capacity
  pub allocation_failed : IsTrue old.allocation_failed → IsTrue new.allocation_failed

-- a memo after the result of a call was offered to it, whether it stored the result or not
pub record IsOfferedAt (old : MemoState) (asked : MemoKey) (result : StoredResult) (kept : Bool) (new : MemoState)
    : Type 0 where
  pub part : IsPartOf new.entries (if kept then map.insert old.entries asked result else old.entries)
  pub all : 0 < old.capacity → new.allocation_failed ≡ false → (map.len old.entries < old.capacity)
      ⊎ IsTrue (map.contains_key old.entries asked)
      → new.entries ≡ map.insert old.entries asked result
  pub capacity : new.capacity ≡ old.capacity
  pub allocation_failed : IsTrue old.allocation_failed → IsTrue new.allocation_failed

-- ---- nodes and memo

-- the nodes so far, those of active calls included, and the memo
pub record StoreState : Type 0 where
  pub nodes : List Row
  pub memo : MemoState

-- with other nodes
abbrev pub with_nodes : StoreState → List Row → StoreState
with_nodes state nodes = record state { nodes = nodes }

-- the nodes with the one at this index closed: it gets its end, and its size counts itself and all nodes after it
abbrev pub closed_at : (at : ℕ) → List Row → (rule start end : ℕ) → List Row
closed_at at nodes rule start end =
    set nodes at (record { rule = rule; start = start; end = end; size = length nodes - at })

-- What a call's entry gives: without one nothing changes, and a memo with capacity has none. After a failure nothing
-- changes either. After a match the stored nodes follow those so far.
abbrev pub Recalls : StoreState → MemoKey → Recalled → StoreState → Type 0
Recalls old asked Nothing new = (new ≡ old) × (0 < old.memo.capacity → map.get old.memo.entries asked ≡ None)
Recalls old asked Failed new = (new ≡ old) × (map.get old.memo.entries asked ≡ Some StoredFailure)
Recalls old asked (Matched end) new =
    (nodes : List Row) × (map.get old.memo.entries asked ≡ Some (StoredMatch end nodes))
    × (new ≡ with_nodes old (old.nodes ++ nodes))
