-- The entries of a memo while a run is active, and the invariant on them.
use Rattle.std.specs.Prelude.{◌≡◌, ◌≢◌, ◌+◌, ◌*◌, ◌≤◌, Bool, false, List, Some, length}
use Rattle.std.specs.FinMap as map
use Rattle.std.specs.List.{AllPairs}
use Rattle.peg_semantics.specs.Record.{Recognition, Failed, Matched, Record, Test, RuleCall}
use Rattle.peg_memo.specs.MemoMap.{MemoMap}
use Rattle.peg_memo.specs.StoredResult.{StoredResult, StoredFailure, StoredMatch}
pub use Rattle.peg_memo.specs.StoreState.{MemoState, memo_state, IsTouched}
use Rattle.peg_memo.specs.StoreState.{IsOfferedAt}
use Rattle.peg_machine.specs.Packrat.{AreInMemoOrActive}
use Rattle.peg_runs.specs.Running.{RunContext}
use Rattle.peg_runs.specs.ShownRows.{shown_rows, Shown}
use Rattle.peg_runs.specs.PartialRuns.{ActiveCall, MayBeStored}

-- ---- a memo at a moment

-- a memo after the result of a call was offered to it, whether it stored the result or not
abbrev pub IsOffered : (old : MemoState) → RuleCall → StoredResult → (kept : Bool) → (new : MemoState) → Type 0
IsOffered old pair result kept new = IsOfferedAt old (pair.rule, pair.position) result kept new

-- ---- the invariant

-- what a memo stores of a record
abbrev pub stored_result : Shown → Recognition → StoredResult
stored_result shown Failed = StoredFailure
stored_result shown (Matched end trees) = StoredMatch end (shown_rows shown trees)

-- a stored result that is the result of a record that may be stored
pub record IsResultOf (context : RunContext) (tests : List Test) (traced : List RuleCall) (pair : RuleCall)
    (result : StoredResult) : Type 0 where
  pub r : Record
  pub may_be_stored : MayBeStored context tests traced pair r
  pub is : stored_result context.shown r.result ≡ result

-- each entry is such a result
abbrev pub EntriesAreRecords : RunContext → List Test → List RuleCall → MemoMap → Type 0
EntriesAreRecords context tests traced stored =
    (pair : RuleCall) (result : StoredResult) → map.get stored (pair.rule, pair.position) ≡ Some result
    → IsResultOf context tests traced pair result

-- the memo has capacity for each rule at each position of the text, and no allocation failed
pub record HasFullCapacity (context : RunContext) (memo : MemoState) : Type 0 where
  pub capacity : length context.bodies * (length context.text + 1) ≤ memo.capacity
  pub given : memo.allocation_failed ≡ false

-- no pair was traced twice, and each has a memo entry or is active
pub record NoneTwice (traced : List RuleCall) (stored : MemoMap) (stack : List ActiveCall) : Type 0 where
  pub distinct : AllPairs (λ a b. a ≢ b) traced
  pub in_memo_or_active : AreInMemoOrActive stored traced stack
