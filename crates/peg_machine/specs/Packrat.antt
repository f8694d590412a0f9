-- The packrat property: if a memo has an entry for each ended call, and no call with an entry runs its body, no body
-- runs twice at the same position.
use Rattle.std.specs.Prelude.{◌≡◌, ◌⊎◌, List, [], ◌∷◌, Contains, IsTrue}
use Rattle.std.specs.FinMap as map
use Rattle.peg_semantics.specs.Record.{RuleCall}
use Rattle.peg_memo.specs.MemoMap.{MemoMap}
use Rattle.peg_runs.specs.PartialRuns.{ActiveCall}

-- a call of this pair is active
abbrev pub IsOnStack : List ActiveCall → RuleCall → Type 0
IsOnStack [] pair = ⊥
IsOnStack (active ∷ below) pair = (active.frame.pair ≡ pair) ⊎ IsOnStack below pair

-- the memo has an entry for this pair
abbrev pub IsInMemo : MemoMap → RuleCall → Type 0
IsInMemo stored pair = IsTrue (map.contains_key stored (pair.rule, pair.position))

-- each pair traced has a memo entry or is still active
abbrev pub AreInMemoOrActive : MemoMap → (traced : List RuleCall) → (stack : List ActiveCall) → Type 0
AreInMemoOrActive stored traced stack = (pair : RuleCall) → Contains traced pair → IsInMemo stored pair
    ⊎ IsOnStack stack pair
