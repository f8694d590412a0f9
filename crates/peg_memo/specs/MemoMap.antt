-- The entries of a memo, as a finite map.
use Rattle.std.specs.Prelude.{◌≡◌, List, Some}
use Rattle.std.specs.FinMap as map
use Rattle.peg_memo.specs.StoredResult.{StoredResult}
use Rattle.peg_memo.specs.MemoKey.{MemoKey, key_cmp}

-- a map from calls to their results
abbrev pub MemoMap : Type 0
MemoMap = map.FinMap key_cmp StoredResult

-- each entry of the first is an entry of the second
abbrev pub IsPartOf : MemoMap → MemoMap → Type 0
IsPartOf part whole = (asked : MemoKey) (kept : StoredResult) → map.get part asked ≡ Some kept
    → map.get whole asked ≡ Some kept

-- the map of these pairs
abbrev pub entries_in : List (MemoKey × StoredResult) → MemoMap
entries_in pairs = map.from_entries pairs
