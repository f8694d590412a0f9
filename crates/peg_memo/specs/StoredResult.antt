-- The results that a memo stores.
use Rattle.std.specs.Prelude.{ℕ, List, length, map}
use Rattle.peg_tree.specs.Rows.{Row, row_of}
use Rattle.peg_memo.specs.declared.found.Found.{Found}
use Rattle.peg_memo.specs.declared.found.Found.TheVariants.{Failed, Done}

-- a call failed, or it matched up to an end with the nodes of its tree
pub data StoredResult : Type 0 where
  StoredFailure : StoredResult
  StoredMatch : (end : ℕ) → (rows : List Row) → StoredResult

-- the result that a `Found` denotes
abbrev pub stored_of : Found → StoredResult
stored_of Failed = StoredFailure
stored_of (Done end nodes) = StoredMatch end (map row_of nodes.now)

-- the number of nodes of a result
abbrev pub stored_node_count : StoredResult → ℕ
stored_node_count StoredFailure = 0
stored_node_count (StoredMatch end rows) = length rows
