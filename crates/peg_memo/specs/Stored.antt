-- The results that stored results denote.
use Rattle.std.specs.Prelude.{List, map}
use Rattle.peg_tree.specs.Rows.{row_of}
use Rattle.peg_memo.specs.StoredResult.{StoredResult, StoredFailure, StoredMatch}
use Rattle.peg_memo.specs.MemoKey.{MemoKey}
use Rattle.peg_memo.specs.declared.stored.Stored.{Stored}
use Rattle.peg_memo.specs.declared.stored.Stored.TheVariants.{Failed, Done}

-- the result that a `Stored` denotes
abbrev pub stored_in : Stored → StoredResult
stored_in Failed = StoredFailure
stored_in (Done end nodes) = StoredMatch end (map row_of nodes.items)

-- calls with the results that their stored results denote
abbrev pub pairs_in : List (MemoKey × Stored) → List (MemoKey × StoredResult)
pairs_in entries = map (λ e. (e.0, stored_in e.1)) entries
