use Rattle.std.proofs.Common.{ap, ◌∙◌}
use Rattle.std.specs.FinMap as map
use Rattle.peg_memo.specs.MemoMap.{entries_in}
use Rattle.peg_memo.specs.StoredResult.{StoredResult}
use Rattle.peg_memo.specs.MemoKey.{key_cmp}
use Rattle.peg_memo.proofs.HeldPairs.{no_pairs}
use Rattle.peg_memo.proofs.lru_memo.LruMemoKeep.is_empty.Goals as goal

pub returns-clause-entries : goal.returns-clause-entries
returns-clause-entries c = (
  λ empty. ap (λ pairs. map.len (entries_in pairs)) (c.has_no_entries.ensures.0 empty) ∙ map.len-empty key_cmp StoredResult,
  λ none. c.has_no_entries.ensures.1 (no_pairs c.args.self.now.pairs none),
)
