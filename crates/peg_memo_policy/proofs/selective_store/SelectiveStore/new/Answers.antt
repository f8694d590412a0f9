use Rattle.std.proofs.Common.{ap, ◌∙◌}
use Rattle.std.specs.FinMap as map
use Rattle.peg_memo.specs.MemoKey.{key_cmp}
use Rattle.peg_memo.specs.MemoMap.{entries_in}
use Rattle.peg_memo.specs.StoredResult.{StoredResult}
use Rattle.peg_memo_policy.specs.LinkedResults.{linked_pairs}
use Rattle.peg_memo_policy.proofs.LinkedLemmas.{Entries}
use Rattle.peg_memo_policy.proofs.selective_store.SelectiveStore.new.Goals as goal

pub returns-clause-memo : goal.returns-clause-memo
returns-clause-memo c =
    ap (λ (entries : Entries). map.len (entries_in (linked_pairs c.new.result entries))) c.in_ok-new.ensures
    ∙ map.len-empty key_cmp StoredResult
