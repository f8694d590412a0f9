use Rattle.peg_memo.specs.StoredResult.{stored_of}
use Rattle.peg_memo.specs.MemoKey.{MemoKey}
use Rattle.peg_memo.proofs.AfterKeep.{IsPartOf-after_keep, get-after_keep, entries_in-after_keep}
use Rattle.peg_memo.proofs.lru_memo.LruMemoKeep.keep.Goals as goal

pub returns-clause-part : goal.returns-clause-part
returns-clause-part c =
    let asked : MemoKey = (c.args.rule, c.args.position) in
    rw c.store.ensures.memo (IsPartOf-after_keep c.args.self.now asked (stored_of c.args.found) c.store.result)

pub returns-clause-kept : goal.returns-clause-kept
returns-clause-kept c =
    let asked : MemoKey = (c.args.rule, c.args.position) in
    rw c.store.ensures.memo (get-after_keep c.args.self.now asked (stored_of c.args.found) c.store.result)

pub returns-clause-all : goal.returns-clause-all
returns-clause-all c = λ _.
    let asked : MemoKey = (c.args.rule, c.args.position) in
    rw c.store.ensures.memo
    (entries_in-after_keep c.args.self.now asked (stored_of c.args.found) c.store.result c.store.ensures.distinct)
