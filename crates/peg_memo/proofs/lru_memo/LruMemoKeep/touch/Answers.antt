use Rattle.peg_memo.proofs.HeldPairs.{entries_in-promoted}
use Rattle.peg_memo.proofs.lru_memo.LruMemoKeep.touch.Goals as goal

pub returns-clause-part : goal.returns-clause-part
returns-clause-part c = rw c.promote.ensures
    (λ asked kept found. rw entries_in-promoted at found)

pub returns-clause-same : goal.returns-clause-same
returns-clause-same c = λ _. rw c.promote.ensures (entries_in-promoted (c.args.rule, c.args.position) c.args.self.now.pairs)
