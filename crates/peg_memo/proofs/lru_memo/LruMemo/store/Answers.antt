use Rattle.peg_memo.specs.Stored.{stored_in}
use Rattle.peg_memo.proofs.Mapped.{keys_of-read}
use Rattle.peg_memo.proofs.lru_memo.LruMemo.store.Goals as goal

pub returns-then-not-kept-clause-distinct : goal.returns-then-not-kept-clause-distinct
returns-then-not-kept-clause-distinct c =
    rw (← c.self.view_is, keys_of-read stored_in c.self.inside.cache.entries) c.len.ensures.valid.0

pub returns-else-not-kept-clause-distinct : goal.returns-else-not-kept-clause-distinct
returns-else-not-kept-clause-distinct c =
    rw (← c.self.view_is, keys_of-read stored_in c.self.inside.cache.entries) c.len.ensures.valid.0
