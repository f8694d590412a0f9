use Rattle.std.proofs.Common.{ap, sym}
use Rattle.peg_memo.specs.Memo.{memo}
use Rattle.peg_memo.specs.Stored.{stored_in}
use Rattle.peg_memo.specs.MemoKey.{MemoKey, key_eq}
use Rattle.peg_memo.proofs.Mapped.{promoted-read}
use Rattle.peg_memo.proofs.lru_memo.LruMemo.promote.Goals as goal

pub returns : goal.returns
returns c =
    let asked : MemoKey = (c.args.rule, c.args.position) in
    let inside = c.self.inside in
    rw (c.promote.ensures.entries, ← c.self.view_is)
    (ap (λ pairs. memo pairs inside.cache.cap inside.allocation_failed)
    (sym (promoted-read stored_in (key_eq asked) inside.cache.entries)))
