use Rattle.std.proofs.Common.{ap, sym, ◌∙◌}
use Rattle.lru.specs.LruCache.{lru_cache, put_entries}
use Rattle.peg_memo.specs.Stored.{stored_in, pairs_in}
use Rattle.peg_memo.specs.MemoKey.{key_eq}
use Rattle.peg_memo.proofs.Mapped.{put_entries-read}
use Rattle.peg_memo.proofs.lru_memo.put.Goals as goal

pub returns-clause-ok : goal.returns-clause-ok
returns-clause-ok c =
    let old = c.args.cache.now in
    ap (λ cache. pairs_in cache.entries) c.in_ok-put.ensures.entries
    ∙ sym (put_entries-read stored_in key_eq old c.args.asked c.in_ok-stored.stored)
    ∙ ap (put_entries key_eq (lru_cache (pairs_in old.entries) old.cap) c.args.asked) c.in_ok-stored.ensures
