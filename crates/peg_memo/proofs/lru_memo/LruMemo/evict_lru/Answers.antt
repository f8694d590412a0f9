use Rattle.std.proofs.Common.{ℕ, ◌-◌, length, take, Some, ap, sym, ◌∙◌}
use Rattle.std.specs.Option.{option_map}
use Rattle.peg_memo.specs.StoredResult.{StoredResult, stored_node_count}
use Rattle.peg_memo.specs.Memo.{memo}
use Rattle.peg_memo.specs.Stored.{stored_in, pairs_in}
use Rattle.peg_memo.specs.MemoKey.{MemoKey}
use Rattle.peg_memo.proofs.HeldPairs.{IsPartOf-take}
use Rattle.peg_memo.proofs.Mapped.{butlast-read, last_entry-read, read_entry}
use Rattle.peg_memo.proofs.lru_memo.LruMemo.evict_lru.Goals as goal

abbrev rows_of_pair : MemoKey × StoredResult → ℕ
rows_of_pair pair = stored_node_count pair.1

pub returns-clause-memo : goal.returns-clause-memo
returns-clause-memo c =
    let inside = c.self.inside in
    rw (c.pop_lru.ensures.entries, ← c.self.view_is)
    (ap (λ pairs. memo pairs inside.cache.cap inside.allocation_failed) (sym (butlast-read stored_in inside.cache.entries)))

pub returns-clause-rows : goal.returns-clause-rows
returns-clause-rows c =
    let entries = c.self.inside.cache.entries in
    rw (← c.self.view_is)
    (ap Some c.node_count.ensures
    ∙ ap (λ last. option_map rows_of_pair (option_map (read_entry stored_in) last)) c.in_ok-stored.ensures.value
    ∙ ap (option_map rows_of_pair) (sym (last_entry-read stored_in entries)))

pub returns-clause-part : goal.returns-clause-part
returns-clause-part c =
    let entries = c.self.inside.cache.entries in
    let rest = take (length (pairs_in entries) - 1) (pairs_in entries) in
    rw (c.pop_lru.ensures.entries, ← c.self.view_is, ← butlast-read stored_in entries)
    (IsPartOf-take (length (pairs_in entries) - 1) (pairs_in entries))
