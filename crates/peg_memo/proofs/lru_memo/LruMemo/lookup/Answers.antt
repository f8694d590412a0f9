use Rattle.std.proofs.Common.{Some, ap, sym, ◌∙◌}
use Rattle.std.specs.Option.{option_map}
use Rattle.peg_memo.specs.Stored.{stored_in}
use Rattle.peg_memo.specs.MemoKey.{MemoKey, key_eq}
use Rattle.peg_memo.proofs.Mapped.{lookup-read}
use Rattle.peg_memo.proofs.lru_memo.LruMemo.lookup.Goals as goal

pub returns-in_err-kept : goal.returns-in_err-kept
returns-in_err-kept c =
    let asked : MemoKey = (c.args.rule, c.args.position) in
    rw (c.from_residual.ensures, ← c.self.view_is)
    (ap (option_map stored_in) c.in_err-kept.ensures
    ∙ sym (lookup-read stored_in (key_eq asked) c.self.inside.cache.entries))

pub returns : goal.returns
returns c =
    let asked : MemoKey = (c.args.rule, c.args.position) in
    rw (← c.self.view_is)
    (ap Some c.as_found.ensures
    ∙ ap (option_map stored_in) c.in_ok-kept.ensures
    ∙ sym (lookup-read stored_in (key_eq asked) c.self.inside.cache.entries))
