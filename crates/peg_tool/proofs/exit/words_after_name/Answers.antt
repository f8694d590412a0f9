use Rattle.std.proofs.Common.{◌≡◌, length, refl, subst, sym, arith}
use Rattle.std.specs.Vec.Iter.{into_iter_items, into_iter_len, into_iter_steps}
use Rattle.std.proofs.lemmas.Iterator.{YieldsList, items_from_collect}
use Rattle.std.proofs.lemmas.Iterator.Adapters.{YieldsList-from_skip, YieldsList-from_vec}
use Rattle.peg_tool.proofs.exit.words_after_name.Goals as goal

pub returns : goal.returns
returns c =
    let all = into_iter_items c.args.args in
    let len : into_iter_len c.args.args ≡ length all = omega (arith, c.args.args.rest.ok.0) in
    let after = YieldsList-from_skip 1 (subst (λ s. YieldsList into_iter_steps (λ y. y) s all) (sym c.skip.ensures.source)
    (YieldsList-from_vec all refl len)) c.skip.ensures.count in
    items_from_collect c.collect.result c.collect.ensures.ran after
