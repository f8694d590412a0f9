use Rattle.std.proofs.Common.{◌<◌, length, arith}
use Rattle.peg_nodes.proofs.FlatLemmas.{flat_more}
use Rattle.peg_nodes.proofs.linked_nodes.flatten_places.Goals as goal

pub loop-open-preserved : goal.loop-open-preserved
loop-open-preserved c =
    let within : c.loop-open.open-index < length c.loop-open.open-items =
    omega (arith, c.loop-open.auto.open-items, c.loop-open-test.true) in
    flat_more c.args.opened.now.items c.loop-open.open-items c.loop-open.open-index (record { item = 0; before = 0 })
    c.loop-open.invariant within
