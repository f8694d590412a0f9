use Rattle.std.proofs.Common.{arith}
use Rattle.peg_diagnostics.proofs.NumberLoops.{no_deeper, terminals-drop}
use Rattle.peg_diagnostics.proofs.terminals.+count.Goals as goal

pub count_all_terminals-count_terminals-all-requires : goal.count_all_terminals-count_terminals-all-requires
count_all_terminals-count_terminals-all-requires t c =
    let deep = no_deeper c.args.items.now c.loop-item.item-index c.item-item.result (omega arith) c.item-item.is in
    let step = terminals-drop c.args.items.now c.loop-item.item-index c.item-item.result (omega arith) c.item-item.is in
    (omega arith, omega arith)

pub count_all_terminals-overflow_add-all : goal.count_all_terminals-overflow_add-all
count_all_terminals-overflow_add-all t c =
    let step = terminals-drop c.args.items.now c.loop-item.item-index c.item-item.result (omega arith) c.item-item.is in
    omega arith

pub count_all_terminals-loop-item-preserved : goal.count_all_terminals-loop-item-preserved
count_all_terminals-loop-item-preserved t c =
    let step = terminals-drop c.args.items.now c.loop-item.item-index c.item-item.result (omega arith) c.item-item.is in
    omega arith
