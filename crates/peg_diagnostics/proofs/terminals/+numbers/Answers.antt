use Rattle.std.proofs.Common.{◌∙◌, arith}
use Rattle.peg_diagnostics.proofs.NumberLoops.{no_deeper, loud_terminals-drop, numbers-more}
use Rattle.peg_diagnostics.proofs.terminals.+numbers.Goals as goal

pub add_all_numbers-add_numbers-requires : goal.add_all_numbers-add_numbers-requires
add_all_numbers-add_numbers-requires t c =
    let deep = no_deeper c.args.items.now c.loop-item.item-index c.item-item.result (omega arith) c.item-item.is in
    let step = loud_terminals-drop c.args.items.now c.loop-item.item-index c.item-item.result (omega arith)
    c.item-item.is in
    let all = c.loop-item.invariant.counted in
    (omega arith, omega arith)

pub add_all_numbers-loop-item-preserved : goal.add_all_numbers-loop-item-preserved
add_all_numbers-loop-item-preserved t c =
    let step = loud_terminals-drop c.args.items.now c.loop-item.item-index c.item-item.result (omega arith)
    c.item-item.is in
    let counts = c.in_ok-next.ensures.next in
    record {
      numbers =
          numbers-more c.args.items.now c.loop-item.item-index c.item-item.result c.loop-item.numbers.items
          c.add_numbers.new.numbers.items c.loop-item.next c.in_ok-next.next (omega arith) c.item-item.is
          c.in_ok-next.ensures.numbers counts
          ∙ c.loop-item.invariant.numbers;
      counted = omega (arith, step, counts, c.loop-item.invariant.counted);
    }
