use Rattle.std.proofs.Common.{◌++◌, map, sym, ap, ◌∙◌, arith, append-nil}
use Rattle.peg_diagnostics.specs.Marked.{alternatives_of_all, alternatives_of_each, mark}
use Rattle.peg_diagnostics.specs.Operators.{with_part}
use Rattle.peg_diagnostics.proofs.OperatorCopies.{mark-operator}
use Rattle.peg_diagnostics.proofs.WrittenCopies.{IfOk-form}
use Rattle.peg_diagnostics.proofs.MarkLoops.{marked_list, marked_each, forms-marked, forms-each, list-drop_all}
use Rattle.peg_diagnostics.proofs.MarkLoops.{one_more_item, one_more_alternative}
use Rattle.peg_diagnostics.proofs.NumberLoops.{no_deeper}
use Rattle.peg_grammar.specs.Written.{form_of}
use Rattle.peg_grammar.proofs.LoopLemmas.{forms-drop}
use Rattle.peg_semantics.specs.Form.{forms}
use Rattle.peg_diagnostics.proofs.marking.+mark.Goals as goal

-- ---- operators

pub marked_expression-returns-in_ok-copy-in-Optional-clause-marked :
    goal.marked_expression-returns-in_ok-copy-in-Optional-clause-marked
marked_expression-returns-in_ok-copy-in-Optional-clause-marked t c =
    let whole = form_of c.args.expression.now in
    let number = c.args.next.now in
    let copied = c.in_ok-copy-in-Optional.ensures.marked ∙ ap (λ e. mark number (form_of e)) c.deref-in-Optional.ensures in
    IfOk-form c.with_part.result (with_part whole (form_of c.in_ok-copy-in-Optional.copy.value)) (mark number whole)
    (ap (with_part whole) copied ∙ mark-operator c.args.expression.now c.in-Optional.part number c.in-Optional.is)
    c.with_part.ensures

-- ---- the items of a sequence

pub marked_items-marked_expression-requires : goal.marked_items-marked_expression-requires
marked_items-marked_expression-requires t c =
    let deep = no_deeper c.args.items.now c.loop-item.item-index c.item-item.result (omega arith) c.item-item.is in
    let step = ap alternatives_of_all
    (forms-drop form_of c.args.items.now c.loop-item.item-index c.item-item.result (omega arith) c.item-item.is) in
    let all = c.loop-item.invariant.counted in
    (omega arith, omega arith)

pub marked_items-loop-item-preserved : goal.marked_items-loop-item-preserved
marked_items-loop-item-preserved t c =
    let step = ap alternatives_of_all
    (forms-drop form_of c.args.items.now c.loop-item.item-index c.item-item.result (omega arith) c.item-item.is) in
    record {
      copies =
          one_more_item c.args.items.now c.loop-item.item-index c.item-item.result c.in_ok-copy.copy.value
          c.loop-item.copies.items c.add.new.items.items c.loop-item.next c.marked_expression.new.next (omega arith)
          c.item-item.is c.in_ok-add.ensures c.in_ok-copy.ensures.marked c.in_ok-copy.ensures.next
          ∙ c.loop-item.invariant.copies;
      counted = omega (arith, step, c.in_ok-copy.ensures.next, c.loop-item.invariant.counted);
    }

pub marked_items-returns-clause-marked : goal.marked_items-returns-clause-marked
marked_items-returns-clause-marked t c =
    let copies = map form_of c.loop-item.copies.items in
    ap forms
    (sym (append-nil copies)
    ∙ ap (λ l. copies ++ marked_list c.loop-item.next l)
    (sym (list-drop_all c.args.items.now c.loop-item.item-index c.loop-item-test.false))
    ∙ c.loop-item.invariant.copies)
    ∙ forms-marked c.args.next.now (map form_of c.args.items.now)

-- ---- the alternatives of a choice

pub marked_alternatives-marked_alternative-requires : goal.marked_alternatives-marked_alternative-requires
marked_alternatives-marked_alternative-requires t c =
    let deep = no_deeper c.args.items.now c.loop-item.item-index c.item-item.result (omega arith) c.item-item.is in
    let step = ap alternatives_of_each
    (forms-drop form_of c.args.items.now c.loop-item.item-index c.item-item.result (omega arith) c.item-item.is) in
    let all = c.loop-item.invariant.counted in
    (omega arith, omega arith)

pub marked_alternatives-loop-item-preserved : goal.marked_alternatives-loop-item-preserved
marked_alternatives-loop-item-preserved t c =
    let step = ap alternatives_of_each
    (forms-drop form_of c.args.items.now c.loop-item.item-index c.item-item.result (omega arith) c.item-item.is) in
    record {
      copies =
          one_more_alternative c.args.items.now c.loop-item.item-index c.item-item.result
          c.in_ok-copy.copy.value c.loop-item.copies.items c.add.new.items.items c.loop-item.next
          c.marked_alternative.new.next (omega arith) c.item-item.is c.in_ok-add.ensures
          c.in_ok-copy.ensures.marked c.in_ok-copy.ensures.next
          ∙ c.loop-item.invariant.copies;
      counted = omega (arith, step, c.in_ok-copy.ensures.next, c.loop-item.invariant.counted);
    }

pub marked_alternatives-returns-clause-marked : goal.marked_alternatives-returns-clause-marked
marked_alternatives-returns-clause-marked t c =
    let copies = map form_of c.loop-item.copies.items in
    ap forms
    (sym (append-nil copies)
    ∙ ap (λ l. copies ++ marked_each c.loop-item.next l)
    (sym (list-drop_all c.args.items.now c.loop-item.item-index c.loop-item-test.false))
    ∙ c.loop-item.invariant.copies)
    ∙ forms-each c.args.next.now (map form_of c.args.items.now)
