use Rattle.std.proofs.Common.{◌≡◌, ℕ, ◌+◌, ◌<◌, ◌≤◌, List, map, length, get_or, drop, sym, ap, subst, arith}
use denote.Param.Weighed.{most, at_most}
use Rattle.peg_semantics.specs.Form.{forms, terminals, terminals_of_all}
use Rattle.peg_grammar.specs.Written.{form_of}
use Rattle.peg_grammar.specs.declared.expr.Expr.{Expr}
use Rattle.peg_grammar.proofs.LoopLemmas.{forms-drop}
use Rattle.peg_grammar.proofs.expr.Expr.TheLaws.{the_size}
use Rattle.peg_grammar.proofs.terminals.+count.Goals as goal

-- an item is no deeper than the deepest item
no_deeper : (items : List Expr) (i : ℕ) (item : Expr) → i < length items → item ≡ get_or items i item
    → the_size item ≤ most the_size items
no_deeper items i item h e = subst (λ x. the_size x ≤ most the_size items) (sym e) (at_most the_size items i item h)

-- the terminals from index i on are those of that item and of the items after it
terminals-drop : (items : List Expr) (i : ℕ) (item : Expr) → i < length items → item ≡ get_or items i item
    → terminals_of_all (forms (drop i (map form_of items)))
    ≡ terminals (form_of item) + terminals_of_all (forms (drop (i + 1) (map form_of items)))
terminals-drop items i item h e = ap terminals_of_all (forms-drop form_of items i item h e)

pub terminal_count_of_all-terminal_count-all-requires : goal.terminal_count_of_all-terminal_count-all-requires
terminal_count_of_all-terminal_count-all-requires t c =
    let deep = no_deeper c.args.items.now c.loop-item.item-index c.item-item.result (omega arith) c.item-item.is in
    let step = terminals-drop c.args.items.now c.loop-item.item-index c.item-item.result (omega arith) c.item-item.is in
    (omega arith, omega arith)

pub terminal_count_of_all-overflow_add-all : goal.terminal_count_of_all-overflow_add-all
terminal_count_of_all-overflow_add-all t c =
    let step = terminals-drop c.args.items.now c.loop-item.item-index c.item-item.result (omega arith) c.item-item.is in
    omega arith

pub terminal_count_of_all-loop-item-preserved : goal.terminal_count_of_all-loop-item-preserved
terminal_count_of_all-loop-item-preserved t c =
    let step = terminals-drop c.args.items.now c.loop-item.item-index c.item-item.result (omega arith) c.item-item.is in
    omega arith
