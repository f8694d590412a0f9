use Rattle.std.proofs.Common.{◌≡◌, ◌+◌, map, drop}
use Rattle.peg_semantics.specs.Form.{forms, terminals_of_all}
use Rattle.peg_grammar.specs.Written.{form_of}
use Rattle.peg_diagnostics.proofs.terminals.+count.Given as goal

-- the terminals so far and those of the remaining expressions are those of all expressions
abbrev pub invariant-count_all_terminals-loop-item : goal.invariant-count_all_terminals-loop-item
invariant-count_all_terminals-loop-item l =
    l.all + terminals_of_all (forms (drop l.item-index (map form_of l.items)))
    ≡ terminals_of_all (forms (map form_of l.items))
