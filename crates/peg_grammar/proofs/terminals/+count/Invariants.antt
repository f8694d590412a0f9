use Rattle.std.proofs.Common.{◌≡◌, ◌+◌, map, drop}
use Rattle.peg_semantics.specs.Form.{forms, terminals_of_all}
use Rattle.peg_grammar.specs.Written.{form_of}
use Rattle.peg_grammar.proofs.terminals.+count.Given as goal

abbrev pub invariant-terminal_count_of_all-loop-item : goal.invariant-terminal_count_of_all-loop-item
invariant-terminal_count_of_all-loop-item l =
    l.all + terminals_of_all (forms (drop l.item-index (map form_of l.items))) ≡ terminals_of_all (forms (map form_of l.items))
