use Rattle.std.proofs.Common.{◌≡◌, ◌+◌, ◌++◌, drop, map}
use Rattle.peg_diagnostics.specs.Marked.{alternatives_of_all, alternatives_of_each}
use Rattle.peg_diagnostics.proofs.MarkLoops.{marked_list, marked_each}
use Rattle.peg_grammar.specs.Written.{form_of}
use Rattle.peg_semantics.specs.Form.{forms}
use Rattle.peg_diagnostics.proofs.marking.+mark.Given as goal

-- the copies so far and the remaining items marked are all items marked
abbrev pub invariant-marked_items-loop-item : goal.invariant-marked_items-loop-item
invariant-marked_items-loop-item l = record {
  copies : map form_of l.copies.items ++ marked_list l.next (drop l.item-index (map form_of l.items))
      ≡ marked_list l.initial.next (map form_of l.items);
  counted : l.next + alternatives_of_all (forms (drop l.item-index (map form_of l.items)))
      ≡ l.initial.next + alternatives_of_all (forms (map form_of l.items));
}

abbrev pub invariant-marked_alternatives-loop-item : goal.invariant-marked_alternatives-loop-item
invariant-marked_alternatives-loop-item l = record {
  copies : map form_of l.copies.items ++ marked_each l.next (drop l.item-index (map form_of l.items))
      ≡ marked_each l.initial.next (map form_of l.items);
  counted : l.next + alternatives_of_each (forms (drop l.item-index (map form_of l.items)))
      ≡ l.initial.next + alternatives_of_each (forms (map form_of l.items));
}
