use Rattle.std.proofs.Common.{◌≡◌, ◌++◌, drop, map}
use Rattle.peg_diagnostics.specs.ItemKinds.{kind_of}
use Rattle.peg_diagnostics.specs.Items.{item_forms_of_all}
use Rattle.peg_grammar.specs.Written.{form_of}
use Rattle.peg_semantics.specs.Form.{forms}
use Rattle.peg_diagnostics.proofs.kinds.+kinds.Given as goal

-- the kinds so far and those of the remaining expressions are those at the start and those of all expressions
abbrev pub invariant-add_all_kinds-loop-item : goal.invariant-add_all_kinds-loop-item
invariant-add_all_kinds-loop-item l =
    l.kinds.items ++ map kind_of (item_forms_of_all (forms (drop l.item-index (map form_of l.items))))
    ≡ l.initial.kinds.items ++ map kind_of (item_forms_of_all (forms (map form_of l.items)))
