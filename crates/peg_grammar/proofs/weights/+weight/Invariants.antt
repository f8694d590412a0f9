use Rattle.std.proofs.Common.{◌≡◌, ◌+◌, ◌-◌, ◌^◌, ◌≤◌, drop, map, min}
use Rattle.peg_semantics.specs.Form.{forms, forms_weight}
use Rattle.peg_grammar.specs.Written.{form_of}
use Rattle.peg_grammar.proofs.weights.+weight.Given as goal

-- the weight of the items so far and that of the remaining ones are the weight of all
abbrev pub invariant-items_weight-loop-item : goal.invariant-items_weight-loop-item
invariant-items_weight-loop-item l =
    (min (l.all + forms_weight (forms (map form_of (drop l.item-index l.items)))) (2 ^ 64 - 1)
    ≡ min (forms_weight (forms (map form_of l.items))) (2 ^ 64 - 1)) × (l.all ≤ 2 ^ 64 - 1)
