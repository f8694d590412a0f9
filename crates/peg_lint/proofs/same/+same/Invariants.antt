use Rattle.std.proofs.Common.{◌≡◌, map, drop}
use Rattle.peg_grammar.specs.Written.{form_of}
use Rattle.peg_semantics.specs.Form.{forms}
use Rattle.peg_lint.specs.WithoutExtents.{all_without_extents}
use Rattle.peg_lint.proofs.same.+same.Given as goal

-- if the remaining expressions are the same, so are all
abbrev pub invariant-are_same-loop-index : goal.invariant-are_same-loop-index
invariant-are_same-loop-index l =
    all_without_extents (forms (drop l.index (map form_of l.ones)))
    ≡ all_without_extents (forms (drop l.index (map form_of l.others)))
    → all_without_extents (forms (map form_of l.ones)) ≡ all_without_extents (forms (map form_of l.others))
