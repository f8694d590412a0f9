use Rattle.std.proofs.Common.{◌≡◌, ℕ, ◌+◌, ◌<◌, List, length, map, get_or, drop, sym, ap, ◌∙◌, arith}
use Rattle.peg_grammar.proofs.LoopLemmas.{forms-drop}
use Rattle.peg_grammar.specs.Written.{form_of}
use Rattle.peg_grammar.specs.declared.expr.Expr.{Expr}
use Rattle.peg_semantics.specs.Form.{Then, forms}
use Rattle.peg_lint.specs.WithoutExtents.{all_without_extents, without_extents}
use Rattle.peg_lint.proofs.same.+same.Goals as goal

-- the expressions from an index on are the same if those at it are, and those after it
same_from : (ones others : List Expr) (i : ℕ) (one other : Expr) → i < length ones → i < length others
    → one ≡ get_or ones i one → other ≡ get_or others i other
    → without_extents (form_of one) ≡ without_extents (form_of other)
    → all_without_extents (forms (drop (i + 1) (map form_of ones)))
    ≡ all_without_extents (forms (drop (i + 1) (map form_of others)))
    → all_without_extents (forms (drop i (map form_of ones))) ≡ all_without_extents (forms (drop i (map form_of others)))
same_from ones others i one other within inside at there here rest =
    ap all_without_extents (forms-drop form_of ones i one within at)
    ∙ ((λ k. Then (here k) (rest k)) ∙ sym (ap all_without_extents (forms-drop form_of others i other inside there)))

pub are_same-loop-index-preserved : goal.are_same-loop-index-preserved
are_same-loop-index-preserved t c = λ rest.
    let ones = c.args.ones.now in
    let others = c.args.others.now in
    let i = c.loop-index.index in
    let within : i < length ones = c.loop-index-test.true in
    let inside : i < length others = omega (arith, within, c.if-ones-others.false) in
    c.loop-index.invariant
    (same_from ones others i c.index-ones-index.result c.index-others-index.result within inside c.index-ones-index.is
    c.index-others-index.is (c.is_same.ensures c.if-not-is_same.false) rest)
