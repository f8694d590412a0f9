use Rattle.std.proofs.Common.{◌≡◌, ◌+◌, ◌-◌, ◌++◌, ◌∷◌, [], append-nil, ap, arith, drop, length, map, subst, sym, ◌∙◌, take}
use Rattle.std.proofs.lemmas.List.{drop_all, length-map, length-take, take_rest}
use Rattle.peg_tree.specs.Rows.{row_of}
use Rattle.peg_tree.specs.Selected.{has_rule}
use Rattle.peg_tree.specs.SelectedNodes.{shown_count, shown_nodes}
use Rattle.peg_tree.specs.TreesOfRows.{IsForest}
use Rattle.peg_tree.proofs.Forests.{drop_forest, IsForest-from_one_tree}
use Rattle.peg_tree.proofs.SelectedLemmas.{selected_nodes, shown_count-le, shown_total}
use Rattle.peg_tree.proofs.select.select_in.Goals as goal

pub overflow_add-size : goal.overflow_add-size
overflow_add-size c =
    let shown = has_rule c.args.shown.now in
    let rows = c.args.rows.now in
    let below = take (length rows - 1) (drop 1 rows) in
    let total = shown_total shown below c.in_ok-counts.counts.items c.index.result.now c.in_ok-counts.ensures c.index.ensures in
    omega (arith, total, shown_count-le shown (map row_of below), length-map below row_of, length-take (length rows - 1) (drop 1 rows))

pub add_shown-requires-clause-forest : goal.add_shown-requires-clause-forest
add_shown-requires-clause-forest c =
    subst (λ l. IsForest (map row_of l)) (sym (take_rest c.args.rows.now 1))
    (drop_forest c.args.rows.now 1 (IsForest-from_one_tree (map row_of c.args.rows.now) c.requires))

pub returns : goal.returns
returns c =
    let shown = has_rule c.args.shown.now in
    let rows = c.args.rows.now in
    let below = take (length rows - 1) (drop 1 rows) in
    let whole : below ≡ drop 1 rows = take_rest rows 1 in
    let total = shown_total shown below c.in_ok-counts.counts.items c.index.result.now c.in_ok-counts.ensures c.index.ensures in
    let size = 1 + c.index.result.now in
    let count : size ≡ 1 + shown_count shown (map row_of (drop 1 rows)) =
    ap (λ n. 1 + n) total ∙ ap (λ l. 1 + shown_count shown (map row_of l)) whole in
    let none : map row_of (drop c.below.at below) ≡ [] = ap (map row_of) (drop_all c.below.at below (omega (arith, c.below-test.false))) in
    let root : map row_of c.push.new.self.items ≡ record (row_of c.index-rows-0.result) { size = size } ∷ [] =
    ap (map row_of) (c.in_ok-push.ensures.items ∙ ap (λ l. l ++ c.resized.result ∷ []) c.in_ok-nodes.ensures.items)
    ∙ ap (λ r. r ∷ []) c.resized.ensures in
    sym (append-nil (map row_of c.below.nodes.items))
    ∙ ap (λ l. map row_of c.below.nodes.items ++ shown_nodes shown l) (sym none)
    ∙ c.below.invariant.same
    ∙ ap (λ l. l ++ shown_nodes shown (map row_of below)) root
    ∙ ap (λ l. record (row_of c.index-rows-0.result) { size = size } ∷ shown_nodes shown (map row_of l)) whole
    ∙ selected_nodes shown rows c.index-rows-0.result size c.requires c.index-rows-0.is count
