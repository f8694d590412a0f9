use Rattle.std.proofs.Common.{◌+◌, ◌≤◌, arith, length, sym, ◌∙◌}
use Rattle.peg_tree.specs.Selected.{has_rule}
use Rattle.peg_tree.proofs.Forests.{drop_forest, tree_within}
use Rattle.peg_tree.proofs.SelectedLemmas.{shown_nodes-added, shown_size}
use Rattle.peg_tree.proofs.select.add_shown.Goals as goal

-- the subtree ends within the list
fits : (c : goal.Then-contains) → c.args.at + c.index-below-at.result.size ≤ length c.args.below.now
fits c =
    tree_within c.args.below.now c.args.at c.index-below-at.result c.requires.within c.index-below-at.is
    (drop_forest c.args.below.now c.args.at c.requires.forest)

pub overflow_add-size : goal.overflow_add-size
overflow_add-size c = omega (arith, fits c)

pub offset_bounds-counts-at : goal.offset_bounds-counts-at
offset_bounds-counts-at c = omega (arith, fits c)

pub bounds-counts-at : goal.bounds-counts-at
bounds-counts-at c =
    let within = tree_within c.args.below.now c.args.at c.index-below-at.result c.requires.within c.index-below-at.is
    (drop_forest c.args.below.now c.args.at c.requires.forest) in
    omega (arith, within, c.requires.counts.count)

pub overflow_sub-size : goal.overflow_sub-size
overflow_sub-size c =
    let within = tree_within c.args.below.now c.args.at c.index-below-at.result c.requires.within c.index-below-at.is
    (drop_forest c.args.below.now c.args.at c.requires.forest) in
    omega (arith, shown_size (has_rule c.args.shown.now) c.args.below.now c.args.counts.now c.args.at c.index-below-at.result.size c.requires.counts within)

pub returns-in_ok-push : goal.returns-in_ok-push
returns-in_ok-push c =
    let within = tree_within c.args.below.now c.args.at c.index-below-at.result c.requires.within c.index-below-at.is
    (drop_forest c.args.below.now c.args.at c.requires.forest) in
    shown_nodes-added (has_rule c.args.shown.now) c.args.below.now c.args.counts.now c.args.at c.index-below-at.result
    c.args.nodes.now.items c.push.new.self.items c.resized.result c.requires.within c.index-below-at.is within
    c.requires.counts (sym c.contains.ensures ∙ c.if-contains.true) c.resized.ensures c.in_ok-push.ensures.items
