use Rattle.std.proofs.Common.{◌≡◌, ◌++◌, [], arith, ap, sym, ◌∙◌, drop, map, reverse}
use Rattle.std.proofs.lemmas.List.{append-nil, drop_all}
use Rattle.peg_tree.specs.Rows.{row_of}
use Rattle.peg_tree.specs.Levels.{levels_of_rows}
use Rattle.peg_handle.proofs.LevelLemmas.{levels_of_rows-rows_of}
use Rattle.peg_handle.proofs.levels.node_levels.Goals as goal

pub returns : goal.returns
returns c =
    let nodes = c.nodes-nodes.result.now in
    let none : map row_of (drop c.loop-at.at nodes) ≡ [] = ap (map row_of) (drop_all c.loop-at.at nodes (omega arith)) in
    sym (append-nil c.loop-at.levels.items)
    ∙ ap (λ l. c.loop-at.levels.items ++ levels_of_rows (reverse c.loop-at.ends.items) c.loop-at.at l) (sym none)
    ∙ c.loop-at.invariant
    ∙ ap (levels_of_rows [] 0) c.nodes-nodes.ensures
    ∙ levels_of_rows-rows_of c.args.tree.now
