use Rattle.std.proofs.Common.{◌∙◌, ◌≡◌, ◌+◌, ◌++◌, ◌≤◌, ap, drop, length, subst, sym, take}
use Rattle.std.proofs.lemmas.List.{length-map}
use Rattle.peg_tree.specs.Rows.{row_of, rows_of}
use Rattle.peg_handle.specs.Levels.{parsed_levels}
use Rattle.peg_handle.specs.Nodes.{nodes_of_rows, parsed_nodes}
use Rattle.peg_handle.proofs.NodeLemmas.{length_levels_of, length_tree_nodes}
use Rattle.peg_handle.proofs.nodes.append_nodes.Goals as goal

pub append_rows-requires-clause-levels : goal.append_rows-requires-clause-levels
append_rows-requires-clause-levels c =
    ap length (c.deref.ensures.value ∙ c.args.found.now.levels_match ∙ ap parsed_levels c.in-Matched.is)
    ∙ length_levels_of 1 c.in-Matched.tree
    ∙ ap length (sym c.nodes.ensures)
    ∙ length-map c.nodes.result.now row_of

pub append_rows-requires-clause-room : goal.append_rows-requires-clause-room
append_rows-requires-clause-room c =
    subst (λ (n : _). c.args.used + n ≤ length c.args.out.now)
    (ap (λ parsed. length (parsed_nodes parsed)) c.in-Matched.is
    ∙ length_tree_nodes c.in-Matched.tree c.nodes.result.now c.nodes.ensures)
    c.requires

pub returns-in-Matched-clause-added : goal.returns-in-Matched-clause-added
returns-in-Matched-clause-added c =
    let count = ap (λ parsed. length (parsed_nodes parsed)) c.in-Matched.is
    ∙ length_tree_nodes c.in-Matched.tree c.nodes.result.now c.nodes.ensures in
    let levels = c.deref.ensures.value ∙ c.args.found.now.levels_match ∙ ap parsed_levels c.in-Matched.is in
    ap (λ (n : _). take (c.args.used + n) c.append_rows.new.out) count
    ∙ c.append_rows.ensures.added
    ∙ ap (λ (rows : _). take c.args.used c.args.out.now ++ nodes_of_rows rows c.deref.result.now) c.nodes.ensures
    ∙ ap (λ (all : _). take c.args.used c.args.out.now ++ nodes_of_rows (rows_of c.in-Matched.tree) all) levels
    ∙ ap (λ parsed. take c.args.used c.args.out.now ++ parsed_nodes parsed) (sym c.in-Matched.is)

pub returns-in-Matched-clause-others : goal.returns-in-Matched-clause-others
returns-in-Matched-clause-others c =
    let count = ap (λ parsed. length (parsed_nodes parsed)) c.in-Matched.is
    ∙ length_tree_nodes c.in-Matched.tree c.nodes.result.now c.nodes.ensures in
    subst (λ (n : _). drop (c.args.used + n) c.append_rows.new.out ≡ drop (c.args.used + n) c.args.out.now)
    (sym count) c.append_rows.ensures.others
