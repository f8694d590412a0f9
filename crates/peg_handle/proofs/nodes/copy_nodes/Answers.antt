use Rattle.std.proofs.Common.{◌∙◌, ◌-◌, ap, length, min, sym}
use Rattle.std.proofs.lemmas.List.{length-map}
use Rattle.peg_tree.specs.Rows.{row_of}
use Rattle.peg_handle.specs.Levels.{parsed_levels}
use Rattle.peg_handle.specs.Nodes.{parsed_nodes}
use Rattle.peg_handle.proofs.NodeLemmas.{length_levels_of, length_tree_nodes}
use Rattle.peg_handle.proofs.nodes.copy_nodes.Goals as goal

pub copy_rows-requires : goal.copy_rows-requires
copy_rows-requires c =
    ap length (c.deref.ensures.value ∙ c.args.found.now.levels_match ∙ ap parsed_levels c.in-Matched.is)
    ∙ length_levels_of 1 c.in-Matched.tree
    ∙ ap length (sym c.nodes.ensures)
    ∙ length-map c.nodes.result.now row_of

pub returns-in-Matched-clause-count : goal.returns-in-Matched-clause-count
returns-in-Matched-clause-count c =
    c.copy_rows.ensures.count
    ∙ ap (λ n. min (length c.args.out.now) (n - c.args.from))
    (sym (ap (λ parsed. length (parsed_nodes parsed)) c.in-Matched.is
    ∙ length_tree_nodes c.in-Matched.tree c.nodes.result.now c.nodes.ensures))
