use Rattle.std.proofs.Common.{◌∙◌, ◌≡◌, ◌+◌, ◌++◌, ap, arith, length, map, sym, take}
use Rattle.std.proofs.lemmas.List.{length-map, length-set, take_all}
use Rattle.peg_tree.specs.Rows.{row_of}
use Rattle.peg_handle.specs.Nodes.{nodes_of_rows}
use Rattle.peg_handle.proofs.NodeLemmas.{append_more, drop_more_set, length_nodes_of_rows}
use Rattle.peg_handle.proofs.nodes.append_rows.Goals as goal

pub nodes-preserved : goal.nodes-preserved
nodes-preserved c =
    let all = nodes_of_rows (map row_of c.args.nodes.now) c.args.levels.now in
    record {
      length = length-set c.nodes.out (c.args.used + c.nodes.i) c.node_at.result ∙ c.nodes.invariant.length;
      added = append_more c.args.out.now c.nodes.out all c.args.used c.nodes.i c.node_at.result (omega arith)
          c.node_at.ensures c.nodes.invariant.added;
      others = drop_more_set c.args.out.now c.nodes.out c.args.used c.nodes.i c.node_at.result
          c.nodes.invariant.others;
    }

pub returns-clause-added : goal.returns-clause-added
returns-clause-added c =
    let rows = map row_of c.args.nodes.now in
    let at_end : c.nodes.i ≡ length c.args.nodes.now = omega arith in
    let same : length c.args.levels.now ≡ length rows = c.requires.levels ∙ sym (length-map c.args.nodes.now row_of) in
    let all : take c.nodes.i (nodes_of_rows rows c.args.levels.now) ≡ nodes_of_rows rows c.args.levels.now =
    take_all c.nodes.i (nodes_of_rows rows c.args.levels.now)
    (omega (arith, length_nodes_of_rows rows c.args.levels.now same, length-map c.args.nodes.now row_of)) in
    ap (λ (n : _). take (c.args.used + n) c.nodes.out) (sym at_end)
    ∙ c.nodes.invariant.added
    ∙ ap (λ (nodes : _). take c.args.used c.args.out.now ++ nodes) all
