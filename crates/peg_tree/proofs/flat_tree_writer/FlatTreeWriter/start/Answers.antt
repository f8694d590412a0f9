use Rattle.std.proofs.Common.{◌≡◌, ◌-◌, ◌+◌, ◌++◌, ◌∷◌, [], false, length, map, reverse, vec_len, ap, sym, subst, ◌∙◌, arith}
use Rattle.std.proofs.lemmas.List.{length-map}
use Rattle.serde_json.specs.Data.{string}
use Rattle.serde_json.specs.Written.{compact_text}
use Rattle.peg_tree.specs.Nodes.{RulesBelow}
use Rattle.peg_tree.specs.RowText.{EachAtMost, printed_levels, printed_rows, printed_text, shown_rules}
use Rattle.peg_tree.specs.Rows.{rows_of}
use Rattle.peg_tree.specs.Trees.{levels}
use Rattle.peg_tree.proofs.RowTexts.{quoted_list, rows-at_most, rows-text}
use Rattle.peg_tree.proofs.flat_tree_writer.FlatTreeWriter.start.Goals as goal

pub invariant_of-result : goal.invariant_of-result
invariant_of-result g c =
    let all = g.N.Names.names c.args.names.now in
    let shown = shown_rules c.args.shown in
    let names = c.in_ok-names.names.items in
    let tree = c.args.tree in
    let count : length all ≡ length names =
    sym (length-map all (λ name. compact_text (string name))) ∙ sym (ap length c.in_ok-names.ensures) ∙ length-map names (λ name. name.items) in
    let piece = c.piece_for-piece.result in
    let room : vec_len c.in_ok-buffer.buffer - (piece + 68) ≡ c.longest_of-longest.result = omega (arith, c.in_ok-buffer.ensures) in
    let ends = c.in_ok-ends.ends in
    let rows = rows_of tree in
    record {
      below = subst (λ n. RulesBelow n tree) count c.requires;
      room = (
        (c.piece_for-piece.ensures.some, omega (arith, c.in_ok-buffer.ensures)),
        subst (λ n. EachAtMost n (map (λ name. vec_len name) names)) (sym room)
            (subst (λ l. EachAtMost c.longest_of-longest.result (map (λ name. vec_len name) l)) c.deref.ensures.value c.longest_of-longest.ensures),
      );
      levels = subst (λ n. EachAtMost n (printed_levels (printed_rows shown (reverse ends.items) 0 rows))) (sym (c.in_ok-ends.ensures.exact ∙ c.depth.ensures.levels))
          (subst (λ l. EachAtMost (levels tree) (printed_levels (printed_rows shown (reverse l) 0 rows))) (sym c.in_ok-ends.ensures.items) (rows-at_most shown tree));
      within = omega arith;
    }

pub returns : goal.returns
returns g c =
    let all = g.N.Names.names c.args.names.now in
    let shown = shown_rules c.args.shown in
    let rows = rows_of c.args.tree in
    ap (λ l. printed_text false l (printed_rows shown (reverse c.in_ok-ends.ends.items) 0 rows) ++ 93 ∷ []) c.in_ok-names.ensures
    ∙ ap (λ l. printed_text false (quoted_list all) (printed_rows shown (reverse l) 0 rows) ++ 93 ∷ []) c.in_ok-ends.ensures.items
    ∙ rows-text shown all c.args.tree c.requires
