use Rattle.std.proofs.Common.{◌≡◌, ◌≤◌, ◌-◌, ◌+◌, ◌++◌, ℕ, List, length, map, nat_lt, refl, ap, sym, subst, take, ◌∙◌, arith}
use Rattle.std.specs.Vec.{vec_capacity}
use Rattle.std.specs.declared.alloc.Global.{Global}
use Rattle.std.specs.declared.vec.Vec.{Vec}
use Rattle.serde_json.specs.Written.{comma_if}
use Rattle.peg_tree.specs.RowText.{EachAtMost, levels_from, row_text, text_from}
use Rattle.peg_tree.specs.Rows.{row_of}
use Rattle.peg_tree.specs.TreesOfRows.{trees_of}
use Rattle.peg_tree.proofs.Forests.{IsForest-from_one_tree, drop_forest, tree_within}
use Rattle.peg_tree.proofs.JsonRows.{rule_below}
use Rattle.peg_tree.proofs.Puts.{puts-both, puts-more}
use Rattle.peg_tree.proofs.RowTexts.{levels-more, levels-rest, name-fits, room-for_end, text-more, text-rest}
use Rattle.peg_tree.proofs.flat_tree_writer.fill_piece.Goals.{then-is_written, else-is_written}
use Rattle.peg_tree.proofs.flat_tree_writer.fill_piece.Goals as goal

pub bounds-names-row : goal.bounds-names-row
bounds-names-row g c =
    let rows = c.args.rows.now in
    rule_below (length c.args.names.now) rows (trees_of (map row_of rows)) c.requires.tree refl c.requires.below
    c.loop-at.at c.index-rows-at.result c.loop-at-test.true c.index-rows-at.is

pub write_row-end-requires : goal.write_row-end-requires
write_row-end-requires g c =
    let rows = c.args.rows.now in
    let below = rule_below (length c.args.names.now) rows (trees_of (map row_of rows)) c.requires.tree refl c.requires.below
    c.loop-at.at c.index-rows-at.result c.loop-at-test.true c.index-rows-at.is in
    let fits = name-fits (length c.args.buffer.now - (c.args.piece + 68)) c.args.names.now c.index-rows-at.result.rule c.index-names-row.result
    below c.index-names-row.is c.requires.room.1 in
    omega (arith, fits, c.write_comma-end.ensures.limit, c.write_comma-end.ensures.puts.0, c.requires.room.0.1, c.deref.ensures.len, c.if-end-piece.true)

pub overflow_add-at : goal.overflow_add-at
overflow_add-at g c =
    let rows = c.args.rows.now in
    let forest = drop_forest rows c.loop-at.at (IsForest-from_one_tree (map row_of rows) c.requires.tree) in
    omega (arith, tree_within rows c.loop-at.at c.index-rows-at.result c.loop-at-test.true c.index-rows-at.is forest)

pub push_reserved-requires : goal.push_reserved-requires
push_reserved-requires g c =
    omega (
      arith,
      c.close_ended.ensures.capacity,
      c.close_ended.new.ends.ok.0,
      room-for_end (g.S.Shows.shown c.args.shown.now) c.args.rows.now c.loop-at.at c.index-rows-at.result
          c.loop-at-test.true c.index-rows-at.is (sym c.is_written.ensures ∙ c.if-is_written.true) c.loop-at.ends.items
          c.close_ended.new.ends.items c.close_ended.ensures.ended (vec_capacity c.loop-at.ends) c.loop-at.invariant.levels,
    )

pub loop-at-preserved : goal.loop-at-preserved
loop-at-preserved g c =
    let l = c.loop-at in
    let shown = g.S.Shows.shown c.args.shown.now in
    let rows = c.args.rows.now in
    let names = c.args.names.now in
    let node = c.index-rows-at.result in
    let joined = c.if-is_written in
    let whole = text_from shown names rows c.args.from c.args.ends.now.items in
    let Text = λ (ends : Vec ℕ Global) (buffer : List ℕ) (end : ℕ).
    whole ≡ take end buffer ++ text_from shown names rows (l.at + 1) ends.items in
    let Levels = λ (ends : Vec ℕ Global). EachAtMost (vec_capacity ends) (levels_from shown rows (l.at + 1) ends.items) in
    record {
      text = elim c.if-is_written.branch [
        | then-is_written w ↦
            let name = w.index-names-row.result in
            let count = w.len.result in
            let kept = w.close_ended.new.ends.items in
            let ends = w.push_reserved.new.self in
            let new = w.write_row-end.new.buffer in
            let rest = text_from shown names rows (l.at + 1) ends.items in
            let comma = comma_if (nat_lt 0 l.at) in
            let row = row_text (1 + count) w.deref.result.now node.span.start node.span.end in
            let below = rule_below (length names) rows (trees_of (map row_of rows)) c.requires.tree refl c.requires.below
            l.at node c.loop-at-test.true c.index-rows-at.is in
            let begins = text-more shown names rows l.at node c.loop-at-test.true c.index-rows-at.is
            (sym c.is_written.ensures ∙ w.if-is_written.true) l.ends.items kept ends.items
            w.close_ended.ensures.ended w.push_reserved.ensures.items count (w.len.ensures ∙ w.close_ended.new.ends.ok.0) name below
            w.index-names-row.is ∙ ap (λ w. comma ++ (row_text (1 + count) w node.span.start node.span.end ++ rest)) (sym w.deref.ensures.value) in
            let puts = puts-both l.buffer w.write_comma-end.new.buffer new l.end w.write_comma-end.result w.write_row-end.result comma row
            w.write_comma-end.ensures.puts w.write_row-end.ensures.puts in
            let text : Text ends new w.write_row-end.result =
            puts-more l.buffer new l.end w.write_row-end.result comma row rest (text_from shown names rows l.at l.ends.items)
            whole puts l.invariant.text begins in
            subst (λ (v : Vec ℕ Global). Text v joined.buffer joined.end) (sym w.ends-is)
            (subst (λ b. Text ends b joined.end) (sym w.buffer-is) (subst (λ e. Text ends new e) (sym w.end-is) text))
        | else-is_written w ↦
            let text : Text l.ends l.buffer l.end =
            l.invariant.text ∙ ap (λ t. take l.end l.buffer ++ t) (text-rest shown names rows l.at node c.loop-at-test.true
            c.index-rows-at.is (sym c.is_written.ensures ∙ w.if-is_written.false) l.ends.items) in
            subst (λ (v : Vec ℕ Global). Text v joined.buffer joined.end) (sym w.ends-is)
            (subst (λ b. Text l.ends b joined.end) (sym w.buffer-is) (subst (λ e. Text l.ends l.buffer e) (sym w.end-is) text))
      ];
      levels = elim c.if-is_written.branch [
        | then-is_written w ↦
            let kept = w.close_ended.new.ends.items in
            let ends = w.push_reserved.new.self in
            let levels : Levels ends =
            subst (λ n. EachAtMost n (levels_from shown rows (l.at + 1) ends.items))
            (sym (w.push_reserved.ensures.capacity ∙ w.close_ended.ensures.capacity))
            (levels-more shown rows l.at node c.loop-at-test.true c.index-rows-at.is (sym c.is_written.ensures ∙ w.if-is_written.true)
            l.ends.items kept ends.items w.close_ended.ensures.ended w.push_reserved.ensures.items (vec_capacity l.ends) l.invariant.levels) in
            subst (λ (v : Vec ℕ Global). Levels v) (sym w.ends-is) levels
        | else-is_written w ↦
            subst (λ (v : Vec ℕ Global). Levels v) (sym w.ends-is)
            (levels-rest shown rows l.at node c.loop-at-test.true c.index-rows-at.is
            (sym c.is_written.ensures ∙ w.if-is_written.false) l.ends.items (vec_capacity l.ends) l.invariant.levels)
      ];
      within = elim c.if-is_written.branch [
        | then-is_written w ↦
            subst (λ b. joined.end ≤ length b) (sym w.buffer-is)
            (subst (λ e. e ≤ length w.write_row-end.new.buffer) (sym w.end-is) w.write_row-end.ensures.within)
        | else-is_written w ↦
            subst (λ b. joined.end ≤ length b) (sym w.buffer-is) (subst (λ e. e ≤ length l.buffer) (sym w.end-is) l.invariant.within)
      ];
    }
