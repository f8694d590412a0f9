use Rattle.std.proofs.Common.{◌≡◌, ◌++◌, [], drop, length, map, nat_lt, reverse, take, ap, sym, subst, ◌∙◌, arith}
use Rattle.std.proofs.lemmas.List.{length-take-le, with_items_is}
use Rattle.std.specs.Vec.{vec_capacity}
use Rattle.peg_tree.specs.RowText.{EachAtMost, printed_levels, printed_rows, printed_text, shown_rules, text_from}
use Rattle.peg_tree.specs.Rows.{rows_of}
use Rattle.peg_tree.proofs.RowTexts.{rows-held}
use Rattle.peg_tree.proofs.flat_tree_writer.FlatTreeWriter.fill.Goals as goal

pub fill_shown-filled-requires-clause-levels : goal.fill_shown-filled-requires-clause-levels
fill_shown-filled-requires-clause-levels c =
    let text = c.args.self.now in
    subst (λ l. EachAtMost (vec_capacity text.ends) (printed_levels (printed_rows (shown_rules text.shown) (reverse text.ends.items) text.at l)))
    (sym (rows-held c.rows.result.now text.tree text.at c.rows.ensures.tree c.rows.ensures.same)) text.levels

pub invariant_of-self : goal.invariant_of-self
invariant_of-self c =
    let text = c.args.self.now in
    let ends = c.fill_shown-filled.new.ends in
    let at = c.fill_shown-filled.result.at in
    record {
      below = text.below;
      room = text.room;
      levels = subst (λ l. EachAtMost (vec_capacity ends) (printed_levels (printed_rows (shown_rules text.shown) (reverse ends.items) at l)))
          (rows-held c.rows.result.now text.tree at c.rows.ensures.tree c.rows.ensures.same) c.fill_shown-filled.ensures.levels;
      within = omega (arith, c.fill_shown-filled.ensures.within, c.fill_shown-filled.ensures.same, c.deref_mut.ensures.len);
    }

pub returns-clause-text : goal.returns-clause-text
returns-clause-text c =
    let text = c.args.self.now in
    let names = map (λ name. name.items) text.names.items in
    let shown = shown_rules text.shown in
    let rows = c.rows.result.now in
    let ends = c.fill_shown-filled.new.ends in
    let at = c.fill_shown-filled.result.at in
    let before = ap (λ l. printed_text (nat_lt 0 text.at) names (printed_rows shown (reverse text.ends.items) text.at l))
    (sym (rows-held rows text.tree text.at c.rows.ensures.tree c.rows.ensures.same))
    ∙ ap (λ n. text_from shown n rows text.at text.ends.items) (sym c.deref.ensures.value) in
    let after = ap (λ n. text_from shown n rows at ends.items) c.deref.ensures.value
    ∙ ap (λ l. printed_text (nat_lt 0 at) names (printed_rows shown (reverse ends.items) at l))
    (rows-held rows text.tree at c.rows.ensures.tree c.rows.ensures.same) in
    let same : length c.fill_shown-filled.new.buffer ≡ text.buffer.len =
    omega (arith, c.fill_shown-filled.ensures.same, c.deref_mut.ensures.len) in
    before ∙ c.fill_shown-filled.ensures.text
    ∙ ap (λ l. take c.fill_shown-filled.result.end c.fill_shown-filled.new.buffer ++ l) after
    ∙ ap (λ l. take c.fill_shown-filled.result.end l ++ printed_text (nat_lt 0 at) names (printed_rows shown (reverse ends.items) at (drop at (rows_of text.tree))))
    (sym (with_items_is text.buffer c.fill_shown-filled.new.buffer same))

pub returns-clause-some : goal.returns-clause-some
returns-clause-some c empty =
    let text = c.args.self.now in
    let names = map (λ name. name.items) text.names.items in
    let shown = shown_rules text.shown in
    let rows = c.rows.result.now in
    let before = ap (λ l. printed_text (nat_lt 0 text.at) names (printed_rows shown (reverse text.ends.items) text.at l))
    (sym (rows-held rows text.tree text.at c.rows.ensures.tree c.rows.ensures.same))
    ∙ ap (λ n. text_from shown n rows text.at text.ends.items) (sym c.deref.ensures.value) in
    let buffer = c.fill_shown-filled.new.buffer in
    let end = c.fill_shown-filled.result.end in
    let same : length buffer ≡ text.buffer.len = omega (arith, c.fill_shown-filled.ensures.same, c.deref_mut.ensures.len) in
    let cleared : take end buffer ≡ [] = ap (take end) (sym (with_items_is text.buffer buffer same)) ∙ empty in
    let none : end ≡ 0 =
    omega (arith, ap length cleared, length-take-le end buffer c.fill_shown-filled.ensures.within) in
    before ∙ c.fill_shown-filled.ensures.some none
