use Rattle.std.proofs.Common.{◌≡◌, List, ◌++◌, find, refl, map, sym, ap, ◌∙◌}
use Rattle.std.specs.declared.alloc.Global.{Global}
use Rattle.std.specs.declared.boxed.Box.{Box}
use Rattle.std.specs.declared.vec.Vec.{Vec}
use Rattle.peg_bytes.specs.declared.span.Span.{Span}
use Rattle.peg_semantics.specs.Form.{forms, counts_written, counts_written_by_all}
use Rattle.peg_grammar.specs.Counts.{count_seen}
use Rattle.peg_grammar.specs.Written.{form_of}
use Rattle.peg_grammar.specs.declared.expr.Expr.{Expr}
use Rattle.peg_grammar.specs.declared.expr.Expr.TheViews.{Choice}
use Rattle.peg_grammar.proofs.BadCounts.{is_bad}
use Rattle.peg_grammar.proofs.NameLists.{find_front, find_rest, found_here, found_later}
use Rattle.peg_grammar.proofs.WrittenForms.{form_of-Choice}
use Rattle.peg_grammar.proofs.counts.+bad_count.Goals as goal

pub bad_count_among-returns-in-Some : goal.bad_count_among-returns-in-Some
bad_count_among-returns-in-Some t c =
    found_here is_bad (λ item. counts_written (form_of item))
    (λ items. counts_written_by_all (forms (map form_of items))) (λ _ _. refl) c.args.items.now c.loop-item.item-index
    c.item-item.result c.loop-item-test.true c.item-item.is c.loop-item.invariant
    (count_seen c.in-Some.bad) c.in-Some.ensures

pub bad_count_among-loop-item-preserved : goal.bad_count_among-loop-item-preserved
bad_count_among-loop-item-preserved t c =
    found_later is_bad (λ item. counts_written (form_of item))
    (λ items. counts_written_by_all (forms (map form_of items))) (λ _ _. refl) c.args.items.now c.loop-item.item-index
    c.item-item.result c.loop-item-test.true c.item-item.is c.loop-item.invariant
    c.in_default.ensures

-- the search for counts in a choice
sought : (expression : Expr) (first : Box Expr Global) (rest : Vec Expr Global) (span : Span)
    → expression ≡ Choice first rest span
    → find is_bad (counts_written (form_of expression))
    ≡ find is_bad (counts_written (form_of first.value) ++ counts_written_by_all (forms (map form_of rest.items)))
sought expression first rest span is =
    ap (λ e. find is_bad (counts_written (form_of e))) is
    ∙ ap (λ f. find is_bad (counts_written f)) (form_of-Choice first rest span)

pub bad_count_in-returns-in-Some : goal.bad_count_in-returns-in-Some
bad_count_in-returns-in-Some t c =
    let front = counts_written (form_of c.in-Choice.first.value) in
    let following = counts_written_by_all (forms (map form_of c.in-Choice.rest.items)) in
    let here = c.in-Some.ensures ∙ ap (λ e. find is_bad (counts_written (form_of e))) c.deref-in-Choice.ensures in
    find_front is_bad front following (count_seen c.in-Some.bad) here
    ∙ sym (sought c.args.expression.now c.in-Choice.first c.in-Choice.rest c.in-Choice.span c.in-Choice.is)

pub bad_count_in-returns-in-None : goal.bad_count_in-returns-in-None
bad_count_in-returns-in-None t c =
    let front = counts_written (form_of c.in-Choice.first.value) in
    let following = counts_written_by_all (forms (map form_of c.in-Choice.rest.items)) in
    let none = c.in-None.ensures ∙ ap (λ e. find is_bad (counts_written (form_of e))) c.deref-in-Choice.ensures in
    let all = λ (items : List Expr). find is_bad (counts_written_by_all (forms (map form_of items))) in
    c.bad_count_among-in-None.ensures ∙ ap all c.deref-in-None.ensures.value
    ∙ sym (find_rest is_bad front following none)
    ∙ sym (sought c.args.expression.now c.in-Choice.first c.in-Choice.rest c.in-Choice.span c.in-Choice.is)
