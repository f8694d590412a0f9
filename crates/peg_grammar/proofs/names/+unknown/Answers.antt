use Rattle.std.proofs.Common.{◌≡◌, ℕ, List, ◌++◌, find, refl, map, sym, ap, ◌∙◌}
use Rattle.std.specs.declared.alloc.Global.{Global}
use Rattle.std.specs.declared.boxed.Box.{Box}
use Rattle.std.specs.declared.vec.Vec.{Vec}
use Rattle.peg_bytes.specs.declared.span.Span.{Span}
use Rattle.peg_grammar.specs.declared.expr.Expr.{Expr}
use Rattle.peg_grammar.specs.declared.expr.Expr.TheViews.{Choice}
use Rattle.peg_grammar.proofs.WrittenForms.{form_of-Choice}
use Rattle.peg_semantics.specs.Form.{forms, names_used, names_used_by_all}
use Rattle.peg_semantics.specs.Grammar.{is_unknown}
use Rattle.peg_grammar.specs.Names.{names_in, reference_of}
use Rattle.peg_grammar.specs.Written.{form_of}
use Rattle.peg_grammar.proofs.NameLists.{find_front, find_rest, found_here, found_later}
use Rattle.peg_grammar.proofs.names.+unknown.Goals as goal

pub unknown_among-returns-in-Some : goal.unknown_among-returns-in-Some
unknown_among-returns-in-Some t c =
    found_here (is_unknown (names_in c.args.names.now)) (λ item. names_used (form_of item))
    (λ items. names_used_by_all (forms (map form_of items))) (λ _ _. refl) c.args.items.now c.loop-item.item-index
    c.item-item.result c.loop-item-test.true c.item-item.is c.loop-item.invariant
    (reference_of c.in-Some.unknown) c.in-Some.ensures

pub unknown_among-loop-item-preserved : goal.unknown_among-loop-item-preserved
unknown_among-loop-item-preserved t c =
    found_later (is_unknown (names_in c.args.names.now)) (λ item. names_used (form_of item))
    (λ items. names_used_by_all (forms (map form_of items))) (λ _ _. refl) c.args.items.now c.loop-item.item-index
    c.item-item.result c.loop-item-test.true c.item-item.is c.loop-item.invariant
    c.in_default.ensures

-- the search for names in a choice
sought : (names : List (List ℕ)) (expression : Expr) (first : Box Expr Global) (rest : Vec Expr Global) (span : Span)
    → expression ≡ Choice first rest span
    → find (is_unknown names) (names_used (form_of expression))
    ≡ find (is_unknown names) (names_used (form_of first.value) ++ names_used_by_all (forms (map form_of rest.items)))
sought names expression first rest span is =
    ap (λ e. find (is_unknown names) (names_used (form_of e))) is
    ∙ ap (λ f. find (is_unknown names) (names_used f)) (form_of-Choice first rest span)

pub unknown_in-returns-in-Some : goal.unknown_in-returns-in-Some
unknown_in-returns-in-Some t c =
    let names = names_in c.args.names.now in
    let front = names_used (form_of c.in-Choice.first.value) in
    let following = names_used_by_all (forms (map form_of c.in-Choice.rest.items)) in
    let here = c.in-Some.ensures ∙ ap (λ e. find (is_unknown names) (names_used (form_of e))) c.deref-in-Choice.ensures in
    find_front (is_unknown names) front following (reference_of c.in-Some.unknown) here
    ∙ sym (sought names c.args.expression.now c.in-Choice.first c.in-Choice.rest c.in-Choice.span c.in-Choice.is)

pub unknown_in-returns-in-None : goal.unknown_in-returns-in-None
unknown_in-returns-in-None t c =
    let names = names_in c.args.names.now in
    let front = names_used (form_of c.in-Choice.first.value) in
    let following = names_used_by_all (forms (map form_of c.in-Choice.rest.items)) in
    let none = c.in-None.ensures ∙ ap (λ e. find (is_unknown names) (names_used (form_of e))) c.deref-in-Choice.ensures in
    let all = λ (items : List Expr). find (is_unknown names) (names_used_by_all (forms (map form_of items))) in
    c.unknown_among-in-None.ensures ∙ ap all c.deref-in-None.ensures.value
    ∙ sym (find_rest (is_unknown names) front following none)
    ∙ sym (sought names c.args.expression.now c.in-Choice.first c.in-Choice.rest c.in-Choice.span c.in-Choice.is)
