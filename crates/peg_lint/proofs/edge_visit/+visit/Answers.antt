use Rattle.std.proofs.Common.{◌≡◌, ◌<◌, List, length, map, ap, ◌∙◌, subst, arith, Contains}
use Rattle.std.proofs.lemmas.Result.{on_ok_weaker}
use Rattle.peg_bytes.specs.Extent.{extent}
use Rattle.peg_grammar.proofs.WrittenForms.{form_of-Seq, form_of-Choice}
use Rattle.peg_grammar.specs.GrammarRules.{rules_in}
use Rattle.peg_grammar.specs.Written.{form_of}
use Rattle.peg_grammar.specs.declared.expr.Expr.{Expr}
use Rattle.peg_semantics.specs.Form as form
use Rattle.peg_semantics.specs.Form.{Form, Forms, forms}
use Rattle.peg_semantics.specs.WellFormed.{subexpressions}
use Rattle.peg_lint.proofs.FileLemmas.{KeepsTrue-both, KeepsTrue-same}
use Rattle.peg_lint.proofs.PartLemmas.{first-is, is_on, item-parts, items-are, rest-are, whole}
use Rattle.peg_lint.proofs.edge_visit.+visit.Goals as goal

pub lint_edges-returns-in-Seq : goal.lint_edges-returns-in-Seq
lint_edges-returns-in-Seq t c =
    let rules = rules_in c.args.grammar.now in
    let number = c.args.rule in
    let e = form_of c.args.expr.now in
    let items = forms (map form_of c.in-Seq.items.items) in
    let span = extent c.in-Seq.span in
    let l0 = c.args.found.now.items in
    let l1 = c.add_of_edges.new.found.items in
    let l2 = c.lint_all_edges.new.found.items in
    let now = forms (map form_of c.deref.result.now) in
    let same : e ≡ form.Seq items span = ap form_of c.in-Seq.is ∙ form_of-Seq c.in-Seq.items c.in-Seq.span in
    let here : now ≡ items = ap (λ (l : List Expr). forms (map form_of l)) c.deref.ensures.value in
    on_ok_weaker c.lint_all_edges.result
    (λ keeps n known parts. KeepsTrue-both rules l0 l1 l2
    (c.in_ok-add_of_edges.ensures n known (whole rules number e parts))
    (keeps n known (items-are rules number e parts items span same now here)))
    c.lint_all_edges.ensures

pub lint_edges-returns-in_ok-lint_edges-in-Choice : goal.lint_edges-returns-in_ok-lint_edges-in-Choice
lint_edges-returns-in_ok-lint_edges-in-Choice t c =
    let rules = rules_in c.args.grammar.now in
    let number = c.args.rule in
    let e = form_of c.args.expr.now in
    let first = form_of c.in-Choice.first.value in
    let rest = forms (map form_of c.in-Choice.rest.items) in
    let span = extent c.in-Choice.span in
    let l0 = c.args.found.now.items in
    let l1 = c.add_of_edges.new.found.items in
    let l2 = c.lint_edges.new.found.items in
    let l3 = c.lint_all_edges-in-Choice.new.found.items in
    let f = form_of c.deref-in-Choice.result.now in
    let r = forms (map form_of c.deref-in-Choice-2.result.now) in
    let same : e ≡ form.Choice first rest span =
    ap form_of c.in-Choice.is ∙ form_of-Choice c.in-Choice.first c.in-Choice.rest c.in-Choice.span in
    let at_first : f ≡ first = ap form_of c.deref-in-Choice.ensures in
    let at_rest : r ≡ rest = ap (λ (l : List Expr). forms (map form_of l)) c.deref-in-Choice-2.ensures.value in
    on_ok_weaker c.lint_all_edges-in-Choice.result
    (λ keeps n known parts. KeepsTrue-both rules l0 l2 l3
    (KeepsTrue-both rules l0 l1 l2 (c.in_ok-add_of_edges.ensures n known (whole rules number e parts))
    (c.in_ok-lint_edges-in-Choice.ensures n known (first-is rules number e parts first rest span same f at_first)))
    (keeps n known (rest-are rules number e parts first rest span same r at_rest)))
    c.lint_all_edges-in-Choice.ensures

pub lint_edges-returns-in-Optional : goal.lint_edges-returns-in-Optional
lint_edges-returns-in-Optional t c =
    let rules = rules_in c.args.grammar.now in
    let number = c.args.rule in
    let e = form_of c.args.expr.now in
    let on = is_on c.args.expr.now c.in-Optional.part c.in-Optional.is in
    let part = form_of c.in-Optional.part.value in
    let p = form_of c.deref-in-Optional.result.now in
    let l0 = c.args.found.now.items in
    let l1 = c.add_of_edges.new.found.items in
    let l2 = c.lint_edges-in-Optional.new.found.items in
    let at_part : p ≡ part = ap form_of c.deref-in-Optional.ensures in
    on_ok_weaker c.lint_edges-in-Optional.result
    (λ keeps n known parts. KeepsTrue-both rules l0 l1 l2
    (c.in_ok-add_of_edges.ensures n known (whole rules number e parts))
    (keeps n known (λ x in_it. parts x (on.parts x (subst (λ (f : Form). Contains (subexpressions f) x) at_part in_it)))))
    c.lint_edges-in-Optional.ensures

pub lint_all_edges-loop-item-init : goal.lint_all_edges-loop-item-init
lint_all_edges-loop-item-init t c n known parts = KeepsTrue-same (rules_in c.args.grammar.now) c.args.found.now.items

pub lint_all_edges-loop-item-preserved : goal.lint_all_edges-loop-item-preserved
lint_all_edges-loop-item-preserved t c n known parts =
    let rules = rules_in c.args.grammar.now in
    let items = c.args.items.now in
    let i = c.loop-item.item-index in
    let item = c.item-item.result in
    let within : i < length items = omega (arith, c.loop-item-test.true) in
    KeepsTrue-both rules c.args.found.now.items c.loop-item.found.items c.lint_edges.new.found.items
    (c.loop-item.invariant n known parts)
    (c.in_ok-lint_edges.ensures n known (λ x in_it. parts x (item-parts items i item within c.item-item.is x in_it)))
