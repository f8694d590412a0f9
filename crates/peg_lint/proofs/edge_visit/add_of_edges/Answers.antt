use Rattle.std.proofs.Common.{List, map, ap, sym, ◌∙◌, subst}
use Rattle.std.proofs.lemmas.Result.{on_ok_weaker}
use Rattle.peg_bytes.specs.Extent.{extent}
use Rattle.peg_grammar.proofs.WrittenForms.{form_of-Seq, form_of-Choice}
use Rattle.peg_grammar.specs.GrammarRules.{rules_in}
use Rattle.peg_grammar.specs.Written.{form_of}
use Rattle.peg_grammar.specs.declared.expr.Expr.{Expr}
use Rattle.peg_semantics.specs.Form as form
use Rattle.peg_semantics.specs.Form.{forms}
use Rattle.peg_lint.specs.Warnings.{IsPartOfRule}
use Rattle.peg_lint.proofs.edge_visit.add_of_edges.Goals as goal

pub returns-in-Seq : goal.returns-in-Seq
returns-in-Seq c =
    let rules = rules_in c.args.grammar.now in
    let span = extent c.in-Seq.span in
    let same = ap form_of c.in-Seq.is ∙ form_of-Seq c.in-Seq.items c.in-Seq.span in
    let here = ap (λ (l : List Expr). form.Seq (forms (map form_of l)) span) c.deref.ensures.value in
    on_ok_weaker c.add_never_stops.result
    (λ keeps n known part. keeps n span known (subst (IsPartOfRule rules c.args.rule) (same ∙ sym here) part))
    c.add_never_stops.ensures

pub returns-in-Choice : goal.returns-in-Choice
returns-in-Choice c =
    let rules = rules_in c.args.grammar.now in
    let span = extent c.in-Choice.span in
    let same = ap form_of c.in-Choice.is ∙ form_of-Choice c.in-Choice.first c.in-Choice.rest c.in-Choice.span in
    let at_first = ap form_of c.deref-in-Choice.ensures in
    let at_rest = ap (λ (l : List Expr). forms (map form_of l)) c.deref-in-Choice-2.ensures.value in
    on_ok_weaker c.add_shadowed.result
    (λ keeps n known part. keeps n span known
    (subst (IsPartOfRule rules c.args.rule) (same ∙ sym (λ i. form.Choice (at_first i) (at_rest i) span)) part))
    c.add_shadowed.ensures
