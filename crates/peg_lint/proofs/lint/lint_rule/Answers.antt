use Rattle.std.proofs.Common.{sym, subst}
use Rattle.std.proofs.lemmas.Result.{on_ok_weaker}
use Rattle.peg_grammar.specs.GrammarRules.{rules_in}
use Rattle.peg_grammar.specs.Written.{form_of}
use Rattle.peg_semantics.specs.Form.{Form}
use Rattle.peg_semantics.specs.WellFormed.{subexpressions}
use Rattle.peg_lint.specs.Linting.{FindsExcluded, FindsOfAll, FindsRule}
use Rattle.peg_lint.proofs.FileLemmas.{Adds-then, FindsOfAll-later}
use Rattle.peg_lint.proofs.PartLemmas.{body-is, body-parts, body-placed, whole}
use Rattle.peg_lint.proofs.lint.lint_rule.Goals as goal

pub lint_expression-requires-clause-parts : goal.lint_expression-requires-clause-parts
lint_expression-requires-clause-parts c =
    body-parts (rules_in c.args.grammar.now) c.args.rule (form_of c.body-body.result.now) c.body-body.ensures

pub returns : goal.returns
returns c =
    let rules = rules_in c.args.grammar.now in
    let number = c.args.rule in
    let e = form_of c.body-body.result.now in
    let at_body = c.body-body.ensures in
    let l0 = c.args.found.now.items in
    let l1 = c.lint_expression.new.found.items in
    let l2 = c.add_never_matches.new.found.items in
    let part = whole rules number e (body-parts rules number e at_body) in
    on_ok_weaker c.add_never_matches.result
    (λ adds. Adds-then rules (FindsOfAll rules number (subexpressions e)) (FindsExcluded rules number e)
    (FindsRule rules number) l0 l1 l2 c.in_ok-can.ensures.adds
    (adds rules part (body-placed rules number e at_body) c.in_ok-can.ensures.outcome)
    (λ keeps parts excluded. record {
      body = λ rule at. subst (λ (f : Form). FindsExcluded rules number f l2) (sym (body-is rules number rule e at_body at))
          excluded;
      parts = λ rule at. subst (λ (f : Form). FindsOfAll rules number (subexpressions f) l2)
          (sym (body-is rules number rule e at_body at))
          (FindsOfAll-later l1 l2 keeps rules number (subexpressions e) parts);
    }))
    c.add_never_matches.ensures
