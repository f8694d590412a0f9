use Rattle.std.proofs.Common.{sym, subst}
use Rattle.std.proofs.lemmas.Result.{on_ok_weaker}
use Rattle.peg_grammar.specs.GrammarRules.{rules_in}
use Rattle.peg_grammar.specs.Written.{form_of}
use Rattle.peg_semantics.specs.Form.{Form}
use Rattle.peg_semantics.specs.WellFormed.{subexpressions}
use Rattle.peg_lint.specs.Linting.{FindsDot, FindsRuleText, FindsTexts}
use Rattle.peg_lint.proofs.FileLemmas.{AddsIn-then, FindsTexts-later}
use Rattle.peg_lint.proofs.PartLemmas.{body-is, body-parts}
use Rattle.peg_lint.proofs.file_lint.lint_rule_text.Goals as goal

pub returns : goal.returns
returns c =
    let file = c.args.file.now in
    let rules = rules_in c.args.grammar.now in
    let number = c.args.rule in
    let e = form_of c.body.result.now in
    let l0 = c.args.found.now.items in
    let l1 = c.lint_text.new.found.items in
    let l2 = c.add_dot_at_end.new.found.items in
    on_ok_weaker c.add_dot_at_end.result
    (λ adds. AddsIn-then file rules (FindsTexts file number (subexpressions e)) (FindsDot file rules number)
    (FindsRuleText file rules number) l0 l1 l2
    (c.in_ok-lint_text.ensures rules (body-parts rules number e c.body.ensures)) adds
    (λ keeps texts dot. record {
      parts = λ rule at. subst (λ (f : Form). FindsTexts file number (subexpressions f) l2)
          (sym (body-is rules number rule e c.body.ensures at))
          (FindsTexts-later l1 l2 keeps file number (subexpressions e) texts);
      dot = dot;
    }))
    c.add_dot_at_end.ensures
