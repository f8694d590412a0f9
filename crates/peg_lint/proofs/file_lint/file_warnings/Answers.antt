use Rattle.std.proofs.Common.{All, IsTrue, inl, sym, subst}
use Rattle.std.proofs.lemmas.List.Elements.{All-filter, All-weaker, filter_passes}
use Rattle.peg_grammar.specs.GrammarRules.{rules_in}
use Rattle.peg_lint.specs.FileWarnings.{IsTrueWarningIn, is_selected}
use Rattle.peg_lint.specs.Warnings.{IsTrueWarning}
use Rattle.peg_lint.proofs.FoundLemmas.{FindsAll-sorted}
use Rattle.peg_lint.proofs.OrderLemmas.{All-same_warnings}
use Rattle.peg_lint.proofs.file_lint.file_warnings.Goals as goal

pub returns-clause-true_warnings : goal.returns-clause-true_warnings
returns-clause-true_warnings c =
    let file = c.args.file.now in
    let rules = rules_in c.args.grammar.now in
    let start = c.args.start in
    let Is = IsTrueWarningIn file rules start in
    let first = c.in_ok-found.found.items in
    let all = c.lint_rule_texts.new.found.items in
    let are : All Is all = c.in_ok-lint_rule_texts.ensures.truth start
    (All-weaker (IsTrueWarning rules start) Is (λ w is. inl is) first c.in_ok-found.ensures.true_warnings) in
    All-same_warnings Is c.select.new.found.items c.sort_unique.new.found.items c.in_ok-sort_unique.ensures.same
    (subst (All Is) (sym c.select.ensures) (All-filter (is_selected c.args.selection) Is all are))

pub returns-clause-selected : goal.returns-clause-selected
returns-clause-selected c =
    let test = is_selected c.args.selection in
    All-same_warnings (λ warning. IsTrue (test warning)) c.select.new.found.items c.sort_unique.new.found.items
    c.in_ok-sort_unique.ensures.same
    (subst (All (λ warning. IsTrue (test warning))) (sym c.select.ensures)
    (filter_passes test c.lint_rule_texts.new.found.items))

pub returns-clause-all : goal.returns-clause-all
returns-clause-all c =
    FindsAll-sorted c.args.file.now (rules_in c.args.grammar.now) c.args.start c.args.selection
    c.in_ok-found.found.items c.lint_rule_texts.new.found.items c.select.new.found.items c.sort_unique.new.found.items
    c.in_ok-found.ensures.decided c.in_ok-lint_rule_texts.ensures.kept c.in_ok-lint_rule_texts.ensures.found
    c.select.ensures c.in_ok-sort_unique.ensures.same
