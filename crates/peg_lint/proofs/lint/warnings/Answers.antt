use Rattle.peg_grammar.specs.GrammarRules.{rules_in}
use Rattle.peg_lint.specs.Warnings.{IsTrueWarning}
use Rattle.peg_lint.proofs.DecidedLemmas.{decided-found}
use Rattle.peg_lint.proofs.FileLemmas.{HasWarning-later}
use Rattle.peg_lint.proofs.OrderLemmas.{All-same_warnings}
use Rattle.peg_lint.proofs.lint.warnings.Goals as goal

pub returns-clause-true_warnings : goal.returns-clause-true_warnings
returns-clause-true_warnings c =
    All-same_warnings (IsTrueWarning (rules_in c.args.grammar.now) c.args.start) c.add_unused_rules.new.found.items
    c.sort_unique.new.found.items c.in_ok-sort_unique.ensures.same c.in_ok-add_unused_rules.ensures.true_warnings

pub returns-clause-decided : goal.returns-clause-decided
returns-clause-decided c = λ what number span by is.
    let l0 = c.lint_rules.new.found.items in
    let l1 = c.add_unused_rules.new.found.items in
    let l2 = c.sort_unique.new.found.items in
    HasWarning-later l1 l2 c.in_ok-sort_unique.ensures.same.0 what number span by
    (decided-found (rules_in c.args.grammar.now) c.args.start l0 l1 c.in_ok-lint_rules.ensures.found
    c.in_ok-add_unused_rules.ensures.kept c.in_ok-add_unused_rules.ensures.unused what number span by is)
