use Rattle.std.proofs.Common.{All, IsTrue, subst, sym}
use Rattle.peg_semantics.specs.Rules.{names}
use Rattle.peg_grammar.specs.GrammarRules.{rules_in}
use Rattle.peg_lint.specs.FileWarnings.{FindsAll, IsTrueWarningIn, is_selected}
use Rattle.peg_lint.specs.Warnings.{AreDistinct, IsInWrittenOrder}
use Rattle.peg_json.specs.Lints.{LintsTo, warned}
use Rattle.peg_json.specs.Reply.{Linted}
use Rattle.peg_json.proofs.PrintLemmas.{reply-kind}
use Rattle.peg_replies.proofs.linting.lint_reply.Goals as goal

pub file_warnings-requires : goal.file_warnings-requires
file_warnings-requires c =
    let known = c.in_ok-core.ensures in
    record { core = record { forms = known.forms; bodies = known.bodies }; start = c.requires }

pub returns : goal.returns
returns c start is =
    let rules = rules_in c.args.grammar.now in
    let found = c.deref.result.now in
    reply-kind c.lint_line.result c.args.file.now (LintsTo c.args.file.now rules start c.args.selection) (Linted (names rules) found)
    c.lint_line.ensures
    (warned c.args.rule found is
    (subst (All (IsTrueWarningIn c.args.file.now rules c.args.rule)) (sym c.deref.ensures.value) c.in_ok-found.ensures.true_warnings)
    (subst (All (λ warning. IsTrue (is_selected c.args.selection warning))) (sym c.deref.ensures.value)
    c.in_ok-found.ensures.selected)
    (subst (FindsAll c.args.file.now rules c.args.rule c.args.selection) (sym c.deref.ensures.value)
    c.in_ok-found.ensures.all)
    (subst IsInWrittenOrder (sym c.deref.ensures.value) c.in_ok-found.ensures.in_order)
    (subst AreDistinct (sym c.deref.ensures.value) c.in_ok-found.ensures.distinct))
