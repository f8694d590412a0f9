use Rattle.std.proofs.Common.{None, refl}
use Rattle.std.proofs.lemmas.Result.{on_ok_weaker}
use Rattle.peg_grammar.specs.Written.{form_of}
use Rattle.peg_lint.specs.Linting.{FindsIf, FindsOperator}
use Rattle.peg_lint.specs.Warnings.{extent_of}
use Rattle.peg_lint.specs.declared.warning.WarningKind.TheVariants as kind
use Rattle.peg_lint.proofs.FileLemmas.{Adds-then, HasWarning-later}
use Rattle.peg_lint.proofs.OperatorLemmas.{failing-says, without-use-says}
use Rattle.peg_lint.proofs.findings.add_operator.Goals as goal

pub returns : goal.returns
returns c =
    let x = form_of c.args.expr.now in
    let number = c.args.rule in
    let span = extent_of x in
    let law = c.excluded_outcomes_never_happen.ensures in
    let l0 = c.args.found.now.items in
    let l1 = c.add_if_so.new.found.items in
    let l2 = c.add_if_so-2.new.found.items in
    on_ok_weaker c.add_if_so-2.result
    (λ adds rules e part on outcome.
    let failing = c.is_failing_predicate-fails.ensures rules e on outcome in
    let without_use = c.is_without_use-is_without_use.ensures rules e on outcome in
    Adds-then rules (FindsIf c.is_failing_predicate-fails.result kind.AlwaysFails number span)
    (FindsIf c.is_without_use-is_without_use.result kind.NoEffect number span) (FindsOperator rules number x) l0 l1 l2
    (c.in_ok-add_if_so.ensures rules (λ h start. (
      (x, part, refl, failing-says rules (law.matches rules) (law.fails rules) x (failing.0 h)),
      ((x, part, refl, failing.0 h), refl),
    )))
    (adds rules (λ h start. (
      (x, part, refl, without-use-says rules (law.matches rules) (law.fails rules) x (without_use.0 h)),
      ((x, part, refl, without_use.0 h), refl),
    )))
    (λ keeps a b. record {
      failing = λ is. HasWarning-later l1 l2 keeps kind.AlwaysFails number span None (a (failing.1 is));
      without_use = λ is. b (without_use.1 is);
    }))
    c.add_if_so-2.ensures
