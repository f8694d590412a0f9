use Rattle.std.proofs.Common.{refl}
use Rattle.std.proofs.lemmas.Result.{on_ok_weaker}
use Rattle.peg_grammar.specs.Written.{form_of}
use Rattle.peg_lint.specs.Linting.{FindsExcluded, FindsIf}
use Rattle.peg_lint.specs.Warnings.{extent_of}
use Rattle.peg_lint.specs.declared.warning.WarningKind.TheVariants as kind
use Rattle.peg_lint.proofs.FileLemmas.{Adds-weaker}
use Rattle.peg_lint.proofs.findings.add_never_matches.Goals as goal

pub returns : goal.returns
returns c =
    let e = form_of c.args.expr.now in
    let number = c.args.rule in
    let law = c.excluded_outcomes_never_happen.ensures in
    on_ok_weaker c.add_if_so.result
    (λ adds rules part placed outcome.
    let is = c.is_excluded-is_excluded.ensures rules e outcome in
    Adds-weaker rules (FindsIf c.is_excluded-is_excluded.result kind.NeverMatches number (extent_of e))
    (FindsExcluded rules number e) c.args.found.now.items c.add_if_so.new.found.items
    (λ finds matter excluded. finds (is.1 (matter, excluded)))
    (adds rules (λ h start.
    let both = is.0 h in (
      (e, part, refl, law.matches rules e both.1),
      (record { e = e; placed = placed; span_is = refl; matter = both.0; excluded = both.1 }, refl),
    ))))
    c.add_if_so.ensures
