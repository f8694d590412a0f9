use Rattle.std.proofs.Common.{◌<◌, get_or, set, sym, ◌∙◌, subst}
use Rattle.peg_check.specs.Cans.{can_of, nothing_known}
use Rattle.peg_check.specs.Fixpoint.{unknown_in}
use Rattle.peg_check.proofs.OutcomeTables.{stated_apart, unknown-looked}
use Rattle.peg_check.proofs.fixpoint.update.Goals as goal

pub returns-clause-more : goal.returns-clause-more
returns-clause-more c =
    let cans = c.args.cans.now in
    let known = get_or cans c.args.number nothing_known in
    let apart = stated_apart c.union-can.result known c.if-eq.ensures in
    subst (λ can. unknown_in (set cans c.args.number can) < unknown_in cans) (sym c.union-can.ensures)
    (unknown-looked cans c.args.number (can_of c.outcome_from.result) c.requires.within (λ same. apart (c.union-can.ensures ∙ same)))
