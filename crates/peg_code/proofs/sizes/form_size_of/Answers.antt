use Rattle.std.proofs.Common.{◌<◌, arith}
use Rattle.peg_code.proofs.PlanLemmas.{IsFormSize-seq}
use Rattle.peg_code.proofs.sizes.form_size_of.Goals as goal

pub returns-in-Seq-clause-form_size : goal.returns-in-Seq-clause-form_size
returns-in-Seq-clause-form_size c =
    let first : c.in-Seq.first < c.args.number = c.in-Seq.ensures.fits.0 in
    let rest : c.in-Seq.rest < c.args.number = c.in-Seq.ensures.fits.1 in
    IsFormSize-seq c.args.core.now.forms c.args.number c.in-Seq.first c.in-Seq.rest _ _ c.sequence_size.result
    c.in-Seq.ensures.form.1 (c.requires.form_sizes c.in-Seq.first _ (omega arith)) (c.requires.form_sizes c.in-Seq.rest _ (omega arith)) first rest
    c.sequence_size.ensures.size c.sequence_size.ensures.empty_first c.sequence_size.ensures.empty_rest c.sequence_size.ensures.full
