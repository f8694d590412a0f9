use Rattle.std.proofs.Common.{length}
use Rattle.peg_parser.specs.Refusals.{IsRefusalOf}
use Rattle.peg_handle.proofs.RejectionLemmas.{is_rejection_ok, true_refusal}
use Rattle.peg_handle.proofs.reading.rejection.Goals as goal

pub rejection_for-requires-clause-true_refusal : goal.rejection_for-requires-clause-true_refusal
rejection_for-requires-clause-true_refusal c =
    true_refusal (IsRefusalOf c.args.file.now) (length c.args.file.now) c.args.refusal.now c.requires.cause

pub returns : goal.returns
returns c =
    is_rejection_ok c.args.file.now c.args.refusal.now c.rejection_for.result c.requires.cause c.requires.meaning
    c.requires.definitions c.requires.not_memory c.rejection_for.ensures.reports c.rejection_for.ensures.message
