use Rattle.std.proofs.Common.{refl}
use Rattle.peg_parser.specs.Cause.{FileTooLong}
use Rattle.peg_notation.specs.declared.fault.NotationFault.TheVariants as notation
use Rattle.peg_parser.specs.Faults.{of_cause}
use Rattle.peg_parser.specs.declared.refusal.Refusal.TheVariants as refusal
use Rattle.peg_handle.proofs.RejectionLemmas.{is_rejection_too_long}
use Rattle.peg_handle.proofs.reading.too_long.Goals as goal

pub rejection_for-requires-clause-true_refusal : goal.rejection_for-requires-clause-true_refusal
rejection_for-requires-clause-true_refusal c = of_cause FileTooLong refl tt tt tt

pub returns : goal.returns
returns c =
    is_rejection_too_long c.args.file (refusal.Notation notation.FileTooLong) c.rejection_for.result c.requires refl
    c.rejection_for.ensures.reports c.rejection_for.ensures.message
