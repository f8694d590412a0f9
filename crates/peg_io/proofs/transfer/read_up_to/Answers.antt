use Rattle.std.proofs.Common.{take, arith}
use Rattle.std.proofs.lemmas.Grind.{common_steps}
use Rattle.std.proofs.KnownBytes.{Consumes-kept}
use Rattle.peg_io.proofs.TransferLemmas.{ConsumesAtMost-more}
use Rattle.peg_io.proofs.transfer.read_up_to.Goals as goal

pub returns-in-Ok-eq0-clause-consumed : goal.returns-in-Ok-eq0-clause-consumed
returns-in-Ok-eq0-clause-consumed g c =
    ConsumesAtMost-more _ _ _ c.reads.held.items (take c.in-Ok-eq0.field-0 c.read.new.piece) c.args.limit
    c.reads.invariant.consumed c.in-Ok-eq0.ensures.bytes.0 (grind (arith, common_steps))

pub returns-in-Err-clause-consumed : goal.returns-in-Err-clause-consumed
returns-in-Err-clause-consumed g c = (
  c.reads.held.items,
  omega (arith, c.reads.invariant.within, c.reads.held.ok.0),
  Consumes-kept _ _ _ _ c.reads.invariant.consumed c.in-Err.ensures.bytes,
)

pub returns-in_err-extend_from_slice-clause-consumed : goal.returns-in_err-extend_from_slice-clause-consumed
returns-in_err-extend_from_slice-clause-consumed g c =
    ConsumesAtMost-more _ _ _ c.reads.held.items (take c.in-Ok.count c.read.new.piece) c.args.limit
    c.reads.invariant.consumed c.in-Ok.ensures.bytes.0 (grind (arith, common_steps))
