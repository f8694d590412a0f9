use Rattle.std.proofs.Common.{arith, ◌∙◌}
use Rattle.std.proofs.lemmas.Grind.{common_steps}
use Rattle.std.proofs.lemmas.List.{take_rest}
use Rattle.peg_io.proofs.TransferLemmas.{Appends-take_more}
use Rattle.peg_io.proofs.transfer.write_all_bytes.Goals as goal

pub writes-preserved : goal.writes-preserved
writes-preserved g c = record {
  in_range = grind (arith, common_steps);
  appended = Appends-take_more _ _ _ c.args.bytes.now c.writes.at c.in_ok-at.field-0
      c.writes.invariant.appended (rw take_rest at c.in_ok-at.ensures.bytes);
  not_failed = c.in_ok-at.ensures.failed ∙ c.writes.invariant.not_failed;
}
