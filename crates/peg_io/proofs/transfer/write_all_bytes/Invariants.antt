-- The bytes before `at` have been written, and no write has failed.
use Rattle.std.proofs.Common.{length, ◌-◌, ◌≡◌, ◌≤◌, false, take}
use Rattle.std.specs.Io.KnownBytes.{Appends}
use Rattle.peg_io.proofs.transfer.write_all_bytes.Given as goal

abbrev pub invariant-writes : goal.invariant-writes
invariant-writes g l = record {
  in_range : l.at ≤ length l.bytes;
  appended : Appends (g.W.Sink.written l.initial.output) (g.W.Sink.written l.output) (take l.at l.bytes);
  not_failed : g.W.Sink.failed l.output ≡ false;
}

abbrev pub decreases-writes : goal.decreases-writes
decreases-writes g l = length l.bytes - l.at
