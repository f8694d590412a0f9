-- All records in memory are found before a block is read, and no read has failed.
use Rattle.std.proofs.Common.{◌≡◌, [], false, length}
use Rattle.peg_io.specs.Device.{has_failed}
use Rattle.peg_records.specs.Readers.{rest_of}
use Rattle.peg_machine_tests.proofs.records.joined_records.Given as goal

abbrev pub invariant-reads : goal.invariant-reads
invariant-reads l = record { searched : rest_of l.reader ≡ []; works : has_failed l.input ≡ false }

abbrev pub invariant-records : goal.invariant-records
invariant-records l = has_failed l.input ≡ false

abbrev pub decreases-records : goal.decreases-records
decreases-records l = length (rest_of l.reader)
