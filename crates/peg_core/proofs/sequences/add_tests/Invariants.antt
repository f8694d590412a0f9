use Rattle.std.proofs.Common.{◌+◌, ◌-◌, ◌≤◌, [], length, take}
use Rattle.peg_core.specs.CoreForm.{tests_of}
use Rattle.peg_core.specs.Appending.{AppendsAll}
use Rattle.peg_core.specs.Layout.{max_forms}
use Rattle.peg_core.proofs.sequences.add_tests.Given as goal

-- the tests of the bytes so far were appended
abbrev pub invariant-loop-byte : goal.invariant-loop-byte
invariant-loop-byte l = record {
  room : length l.builder.forms + (length l.bytes - l.byte-index) ≤ max_forms;
  so_far : AppendsAll l.fn.builder (tests_of l.terminal (take l.byte-index l.bytes)) [] (tests_of l.terminal (take l.byte-index l.bytes)) l.numbers.items l.builder;
}
