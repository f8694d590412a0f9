use Rattle.std.proofs.Common.{◌≡◌, ◌≤◌, take}
use Rattle.std.specs.List.{count_by}
use Rattle.peg_test_files.specs.TestCounts.{is_end}
use Rattle.peg_test_files.proofs.ends.count_of.Given as goal

-- the first ends are counted
abbrev pub invariant-ends : goal.invariant-ends
invariant-ends l = record {
  few : l.count ≤ l.end-index;
  counted : l.count ≡ count_by (is_end l.wanted) (take l.end-index l.ends);
}
