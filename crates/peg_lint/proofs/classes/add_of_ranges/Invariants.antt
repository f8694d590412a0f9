use Rattle.std.proofs.Common.{List, ◌+◌, ◌-◌, ◌≤◌}
use Rattle.peg_bytes.specs.ByteSet.{Bytes, bytes_of}
use Rattle.peg_bytes.specs.Extent.{extent}
use Rattle.peg_semantics.specs.Form.{Class}
use Rattle.peg_semantics.specs.Rules.{Rule}
use Rattle.peg_lint.specs.Habits.{IsWithin}
use Rattle.peg_lint.specs.Linting.{AddsIn, AreSeen, FindsRangesBefore}
use Rattle.peg_lint.specs.Spelling.{RangesBetween}
use Rattle.peg_lint.specs.Warnings.{IsPartOfRule}
use Rattle.peg_lint.proofs.classes.add_of_ranges.Given as goal

-- a range of the class is found already, or the offset leads to it
abbrev pub invariant-spelled : goal.invariant-spelled
invariant-spelled l = record {
  before : RangesBetween l.file (l.class.start + 1) l.at;
  inside : l.at ≤ l.class.end;
  seen : AreSeen l.file (extent l.class) l.at (bytes_of l.seen);
  adds : (rules : List Rule) (set : Bytes) → IsPartOfRule rules l.rule (Class set (extent l.class))
      → IsWithin l.file (extent l.class)
      → AddsIn l.file rules (FindsRangesBefore l.file l.rule (extent l.class) l.at) l.fn.found.items l.found.items;
}

abbrev pub decreases-spelled : goal.decreases-spelled
decreases-spelled l = l.class.end - l.at
