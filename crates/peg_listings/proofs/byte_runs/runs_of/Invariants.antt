use Rattle.std.proofs.Common.{◌≡◌, ◌-◌, drop, map, reverse}
use Rattle.peg_bytes.specs.ByteSet.{bytes_of}
use Rattle.peg_listings.specs.ByteRuns.{byte_run_of}
use Rattle.peg_listings.specs.CodeText.{runs_from}
use Rattle.peg_listings.proofs.byte_runs.runs_of.Given as goal

-- the runs of the bytes visited so far
abbrev pub invariant-loop-above : goal.invariant-loop-above
invariant-loop-above l = reverse (map byte_run_of l.runs.items) ≡ runs_from (256 - l.above) (drop (256 - l.above) (bytes_of l.set))
