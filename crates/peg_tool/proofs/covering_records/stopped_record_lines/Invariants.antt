use Rattle.std.proofs.Common.{◌≡◌, string_bytes, take}
use Rattle.peg_tool.specs.RecordCoverageWritten.{record_lines}
use Rattle.peg_tool.proofs.covering_records.stopped_record_lines.Given as goal

-- the first records have their lines
abbrev pub invariant-stopped : goal.invariant-stopped
invariant-stopped l = string_bytes l.lines ≡ record_lines (take l.number-index l.stopped)
