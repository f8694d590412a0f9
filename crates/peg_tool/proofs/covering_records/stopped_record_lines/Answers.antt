use Rattle.std.proofs.Common.{◌≡◌, ◌+◌, ◌<◌, arith, get_or, length, string_bytes, take}
use Rattle.peg_tool.specs.RecordCoverageWritten.{record_lines}
use Rattle.peg_tool.proofs.RecordCoverageLemmas.{record-lines-more}
use Rattle.peg_tool.proofs.covering_records.stopped_record_lines.Goals as goal

pub stopped-preserved : goal.stopped-preserved
stopped-preserved c =
    let stopped = c.args.stopped.now in
    let i = c.stopped.number-index in
    let within : i < length stopped = omega arith in
    let more = record-lines-more stopped i within in
    let name = c.in_ok-name.ensures in
    let before = c.stopped.invariant in
    let added = c.in_ok-push_stopped_line.ensures in
    let whole : string_bytes c.push_stopped_line.new.lines ≡ record_lines (take (i + 1) stopped) = cc in
    whole
