use Rattle.std.proofs.Common.{◌≡◌, ◌+◌, ◌<◌, arith, ap, get_or, length, map, string_bytes, take, []}
use Rattle.std.proofs.lemmas.List.{get_or-map}
use Rattle.peg_tool.specs.CoverageOutcome.{stopped_lines}
use Rattle.peg_tool.proofs.CoverageLemmas.{stopped-more}
use Rattle.peg_tool.proofs.covering.stopped_text_lines.Goals as goal

pub stopped-preserved : goal.stopped-preserved
stopped-preserved c =
    let names = map string_bytes c.args.names.now in
    let stopped = c.args.stopped.now in
    let i = c.stopped.number-index in
    let within : i < length stopped = omega arith in
    let number = get_or stopped i 0 in
    let at = get_or-map string_bytes c.args.names.now number c.index-names-number.result [] (c.requires i 0 within) in
    let more = stopped-more names stopped i within in
    let name = ap string_bytes c.index-names-number.is in
    let before = c.stopped.invariant in
    let added = c.in_ok-push_stopped_line.ensures in
    let whole : string_bytes c.push_stopped_line.new.lines ≡ stopped_lines names (take (i + 1) stopped) = cc in
    whole
