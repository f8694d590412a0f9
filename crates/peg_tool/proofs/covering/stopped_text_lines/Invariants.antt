use Rattle.std.proofs.Common.{◌≡◌, map, string_bytes, take}
use Rattle.peg_tool.specs.CoverageOutcome.{stopped_lines}
use Rattle.peg_tool.proofs.covering.stopped_text_lines.Given as goal

-- the first texts have their lines
abbrev pub invariant-stopped : goal.invariant-stopped
invariant-stopped l =
    string_bytes l.lines ≡ stopped_lines (map string_bytes l.names) (take l.number-index l.stopped)
