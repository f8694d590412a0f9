use Rattle.std.proofs.Common.{◌≡◌, ◌+◌, drop}
use Rattle.std.specs.List.{prefix_len}
use Rattle.peg_messages.specs.Source.{is_in_line}
use Rattle.peg_messages.proofs.source.line_from.Given as goal

abbrev pub invariant-line : goal.invariant-line
invariant-line l =
    l.length + prefix_len (is_in_line l.lines) (drop l.length l.rest) ≡ prefix_len (is_in_line l.lines) l.rest
