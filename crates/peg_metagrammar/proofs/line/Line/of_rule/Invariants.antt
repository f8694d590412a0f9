use Rattle.std.proofs.Common.{◌≡◌}
use Rattle.peg_metagrammar.specs.FigureText.{line_start}
use Rattle.peg_metagrammar.proofs.line.Line.of_rule.Given as goal

-- the lengths of the lines before this one are added up
abbrev pub invariant-lines : goal.invariant-lines
invariant-lines l = l.start ≡ line_start l.line
