use Rattle.std.proofs.Common.{◌≡◌, ◌≤◌, ◌+◌, ◌<◌, suc, ap, sym, ◌∙◌, arith}
use Rattle.peg_metagrammar.specs.FigureText.{line_start}
use Rattle.peg_metagrammar.proofs.LineStarts.{next_start, start-small, no_line_before}
use Rattle.peg_metagrammar.proofs.line.Line.of_rule.Goals as goal

pub lines-init : goal.lines-init
lines-init c = no_line_before

pub overflow_add-start : goal.overflow_add-start
overflow_add-start c =
    omega (
      arith,
      c.lines.invariant,
      c.from-start.ensures,
      next_start c.lines.line (omega (arith, c.requires, c.lines-test.true)),
      start-small (c.lines.line + 1),
    )

pub lines-preserved : goal.lines-preserved
lines-preserved c =
    omega (arith, c.lines.invariant, c.from-start.ensures, next_start c.lines.line (omega (arith, c.requires, c.lines-test.true)))

pub returns : goal.returns
returns c =
    c.lines.invariant ∙ ap line_start (omega (arith, c.lines.auto.line-end, c.lines-test.false))
