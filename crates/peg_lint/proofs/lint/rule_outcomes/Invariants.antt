use Rattle.std.proofs.Common.{◌≡◌, ◌++◌, drop, map}
use Rattle.peg_check.specs.Cans.{can_of}
use Rattle.peg_check.specs.Exact.{cans_of}
use Rattle.peg_lint.proofs.lint.rule_outcomes.Given as goal

-- the outcomes so far and those of the remaining bodies are those of all bodies
abbrev pub invariant-bodies : goal.invariant-bodies
invariant-bodies l =
    map can_of l.outcomes.items ++ cans_of (drop l.rule l.core.bodies) l.table ≡ cans_of l.core.bodies l.table
