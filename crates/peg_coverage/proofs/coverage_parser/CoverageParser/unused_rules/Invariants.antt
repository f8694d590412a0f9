use Rattle.std.proofs.Common.{◌≡◌, ◌+◌, map}
use Rattle.peg_coverage.specs.Unused.{rule_use, unmatched}
use Rattle.peg_tree.specs.Selected.{has_rule}
use Rattle.peg_coverage.proofs.coverage_parser.CoverageParser.unused_rules.Given as goal

-- the rules so far that don't match
abbrev pub invariant-rules : goal.invariant-rules
invariant-rules l =
    map rule_use l.unused.items
    ≡ map (λ n. (n, has_rule l.used n)) (unmatched (λ n. has_rule l.used (l.first + n)) l.rule)
