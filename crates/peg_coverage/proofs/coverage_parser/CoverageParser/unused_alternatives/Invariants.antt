use Rattle.std.proofs.Common.{◌≡◌, map}
use Rattle.peg_bytes.specs.Extent.{extent}
use Rattle.peg_coverage.specs.Unused.{alternative_use}
use Rattle.peg_coverage.proofs.UnusedLemmas.{uses_so_far}
use Rattle.peg_coverage.proofs.coverage_parser.CoverageParser.unused_alternatives.Given as goal

-- the alternatives so far that don't match
abbrev pub invariant-alternatives : goal.invariant-alternatives
invariant-alternatives l =
    map alternative_use l.unused.items
    ≡ uses_so_far (map extent l.self.alternatives.items) l.self.own_rules l.used l.number
