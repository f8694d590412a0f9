-- Describes code: what a `CoverageParser` is made of.
use Rattle.std.specs.Prelude.{◌≡◌, ◌≢◌, ℕ, ◌^◌, ◌<◌, ◌≤◌, AllPairs, List, length, map}
use Rattle.peg_bytes.specs.Extent.{extent}
use Rattle.peg_diagnostics.specs.Marked.{extents_of_alternatives, marked_rules, markers_of_rules}
use Rattle.peg_parser.specs.Engine.{shown_parser_rules}
use Rattle.peg_semantics.specs.Rules.{Rule, names}
use Rattle.peg_semantics.specs.WellFormed.{IsWellFormedGrammar}
use Rattle.peg_coverage.specs.declared.coverage_parser.CoverageParser.{CoverageParser}

-- The parser was made for these rules, which are well-formed. It has the parser of their marked grammar, whose names
-- are distinct, the number of the rules themselves, and the span of each alternative.
pub record IsCoverageParserOf (rules : List Rule) (parser : CoverageParser) : Type 0 where
  pub some : 0 < length rules
  pub formed : ∥ IsWellFormedGrammar rules ∥₁
  pub marked : shown_parser_rules parser.parser ≡ marked_rules rules
  pub distinct : AllPairs (λ (a b : List ℕ). a ≢ b) (names (marked_rules rules))
  pub few : markers_of_rules rules ≤ 2 ^ 64
  pub own : parser.own_rules ≡ length rules
  pub spans : map extent parser.alternatives.items ≡ extents_of_alternatives rules

-- the number of rules of the parser's marked grammar
abbrev pub rule_count : CoverageParser → ℕ
rule_count parser = length (shown_parser_rules parser.parser)
