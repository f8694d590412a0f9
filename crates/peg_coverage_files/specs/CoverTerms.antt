-- Describes code: by what the records of a query are covered.
use Rattle.std.specs.Prelude.{◌≡◌, ℕ, List, Some}
use Rattle.peg_coverage.specs.Covered.{ParseSettings, settings_of}
use Rattle.peg_coverage.specs.CoverageParser.{IsCoverageParserOf}
use Rattle.peg_coverage.specs.declared.coverage_parser.CoverageParser.{CoverageParser}
use Rattle.peg_coverage.specs.declared.text_match.RequiredMatch.{RequiredMatch}
use Rattle.peg_parser.specs.Parser.{start_named}
use Rattle.peg_semantics.specs.Rules.{Rule}
use Rattle.peg_semantics.specs.Starts.{start_name}
use Rattle.peg_coverage_files.specs.declared.cover_query.CoverQuery.{CoverQuery}

-- By what texts are covered: the rules of a grammar, a start, the settings of a parse, and how much of a text has to
-- match.
pub record CoverTerms : Type 0 where
  pub rules : List Rule
  pub start : List ℕ
  pub settings : ParseSettings
  pub needed : RequiredMatch

-- a parser and a query cover texts by these terms
pub record AreTermsOf (parser : CoverageParser) (query : CoverQuery) (terms : CoverTerms) : Type 0 where
  pub made : IsCoverageParserOf terms.rules parser
  pub from : start_name terms.rules (start_named query.options) ≡ Some terms.start
  pub settings : settings_of query.options ≡ terms.settings
  pub needed : query.needed ≡ terms.needed
