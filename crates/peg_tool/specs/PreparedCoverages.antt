-- Describes code: what is known of a grammar file before texts are covered.
use Rattle.std.specs.Prelude.{◌≡◌, List, ℕ, []}
use Rattle.peg_coverage.specs.CoverageParser.{IsCoverageParserOf}
use Rattle.peg_json.specs.Lines.{line_bytes}
use Rattle.peg_json.specs.Statuses.{status_code}
use Rattle.peg_parser.specs.Accepts.{Accepts}
use Rattle.peg_parser.specs.Parser.{parser_rules}
use Rattle.peg_tool.specs.RecordCoverage.{RefusesCoverage}
use Rattle.peg_tool.specs.Requests.{CoverQuestion}
use Rattle.peg_tool.specs.declared.prepare_coverage.CoverGrammar.{CoverGrammar}
use Rattle.peg_tool.specs.declared.prepare_coverage.PreparedCoverage.{PreparedCoverage}
use Rattle.peg_tool.specs.declared.prepare_coverage.PreparedCoverage.TheVariants.{Ready, Refused}

-- the parsers are those of one grammar
abbrev pub HasCoverageParser : CoverGrammar → Type 0
HasCoverageParser grammar = IsCoverageParserOf (parser_rules grammar.parser) grammar.coverage

abbrev pub AreParsers : PreparedCoverage → Type 0
AreParsers (Ready grammar) = HasCoverageParser grammar
AreParsers (Refused line) = Unit {0}

-- a grammar file with these bytes is accepted, and was read
abbrev pub IsCoverGrammarOf : (file : List ℕ) → CoverGrammar → Type 0
IsCoverGrammarOf file grammar = (grammar.file.items ≡ file) × Accepts file (parser_rules grammar.parser)

-- what is known of a grammar file with these bytes
abbrev pub IsPreparedCoverage : (file : List ℕ) → PreparedCoverage → Type 0
IsPreparedCoverage file (Ready grammar) = IsCoverGrammarOf file grammar
IsPreparedCoverage file (Refused line) =
    (question : CoverQuestion) → RefusesCoverage question file (line_bytes line) (status_code line.status) []
