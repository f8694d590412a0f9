-- Describes code: the view of a `Parser`.
use Rattle.std.specs.Prelude.{ℕ, List, Option, option_map}
use Rattle.peg_semantics.specs.Rules.{Rule}
use Rattle.peg_parser.specs.Engine.{engine_rules}
use Rattle.peg_parser.specs.declared.options.ParseOptions.{ParseOptions}
use Rattle.peg_parser.specs.declared.parser.Parser.{Parser}

-- the rules of the parser's grammar, in order
abbrev pub parser_rules : Parser → List Rule
parser_rules parser = engine_rules parser.engine

-- the name of the start in the options
abbrev pub start_named : ParseOptions → Option (List ℕ)
start_named options = option_map (λ name. name.now) options.start
