-- Describes code: the views of an `Engine` and of a `ShownParser`.
use Rattle.std.specs.Prelude.{Bool, List, Option}
use Rattle.peg_grammar.specs.GrammarRules.{rules_in}
use Rattle.peg_semantics.specs.Rules.{Rule}
use Rattle.peg_parser.specs.declared.engine.Engine.{Engine}
use Rattle.peg_parser.specs.declared.shown_parser.ShownParser.{ShownParser}

-- the rules of the engine's grammar, in order
abbrev pub engine_rules : Engine → List Rule
engine_rules engine = rules_in engine.grammar

-- the set of rules that an engine shows, or `None` for all
abbrev pub shown_in : Engine → Option (List Bool)
shown_in engine = engine.program.shown

-- the same of a parser that shows some rules
abbrev pub shown_parser_rules : ShownParser → List Rule
shown_parser_rules parser = engine_rules parser.engine

abbrev pub rules_shown : ShownParser → Option (List Bool)
rules_shown parser = shown_in parser.engine
