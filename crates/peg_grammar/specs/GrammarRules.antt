-- The rules of a `Grammar`.
use Rattle.std.specs.Prelude.{List}
use Rattle.peg_semantics.specs.Rules.{Rule}
use Rattle.peg_grammar.specs.Written.{rules_of}
use Rattle.peg_grammar.specs.declared.grammar.Grammar.{Grammar}

-- the rules of a grammar, in order
abbrev pub rules_in : Grammar → List Rule
rules_in grammar = rules_of grammar.definitions.items
