use Rattle.std.proofs.Common.{◌≡◌, map, take}
use Rattle.peg_grammar.specs.GrammarRules.{rules_in}
use Rattle.peg_semantics.specs.Rules.{names}
use Rattle.peg_parser.proofs.refusal.names_of.Given as goal

-- the names so far
abbrev pub invariant-loop-rule : goal.invariant-loop-rule
invariant-loop-rule l = map (λ name. name.now) l.list.items ≡ take l.rule (names (rules_in l.grammar))
