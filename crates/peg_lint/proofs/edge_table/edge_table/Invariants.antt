use Rattle.peg_grammar.specs.GrammarRules.{rules_in}
use Rattle.peg_lint.specs.Known.{AreKnown}
use Rattle.peg_lint.proofs.edge_table.edge_table.Given as goal

-- names are followed through one rule more in each round
abbrev pub invariant-rounds : goal.invariant-rounds
invariant-rounds l = AreKnown (rules_in l.grammar) l._round l.table.items
