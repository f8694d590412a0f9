use Rattle.peg_grammar.specs.GrammarRules.{rules_in}
use Rattle.peg_lint.specs.Known.{known_in}
use Rattle.peg_lint.proofs.EdgeTableLemmas.{SoFar}
use Rattle.peg_lint.proofs.edge_table.unknown_table.Given as goal

-- nothing is known so far
abbrev pub invariant-rules : goal.invariant-rules
invariant-rules l = SoFar (known_in (rules_in l.grammar) 0) l.table.items l._rule
