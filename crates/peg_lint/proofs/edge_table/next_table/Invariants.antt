use Rattle.std.proofs.Common.{ℕ, suc}
use Rattle.peg_grammar.specs.GrammarRules.{rules_in}
use Rattle.peg_lint.specs.Known.{AreKnown, known_in}
use Rattle.peg_lint.proofs.EdgeTableLemmas.{SoFar}
use Rattle.peg_lint.proofs.edge_table.next_table.Given as goal

-- what is known of the rules so far
abbrev pub invariant-rules : goal.invariant-rules
invariant-rules l = (n : ℕ) → AreKnown (rules_in l.grammar) n l.table
    → SoFar (known_in (rules_in l.grammar) (suc n)) l.next.items l.rule
