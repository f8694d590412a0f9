use Rattle.std.proofs.Common.{ℕ, map}
use Rattle.peg_grammar.specs.GrammarRules.{rules_in}
use Rattle.peg_grammar.specs.Written.{form_of}
use Rattle.peg_semantics.specs.Form.{forms}
use Rattle.peg_lint.specs.Known.{AreKnown}
use Rattle.peg_lint.specs.Linting.{AllArePartsOfRule, KeepsTrue}
use Rattle.peg_lint.proofs.edge_visit.+visit.Given as goal

abbrev pub invariant-lint_all_edges-loop-item : goal.invariant-lint_all_edges-loop-item
invariant-lint_all_edges-loop-item l = (n : ℕ) → AreKnown (rules_in l.grammar) n l.table
    → AllArePartsOfRule (rules_in l.grammar) l.rule (forms (map form_of l.items))
    → KeepsTrue (rules_in l.grammar) l.fn.found.items l.found.items
