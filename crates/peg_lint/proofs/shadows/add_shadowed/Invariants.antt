use Rattle.std.proofs.Common.{ℕ, map}
use Rattle.peg_bytes.specs.Extent.{Extent}
use Rattle.peg_grammar.specs.GrammarRules.{rules_in}
use Rattle.peg_grammar.specs.Written.{form_of}
use Rattle.peg_semantics.specs.Form.{Choice, forms}
use Rattle.peg_lint.specs.Known.{AreKnown}
use Rattle.peg_lint.specs.Linting.{KeepsTrue}
use Rattle.peg_lint.specs.Warnings.{IsPartOfRule}
use Rattle.peg_lint.proofs.shadows.add_shadowed.Given as goal

abbrev pub invariant-alternatives : goal.invariant-alternatives
invariant-alternatives l = (n : ℕ) (span : Extent) → AreKnown (rules_in l.grammar) n l.table
    → IsPartOfRule (rules_in l.grammar) l.rule (Choice (form_of l.first) (forms (map form_of l.rest)) span)
    → KeepsTrue (rules_in l.grammar) l.fn.found.items l.found.items
