use Rattle.std.proofs.Common.{ℕ, map}
use Rattle.peg_bytes.specs.Extent.{Extent}
use Rattle.peg_grammar.specs.GrammarRules.{rules_in}
use Rattle.peg_grammar.specs.Written.{form_of}
use Rattle.peg_semantics.specs.Form.{Seq, forms}
use Rattle.peg_lint.specs.Known.{AreKnown}
use Rattle.peg_lint.specs.Linting.{KeepsTrue}
use Rattle.peg_lint.specs.Warnings.{IsPartOfRule}
use Rattle.peg_lint.proofs.stops.add_never_stops.Given as goal

abbrev pub invariant-items : goal.invariant-items
invariant-items l = (n : ℕ) (span : Extent) → AreKnown (rules_in l.grammar) n l.table
    → IsPartOfRule (rules_in l.grammar) l.rule (Seq (forms (map form_of l.items)) span)
    → KeepsTrue (rules_in l.grammar) l.fn.found.items l.found.items
