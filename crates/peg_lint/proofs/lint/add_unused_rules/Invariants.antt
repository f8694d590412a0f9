use Rattle.std.proofs.Common.{◌<◌, ℕ, All, None}
use Rattle.peg_bytes.specs.Extent.{Extent}
use Rattle.peg_grammar.specs.GrammarRules.{rules_in}
use Rattle.peg_lint.specs.Linting.{Keeps}
use Rattle.peg_lint.specs.Warnings.{HasWarning, IsTrueWarning, IsUnreached}
use Rattle.peg_lint.specs.declared.warning.WarningKind.TheVariants as kind
use Rattle.peg_lint.proofs.lint.add_unused_rules.Given as goal

abbrev pub invariant-rules : goal.invariant-rules
invariant-rules l = record {
  truth : All (IsTrueWarning (rules_in l.grammar) l.fn.start) l.found.items;
  kept : Keeps l.fn.found.items l.found.items;
  unused : (number : ℕ) (span : Extent) → number < l.rule → IsUnreached (rules_in l.grammar) l.fn.start number span
      → HasWarning l.found.items kind.UnusedRule number span None;
}
