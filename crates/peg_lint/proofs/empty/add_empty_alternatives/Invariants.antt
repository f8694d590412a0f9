use Rattle.std.proofs.Common.{ℕ, List, map}
use Rattle.peg_bytes.specs.Extent.{Extent}
use Rattle.peg_grammar.specs.Written.{form_of}
use Rattle.peg_semantics.specs.Form.{Choice, forms}
use Rattle.peg_semantics.specs.Rules.{Rule}
use Rattle.peg_lint.specs.Linting.{AddsIn, FindsEmptyBefore}
use Rattle.peg_lint.specs.Warnings.{IsPartOfRule}
use Rattle.peg_lint.proofs.empty.add_empty_alternatives.Given as goal

abbrev pub invariant-alternatives : goal.invariant-alternatives
invariant-alternatives l = (file : List ℕ) (rules : List Rule) (span : Extent)
    → IsPartOfRule rules l.rule (Choice (form_of l.first) (forms (map form_of l.rest)) span)
    → AddsIn file rules (FindsEmptyBefore l.rule (form_of l.first) (map form_of l.rest) l.index)
    l.fn.found.items l.found.items
