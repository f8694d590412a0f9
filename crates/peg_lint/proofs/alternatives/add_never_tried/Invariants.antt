use Rattle.std.proofs.Common.{List, map}
use Rattle.peg_bytes.specs.Extent.{Extent, extent}
use Rattle.peg_check.specs.Cans.{can_of}
use Rattle.peg_grammar.specs.Written.{form_of}
use Rattle.peg_semantics.specs.Form.{forms}
use Rattle.peg_semantics.specs.Rules.{Rule}
use Rattle.peg_lint.specs.Linting.{Adds, FindsUntriedFrom, IsChoiceWith}
use Rattle.peg_lint.proofs.alternatives.add_never_tried.Given as goal

abbrev pub invariant-alternatives : goal.invariant-alternatives
invariant-alternatives l = (rules : List Rule) (span : Extent)
    → IsChoiceWith rules l.rule (form_of l.first) (forms (map form_of l.rest)) span (can_of l.fn.can) (map can_of l.cans)
    → Adds rules (FindsUntriedFrom l.rule (map form_of l.rest) l.number l.index (extent l.by)) l.fn.found.items
    l.found.items
