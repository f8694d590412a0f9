use Rattle.std.proofs.Common.{List, drop, map}
use Rattle.peg_grammar.specs.Written.{form_of}
use Rattle.peg_semantics.specs.Form.{forms}
use Rattle.peg_semantics.specs.Rules.{Rule}
use Rattle.peg_semantics.specs.WellFormed.{below_all}
use Rattle.peg_lint.specs.Linting.{AddsIn, AllArePartsOfRule, FindsBut}
use Rattle.peg_lint.proofs.file_visit.+file.Given as goal

abbrev pub invariant-lint_texts-loop-item : goal.invariant-lint_texts-loop-item
invariant-lint_texts-loop-item l = (rules : List Rule)
    → AllArePartsOfRule rules l.rule (forms (map form_of l.items))
    → AddsIn l.file rules (FindsBut l.file l.rule (below_all (forms (drop l.item-index (map form_of l.items))))
    (below_all (forms (map form_of l.items)))) l.fn.found.items l.found.items
