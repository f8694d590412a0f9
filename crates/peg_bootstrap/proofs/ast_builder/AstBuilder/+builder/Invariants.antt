use Rattle.std.proofs.Common.{◌+◌, ◌*◌, ◌∷◌, map, length}
use Rattle.peg_grammar.specs.Written.{form_of}
use Rattle.peg_bootstrap.specs.AstBuilderCode.{file_in}
use Rattle.peg_tree.specs.Branches.{trees_in}
use Rattle.peg_tree.specs.Nodes.{root_count}
use Rattle.peg_bootstrap.proofs.Shapes.{Prefixes, Alternatives}
use Rattle.peg_bootstrap.proofs.Walks.{Spelling}
use Rattle.peg_bootstrap.proofs.ast_builder.AstBuilder.+builder.Given as goal

abbrev pub decreases-expression : goal.decreases-expression
decreases-expression l = 8 * l.left + 5

abbrev pub decreases-sequence : goal.decreases-sequence
decreases-sequence l = 8 * l.left + 4

abbrev pub decreases-prefix : goal.decreases-prefix
decreases-prefix l = 8 * l.left + 3

abbrev pub decreases-suffix : goal.decreases-suffix
decreases-suffix l = 8 * l.left + 2

abbrev pub decreases-primary : goal.decreases-primary
decreases-primary l = 8 * l.left + 1

abbrev pub decreases-parenthesized : goal.decreases-parenthesized
decreases-parenthesized l = 8 * l.left

-- the sequences so far
abbrev pub invariant-expression-alternatives : goal.invariant-expression-alternatives
invariant-expression-alternatives l =
    Spelling (file_in l.self) (Alternatives (file_in l.self) l.node.span.end) l.before l.node.span.start l.left
    (trees_in l.node.children) (form_of l.first.expression ∷ map form_of l.more.list.items) (length l.more.list.items) l.more.last (trees_in l.rest)

abbrev pub decreases-expression-alternatives : goal.decreases-expression-alternatives
decreases-expression-alternatives l = root_count (trees_in l.rest)

-- the expressions so far
abbrev pub invariant-sequence-items : goal.invariant-sequence-items
invariant-sequence-items l =
    Spelling (file_in l.self) (Prefixes (file_in l.self) l.node.span.end) l.before l.node.span.start l.left
    (trees_in l.node.children) (map form_of l.items.list.items) (length l.items.list.items) l.items.last (trees_in l.rest)

abbrev pub decreases-sequence-items : goal.decreases-sequence-items
decreases-sequence-items l = root_count (trees_in l.rest)
