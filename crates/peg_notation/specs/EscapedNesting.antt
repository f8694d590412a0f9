-- The nesting depth of parentheses in a tree of the metagrammar before counts. Only the number of OPEN differs.
use Rattle.std.specs.Prelude.{ℕ, ◌+◌, Bool, false, max, if◌then◌else◌, ◌==◌, ◌&&◌, ◌||◌}
use Rattle.peg_tree.specs.Trees.{Trees, NoTrees, Tree}
use Rattle.peg_metagrammar.specs.FigureRules.{primary_rule, count_rule}

-- the number of OPEN, which came directly after PLUS, where COUNT is now
abbrev pub escaped_open : ℕ
escaped_open = count_rule

abbrev pub has_escaped_open : Trees → Bool
has_escaped_open NoTrees = false
has_escaped_open (Tree rule start end children rest) = rule == escaped_open || has_escaped_open rest

abbrev pub escaped_nesting : Trees → ℕ
escaped_nesting NoTrees = 0
escaped_nesting (Tree rule start end children rest) =
    max ((if rule == primary_rule && has_escaped_open children then 1 else 0) + escaped_nesting children)
    (escaped_nesting rest)
