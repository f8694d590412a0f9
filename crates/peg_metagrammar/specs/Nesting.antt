-- The nesting depth of parentheses in a metagrammar tree.
use Rattle.std.specs.Prelude.{ℕ, ◌+◌, Bool, false, max, if◌then◌else◌, ◌==◌, ◌&&◌, ◌||◌}
use Rattle.peg_tree.specs.Trees.{Trees, NoTrees, Tree}
use Rattle.peg_metagrammar.specs.FigureRules.{primary_rule, open_sign_rule}

-- whether one of the trees is an OPEN node
abbrev pub has_open : Trees → Bool
has_open NoTrees = false
has_open (Tree rule start end children rest) = rule == open_sign_rule || has_open rest

-- the greatest number of Primary nodes with an OPEN child on one path from a root
abbrev pub nesting : Trees → ℕ
nesting NoTrees = 0
nesting (Tree rule start end children rest) =
    max ((if rule == primary_rule && has_open children then 1 else 0) + nesting children) (nesting rest)

-- the maximum number of parentheses that may be open at once
abbrev pub max_open : ℕ
max_open = 200
