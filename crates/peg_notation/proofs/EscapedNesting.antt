-- A tree of the metagrammar before counts has the same nesting depth with the rule numbers of the metagrammar.
use Rattle.std.proofs.Common.{◌≡◌, ℕ, ◌+◌, Bool, max, if◌then◌else◌, refl, ap, ◌∙◌, arith}
use Rattle.std.specs.Prelude.{◌==◌, ◌&&◌, ◌||◌}
use Rattle.std.proofs.lemmas.Bool.Decides.{nat_tests}
use Rattle.peg_tree.specs.Trees.{Trees, NoTrees, Tree}
use Rattle.peg_metagrammar.specs.EscapedFigure.{number_now, numbered_now}
use Rattle.peg_metagrammar.specs.Nesting.{has_open, nesting}
use Rattle.peg_notation.specs.EscapedNesting.{escaped_nesting, has_escaped_open}

-- OPEN has moved by two, and Primary has the same number
open-now : (rule : ℕ) → (number_now rule == 23) ≡ (rule == 21)
open-now rule = grind (arith, nat_tests)

primary-now : (rule : ℕ) → (number_now rule == 6) ≡ (rule == 6)
primary-now rule = grind (arith, nat_tests)

has-open-now : (trees : Trees) → has_open (numbered_now trees) ≡ has_escaped_open trees
has-open-now NoTrees = refl
has-open-now (Tree rule start end children rest) =
    ap (λ (b : Bool). b || has_open (numbered_now rest)) (open-now rule)
    ∙ ap (λ (b : Bool). rule == 21 || b) (has-open-now rest)

pub nests-now : (trees : Trees) → nesting (numbered_now trees) ≡ escaped_nesting trees
nests-now NoTrees = refl
nests-now (Tree rule start end children rest) =
    ap (λ (b : Bool). max ((if b && has_open (numbered_now children) then 1 else 0) + nesting (numbered_now children))
    (nesting (numbered_now rest))) (primary-now rule)
    ∙ (ap (λ (b : Bool). max ((if rule == 6 && b then 1 else 0) + nesting (numbered_now children))
    (nesting (numbered_now rest))) (has-open-now children)
    ∙ (ap (λ (n : ℕ). max ((if rule == 6 && has_escaped_open children then 1 else 0) + n) (nesting (numbered_now rest)))
    (nests-now children)
    ∙ ap (λ (n : ℕ). max ((if rule == 6 && has_escaped_open children then 1 else 0) + escaped_nesting children) n)
    (nests-now rest)))
