-- The loop invariants of `AstBuilder`.
use Rattle.std.proofs.Common.{ℕ, ◌<◌, ◌≤◌, List}
use Rattle.peg_tree.specs.Trees.{Trees}
use Rattle.peg_semantics.specs.Form.{Form}
use Rattle.peg_semantics.specs.Rules.{Rule}
use Rattle.peg_metagrammar.specs.Nesting.{max_open}
use Rattle.peg_bootstrap.proofs.Loops.{SoFar, RulesSoFar}
use Rattle.peg_bootstrap.proofs.Shapes.{Definitions}

-- the expressions of the nodes before the rest, from an offset on
pub record Spelling (file : List ℕ) (rest_is : ℕ → Trees → Type 0) (before start left : ℕ) (nodes : Trees)
    (list : List Form) (count last : ℕ) (rest : Trees) : Type 0 where
  pub position : ℕ
  pub shape : rest_is position rest
  pub following : start ≤ position
  pub so_far : SoFar file before left nodes list last rest
  pub order : before ≤ last
  pub some : 0 < count → start ≤ last

-- the definitions of the nodes before the rest, after which the file ends
pub record Defining (file : List ℕ) (tree : Trees) (list : List Rule) (rest : Trees) : Type 0 where
  pub end : ℕ
  pub position : ℕ
  pub shape : Definitions file end position rest
  pub so_far : RulesSoFar file max_open tree list rest
