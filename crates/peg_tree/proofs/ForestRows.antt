-- The first tree of a forest, by its node list.
use Rattle.std.proofs.Common.{◌≡◌, ◌≢◌, ℕ, ◌-◌, ◌<◌, ◌≤◌, List, [], ◌∷◌, ◌++◌, length, take, drop, get_or, map, refl, sym, ◌∙◌, ap, subst, arith}
use Rattle.std.proofs.Math.Seq.{take-append_seam, take-length}
use Rattle.std.proofs.lemmas.List.{length-append, length-map, length-drop, take-map}
use Rattle.peg_tree.specs.declared.row.TreeNode.{TreeNode}
use Rattle.peg_tree.specs.Trees.{NoTrees, Tree}
use Rattle.peg_tree.specs.Rows.{row_of, rows_of}
use Rattle.peg_tree.specs.TreesOfRows.{first_trees, trees_after, trees_of, IsForest}
use Rattle.peg_tree.specs.TreesCode.{trees_of-rows_of}
use Rattle.peg_tree.proofs.Forests.{length-rows_of, IsForest-rows_of, IsForest-drop, IsForest-size, trees_of-after_tree, map-drop}

-- the nodes from n on, up to the last
to_last : (n : ℕ) (rows : List TreeNode) → take (length rows - n) (drop n rows) ≡ drop n rows
to_last n rows = ap (λ k. take k (drop n rows)) (sym (length-drop n rows)) ∙ take-length (drop n rows)

-- what the first node determines: the end of its tree, the nodes below it, and the trees of those nodes
pub record FirstTree (rows : List TreeNode) (root : TreeNode) : Type 0 where
  pub some : 0 < root.size
  pub fits : root.size ≤ length rows
  pub below : IsForest (map row_of (take (root.size - 1) (drop 1 rows)))
  pub following : IsForest (map row_of (take (length rows - root.size) (drop root.size rows)))
  pub trees : trees_of (map row_of rows) ≡ Tree root.rule root.span.start root.span.end
      (trees_of (map row_of (take (root.size - 1) (drop 1 rows)))) (trees_of (map row_of (take (length rows - root.size) (drop root.size rows))))

pub first_tree : (root : TreeNode) (rows : List TreeNode) → IsForest (map row_of (root ∷ rows)) → FirstTree (root ∷ rows) root
first_tree root rows forest =
    let row = row_of root in
    let more = map row_of rows in
    let children = first_trees (root.size - 1) (trees_of more) in
    let rest = trees_after (root.size - 1) (trees_of more) in
    let size = IsForest-size row more forest in
    let tail : rows_of children ++ rows_of rest ≡ more = ap (drop 1) forest in
    let count : length (rows_of children) ≡ root.size - 1 = omega (arith, length-rows_of children) in
    let inside : map row_of (take (root.size - 1) rows) ≡ rows_of children =
    sym (take-map row_of (root.size - 1) rows) ∙ (ap (take (root.size - 1)) (sym tail)
    ∙ (ap (λ n. take n (rows_of children ++ rows_of rest)) (sym count) ∙ take-append_seam (rows_of children) (rows_of rest))) in
    let after : map row_of (take (length (root ∷ rows) - root.size) (drop root.size (root ∷ rows))) ≡ drop root.size (row ∷ more) =
    ap (map row_of) (to_last root.size (root ∷ rows)) ∙ map-drop row_of root.size (root ∷ rows) in
    record {
      some = omega arith;
      fits = omega (arith, ap length tail, length-append (rows_of children) (rows_of rest), length-map rows row_of);
      below = subst IsForest (sym inside) (IsForest-rows_of children);
      following = subst IsForest (sym after) (IsForest-drop root.size (row ∷ more) forest);
      trees = ap (λ t. Tree root.rule root.span.start root.span.end t rest) (sym (ap trees_of inside ∙ trees_of-rows_of children))
          ∙ ap (λ t. Tree root.rule root.span.start root.span.end (trees_of (map row_of (take (root.size - 1) rows))) t)
          (sym (ap trees_of after ∙ trees_of-after_tree row more forest));
    }

pub first_of : (rows : List TreeNode) (d : TreeNode) → IsForest (map row_of rows) → trees_of (map row_of rows) ≢ NoTrees
    → FirstTree rows (get_or rows 0 d)
first_of [] d forest some = absurd (some refl)
first_of (root ∷ rows) d forest some = first_tree root rows forest
