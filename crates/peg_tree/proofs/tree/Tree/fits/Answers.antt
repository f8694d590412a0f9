use Rattle.std.proofs.Common.{◌≡◌, sym, ◌∙◌, map, nat_lt, subst}
use Rattle.std.specs.List.{list_all}
use Rattle.peg_tree.specs.Rows.{Row, row_of, rows_of}
use Rattle.peg_tree.specs.Nodes.{RulesBelow}
use Rattle.peg_tree.specs.TreesOfRows.{trees_of}
use Rattle.peg_tree.proofs.NodeRows.{rules_of_tree, RulesBelow-from_all, all-from_RulesBelow}
use Rattle.peg_tree.proofs.tree.Tree.fits.Goals as goal

pub returns : goal.returns
returns c =
    let rows = c.self.inside.rows.items in
    let tree = trees_of (map row_of rows) in
    let all : c.fit_in.result ≡ list_all (λ (row : Row). nat_lt row.rule c.args.rules) (rows_of tree) =
    rw c.deref.ensures.value at c.fit_in.ensures ∙ sym (rules_of_tree rows c.args.rules c.self.invariant) in (
      λ yes. subst (RulesBelow c.args.rules) c.self.view_is (RulesBelow-from_all c.args.rules tree (sym all ∙ yes)),
      λ below. all ∙ all-from_RulesBelow c.args.rules tree (subst (RulesBelow c.args.rules) (sym c.self.view_is) below),
    )
