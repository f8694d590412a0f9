use Rattle.std.proofs.Common.{◌≤◌, ◌∙◌, sym, subst, arith}
use Rattle.peg_metagrammar.specs.Nesting.{max_open}
use Rattle.peg_tree.specs.Branches.{tree_of_branch}
use Rattle.peg_bootstrap.specs.AstBuilderCode.{file_in, BuildsAt}
use Rattle.peg_bootstrap.specs.FigureNodes.{HasBadCount}
use Rattle.peg_bootstrap.proofs.Facts.{err_stated}
use Rattle.peg_bootstrap.proofs.Loops.{bad-same}
use Rattle.peg_bootstrap.proofs.RuleFacts as facts
use Rattle.peg_bootstrap.proofs.ast_builder.AstBuilder.definition.Goals as goal

pub first-name-requires : goal.first-name-requires
first-name-requires c = facts.name_some (file_in c.args.self.now) c.args.node.now c.requires

pub first-arrow-requires : goal.first-arrow-requires
first-arrow-requires c = facts.arrow_some (file_in c.args.self.now) c.args.node.now c.requires c.first-name.result c.first-name.ensures

pub rule_name-requires : goal.rule_name-requires
rule_name-requires c = facts.name_identifier (file_in c.args.self.now) c.args.node.now c.requires c.first-name.result c.first-name.ensures

pub first-requires : goal.first-requires
first-requires c = facts.body_some (file_in c.args.self.now) c.args.node.now c.requires c.first-name.result c.first-name.ensures c.first-arrow.result c.first-arrow.ensures

pub expression-requires-clause-node : goal.expression-requires-clause-node
expression-requires-clause-node c = facts.body_expression (file_in c.args.self.now) c.args.node.now c.requires c.first-name.result c.first-name.ensures c.first-arrow.result c.first-arrow.ensures c.first.result c.first.ensures

pub expression-requires-clause-ordered : goal.expression-requires-clause-ordered
expression-requires-clause-ordered c =
    let following = facts.body_following (file_in c.args.self.now) c.args.node.now c.requires c.first-name.result c.first-name.ensures c.first-arrow.result c.first-arrow.ensures c.first.result c.first.ensures in
    omega (arith, following, c.token_end.ensures)

pub returns-clause-spells : goal.returns-clause-spells
returns-clause-spells c before =
    facts.rule_says (file_in c.args.self.now) c.args.node.now c.requires c.first-name.result c.first-name.ensures c.first-arrow.result c.first-arrow.ensures c.first.result c.first.ensures _ _ _ _ _
    c.in_ok-rule_name.ensures.spells.pieces c.in_ok-rule_name.ensures.spells.ends
    (subst (λ n. BuildsAt (file_in c.args.self.now) n (tree_of_branch c.first.result) c.in_ok-body.body) c.token_end.ensures
    c.in_ok-body.ensures.spells) before

pub returns-clause-within : goal.returns-clause-within
returns-clause-within c =
    subst (λ n. n ≤ max_open) (sym (facts.rule_nests (file_in c.args.self.now) c.args.node.now c.requires c.first-name.result c.first-name.ensures c.first-arrow.result c.first-arrow.ensures c.first.result c.first.ensures))
    c.in_ok-body.ensures.within

pub returns-clause-fine : goal.returns-clause-fine
returns-clause-fine c = facts.rule_counts (file_in c.args.self.now) c.args.node.now c.requires c.first-name.result c.first-name.ensures c.first-arrow.result c.first-arrow.ensures c.first.result c.first.ensures ∙ c.in_ok-body.ensures.fine

pub returns-in_err-body-clause-bad : goal.returns-in_err-body-clause-bad
returns-in_err-body-clause-bad c =
    err_stated (HasBadCount (file_in c.args.self.now) (tree_of_branch c.args.node.now)) _ _ c.from_residual-in_err-body.ensures.1
    (bad-same (file_in c.args.self.now) (tree_of_branch c.first.result) (tree_of_branch c.args.node.now) (facts.rule_counts (file_in c.args.self.now) c.args.node.now c.requires c.first-name.result c.first-name.ensures c.first-arrow.result c.first-arrow.ensures c.first.result c.first.ensures) _ c.in_err-body.ensures.bad)
