use Rattle.std.proofs.Common.{ap, sym, ◌∙◌, subst, ◌∷◌, []}
use Rattle.std.proofs.lemmas.List.{map-append}
use Rattle.peg_grammar.specs.Written.{rule_of, rules_of}
use Rattle.peg_tree.specs.Branches.{trees_from_branch}
use Rattle.peg_bootstrap.specs.FigureNodes.{HasBadCount}
use Rattle.peg_bootstrap.proofs.Facts.{err_stated}
use Rattle.peg_bootstrap.proofs.RuleFacts as facts
use Rattle.peg_bootstrap.proofs.Walks.{Defining}
use Rattle.peg_bootstrap.proofs.definitions.definitions_before_count.Goals as goal

pub first-requires : goal.first-requires
first-requires c none = facts.tree_some c.args.file.now c.args.tree.now c.requires (sym c.forest.ensures ∙ none)

pub first-spacing-requires : goal.first-spacing-requires
first-spacing-requires c =
    facts.spacing_some c.args.file.now c.args.tree.now c.requires c.first.result (sym c.forest.ensures ∙ c.first.ensures)

pub first-node-requires : goal.first-node-requires
first-node-requires c =
    facts.rules_some c.args.file.now c.args.tree.now c.requires c.first.result (sym c.forest.ensures ∙ c.first.ensures)
    c.first-spacing.result c.first-spacing.ensures

pub definitions-init : goal.definitions-init
definitions-init c =
    subst (λ l. Defining c.args.file.now c.args.tree.now l (trees_from_branch c.first-node.result)) (sym (ap rules_of c.new-definitions.ensures.items))
    (facts.rules_none c.args.file.now c.args.tree.now c.requires c.first.result (sym c.forest.ensures ∙ c.first.ensures)
    c.first-spacing.result c.first-spacing.ensures c.first-node.result c.first-node.ensures)

pub definitions-preserved : goal.definitions-preserved
definitions-preserved c =
    subst (λ l. Defining c.args.file.now c.args.tree.now l (trees_from_branch c.first-node-in-definitions.result))
    (sym (ap rules_of c.in_ok-push.ensures.items ∙ map-append rule_of c.definitions.definitions.items (c.in_ok-definition.definition ∷ [])))
    (facts.rules_one c.args.file.now c.args.tree.now _ c.definitions.node c.definitions.invariant c.definitions-test.true
    c.first-node-in-definitions.result c.first-node-in-definitions.ensures (rule_of c.in_ok-definition.definition)
    c.in_ok-definition.ensures.spells c.in_ok-definition.ensures.within c.in_ok-definition.ensures.fine)

pub returns-clause-spells : goal.returns-clause-spells
returns-clause-spells c =
    facts.rules_all c.args.file.now c.args.tree.now _ c.definitions.node c.definitions.invariant c.definitions-test.false

pub returns-clause-within : goal.returns-clause-within
returns-clause-within c =
    facts.rules_nest c.args.file.now c.args.tree.now _ c.definitions.node c.definitions.invariant c.definitions-test.false

pub returns-clause-fine : goal.returns-clause-fine
returns-clause-fine c =
    facts.rules_fine c.args.file.now c.args.tree.now _ c.definitions.node c.definitions.invariant c.definitions-test.false

pub returns-in_err-definition-clause-bad : goal.returns-in_err-definition-clause-bad
returns-in_err-definition-clause-bad c =
    err_stated (HasBadCount c.args.file.now c.args.tree.now) _ _ c.from_residual.ensures.1
    (facts.rule_bad c.args.file.now c.args.tree.now _ c.definitions.node c.definitions.invariant _ c.in_err-definition.ensures.bad)
