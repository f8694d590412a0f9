use Rattle.std.proofs.Common.{sym, subst}
use Rattle.peg_grammar.specs.GrammarRules.{rules_in}
use Rattle.peg_grammar.specs.Written.{form_of}
use Rattle.peg_lint.specs.Known.{AreKnown}
use Rattle.peg_lint.proofs.EdgeTableLemmas.{length-known}
use Rattle.peg_lint.proofs.FileLemmas.{KeepsTrue-both, KeepsTrue-same}
use Rattle.peg_lint.proofs.PartLemmas.{body-parts}
use Rattle.peg_lint.proofs.lint.lint_rule_edges.Goals as goal

pub rules-init : goal.rules-init
rules-init c = KeepsTrue-same (rules_in c.args.grammar.now) c.args.found.now.items

pub rules-preserved : goal.rules-preserved
rules-preserved c =
    let rules = rules_in c.args.grammar.now in
    let at_table = c.deref.ensures.value in
    KeepsTrue-both rules c.args.found.now.items c.rules.found.items c.lint_edges.new.found.items c.rules.invariant
    (c.in_ok-lint_edges.ensures 16 (subst (AreKnown rules 16) (sym at_table) c.in_ok-table.ensures)
    (body-parts rules c.rules.rule (form_of c.body.result.now) c.body.ensures))

pub lint_edges-requires : goal.lint_edges-requires
lint_edges-requires c =
    let rules = rules_in c.args.grammar.now in
    length-known rules 16 c.deref.result.now (subst (AreKnown rules 16) (sym c.deref.ensures.value) c.in_ok-table.ensures)
