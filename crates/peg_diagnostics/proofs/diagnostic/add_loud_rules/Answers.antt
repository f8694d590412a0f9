use Rattle.std.proofs.Common.{arith}
use Rattle.peg_diagnostics.specs.Diagnostic.{loud_rule}
use Rattle.peg_grammar.specs.GrammarRules.{rules_in}
use Rattle.peg_diagnostics.proofs.RuleLoops.{AddsRules-more}
use Rattle.peg_diagnostics.proofs.diagnostic.add_loud_rules.Goals as goal

pub loop-rule-preserved : goal.loop-rule-preserved
loop-rule-preserved c =
    AddsRules-more loud_rule c.args.definitions.now.items c.loop-rule.definitions.items c.push.new.self.items
    (rules_in c.args.grammar.now) c.loop-rule.rule c.in_ok-loud_definition.field-0
    (omega (arith, c.loop-rule-test.true, c.rules-rule-end.ensures.count)) c.in_ok-loud_definition.ensures
    c.in_ok-push.ensures.items c.loop-rule.invariant
