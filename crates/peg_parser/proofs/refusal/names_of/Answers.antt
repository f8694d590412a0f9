use Rattle.std.proofs.Common.{◌<◌, ◌≤◌, ◌∙◌, length, map, ap, arith}
use Rattle.peg_grammar.specs.GrammarRules.{rules_in}
use Rattle.peg_parser.proofs.RuleNames.{names-more, names-all}
use Rattle.peg_parser.proofs.refusal.names_of.Goals as goal

pub loop-rule-init : goal.loop-rule-init
loop-rule-init c = ap (map (λ name. name.now)) c.new-list.ensures.items

pub loop-rule-preserved : goal.loop-rule-preserved
loop-rule-preserved c =
    let inside : c.loop-rule.rule < length (rules_in c.args.grammar.now) =
    omega (arith, c.loop-rule-test.true, c.rules-rule-end.ensures.count) in
    ap (map (λ name. name.now)) c.in_ok-push.ensures.items
    ∙ names-more (rules_in c.args.grammar.now) c.loop-rule.list.items c.loop-rule.rule c.rule_name.result
    c.loop-rule.invariant inside c.rule_name.ensures

pub returns : goal.returns
returns c =
    let all : length (rules_in c.args.grammar.now) ≤ c.loop-rule.rule =
    omega (arith, c.loop-rule-test.false, c.rules-rule-end.ensures.count) in
    names-all (rules_in c.args.grammar.now) (map (λ name. name.now) c.loop-rule.list.items) c.loop-rule.rule
    c.loop-rule.invariant all
