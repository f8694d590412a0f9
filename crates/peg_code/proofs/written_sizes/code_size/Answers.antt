use Rattle.std.proofs.Common.{◌≡◌, ◌+◌, ap, sym, ◌∙◌, arith}
use Rattle.std.proofs.lemmas.List.{drop_all}
use Rattle.peg_grammar.specs.GrammarRules.{rules_in}
use Rattle.peg_grammar.specs.Written.{form_of}
use Rattle.peg_code.specs.Sizes.{capped}
use Rattle.peg_code.proofs.WrittenSizeLemmas.{length-program_of, next-rule, written_rules_size}
use Rattle.peg_code.proofs.written_sizes.code_size.Goals as goal

pub loop-rule-preserved : goal.loop-rule-preserved
loop-rule-preserved c =
    let next = next-rule (rules_in c.args.grammar.now) c.loop-rule.rule (form_of c.body.result.now) c.body.ensures in
    record {
      all = omega (arith, c.loop-rule.invariant.all, c.loop-rule.invariant.most, next, c.expression_size-size.ensures, c.capped_sum.ensures, c.capped_sum-total.ensures);
      most = omega (arith, c.capped_sum-total.ensures);
    }

pub returns : goal.returns
returns c =
    let rules = rules_in c.args.grammar.now in
    let none = ap written_rules_size (drop_all c.loop-rule.rule rules (omega (arith, c.loop-rule-test.false, c.rules-rule-end.ensures.count))) in
    let all : c.loop-rule.total ≡ capped (1 + written_rules_size rules) = omega (arith, c.loop-rule.invariant.all, c.loop-rule.invariant.most, none) in
    all ∙ ap capped (sym (length-program_of rules))
