use Rattle.std.proofs.Common.{◌++◌, ◌∙◌, sym, ap, arith, append-nil}
use Rattle.std.proofs.lemmas.List.{drop_all}
use Rattle.peg_diagnostics.specs.ItemTests.{added_terminals_from}
use Rattle.peg_grammar.specs.GrammarRules.{rules_in}
use Rattle.peg_grammar.specs.Written.{form_of}
use Rattle.peg_diagnostics.proofs.Drops.{loud_terminals-rules, loud_terminals-weight, numbers-rule}
use Rattle.peg_diagnostics.proofs.terminals.item_terminals.Goals as goal

pub add_numbers-requires : goal.add_numbers-requires
add_numbers-requires c =
    let rules = rules_in c.args.grammar.now in
    let step =
    loud_terminals-rules rules c.loop-rule.rule (form_of c.body.result.now)
    (omega (arith, c.loop-rule-test.true, c.rules-rule-end.ensures.count)) c.body.ensures in
    omega (arith, step, c.loop-rule.invariant.counted, loud_terminals-weight rules, c.args.grammar.now.light)

pub loop-rule-preserved : goal.loop-rule-preserved
loop-rule-preserved c =
    let rules = rules_in c.args.grammar.now in
    let body = form_of c.body.result.now in
    let counts = c.in_ok-next.ensures.next in
    record {
      numbers =
          numbers-rule rules c.loop-rule.rule body c.loop-rule.numbers.items c.add_numbers.new.numbers.items
          c.loop-rule.next c.in_ok-next.next (omega (arith, c.loop-rule-test.true, c.rules-rule-end.ensures.count))
          c.body.ensures c.in_ok-next.ensures.numbers counts
          ∙ c.loop-rule.invariant.numbers;
      counted =
          let step =
          loud_terminals-rules rules c.loop-rule.rule body
          (omega (arith, c.loop-rule-test.true, c.rules-rule-end.ensures.count)) c.body.ensures in
          omega (arith, step, counts, c.loop-rule.invariant.counted);
    }

pub returns : goal.returns
returns c =
    sym (append-nil c.loop-rule.numbers.items)
    ∙ ap (λ l. c.loop-rule.numbers.items ++ added_terminals_from c.loop-rule.next l)
    (sym (drop_all c.loop-rule.rule (rules_in c.args.grammar.now)
    (omega (arith, c.loop-rule-test.false, c.rules-rule-end.ensures.count))))
    ∙ c.loop-rule.invariant.numbers
