use Rattle.std.proofs.Common.{[], ◌∷◌, ◌+◌, ◌++◌, drop, sym, ap, ◌∙◌, arith, append_assoc, append-nil}
use Rattle.std.proofs.lemmas.List.{drop_all, map-append}
use Rattle.peg_diagnostics.specs.Marked.{alternatives, alternatives_of_rules, mark, mark_rules, with_body, with_end}
use Rattle.peg_grammar.specs.GrammarRules.{rules_in}
use Rattle.peg_grammar.specs.Written.{rule_of, rules_of}
use Rattle.peg_diagnostics.proofs.MarkBounds.{alternatives-rules, dropped_rule, same_rule}
use Rattle.peg_diagnostics.proofs.marked.add_marked_rules.Goals as goal

pub marked_rule-requires : goal.marked_rule-requires
marked_rule-requires c =
    let rules = rules_in c.args.grammar.now in
    let i = c.loop-rule.rule in
    let within = c.loop-rule-test.true in
    let next = dropped_rule rules i (omega (arith, within, c.rules-rule-end.ensures.count)) in
    let step = ap alternatives_of_rules next.2 in
    let all = c.loop-rule.invariant.counted in
    let light = c.args.grammar.now.light in
    record {
      rule = omega (arith, within, c.rules-rule-end.ensures.count);
      few = λ r here.
          let same = ap (λ rule. alternatives rule.body) (same_rule rules i next.0 r next.1 here) in
          omega (arith, step, same, all, alternatives-rules rules, light);
    }

pub loop-rule-preserved : goal.loop-rule-preserved
loop-rule-preserved c =
    let rules = rules_in c.args.grammar.now in
    let i = c.loop-rule.rule in
    let later = drop (i + 1) rules in
    let next = dropped_rule rules i (omega (arith, c.loop-rule-test.true, c.rules-rule-end.ensures.count)) in
    let so_far = rules_of c.loop-rule.definitions.items in
    let number = c.loop-rule.next in
    let marker = c.loop-rule.marker in
    let counts = c.in_ok-marked_rule.ensures.next next.0 next.1 in
    let body = with_end marker (next.0).span (mark number (next.0).body) in
    let after = mark_rules c.marked_rule.new.next (marker + 1) later in
    record {
      rules =
          ap (λ l. rules_of l ++ after) c.in_ok-push.ensures.items
          ∙ ap (λ l. l ++ after) (map-append rule_of c.loop-rule.definitions.items (c.in_ok-marked_rule.field-0 ∷ []))
          ∙ append_assoc so_far (rule_of c.in_ok-marked_rule.field-0 ∷ []) after
          ∙ ap (λ r. so_far ++ r ∷ after) (c.in_ok-marked_rule.ensures.marked next.0 next.1)
          ∙ ap (λ n. so_far ++ with_body next.0 body ∷ mark_rules n (marker + 1) later) counts
          ∙ ap (λ l. so_far ++ mark_rules number marker l) (sym next.2)
          ∙ c.loop-rule.invariant.rules;
      counted = let step = ap alternatives_of_rules next.2 in omega (arith, step, counts, c.loop-rule.invariant.counted);
      numbered = omega (arith, c.loop-rule.invariant.numbered);
    }

pub returns : goal.returns
returns c =
    let so_far = rules_of c.loop-rule.definitions.items in
    sym (append-nil so_far)
    ∙ ap (λ l. so_far ++ mark_rules c.loop-rule.next c.loop-rule.marker l)
    (sym (drop_all c.loop-rule.rule (rules_in c.args.grammar.now)
    (omega (arith, c.loop-rule-test.false, c.rules-rule-end.ensures.count))))
    ∙ c.loop-rule.invariant.rules
