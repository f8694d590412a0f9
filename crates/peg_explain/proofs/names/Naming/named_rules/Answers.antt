use Rattle.std.proofs.Common.{◌≡◌, ◌∙◌, ◌<◌, ◌&&◌, ◌∷◌, ◌++◌, [], ℕ, All, Bool, List, ap, arith, filter, length, subst, sym}
use Rattle.std.proofs.lemmas.List.{append-nil}
use Rattle.std.proofs.lemmas.List.Elements.{All-push}
use Rattle.std.specs.List.{range_with_len}
use Rattle.peg_grammar.specs.GrammarRules.{rules_in}
use Rattle.peg_tree.specs.Selected.{has_rule}
use Rattle.peg_explain.specs.Names.{can_be_named}
use Rattle.peg_explain.proofs.SelectedLemmas.{numbers-more}
use Rattle.peg_explain.proofs.names.Naming.named_rules.Goals as goal
use Rattle.peg_explain.proofs.names.Naming.named_rules.Goals.{then-is_candidate+in_ok-push, else-is_candidate}

pub each-preserved : goal.each-preserved
each-preserved c =
    let naming = c.args.self.now in
    let rules = rules_in naming.grammar.now in
    let rule = c.each.rule in
    let old = c.each.list.items in
    let test : ℕ → Bool = λ rule. has_rule naming.called.now rule && can_be_named rules naming.spacing.now naming.start.now rule in
    elim c.if-is_candidate.branch [
      | then-is_candidate+in_ok-push w ↦
          let added : c.if-is_candidate.list.items ≡ old ++ rule ∷ [] =
          ap (λ v. v.items) w.list-is ∙ w.in_ok-push.ensures.items in
          let within : rule < length rules = omega (arith, c.each-test.true, c.rules-rule-end.ensures.count) in
          record {
            listed = added ∙ ap (λ (l : List ℕ). l ++ rule ∷ []) c.each.invariant.listed
                ∙ sym (numbers-more test rule _ (sym c.is_candidate.ensures ∙ w.if-is_candidate.true));
            within = subst (All (λ r. r < length rules)) (sym added)
                (All-push (λ r. r < length rules) old rule c.each.invariant.within within);
          }
      | else-is_candidate w ↦
          let same : c.if-is_candidate.list.items ≡ old = ap (λ v. v.items) w.list-is in
          record {
            listed = same ∙ c.each.invariant.listed ∙ sym (append-nil (filter test (range_with_len 0 rule)))
                ∙ sym (numbers-more test rule _ (sym c.is_candidate.ensures ∙ w.if-is_candidate.false));
            within = subst (All (λ r. r < length rules)) (sym same) c.each.invariant.within;
          }
    ]

pub returns-clause-rules : goal.returns-clause-rules
returns-clause-rules c rules text start calls at is =
    let count : c.each.rule ≡ length rules =
    omega (arith, c.each-test.false, c.each.auto.rule-end, c.rules-rule-end.ensures.count, ap length is.grammar) in
    let spacing = c.args.self.now.spacing.now in
    c.each.invariant.listed
    ∙ (λ i. filter (λ rule. is.called rule i && can_be_named (is.grammar i) spacing (is.from i) rule)
    (range_with_len 0 (count i)))
