use Rattle.std.proofs.Common.{rules as search_rules, ◌≡◌, ℕ, ◌+◌, ◌<◌, ◌≤◌, List, [], ◌∷◌, ◌++◌, length, map, get_or, drop, refl, sym, ap, ◌∙◌, subst, arith, length-append, Contains}
use Rattle.std.proofs.lemmas.List.{map-append}
use denote.Param.Weighed.{most, at_most}
use Rattle.peg_bytes.specs.Extent.{extent}
use Rattle.peg_bytes.specs.ByteSet.{bytes_of}
use Rattle.peg_check.specs.Cans.{can_of}
use Rattle.peg_check.specs.declared.can.Can as code
use Rattle.peg_grammar.proofs.LoopLemmas.{forms-drop, forms-drop_all}
use Rattle.peg_grammar.proofs.WrittenForms.{form_of-Name, form_of-Seq, form_of-Choice}
use Rattle.peg_grammar.proofs.expr.Expr.TheLaws.{the_size}
use Rattle.peg_grammar.specs.GrammarRules.{rules_in}
use Rattle.peg_grammar.specs.Written.{form_of}
use Rattle.peg_grammar.specs.declared.expr.Expr.{Expr}
use Rattle.peg_grammar.specs.declared.expr.Expr.TheFolds.{the_lemmas}
use Rattle.peg_semantics.specs.AbstractOutcomes.{Can, choice_outcome}
use Rattle.peg_semantics.specs.Form as form
use Rattle.peg_semantics.specs.Form.{Form, Forms, Then, forms}
use Rattle.peg_semantics.specs.RuleOutcomes.{IsAbstractOutcome}
use Rattle.peg_semantics.specs.WellFormed.{below, subexpressions}
use Rattle.peg_lint.specs.Linting.{Adds, FindsBelow, FindsExcluded, FindsOfAll, FindsUntried}
use Rattle.peg_lint.specs.Outcomes.{AreOutcomes, outcome_of_all, outcome_of_any}
use Rattle.peg_lint.proofs.OutcomeLemmas.{of-Any, of-Choice, of-Class, of-Seq}
use Rattle.peg_lint.proofs.PartLemmas.{AreOutcomes-all, AreOutcomes-more, choice-with, first-is, form_of-Any, form_of-Class}
use Rattle.peg_lint.proofs.PartLemmas.{first-placed, form_of-Literal, is_on, item-among, item-parts, items-are, items-placed}
use Rattle.peg_lint.proofs.PartLemmas.{itself, rest-are, rest-placed, whole}
use Rattle.peg_lint.proofs.VisitLemmas.{Adds-choice, Adds-leaf, Adds-operator, Adds-seq, IsLeaf, below-all, below-end, below-more}
use Rattle.peg_lint.proofs.visit.+lint.Goals as goal

-- an item is no deeper than the deepest one
no_deeper : (items : List Expr) (i : ℕ) (item : Expr) → i < length items → item ≡ get_or items i item
    → the_size item ≤ most the_size items
no_deeper items i item h e = subst (λ x. the_size x ≤ most the_size items) (sym e) (at_most the_size items i item h)

pub lint_all-lint_expression-requires : goal.lint_all-lint_expression-requires
lint_all-lint_expression-requires t c =
    let items = c.args.items.now in
    let i = c.loop-item.item-index in
    let item = c.item-item.result in
    let within : i < length items = omega (arith, c.loop-item-test.true) in
    let deep = no_deeper items i item within c.item-item.is in (
      omega arith,
      (c.requires.outcomes, λ x in_it. c.requires.parts x (item-parts items i item within c.item-item.is x in_it)),
    )

pub lint_all-loop-item-preserved : goal.lint_all-loop-item-preserved
lint_all-loop-item-preserved t c =
    let items = c.args.items.now in
    let i = c.loop-item.item-index in
    let item = c.item-item.result in
    let rules = rules_in c.args.grammar.now in
    let within : i < length items = omega (arith, c.loop-item-test.true) in
    let step = forms-drop form_of items i item within c.item-item.is in
    let can = can_of c.in_ok-can.can in
    let cans = c.loop-item.cans.items in
    let part = c.requires.parts (form_of item)
    (item-parts items i item within c.item-item.is (form_of item) (itself (form_of item) (below (form_of item)))) in
    let pushed : map can_of c.push.new.self.items ≡ map can_of cans ++ can ∷ [] =
    ap (map can_of) c.in_ok-push.ensures.items ∙ map-append can_of cans (c.in_ok-can.can ∷ []) in
    let all = forms (map form_of items) in
    record {
      outcomes = λ rest are. subst (λ (l : List Can). AreOutcomes rules all (l ++ rest)) (sym pushed)
          (AreOutcomes-more rules all (forms (drop i (map form_of items))) (forms (drop (i + 1) (map form_of items)))
          (form_of item) can (map can_of cans) step c.loop-item.invariant.outcomes c.in_ok-can.ensures.outcome rest are);
      count = omega (
        arith,
        c.loop-item.invariant.count,
        ap length c.in_ok-push.ensures.items,
        length-append cans (c.in_ok-can.can ∷ []),
      );
      adds = below-more rules c.args.rule (form_of item) (forms (drop i (map form_of items)))
          (forms (drop (i + 1) (map form_of items))) all c.args.found.now.items c.loop-item.found.items
          c.lint_expression.new.found.items c.add_never_matches.new.found.items step c.loop-item.invariant.adds
          c.in_ok-can.ensures.adds (c.in_ok-add_never_matches.ensures rules part
          (c.requires.placed (form_of item) (item-among items i item within c.item-item.is)) c.in_ok-can.ensures.outcome);
    }

pub lint_all-loop-item-init : goal.lint_all-loop-item-init
lint_all-loop-item-init t c =
    let rules = rules_in c.args.grammar.now in
    let all = forms (map form_of c.args.items.now) in
    record {
      outcomes = λ rest are. subst (λ (l : List code.Can). AreOutcomes rules all (map can_of l ++ rest))
          (sym c.new-cans.ensures.items) are;
      count = ap length c.new-cans.ensures.items;
      adds = below-all rules c.args.rule all c.args.found.now.items;
    }

pub lint_all-returns-clause-adds : goal.lint_all-returns-clause-adds
lint_all-returns-clause-adds t c =
    let items = c.args.items.now in
    let i = c.loop-item.item-index in
    below-end (rules_in c.args.grammar.now) c.args.rule (forms (drop i (map form_of items))) (forms (map form_of items))
    c.args.found.now.items c.loop-item.found.items
    (forms-drop_all form_of items i (omega (arith, c.loop-item-test.false))) c.loop-item.invariant.adds

pub lint_all-returns-clause-outcomes : goal.lint_all-returns-clause-outcomes
lint_all-returns-clause-outcomes t c =
    let items = c.args.items.now in
    let rules = rules_in c.args.grammar.now in
    AreOutcomes-all rules (forms (map form_of items)) (forms (drop c.loop-item.item-index (map form_of items)))
    (map can_of c.loop-item.cans.items)
    (forms-drop_all form_of items c.loop-item.item-index (omega (arith, c.loop-item-test.false)))
    c.loop-item.invariant.outcomes

pub lint_expression-lint_all-requires : goal.lint_expression-lint_all-requires
lint_expression-lint_all-requires t c =
    let items = forms (map form_of c.in-Seq.items.items) in
    let here = ap (λ (l : List Expr). forms (map form_of l)) c.deref-in-Seq.ensures.value in (
      search (search_rules, the_lemmas),
      (
        c.requires.outcomes,
        (
          items-are (rules_in c.args.grammar.now) c.args.rule (form_of c.args.expr.now) c.requires.parts items
              (extent c.in-Seq.span) (ap form_of c.in-Seq.is ∙ form_of-Seq c.in-Seq.items c.in-Seq.span)
              (forms (map form_of c.deref-in-Seq.result.now)) here,
          items-placed (rules_in c.args.grammar.now) c.args.rule (form_of c.args.expr.now) c.requires.parts items
              (extent c.in-Seq.span) (ap form_of c.in-Seq.is ∙ form_of-Seq c.in-Seq.items c.in-Seq.span)
              (forms (map form_of c.deref-in-Seq.result.now)) here,
        ),
      ),
    )

pub lint_expression-lint_expression-requires : goal.lint_expression-lint_expression-requires
lint_expression-lint_expression-requires t c =
    let rules = rules_in c.args.grammar.now in
    let first = form_of c.in-Choice.first.value in
    let rest = forms (map form_of c.in-Choice.rest.items) in
    let span = extent c.in-Choice.span in
    let same : form_of c.args.expr.now ≡ form.Choice first rest span =
    ap form_of c.in-Choice.is ∙ form_of-Choice c.in-Choice.first c.in-Choice.rest c.in-Choice.span in
    let at_first = ap form_of c.deref-in-Choice.ensures in (
      search (search_rules, the_lemmas),
      (
        c.requires.outcomes,
        first-is rules c.args.rule (form_of c.args.expr.now) c.requires.parts first rest span same
            (form_of c.deref-in-Choice.result.now) at_first,
      ),
    )

pub lint_expression-lint_all-requires-in-Choice : goal.lint_expression-lint_all-requires-in-Choice
lint_expression-lint_all-requires-in-Choice t c =
    let rules = rules_in c.args.grammar.now in
    let first = form_of c.in-Choice.first.value in
    let rest = forms (map form_of c.in-Choice.rest.items) in
    let span = extent c.in-Choice.span in
    let same : form_of c.args.expr.now ≡ form.Choice first rest span =
    ap form_of c.in-Choice.is ∙ form_of-Choice c.in-Choice.first c.in-Choice.rest c.in-Choice.span in
    let at_first = ap form_of c.deref-in-Choice.ensures in
    let at_rest = ap (λ (l : List Expr). forms (map form_of l)) c.deref-in-Choice-3.ensures.value in (
      search (search_rules, the_lemmas),
      (
        c.requires.outcomes,
        (
          rest-are rules c.args.rule (form_of c.args.expr.now) c.requires.parts first rest span same
              (forms (map form_of c.deref-in-Choice-3.result.now)) at_rest,
          rest-placed rules c.args.rule (form_of c.args.expr.now) c.requires.parts first rest span same
              (forms (map form_of c.deref-in-Choice-3.result.now)) at_rest,
        ),
      ),
    )

pub lint_expression-lint_expression-requires-in-Optional : goal.lint_expression-lint_expression-requires-in-Optional
lint_expression-lint_expression-requires-in-Optional t c =
    let on = is_on c.args.expr.now c.in-Optional.part c.in-Optional.is in
    let at_part = ap form_of c.deref-in-Optional.ensures in (
      search (search_rules, the_lemmas),
      (
        c.requires.outcomes,
        λ x in_it. c.requires.parts x
            (on.parts x (subst (λ (f : Form). Contains (subexpressions f) x) at_part in_it)),
      ),
    )

pub lint_expression-returns-in-Literal-clause-outcome : goal.lint_expression-returns-in-Literal-clause-outcome
lint_expression-returns-in-Literal-clause-outcome t c =
    let rules = rules_in c.args.grammar.now in
    let can = can_of c.literal_outcome.result in
    let span = extent c.in-Literal.span in
    let same = ap form_of c.in-Literal.is ∙ form_of-Literal c.in-Literal.bytes c.in-Literal.span in
    subst (λ (f : Form). IsAbstractOutcome rules f can) (sym same)
    (subst (λ (l : List ℕ). IsAbstractOutcome rules (form.Literal l span) can) c.deref.ensures.value
    (c.literal_outcome.ensures rules span))

pub lint_expression-returns-in-Class-clause-outcome : goal.lint_expression-returns-in-Class-clause-outcome
lint_expression-returns-in-Class-clause-outcome t c =
    let rules = rules_in c.args.grammar.now in
    let span = extent c.in-Class.span in
    let set = bytes_of c.in-Class.set in
    let same = ap form_of c.in-Class.is ∙ form_of-Class c.in-Class.set c.in-Class.span in
    subst (λ (f : Form). IsAbstractOutcome rules f (can_of c.class.result)) (sym same)
    (subst (λ (can : Can). IsAbstractOutcome rules (form.Class set span) can) (sym c.class.ensures)
    (of-Class rules span set))

pub lint_expression-returns-in-Any-clause-outcome : goal.lint_expression-returns-in-Any-clause-outcome
lint_expression-returns-in-Any-clause-outcome t c =
    let rules = rules_in c.args.grammar.now in
    let span = extent c.in-Any.span in
    let same = ap form_of c.in-Any.is ∙ form_of-Any c.in-Any.span in
    subst (λ (f : Form). IsAbstractOutcome rules f (can_of c.some_bytes.result)) (sym same)
    (subst (λ (can : Can). IsAbstractOutcome rules (form.Any span) can) (sym c.some_bytes.ensures) (of-Any rules span))

pub lint_expression-returns-in-Name-clause-outcome : goal.lint_expression-returns-in-Name-clause-outcome
lint_expression-returns-in-Name-clause-outcome t c =
    let rules = rules_in c.args.grammar.now in
    let can = can_of c.name_outcome.result in
    let span = extent c.in-Name.span in
    let same = ap form_of c.in-Name.is ∙ form_of-Name c.in-Name.name c.in-Name.span in
    subst (λ (f : Form). IsAbstractOutcome rules f can) (sym same)
    (subst (λ (l : List ℕ). IsAbstractOutcome rules (form.Name l span) can) c.as_str.ensures.value
    (c.name_outcome.ensures span))

pub lint_expression-returns-in_ok-cans-in-Seq-clause-outcome : goal.lint_expression-returns-in_ok-cans-in-Seq-clause-outcome
lint_expression-returns-in_ok-cans-in-Seq-clause-outcome t c =
    let rules = rules_in c.args.grammar.now in
    let items = forms (map form_of c.in-Seq.items.items) in
    let span = extent c.in-Seq.span in
    let cans = c.in_ok-cans-in-Seq.cans.items in
    let same = ap form_of c.in-Seq.is ∙ form_of-Seq c.in-Seq.items c.in-Seq.span in
    let here = ap (λ (l : List Expr). forms (map form_of l)) c.deref-in-Seq.ensures.value in
    let outcomes = subst (λ (l : Forms). AreOutcomes rules l (map can_of cans)) here c.in_ok-cans-in-Seq.ensures.outcomes in
    let outcome : can_of c.all_of.result ≡ outcome_of_all (map can_of cans) =
    c.all_of.ensures ∙ ap (λ (l : List code.Can). outcome_of_all (map can_of l)) c.deref-in-Seq-2.ensures.value in
    subst (λ (f : Form). IsAbstractOutcome rules f (can_of c.all_of.result)) (sym same)
    (subst (λ (can : Can). IsAbstractOutcome rules (form.Seq items span) can) (sym outcome)
    (of-Seq rules items span (map can_of cans) outcomes))

pub lint_expression-returns-in_ok-add_never_tried-in-Choice-clause-outcome : goal.lint_expression-returns-in_ok-add_never_tried-in-Choice-clause-outcome
lint_expression-returns-in_ok-add_never_tried-in-Choice-clause-outcome t c =
    let rules = rules_in c.args.grammar.now in
    let first = form_of c.in-Choice.first.value in
    let rest = forms (map form_of c.in-Choice.rest.items) in
    let span = extent c.in-Choice.span in
    let same : form_of c.args.expr.now ≡ form.Choice first rest span =
    ap form_of c.in-Choice.is ∙ form_of-Choice c.in-Choice.first c.in-Choice.rest c.in-Choice.span in
    let at_first = ap form_of c.deref-in-Choice.ensures in
    let at_rest = ap (λ (l : List Expr). forms (map form_of l)) c.deref-in-Choice-3.ensures.value in
    let can = can_of c.in_ok-can-in-Choice.can in
    let cans = c.in_ok-cans-in-Choice.cans.items in
    let one = subst (λ (f : Form). IsAbstractOutcome rules f can) at_first c.in_ok-can-in-Choice.ensures.outcome in
    let others = subst (λ (l : Forms). AreOutcomes rules l (map can_of cans)) at_rest c.in_ok-cans-in-Choice.ensures.outcomes in
    let outcome : can_of c.or_else.result ≡ choice_outcome can (outcome_of_any (map can_of cans)) =
    c.or_else.ensures ∙ ap (choice_outcome can) (c.any_of.ensures
    ∙ ap (λ (l : List code.Can). outcome_of_any (map can_of l)) c.deref-in-Choice-9.ensures.value) in
    subst (λ (f : Form). IsAbstractOutcome rules f (can_of c.or_else.result)) (sym same)
    (subst (λ (can : Can). IsAbstractOutcome rules (form.Choice first rest span) can) (sym outcome)
    (of-Choice rules first rest span can (map can_of cans) one others))

pub lint_expression-returns-in_ok-add_never_tried-in-Choice-clause-adds : goal.lint_expression-returns-in_ok-add_never_tried-in-Choice-clause-adds
lint_expression-returns-in_ok-add_never_tried-in-Choice-clause-adds t c =
    let rules = rules_in c.args.grammar.now in
    let first = form_of c.in-Choice.first.value in
    let rest = forms (map form_of c.in-Choice.rest.items) in
    let span = extent c.in-Choice.span in
    let same : form_of c.args.expr.now ≡ form.Choice first rest span =
    ap form_of c.in-Choice.is ∙ form_of-Choice c.in-Choice.first c.in-Choice.rest c.in-Choice.span in
    let at_first = ap form_of c.deref-in-Choice.ensures in
    let at_rest = ap (λ (l : List Expr). forms (map form_of l)) c.deref-in-Choice-3.ensures.value in
    let at_second = ap form_of c.deref-in-Choice-2.ensures in
    let at_fourth = ap form_of c.deref-in-Choice-6.ensures in
    let at_fifth = ap (λ (l : List Expr). forms (map form_of l)) c.deref-in-Choice-7.ensures.value in
    let at_cans = ap (map can_of) c.deref-in-Choice-8.ensures.value in
    let can = can_of c.in_ok-can-in-Choice.can in
    let cans = map can_of c.in_ok-cans-in-Choice.cans.items in
    let parts = c.requires.parts in
    let e = form_of c.args.expr.now in
    let second = form_of c.deref-in-Choice-2.result.now in
    let part = whole rules c.args.rule second (first-is rules c.args.rule e parts first rest span same second at_second) in
    let outcome = subst (λ (f : Form). IsAbstractOutcome rules f can) (at_first ∙ sym at_second) c.in_ok-can-in-Choice.ensures.outcome in
    let choice = choice-with rules c.args.rule e parts first rest span same (form_of c.deref-in-Choice.result.now)
    (form_of c.deref-in-Choice-6.result.now) (forms (map form_of c.deref-in-Choice-3.result.now))
    (forms (map form_of c.deref-in-Choice-7.result.now)) can cans (map can_of c.deref-in-Choice-8.result.now)
    at_first at_fourth at_rest at_fifth at_cans c.in_ok-can-in-Choice.ensures.outcome
    c.in_ok-cans-in-Choice.ensures.outcomes in
    let again = choice-with rules c.args.rule e parts first rest span same (form_of c.deref-in-Choice.result.now)
    (form_of c.deref-in-Choice-4.result.now) (forms (map form_of c.deref-in-Choice-3.result.now))
    (forms (map form_of c.deref-in-Choice-5.result.now)) can cans cans at_first (ap form_of c.deref-in-Choice-4.ensures)
    at_rest (ap (λ (l : List Expr). forms (map form_of l)) c.deref-in-Choice-5.ensures.value) refl
    c.in_ok-can-in-Choice.ensures.outcome c.in_ok-cans-in-Choice.ensures.outcomes in
    let number = c.args.rule in
    let l0 = c.args.found.now.items in
    let l1 = c.lint_expression.new.found.items in
    let l2 = c.add_never_matches.new.found.items in
    let l3 = c.lint_all-in-Choice.new.found.items in
    let l4 = c.add_same_alternatives.new.found.items in
    let l5 = c.add_never_tried.new.found.items in
    let placed = first-placed rules number e parts first rest span same (form_of c.deref-in-Choice-2.result.now) at_second in
    let ninth : form.Choice (form_of c.deref-in-Choice-6.result.now) (forms (map form_of c.deref-in-Choice-7.result.now)) span
    ≡ form.Choice first rest span = λ i. form.Choice (at_fourth i) (at_fifth i) span in
    subst (λ (f : Form). Adds rules (FindsOfAll rules number (subexpressions f)) l0 l5) (sym same)
    (Adds-choice rules number first rest span l0 l1 l2 l3 l4 l5
    (subst (λ (f : Form). Adds rules (FindsOfAll rules number (subexpressions f)) l0 l1) at_first
    c.in_ok-can-in-Choice.ensures.adds)
    (subst (λ (f : Form). Adds rules (FindsExcluded rules number f) l1 l2) at_second
    (c.in_ok-add_never_matches-in-Choice.ensures rules part placed outcome))
    (subst (λ (f : Forms). Adds rules (FindsBelow rules number f) l2 l3) at_rest c.in_ok-cans-in-Choice.ensures.adds)
    (c.in_ok-add_same_alternatives-in-Choice.ensures rules span again.part)
    (subst (λ (f : Form). Adds rules (FindsUntried rules number f) l4 l5) ninth
    (c.in_ok-add_never_tried-in-Choice.ensures rules span choice)))

pub lint_expression-returns-in_ok-add_operator-in-Optional-clause-outcome : goal.lint_expression-returns-in_ok-add_operator-in-Optional-clause-outcome
lint_expression-returns-in_ok-add_operator-in-Optional-clause-outcome t c =
    let rules = rules_in c.args.grammar.now in
    let on = is_on c.args.expr.now c.in-Optional.part c.in-Optional.is in
    let at_part = ap form_of c.deref-in-Optional.ensures in
    let can = can_of c.in_ok-can-in-Optional.can in
    let outcome = subst (λ (f : Form). IsAbstractOutcome rules f can) at_part c.in_ok-can-in-Optional.ensures.outcome in
    c.operator_outcome.ensures rules (form_of c.in-Optional.part.value) on.on outcome

pub lint_expression-returns-in_ok-add_operator-in-Optional-clause-adds : goal.lint_expression-returns-in_ok-add_operator-in-Optional-clause-adds
lint_expression-returns-in_ok-add_operator-in-Optional-clause-adds t c =
    let rules = rules_in c.args.grammar.now in
    let number = c.args.rule in
    let x = form_of c.args.expr.now in
    let on = is_on c.args.expr.now c.in-Optional.part c.in-Optional.is in
    let e = form_of c.in-Optional.part.value in
    let at_part = ap form_of c.deref-in-Optional.ensures in
    let can = can_of c.in_ok-can-in-Optional.can in
    let outcome = subst (λ (f : Form). IsAbstractOutcome rules f can) at_part c.in_ok-can-in-Optional.ensures.outcome in
    let part = whole rules number x c.requires.parts in
    let l0 = c.args.found.now.items in
    let l1 = c.lint_expression-in-Optional.new.found.items in
    let l2 = c.add_operator.new.found.items in
    Adds-operator rules number x e l0 l1 l2 on.on on.below_is
    (subst (λ (f : Form). Adds rules (FindsOfAll rules number (subexpressions f)) l0 l1) at_part
    c.in_ok-can-in-Optional.ensures.adds)
    (c.in_ok-add_operator-in-Optional.ensures rules e part on.on outcome)

pub lint_expression-returns-in_ok-cans-in-Seq-clause-adds : goal.lint_expression-returns-in_ok-cans-in-Seq-clause-adds
lint_expression-returns-in_ok-cans-in-Seq-clause-adds t c =
    let rules = rules_in c.args.grammar.now in
    let number = c.args.rule in
    let items = forms (map form_of c.in-Seq.items.items) in
    let span = extent c.in-Seq.span in
    let same = ap form_of c.in-Seq.is ∙ form_of-Seq c.in-Seq.items c.in-Seq.span in
    let at_items = ap (λ (l : List Expr). forms (map form_of l)) c.deref-in-Seq.ensures.value in
    let l0 = c.args.found.now.items in
    let l1 = c.lint_all.new.found.items in
    subst (λ (f : Form). Adds rules (FindsOfAll rules number (subexpressions f)) l0 l1) (sym same)
    (Adds-seq rules number items span l0 l1
    (subst (λ (f : Forms). Adds rules (FindsBelow rules number f) l0 l1) at_items c.in_ok-cans-in-Seq.ensures.adds))

pub lint_expression-returns-in-Literal-clause-adds : goal.lint_expression-returns-in-Literal-clause-adds
lint_expression-returns-in-Literal-clause-adds t c =
    Adds-leaf (rules_in c.args.grammar.now) c.args.rule (form_of c.args.expr.now) c.args.found.now.items
    (subst IsLeaf (sym (ap form_of c.in-Literal.is ∙ form_of-Literal c.in-Literal.bytes c.in-Literal.span)) tt)

pub lint_expression-returns-in-Class-clause-adds : goal.lint_expression-returns-in-Class-clause-adds
lint_expression-returns-in-Class-clause-adds t c =
    Adds-leaf (rules_in c.args.grammar.now) c.args.rule (form_of c.args.expr.now) c.args.found.now.items
    (subst IsLeaf (sym (ap form_of c.in-Class.is ∙ form_of-Class c.in-Class.set c.in-Class.span)) tt)

pub lint_expression-returns-in-Any-clause-adds : goal.lint_expression-returns-in-Any-clause-adds
lint_expression-returns-in-Any-clause-adds t c =
    Adds-leaf (rules_in c.args.grammar.now) c.args.rule (form_of c.args.expr.now) c.args.found.now.items
    (subst IsLeaf (sym (ap form_of c.in-Any.is ∙ form_of-Any c.in-Any.span)) tt)

pub lint_expression-returns-in-Name-clause-adds : goal.lint_expression-returns-in-Name-clause-adds
lint_expression-returns-in-Name-clause-adds t c =
    Adds-leaf (rules_in c.args.grammar.now) c.args.rule (form_of c.args.expr.now) c.args.found.now.items
    (subst IsLeaf (sym (ap form_of c.in-Name.is ∙ form_of-Name c.in-Name.name c.in-Name.span)) tt)
