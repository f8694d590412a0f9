use Rattle.std.proofs.Common.{rules, ℕ, suc, ◌+◌, ◌-◌, map, length, drop, append_assoc, refl, sym, ap, ◌∙◌, subst, Ok, arith, option_map, option_and_then, slice_get, ◌++◌, get_or}
use Rattle.std.specs.Vec.{with_item}
use Rattle.peg_bytes.specs.Extent.{extent}
use Rattle.peg_tree.specs.Rows.{row_of, rows_of}
use Rattle.peg_tree.specs.declared.row.TreeNode.{TreeNode}
use Rattle.peg_semantics.specs.Form as form
use Rattle.peg_semantics.specs.Form.{Form, forms, terminals, terminals_of_all, Then}
use Rattle.peg_grammar.specs.Found.{seen_in}
use Rattle.peg_grammar.specs.GrammarRules.{rules_in}
use Rattle.peg_grammar.specs.Evaluator.{evaluated_text, recognizer_in, table_in}
use Rattle.peg_semantics.specs.Record.{recognize_choice, as_call}
use Rattle.peg_semantics.specs.Rules.{meaning_of}
use Rattle.peg_grammar.specs.Seen.{Evaluates, EndsWithin, trees_left}
use Rattle.peg_grammar.specs.Written.{form_of}
use Rattle.peg_grammar.specs.declared.found.MatchResult.TheVariants.{EndsAt, Fails}
use Rattle.peg_grammar.proofs.LoopLemmas.{ItemsSoFar, FailedSoFar, forms-drop, forms-drop_all, items-start, items-matched, items-failed, items-stopped, items-end, choice-first_failed, choice-first_matched, choice-first_stopped, choice-next_failed, choice-next_matched, choice-next_stopped}
use Rattle.peg_semantics.proofs.RulesLemmas.{meant-position, meant-no_position, named-used, length-first_from, first_from-within, terminals_of-weight}
use Rattle.peg_grammar.proofs.SeenLemmas.{and-matched, not-matched, not-failed, optional-failed, record_in-none, record_in-positive}
use Rattle.peg_grammar.proofs.StepLemmas.{cut_back, rounds-failed, rounds-evaluates, then-evaluates, star-matches, used-is, rule-failed, rule-matched}
use Rattle.peg_grammar.proofs.TimesLemmas.{TimesSoFar, times-start, times-matched, times-enough, times-failed, times-stopped, times-end, one_less-left, some-left, none-left}
use Rattle.peg_grammar.proofs.WrittenForms.{form_of-Name, form_of-Seq, form_of-Choice, form_of-Optional, form_of-Plus, form_of-Counted, form_of-And, form_of-Not}
use Rattle.peg_grammar.proofs.evaluator.Evaluator.+plain.Goals as goal

-- ---- one level deeper

pub expression-returns-then-depth-eq0-clause-evaluates : goal.expression-returns-then-depth-eq0-clause-evaluates
expression-returns-then-depth-eq0-clause-evaluates t c =
    record_in-none (rules_in c.args.self.now.grammar.now) (evaluated_text c.args.self.now) c.args.depth (form_of c.args.expr.now) c.args.terminal c.args.position c.if-depth-eq0.true

pub expression-returns-clause-evaluates : goal.expression-returns-clause-evaluates
expression-returns-clause-evaluates t c =
    subst (λ o. Evaluates o (seen_in c.args.found.now) c.case.result (seen_in c.case.new.found)) (sym (record_in-positive (rules_in c.args.self.now.grammar.now) (evaluated_text c.args.self.now) c.args.depth (form_of c.args.expr.now) c.args.terminal c.args.position c.if-depth-eq0.false)) c.case.ensures.evaluates

pub star-returns-then-depth-eq0-clause-evaluates : goal.star-returns-then-depth-eq0-clause-evaluates
star-returns-then-depth-eq0-clause-evaluates t c span =
    record_in-none (rules_in c.args.self.now.grammar.now) (evaluated_text c.args.self.now) c.args.depth (form.Star (form_of c.args.part.now) span) c.args.terminal c.args.position c.if-depth-eq0.true

pub star-returns-clause-evaluates : goal.star-returns-clause-evaluates
star-returns-clause-evaluates t c span =
    subst (λ o. Evaluates o (seen_in c.args.found.now) c.rounds.result (seen_in c.rounds.new.found)) (sym (record_in-positive (rules_in c.args.self.now.grammar.now) (evaluated_text c.args.self.now) c.args.depth (form.Star (form_of c.args.part.now) span) c.args.terminal c.args.position c.if-depth-eq0.false)) (c.rounds.ensures.evaluates span)

-- ---- the cases of Ford's rules

pub case-returns-in-Name-clause-evaluates : goal.case-returns-in-Name-clause-evaluates
case-returns-in-Name-clause-evaluates t c =
    let same = ap form_of c.in-Name.is ∙ (form_of-Name c.in-Name.name c.in-Name.span ∙ ap (λ n. form.Name n (extent c.in-Name.span)) (sym c.as_str.ensures.value)) in
    subst (λ e. Evaluates (table_in c.args.self.now c.args.depth e c.args.terminal c.args.position) (seen_in c.args.found.now) c.name.result (seen_in c.name.new.found)) (sym same) (c.name.ensures.evaluates (extent c.in-Name.span) c.args.terminal)

pub case-returns-in-Seq-clause-evaluates : goal.case-returns-in-Seq-clause-evaluates
case-returns-in-Seq-clause-evaluates t c =
    let same = ap form_of c.in-Seq.is ∙ (form_of-Seq c.in-Seq.items c.in-Seq.span ∙ ap (λ l. form.Seq (forms (map form_of l)) (extent c.in-Seq.span)) (sym c.deref-in-Seq.ensures.value)) in
    subst (λ e. Evaluates (table_in c.args.self.now c.args.depth e c.args.terminal c.args.position) (seen_in c.args.found.now) c.items.result (seen_in c.items.new.found)) (sym same) (c.items.ensures.evaluates (extent c.in-Seq.span))

pub case-returns-in-Choice-clause-evaluates : goal.case-returns-in-Choice-clause-evaluates
case-returns-in-Choice-clause-evaluates t c =
    let same = ap form_of c.in-Choice.is ∙ (form_of-Choice c.in-Choice.first c.in-Choice.rest c.in-Choice.span ∙ sym (λ i. form.Choice (form_of (c.deref-in-Choice.ensures i)) (forms (map form_of (c.deref-in-Choice-2.ensures.value i))) (extent c.in-Choice.span))) in
    subst (λ e. Evaluates (table_in c.args.self.now c.args.depth e c.args.terminal c.args.position) (seen_in c.args.found.now) c.choice.result (seen_in c.choice.new.found)) (sym same) (c.choice.ensures.evaluates (extent c.in-Choice.span))

pub case-returns-in-Optional-clause-evaluates : goal.case-returns-in-Optional-clause-evaluates
case-returns-in-Optional-clause-evaluates t c =
    let same = ap form_of c.in-Optional.is ∙ (form_of-Optional c.in-Optional.part c.in-Optional.span ∙ ap (λ e. form.Optional (form_of e) (extent c.in-Optional.span)) (sym c.deref-in-Optional.ensures)) in
    subst (λ e. Evaluates (table_in c.args.self.now c.args.depth e c.args.terminal c.args.position) (seen_in c.args.found.now) c.optional.result (seen_in c.optional.new.found)) (sym same) (c.optional.ensures.evaluates (extent c.in-Optional.span))

pub case-returns-in-Plus-clause-evaluates : goal.case-returns-in-Plus-clause-evaluates
case-returns-in-Plus-clause-evaluates t c =
    let same = ap form_of c.in-Plus.is ∙ (form_of-Plus c.in-Plus.part c.in-Plus.span ∙ ap (λ e. form.Plus (form_of e) (extent c.in-Plus.span)) (sym c.deref-in-Plus.ensures)) in
    subst (λ e. Evaluates (table_in c.args.self.now c.args.depth e c.args.terminal c.args.position) (seen_in c.args.found.now) c.plus.result (seen_in c.plus.new.found)) (sym same) (c.plus.ensures.evaluates (extent c.in-Plus.span))

pub case-returns-in-Counted-clause-evaluates : goal.case-returns-in-Counted-clause-evaluates
case-returns-in-Counted-clause-evaluates t c =
    let same = ap form_of c.in-Counted.is ∙ (form_of-Counted c.in-Counted.part c.in-Counted.min c.in-Counted.max c.in-Counted.span ∙ ap (λ e. form.Counted (form_of e) c.in-Counted.min c.in-Counted.max (extent c.in-Counted.span)) (sym c.deref-in-Counted.ensures)) in
    subst (λ e. Evaluates (table_in c.args.self.now c.args.depth e c.args.terminal c.args.position) (seen_in c.args.found.now) c.counted.result (seen_in c.counted.new.found)) (sym same) (c.counted.ensures.evaluates (extent c.in-Counted.span))

pub case-returns-in-And-clause-evaluates : goal.case-returns-in-And-clause-evaluates
case-returns-in-And-clause-evaluates t c =
    let same = ap form_of c.in-And.is ∙ (form_of-And c.in-And.part c.in-And.span ∙ ap (λ e. form.And (form_of e) (extent c.in-And.span)) (sym c.deref-in-And.ensures)) in
    subst (λ e. Evaluates (table_in c.args.self.now c.args.depth e c.args.terminal c.args.position) (seen_in c.args.found.now) c.and.result (seen_in c.and.new.found)) (sym same) (c.and.ensures.evaluates (extent c.in-And.span))

pub case-returns-in-Not-clause-evaluates : goal.case-returns-in-Not-clause-evaluates
case-returns-in-Not-clause-evaluates t c =
    let same = ap form_of c.in-Not.is ∙ (form_of-Not c.in-Not.part c.in-Not.span ∙ ap (λ e. form.Not (form_of e) (extent c.in-Not.span)) (sym c.deref-in-Not.ensures)) in
    subst (λ e. Evaluates (table_in c.args.self.now c.args.depth e c.args.terminal c.args.position) (seen_in c.args.found.now) c.not.result (seen_in c.not.new.found)) (sym same) (c.not.ensures.evaluates (extent c.in-Not.span))

-- ---- operators

pub optional-returns-in-Ok-Fails-clause-evaluates : goal.optional-returns-in-Ok-Fails-clause-evaluates
optional-returns-in-Ok-Fails-clause-evaluates t c span =
    optional-failed (recognizer_in c.args.self.now c.args.depth (form_of c.args.part.now) c.args.terminal c.args.position) c.args.position (seen_in c.args.found.now) (seen_in c.expression.new.found) (subst (λ v. Evaluates (recognizer_in c.args.self.now c.args.depth (form_of c.args.part.now) c.args.terminal c.args.position) (seen_in c.args.found.now) (Ok v) (seen_in c.expression.new.found)) c.in-Ok-Fails.field-0-is c.in-Ok-Fails.ensures.evaluates)

pub rounds-returns-in-Ok-Fails-clause-evaluates : goal.rounds-returns-in-Ok-Fails-clause-evaluates
rounds-returns-in-Ok-Fails-clause-evaluates t c span =
    rounds-failed (recognizer_in c.args.self.now c.args.depth (form_of c.args.part.now) c.args.terminal c.args.position) c.args.position (λ end. recognizer_in c.args.self.now c.args.depth (form.Star (form_of c.args.part.now) span) c.args.terminal end) (seen_in c.args.found.now) (seen_in c.expression.new.found) (subst (λ v. Evaluates (recognizer_in c.args.self.now c.args.depth (form_of c.args.part.now) c.args.terminal c.args.position) (seen_in c.args.found.now) (Ok v) (seen_in c.expression.new.found)) c.in-Ok-Fails.field-0-is c.in-Ok-Fails.ensures.evaluates)

pub rounds-returns-in-Ok-EndsAt-clause-evaluates : goal.rounds-returns-in-Ok-EndsAt-clause-evaluates
rounds-returns-in-Ok-EndsAt-clause-evaluates t c span =
    rounds-evaluates (recognizer_in c.args.self.now c.args.depth (form_of c.args.part.now) c.args.terminal c.args.position) c.args.position (λ end. recognizer_in c.args.self.now c.args.depth (form.Star (form_of c.args.part.now) span) c.args.terminal end) c.in-Ok-EndsAt.end (seen_in c.args.found.now) (seen_in c.expression.new.found) (seen_in c.star.new.found) c.star.result (star-matches (rules_in c.args.self.now.grammar.now) (evaluated_text c.args.self.now) c.args.depth (form_of c.args.part.now) span c.args.terminal c.in-Ok-EndsAt.end) (subst (λ v. Evaluates (recognizer_in c.args.self.now c.args.depth (form_of c.args.part.now) c.args.terminal c.args.position) (seen_in c.args.found.now) (Ok v) (seen_in c.expression.new.found)) c.in-Ok-EndsAt.field-0-is c.in-Ok-EndsAt.ensures.evaluates) (c.star.ensures.evaluates span)

pub plus-returns-in-Ok-EndsAt-clause-evaluates : goal.plus-returns-in-Ok-EndsAt-clause-evaluates
plus-returns-in-Ok-EndsAt-clause-evaluates t c span =
    then-evaluates (recognizer_in c.args.self.now c.args.depth (form_of c.args.part.now) c.args.terminal c.args.position) (λ end. recognizer_in c.args.self.now c.args.depth (form.Star (form_of c.args.part.now) span) c.args.terminal end) c.in-Ok-EndsAt.end (seen_in c.args.found.now) (seen_in c.expression.new.found) (seen_in c.star.new.found) c.star.result (star-matches (rules_in c.args.self.now.grammar.now) (evaluated_text c.args.self.now) c.args.depth (form_of c.args.part.now) span c.args.terminal c.in-Ok-EndsAt.end) (subst (λ v. Evaluates (recognizer_in c.args.self.now c.args.depth (form_of c.args.part.now) c.args.terminal c.args.position) (seen_in c.args.found.now) (Ok v) (seen_in c.expression.new.found)) c.in-Ok-EndsAt.field-0-is c.in-Ok-EndsAt.ensures.evaluates) (c.star.ensures.evaluates span)

pub and-returns-in-Ok-EndsAt-clause-evaluates : goal.and-returns-in-Ok-EndsAt-clause-evaluates
and-returns-in-Ok-EndsAt-clause-evaluates t c span =
    let h = subst (λ v. Evaluates (recognizer_in c.args.self.now c.args.depth (form_of c.args.part.now) c.args.terminal c.args.position) (seen_in c.args.found.now) (Ok v) (seen_in c.expression.new.found)) c.in-Ok-EndsAt.field-0-is c.in-Ok-EndsAt.ensures.evaluates in
    and-matched (recognizer_in c.args.self.now c.args.depth (form_of c.args.part.now) c.args.terminal c.args.position) c.args.position c.in-Ok-EndsAt.field-0-0 (seen_in c.args.found.now) (seen_in c.expression.new.found) (seen_in (record { furthest = c.expression.new.found.furthest; rows = c.truncate.new.self })) (cut_back c.args.found.now c.expression.new.found c.truncate.new.self c.len-from.result (rows_of (trees_left h.0.result)) (c.len-from.ensures ∙ c.args.found.now.rows.ok.0) c.truncate.ensures.items (λ i. (h.3 i).rows)) h

pub not-returns-in-Ok-Fails-clause-evaluates : goal.not-returns-in-Ok-Fails-clause-evaluates
not-returns-in-Ok-Fails-clause-evaluates t c span =
    not-failed (recognizer_in c.args.self.now c.args.depth (form_of c.args.part.now) c.args.terminal c.args.position) c.args.position (seen_in c.args.found.now) (seen_in c.expression.new.found) (subst (λ v. Evaluates (recognizer_in c.args.self.now c.args.depth (form_of c.args.part.now) c.args.terminal c.args.position) (seen_in c.args.found.now) (Ok v) (seen_in c.expression.new.found)) c.in-Ok-Fails.field-0-is c.in-Ok-Fails.ensures.evaluates)

pub not-returns-in-Ok-EndsAt-clause-evaluates : goal.not-returns-in-Ok-EndsAt-clause-evaluates
not-returns-in-Ok-EndsAt-clause-evaluates t c span =
    let h = subst (λ v. Evaluates (recognizer_in c.args.self.now c.args.depth (form_of c.args.part.now) c.args.terminal c.args.position) (seen_in c.args.found.now) (Ok v) (seen_in c.expression.new.found)) c.in-Ok-EndsAt.field-0-is c.in-Ok-EndsAt.ensures.evaluates in
    not-matched (recognizer_in c.args.self.now c.args.depth (form_of c.args.part.now) c.args.terminal c.args.position) c.args.position c.in-Ok-EndsAt.field-0-0 (seen_in c.args.found.now) (seen_in c.expression.new.found) (seen_in (record { furthest = c.expression.new.found.furthest; rows = c.truncate.new.self })) (cut_back c.args.found.now c.expression.new.found c.truncate.new.self c.len-from.result (rows_of (trees_left h.0.result)) (c.len-from.ensures ∙ c.args.found.now.rows.ok.0) c.truncate.ensures.items (λ i. (h.3 i).rows)) h

-- ---- names and rules

pub name-returns-in-None-clause-evaluates : goal.name-returns-in-None-clause-evaluates
name-returns-in-None-clause-evaluates t c span terminal =
    ap (option_and_then (λ m. option_map (as_call m.rule c.args.position) (recognizer_in c.args.self.now c.args.depth m.body m.terminal c.args.position))) (meant-no_position (rules_in c.args.self.now.grammar.now) c.args.name.now (sym c.in-None.ensures))

pub name-returns-in-Some-clause-evaluates : goal.name-returns-in-Some-clause-evaluates
name-returns-in-Some-clause-evaluates t c span terminal =
    let same = named-used (recognizer_in c.args.self.now c.args.depth) c.args.position c.in-Some.rule (rules_in c.args.self.now.grammar.now) (meaning_of (rules_in c.args.self.now.grammar.now) c.args.name.now) (meant-position (rules_in c.args.self.now.grammar.now) c.args.name.now c.in-Some.rule (sym c.in-Some.ensures)) ∙ ap (λ l. option_and_then (λ r. option_map (as_call c.in-Some.rule c.args.position) (recognizer_in c.args.self.now c.args.depth r.body (get_or l c.in-Some.rule 0) c.args.position)) (slice_get (rules_in c.args.self.now.grammar.now) c.in-Some.rule)) (sym c.args.self.now.numbered) in
    subst (λ o. Evaluates o (seen_in c.args.found.now) c.rule.result (seen_in c.rule.new.found)) (sym same) c.rule.ensures.evaluates

-- ---- alternatives

pub choice-returns-in-Err-clause-evaluates : goal.choice-returns-in-Err-clause-evaluates
choice-returns-in-Err-clause-evaluates t c span =
    choice-first_stopped (recognizer_in c.args.self.now c.args.depth) (form_of c.args.first.now) (forms (map form_of c.args.rest.now)) c.args.terminal c.args.position (seen_in c.args.found.now) (seen_in c.expression.new.found) c.in-Err.stop c.in-Err.ensures.evaluates

pub choice-returns-in-Ok-EndsAt-clause-evaluates : goal.choice-returns-in-Ok-EndsAt-clause-evaluates
choice-returns-in-Ok-EndsAt-clause-evaluates t c span =
    choice-first_matched (recognizer_in c.args.self.now c.args.depth) (form_of c.args.first.now) (forms (map form_of c.args.rest.now)) c.args.terminal c.args.position (seen_in c.args.found.now) (seen_in c.expression.new.found) c.in-Ok-EndsAt.end
    (subst (λ v. Evaluates (recognizer_in c.args.self.now c.args.depth (form_of c.args.first.now) c.args.terminal c.args.position) (seen_in c.args.found.now) (Ok v) (seen_in c.expression.new.found)) c.in-Ok-EndsAt.field-0-is c.in-Ok-EndsAt.ensures.evaluates)

pub choice-loop-next-init : goal.choice-loop-next-init
choice-loop-next-init t c = record {
  few = omega (arith, c.requires.few, c.terminal_count.ensures);
  so_far = subst (λ n. FailedSoFar (recognize_choice (recognizer_in c.args.self.now c.args.depth) (form_of c.args.first.now) (forms (map form_of c.args.rest.now)) c.args.terminal c.args.position) (recognizer_in c.args.self.now c.args.depth) c.args.position (seen_in c.args.found.now) (forms (map form_of c.args.rest.now)) (c.args.terminal + n) (seen_in c.expression.new.found)) (sym c.terminal_count.ensures)
      (choice-first_failed (recognizer_in c.args.self.now c.args.depth) (form_of c.args.first.now) (forms (map form_of c.args.rest.now)) c.args.terminal c.args.position (seen_in c.args.found.now) (seen_in c.expression.new.found)
      (subst (λ v. Evaluates (recognizer_in c.args.self.now c.args.depth (form_of c.args.first.now) c.args.terminal c.args.position) (seen_in c.args.found.now) (Ok v) (seen_in c.expression.new.found)) c.in-Ok-Fails.field-0-is c.in-Ok-Fails.ensures.evaluates));
}

pub choice-expression-requires-in-loop-next : goal.choice-expression-requires-in-loop-next
choice-expression-requires-in-loop-next t c =
    let split = ap terminals_of_all (forms-drop form_of c.args.rest.now c.loop-next.next-index c.next-item.result c.loop-next-test.true c.next-item.is) in
    (search rules, (c.requires.position, omega (arith, c.loop-next.invariant.few, split)))

pub choice-terminal_count-terminal-requires : goal.choice-terminal_count-terminal-requires
choice-terminal_count-terminal-requires t c =
    let split = ap terminals_of_all (forms-drop form_of c.args.rest.now c.loop-next.next-index c.next-item.result c.loop-next-test.true c.next-item.is) in
    omega (arith, c.loop-next.invariant.few, split)

pub choice-overflow_add-terminal-in-Ok-Fails-expression : goal.choice-overflow_add-terminal-in-Ok-Fails-expression
choice-overflow_add-terminal-in-Ok-Fails-expression t c =
    let split = ap terminals_of_all (forms-drop form_of c.args.rest.now c.loop-next.next-index c.next-item.result c.loop-next-test.true c.next-item.is) in
    omega (arith, c.loop-next.invariant.few, split, c.terminal_count-terminal.ensures)

pub choice-returns-in-Err-expression-clause-evaluates : goal.choice-returns-in-Err-expression-clause-evaluates
choice-returns-in-Err-expression-clause-evaluates t c span =
    let taken = recognizer_in c.args.self.now c.args.depth in
    let start = seen_in c.args.found.now in
    let whole = recognize_choice taken (form_of c.args.first.now) (forms (map form_of c.args.rest.now)) c.args.terminal c.args.position in
    let so_far = subst (λ l. FailedSoFar whole taken c.args.position start l c.loop-next.terminal (seen_in c.loop-next.found)) (forms-drop form_of c.args.rest.now c.loop-next.next-index c.next-item.result c.loop-next-test.true c.next-item.is) c.loop-next.invariant.so_far in
    choice-next_stopped whole taken (form_of c.next-item.result) (forms (drop (c.loop-next.next-index + 1) (map form_of c.args.rest.now))) c.loop-next.terminal c.args.position start (seen_in c.loop-next.found) (seen_in c.expression-in-loop-next.new.found) so_far c.in-Err-expression.stop c.in-Err-expression.ensures.evaluates

pub choice-returns-in-Ok-EndsAt-expression-clause-evaluates : goal.choice-returns-in-Ok-EndsAt-expression-clause-evaluates
choice-returns-in-Ok-EndsAt-expression-clause-evaluates t c span =
    let taken = recognizer_in c.args.self.now c.args.depth in
    let start = seen_in c.args.found.now in
    let whole = recognize_choice taken (form_of c.args.first.now) (forms (map form_of c.args.rest.now)) c.args.terminal c.args.position in
    let so_far = subst (λ l. FailedSoFar whole taken c.args.position start l c.loop-next.terminal (seen_in c.loop-next.found)) (forms-drop form_of c.args.rest.now c.loop-next.next-index c.next-item.result c.loop-next-test.true c.next-item.is) c.loop-next.invariant.so_far in
    choice-next_matched whole taken (form_of c.next-item.result) (forms (drop (c.loop-next.next-index + 1) (map form_of c.args.rest.now))) c.loop-next.terminal c.args.position start (seen_in c.loop-next.found) (seen_in c.expression-in-loop-next.new.found) so_far c.in-Ok-EndsAt-expression.end
    (subst (λ v. Evaluates (taken (form_of c.next-item.result) c.loop-next.terminal c.args.position) (seen_in c.loop-next.found) (Ok v) (seen_in c.expression-in-loop-next.new.found)) c.in-Ok-EndsAt-expression.field-0-is c.in-Ok-EndsAt-expression.ensures.evaluates)

pub choice-loop-next-preserved : goal.choice-loop-next-preserved
choice-loop-next-preserved t c =
    let taken = recognizer_in c.args.self.now c.args.depth in
    let start = seen_in c.args.found.now in
    let whole = recognize_choice taken (form_of c.args.first.now) (forms (map form_of c.args.rest.now)) c.args.terminal c.args.position in
    let split = forms-drop form_of c.args.rest.now c.loop-next.next-index c.next-item.result c.loop-next-test.true c.next-item.is in
    let rest = forms (drop (c.loop-next.next-index + 1) (map form_of c.args.rest.now)) in
    let so_far = subst (λ l. FailedSoFar whole taken c.args.position start l c.loop-next.terminal (seen_in c.loop-next.found)) split c.loop-next.invariant.so_far in
    record {
      few = (let counted = ap terminals_of_all split in omega (arith, c.loop-next.invariant.few, counted, c.terminal_count-terminal.ensures));
      so_far = subst (λ n. FailedSoFar whole taken c.args.position start rest (c.loop-next.terminal + n) (seen_in c.expression-in-loop-next.new.found)) (sym c.terminal_count-terminal.ensures)
          (choice-next_failed whole taken (form_of c.next-item.result) rest c.loop-next.terminal c.args.position start (seen_in c.loop-next.found) (seen_in c.expression-in-loop-next.new.found) so_far
          (subst (λ v. Evaluates (taken (form_of c.next-item.result) c.loop-next.terminal c.args.position) (seen_in c.loop-next.found) (Ok v) (seen_in c.expression-in-loop-next.new.found)) c.in-Ok-Fails-expression.field-0-is c.in-Ok-Fails-expression.ensures.evaluates));
    }

-- ---- items

pub items-loop-item-init : goal.items-loop-item-init
items-loop-item-init t c = record {
  after = search rules;
  within = c.requires.position;
  few = c.requires.few;
  from = c.len-from.ensures ∙ c.args.found.now.rows.ok.0;
  so_far = items-start (recognizer_in c.args.self.now c.args.depth) (forms (map form_of c.args.items.now)) c.args.terminal c.args.position (seen_in c.args.found.now);
}

pub items-expression-requires : goal.items-expression-requires
items-expression-requires t c =
    let split = ap terminals_of_all (forms-drop form_of c.args.items.now c.loop-item.item-index c.item-item.result c.loop-item-test.true c.item-item.is) in
    (search rules, (c.loop-item.invariant.within, omega (arith, c.loop-item.invariant.few, split)))

pub items-terminal_count-terminal-requires : goal.items-terminal_count-terminal-requires
items-terminal_count-terminal-requires t c =
    let split = ap terminals_of_all (forms-drop form_of c.args.items.now c.loop-item.item-index c.item-item.result c.loop-item-test.true c.item-item.is) in
    omega (arith, c.loop-item.invariant.few, split)

pub items-overflow_add-terminal : goal.items-overflow_add-terminal
items-overflow_add-terminal t c =
    let split = ap terminals_of_all (forms-drop form_of c.args.items.now c.loop-item.item-index c.item-item.result c.loop-item-test.true c.item-item.is) in
    omega (arith, c.loop-item.invariant.few, split, c.terminal_count-terminal.ensures)

pub items-returns-in-Err-clause-evaluates : goal.items-returns-in-Err-clause-evaluates
items-returns-in-Err-clause-evaluates t c span =
    let taken = recognizer_in c.args.self.now c.args.depth in
    let all = forms (map form_of c.args.items.now) in
    let start = seen_in c.args.found.now in
    let rest = forms (drop (c.loop-item.item-index + 1) (map form_of c.args.items.now)) in
    let so_far = subst (λ l. ItemsSoFar taken all c.args.terminal c.args.position start l c.loop-item.terminal c.loop-item.at (seen_in c.loop-item.found)) (forms-drop form_of c.args.items.now c.loop-item.item-index c.item-item.result c.loop-item-test.true c.item-item.is) c.loop-item.invariant.so_far in
    items-stopped taken all c.args.terminal c.args.position start (form_of c.item-item.result) rest c.loop-item.terminal c.loop-item.at (seen_in c.loop-item.found) (seen_in c.expression.new.found) so_far c.in-Err.stop c.in-Err.ensures.evaluates

pub items-returns-in-Ok-Fails-clause-evaluates : goal.items-returns-in-Ok-Fails-clause-evaluates
items-returns-in-Ok-Fails-clause-evaluates t c span =
    let taken = recognizer_in c.args.self.now c.args.depth in
    let all = forms (map form_of c.args.items.now) in
    let start = seen_in c.args.found.now in
    let rest = forms (drop (c.loop-item.item-index + 1) (map form_of c.args.items.now)) in
    let so_far = subst (λ l. ItemsSoFar taken all c.args.terminal c.args.position start l c.loop-item.terminal c.loop-item.at (seen_in c.loop-item.found)) (forms-drop form_of c.args.items.now c.loop-item.item-index c.item-item.result c.loop-item-test.true c.item-item.is) c.loop-item.invariant.so_far in
    let h = subst (λ v. Evaluates (taken (form_of c.item-item.result) c.loop-item.terminal c.loop-item.at) (seen_in c.loop-item.found) (Ok v) (seen_in c.expression.new.found)) c.in-Ok-Fails.field-0-is c.in-Ok-Fails.ensures.evaluates in
    let cut = cut_back c.args.found.now c.expression.new.found c.truncate.new.self c.len-from.result (rows_of so_far.trees ++ rows_of (trees_left h.0.result)) c.loop-item.invariant.from c.truncate.ensures.items ((λ i. (h.3 i).rows) ∙ ((λ i. (so_far.noted_now i).rows ++ rows_of (trees_left h.0.result)) ∙ append_assoc (map row_of c.args.found.now.rows.items) (rows_of so_far.trees) (rows_of (trees_left h.0.result)))) in
    items-failed taken all c.args.terminal c.args.position start (form_of c.item-item.result) rest c.loop-item.terminal c.loop-item.at (seen_in c.loop-item.found) (seen_in c.expression.new.found) so_far (seen_in (record { furthest = c.expression.new.found.furthest; rows = c.truncate.new.self })) cut h

pub items-loop-item-preserved : goal.items-loop-item-preserved
items-loop-item-preserved t c =
    let taken = recognizer_in c.args.self.now c.args.depth in
    let all = forms (map form_of c.args.items.now) in
    let start = seen_in c.args.found.now in
    let rest = forms (drop (c.loop-item.item-index + 1) (map form_of c.args.items.now)) in
    let split = forms-drop form_of c.args.items.now c.loop-item.item-index c.item-item.result c.loop-item-test.true c.item-item.is in
    let so_far = subst (λ l. ItemsSoFar taken all c.args.terminal c.args.position start l c.loop-item.terminal c.loop-item.at (seen_in c.loop-item.found)) split c.loop-item.invariant.so_far in
    let h = subst (λ v. Evaluates (taken (form_of c.item-item.result) c.loop-item.terminal c.loop-item.at) (seen_in c.loop-item.found) (Ok v) (seen_in c.expression.new.found)) c.in-Ok-EndsAt.field-0-is c.in-Ok-EndsAt.ensures.evaluates in
    let ends = subst (EndsWithin c.loop-item.at (length (evaluated_text c.args.self.now))) c.in-Ok-EndsAt.field-0-is c.in-Ok-EndsAt.ensures.within in
    record {
      after = omega (arith, c.loop-item.invariant.after, ends.0);
      within = ends.1;
      few = (let counted = ap terminals_of_all split in omega (arith, c.loop-item.invariant.few, counted, c.terminal_count-terminal.ensures));
      from = c.loop-item.invariant.from;
      so_far = subst (λ n. ItemsSoFar taken all c.args.terminal c.args.position start rest (c.loop-item.terminal + n) c.in-Ok-EndsAt.end (seen_in c.expression.new.found)) (sym c.terminal_count-terminal.ensures)
          (items-matched taken all c.args.terminal c.args.position start (form_of c.item-item.result) rest c.loop-item.terminal c.loop-item.at (seen_in c.loop-item.found) (seen_in c.expression.new.found) so_far c.in-Ok-EndsAt.end h);
    }

pub items-returns-clause-evaluates : goal.items-returns-clause-evaluates
items-returns-clause-evaluates t c span =
    let taken = recognizer_in c.args.self.now c.args.depth in
    let all = forms (map form_of c.args.items.now) in
    let so_far = subst (λ l. ItemsSoFar taken all c.args.terminal c.args.position (seen_in c.args.found.now) l c.loop-item.terminal c.loop-item.at (seen_in c.loop-item.found)) (forms-drop_all form_of c.args.items.now c.loop-item.item-index c.loop-item-test.false) c.loop-item.invariant.so_far in
    items-end taken all c.args.terminal c.args.position (seen_in c.args.found.now) c.loop-item.terminal c.loop-item.at (seen_in c.loop-item.found) so_far

-- ---- a count

pub counted-loop-round-init : goal.counted-loop-round-init
counted-loop-round-init t c = record {
  after = search rules;
  within = c.requires.position;
  from = c.len-held.ensures ∙ c.args.found.now.rows.ok.0;
  so_far = times-start (λ at. recognizer_in c.args.self.now c.args.depth (form_of c.args.part.now) c.args.terminal at) c.args.min c.args.max c.args.position (seen_in c.args.found.now) (c.args.min - 0) (c.args.max - 0) (omega arith) (omega arith);
}

pub counted-returns-in-Err-clause-evaluates : goal.counted-returns-in-Err-clause-evaluates
counted-returns-in-Err-clause-evaluates t c span =
    let take = λ (at : ℕ). recognizer_in c.args.self.now c.args.depth (form_of c.args.part.now) c.args.terminal at in
    let start = seen_in c.args.found.now in
    let so_far = subst (λ n. TimesSoFar take c.args.min c.args.max c.args.position start (c.args.min - c.loop-round.round) n c.loop-round.at (seen_in c.loop-round.found)) (some-left c.args.max c.loop-round.round (omega (arith, c.loop-round-test.true))) c.loop-round.invariant.so_far in
    times-stopped take c.args.min c.args.max c.args.position start c.loop-round.at (seen_in c.loop-round.found) (seen_in c.expression.new.found) (c.args.min - c.loop-round.round) (c.args.max - (c.loop-round.round + 1)) c.in-Err.stop so_far c.in-Err.ensures.evaluates

pub counted-returns-then-round-min-clause-evaluates : goal.counted-returns-then-round-min-clause-evaluates
counted-returns-then-round-min-clause-evaluates t c span =
    let take = λ (at : ℕ). recognizer_in c.args.self.now c.args.depth (form_of c.args.part.now) c.args.terminal at in
    let start = seen_in c.args.found.now in
    let enough = none-left c.args.min c.loop-round.round (omega (arith, c.if-round-min.true)) in
    let more = some-left c.args.max c.loop-round.round (omega (arith, c.loop-round-test.true)) in
    let so_far = subst (λ n. TimesSoFar take c.args.min c.args.max c.args.position start n (suc (c.args.max - (c.loop-round.round + 1))) c.loop-round.at (seen_in c.loop-round.found)) enough (subst (λ n. TimesSoFar take c.args.min c.args.max c.args.position start (c.args.min - c.loop-round.round) n c.loop-round.at (seen_in c.loop-round.found)) more c.loop-round.invariant.so_far) in
    let h = subst (λ v. Evaluates (take c.loop-round.at) (seen_in c.loop-round.found) (Ok v) (seen_in c.expression.new.found)) c.in-Ok-Fails.field-0-is c.in-Ok-Fails.ensures.evaluates in
    times-enough take c.args.min c.args.max c.args.position start c.loop-round.at (seen_in c.loop-round.found) (seen_in c.expression.new.found) (c.args.max - (c.loop-round.round + 1)) so_far h

pub counted-returns-in-Ok-Fails-clause-evaluates : goal.counted-returns-in-Ok-Fails-clause-evaluates
counted-returns-in-Ok-Fails-clause-evaluates t c span =
    let take = λ (at : ℕ). recognizer_in c.args.self.now c.args.depth (form_of c.args.part.now) c.args.terminal at in
    let start = seen_in c.args.found.now in
    let wanted = some-left c.args.min c.loop-round.round (omega (arith, c.if-round-min.false)) in
    let more = some-left c.args.max c.loop-round.round (omega (arith, c.loop-round-test.true)) in
    let so_far = subst (λ n. TimesSoFar take c.args.min c.args.max c.args.position start n (suc (c.args.max - (c.loop-round.round + 1))) c.loop-round.at (seen_in c.loop-round.found)) wanted (subst (λ n. TimesSoFar take c.args.min c.args.max c.args.position start (c.args.min - c.loop-round.round) n c.loop-round.at (seen_in c.loop-round.found)) more c.loop-round.invariant.so_far) in
    let h = subst (λ v. Evaluates (take c.loop-round.at) (seen_in c.loop-round.found) (Ok v) (seen_in c.expression.new.found)) c.in-Ok-Fails.field-0-is c.in-Ok-Fails.ensures.evaluates in
    let cut = cut_back c.args.found.now c.expression.new.found c.truncate.new.self c.len-held.result (rows_of so_far.trees ++ rows_of (trees_left h.0.result)) c.loop-round.invariant.from c.truncate.ensures.items ((λ i. (h.3 i).rows) ∙ ((λ i. (so_far.noted_now i).rows ++ rows_of (trees_left h.0.result)) ∙ append_assoc (map row_of c.args.found.now.rows.items) (rows_of so_far.trees) (rows_of (trees_left h.0.result)))) in
    times-failed take c.args.min c.args.max c.args.position start c.loop-round.at (seen_in c.loop-round.found) (seen_in c.expression.new.found) (c.args.min - (c.loop-round.round + 1)) (c.args.max - (c.loop-round.round + 1)) (seen_in (record { furthest = c.expression.new.found.furthest; rows = c.truncate.new.self })) so_far cut h

pub counted-loop-round-preserved : goal.counted-loop-round-preserved
counted-loop-round-preserved t c =
    let take = λ (at : ℕ). recognizer_in c.args.self.now c.args.depth (form_of c.args.part.now) c.args.terminal at in
    let start = seen_in c.args.found.now in
    let more = some-left c.args.max c.loop-round.round (omega (arith, c.loop-round-test.true)) in
    let so_far = subst (λ n. TimesSoFar take c.args.min c.args.max c.args.position start (c.args.min - c.loop-round.round) n c.loop-round.at (seen_in c.loop-round.found)) more c.loop-round.invariant.so_far in
    let h = subst (λ v. Evaluates (take c.loop-round.at) (seen_in c.loop-round.found) (Ok v) (seen_in c.expression.new.found)) c.in-Ok-EndsAt.field-0-is c.in-Ok-EndsAt.ensures.evaluates in
    let ends = subst (EndsWithin c.loop-round.at (length (evaluated_text c.args.self.now))) c.in-Ok-EndsAt.field-0-is c.in-Ok-EndsAt.ensures.within in
    record {
      after = omega (arith, c.loop-round.invariant.after, ends.0);
      within = ends.1;
      from = c.loop-round.invariant.from;
      so_far = subst (λ n. TimesSoFar take c.args.min c.args.max c.args.position start n (c.args.max - (c.loop-round.round + 1)) c.in-Ok-EndsAt.end (seen_in c.expression.new.found)) (one_less-left c.args.min c.loop-round.round)
          (times-matched take c.args.min c.args.max c.args.position start c.loop-round.at (seen_in c.loop-round.found) (seen_in c.expression.new.found) (c.args.min - c.loop-round.round) (c.args.max - (c.loop-round.round + 1)) c.in-Ok-EndsAt.end so_far h);
    }

pub counted-returns-clause-evaluates : goal.counted-returns-clause-evaluates
counted-returns-clause-evaluates t c span =
    let take = λ (at : ℕ). recognizer_in c.args.self.now c.args.depth (form_of c.args.part.now) c.args.terminal at in
    let start = seen_in c.args.found.now in
    let so_far = subst (λ n. TimesSoFar take c.args.min c.args.max c.args.position start (c.args.min - c.loop-round.round) n c.loop-round.at (seen_in c.loop-round.found)) (none-left c.args.max c.loop-round.round (omega (arith, c.loop-round-test.false))) c.loop-round.invariant.so_far in
    times-end take c.args.min c.args.max c.args.position start (c.args.min - c.loop-round.round) c.loop-round.at (seen_in c.loop-round.found) so_far

-- ---- a rule

pub rule-bounds-self-rule : goal.rule-bounds-self-rule
rule-bounds-self-rule t c =
    let numbered = ap length c.args.self.now.numbered in
    omega (arith, c.requires.rule, numbered, length-first_from 0 (rules_in c.args.self.now.grammar.now))

pub rule-expression-requires : goal.rule-expression-requires
rule-expression-requires t c =
    let numbered = ap (λ l. get_or l c.args.rule 0) c.args.self.now.numbered in
    (search rules, (c.requires.position, omega (arith, numbered, first_from-within 0 (rules_in c.args.self.now.grammar.now) c.args.rule (form_of c.body.result.now) c.body.ensures, terminals_of-weight (rules_in c.args.self.now.grammar.now), c.args.self.now.grammar.now.light)))

pub rule-returns-in-Ok-Fails-clause-evaluates : goal.rule-returns-in-Ok-Fails-clause-evaluates
rule-returns-in-Ok-Fails-clause-evaluates t c =
    let taken = recognizer_in c.args.self.now c.args.depth in
    let first = get_or c.args.self.now.first.now c.args.rule 0 in
    let tried = taken (form_of c.body.result.now) first c.args.position in
    let used = used-is taken first c.args.rule c.args.position (slice_get (rules_in c.args.self.now.grammar.now) c.args.rule) (form_of c.body.result.now) c.body.ensures in
    let pushed : TreeNode = record { rule = c.args.rule; span = c.new-span.result; size = 1 } in
    let h = subst (λ v. Evaluates tried (seen_in (record { furthest = c.args.found.now.furthest; rows = c.push.new.self })) (Ok v) (seen_in c.expression.new.found)) c.in-Ok-Fails.field-0-is c.in-Ok-Fails.ensures.evaluates in
    subst (λ o. Evaluates o (seen_in c.args.found.now) (Ok Fails) (seen_in (record { furthest = c.expression.new.found.furthest; rows = c.truncate.new.self }))) (sym used)
    (rule-failed tried c.args.rule c.args.position c.args.found.now c.expression.new.found c.push.new.self pushed c.in_ok-push.ensures.items c.len-from.result (c.len-from.ensures ∙ c.args.found.now.rows.ok.0) c.truncate.new.self c.truncate.ensures.items h)

pub rule-returns-in-Ok-EndsAt-clause-evaluates : goal.rule-returns-in-Ok-EndsAt-clause-evaluates
rule-returns-in-Ok-EndsAt-clause-evaluates t c =
    let taken = recognizer_in c.args.self.now c.args.depth in
    let first = get_or c.args.self.now.first.now c.args.rule 0 in
    let tried = taken (form_of c.body.result.now) first c.args.position in
    let used = used-is taken first c.args.rule c.args.position (slice_get (rules_in c.args.self.now.grammar.now) c.args.rule) (form_of c.body.result.now) c.body.ensures in
    let pushed : TreeNode = record { rule = c.args.rule; span = c.new-span.result; size = 1 } in
    let h = subst (λ v. Evaluates tried (seen_in (record { furthest = c.args.found.now.furthest; rows = c.push.new.self })) (Ok v) (seen_in c.expression.new.found)) c.in-Ok-EndsAt.field-0-is c.in-Ok-EndsAt.ensures.evaluates in
    let node : TreeNode = record { rule = c.args.rule; span = c.new-span-in-Ok-EndsAt.result; size = c.len.result - c.len-from.result } in
    subst (λ o. Evaluates o (seen_in c.args.found.now) (Ok (EndsAt c.in-Ok-EndsAt.end)) (seen_in (record { furthest = c.expression.new.found.furthest; rows = with_item c.expression.new.found.rows c.len-from.result node }))) (sym used)
    (rule-matched tried c.args.rule c.args.position c.args.found.now c.expression.new.found c.push.new.self pushed c.in_ok-push.ensures.items c.len-from.result (c.len-from.ensures ∙ c.args.found.now.rows.ok.0) c.in-Ok-EndsAt.end node (c.len.result - c.len-from.result) (λ i. record { rule = c.args.rule; start = c.new-span-in-Ok-EndsAt.ensures.start i; end = c.new-span-in-Ok-EndsAt.ensures.end i; size = c.len.result - c.len-from.result }) (ap (λ n. n - c.len-from.result) (c.len.ensures ∙ c.expression.new.found.rows.ok.0)) (with_item c.expression.new.found.rows c.len-from.result node) refl h)
