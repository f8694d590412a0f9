use Rattle.std.proofs.Common.{rules as search_rules, ◌≡◌, ℕ, ◌+◌, ◌<◌, ◌≤◌, List, [], ◌∷◌, length, map, get_or, drop, IfOk, true, sym, ap, ◌∙◌, subst, arith}
use denote.Param.Weighed.{most, at_most}
use Rattle.peg_bytes.specs.Extent.{extent}
use Rattle.peg_semantics.specs.Form as form
use Rattle.peg_semantics.specs.Form.{Form, Count, End, Then, forms, counts_written, counts_written_by_all, form_weight, forms_weight, names_used, names_used_by_all}
use Rattle.peg_grammar.specs.GrammarRules.{rules_in}
use Rattle.peg_grammar.specs.Written.{form_of}
use Rattle.peg_grammar.specs.declared.expr.Expr.{Expr}
use Rattle.peg_grammar.specs.declared.expr.Expr.TheFolds.{the_lemmas}
use Rattle.peg_grammar.proofs.LoopLemmas.{forms-drop}
use Rattle.peg_grammar.proofs.WrittenForms.{form_of-Seq, form_of-Choice, form_of-Optional, form_of-Star, form_of-Plus, form_of-Counted, form_of-And, form_of-Not}
use Rattle.peg_grammar.proofs.expr.Expr.TheLaws.{the_size}
use Rattle.peg_core.specs.CoreForm.{CoreForm, Empty, Seq, Choice, Star, Not, all_in_order, count_form, one_of}
use Rattle.peg_core.specs.CoreParts.{are_defined, are_in_range, optional_forms, plus_forms, count_forms, and_forms, sequences_of, choices_of}
use Rattle.peg_core.specs.Appending.{Appends, AppendsForm}
use Rattle.peg_core.specs.Layout.{form_at}
use Rattle.peg_core.proofs.AddLemmas.{SoFar, SoFar-more, AppendsForm-room, AppendsForm-few, AppendsForms-room, Appends-sign, Appends-sequence, Appends-choice, are_defined-left, are_defined-right, are_in_range-left, are_in_range-right}
use Rattle.peg_core.proofs.LaidLemmas.{if_ok}
use Rattle.peg_core.proofs.desugaring.+sugar.Goals as goal

-- ---- operators

pub add-add_optional-requires-clause-room : goal.add-add_optional-requires-clause-room
add-add_optional-requires-clause-room t c =
    let same : form_of c.args.expr.now ≡ form.Optional (form_of c.deref-in-Optional.result.now) (extent c.in-Optional.span) = ap form_of c.in-Optional.is ∙ (form_of-Optional c.in-Optional.part c.in-Optional.span ∙ ap (λ e. form.Optional (form_of e) (extent c.in-Optional.span)) (sym c.deref-in-Optional.ensures)) in
    omega (arith, c.requires.room, ap form_weight same, AppendsForm-room (rules_in c.args.grammar.now) (form_of c.deref-in-Optional.result.now) c.args.builder.now c.add-in-Optional.new.builder c.in_ok-add-in-Optional.field-0 c.in_ok-add-in-Optional.ensures (subst (λ f. are_in_range (counts_written f) ≡ true) same c.requires.ranged))

pub add-returns-in_ok-add-in-Optional : goal.add-returns-in_ok-add-in-Optional
add-returns-in_ok-add-in-Optional t c =
    let same : form_of c.args.expr.now ≡ form.Optional (form_of c.deref-in-Optional.result.now) (extent c.in-Optional.span) = ap form_of c.in-Optional.is ∙ (form_of-Optional c.in-Optional.part c.in-Optional.span ∙ ap (λ e. form.Optional (form_of e) (extent c.in-Optional.span)) (sym c.deref-in-Optional.ensures)) in
    let e = form_of c.deref-in-Optional.result.now in
    let rules = rules_in c.args.grammar.now in
    let old = c.args.builder.now in
    let mid = c.add-in-Optional.new.builder in
    let new = c.add_optional.new.builder in
    let part = c.in_ok-add-in-Optional.field-0 in
    let parts : CoreForm → List CoreForm = optional_forms in
    let whole : CoreForm → CoreForm = λ f. Choice f Empty in
    subst (λ f. IfOk c.add_optional.result (λ number. AppendsForm rules f old number new)) (sym same)
    (if_ok (λ number. Appends mid (parts (form_at mid.forms part)) [] (whole (form_at mid.forms part)) number new)
    (λ number. AppendsForm rules (form.Optional e (extent c.in-Optional.span)) old number new) c.add_optional.result
    (λ number lays. Appends-sign rules e old mid new part number parts whole c.in_ok-add-in-Optional.ensures lays)
    c.add_optional.ensures)

pub add-add_star-requires-clause-room : goal.add-add_star-requires-clause-room
add-add_star-requires-clause-room t c =
    let same : form_of c.args.expr.now ≡ form.Star (form_of c.deref-in-Star.result.now) (extent c.in-Star.span) = ap form_of c.in-Star.is ∙ (form_of-Star c.in-Star.part c.in-Star.span ∙ ap (λ e. form.Star (form_of e) (extent c.in-Star.span)) (sym c.deref-in-Star.ensures)) in
    omega (arith, c.requires.room, ap form_weight same, AppendsForm-room (rules_in c.args.grammar.now) (form_of c.deref-in-Star.result.now) c.args.builder.now c.add-in-Star.new.builder c.in_ok-add-in-Star.field-0 c.in_ok-add-in-Star.ensures (subst (λ f. are_in_range (counts_written f) ≡ true) same c.requires.ranged))

pub add-returns-in_ok-add-in-Star : goal.add-returns-in_ok-add-in-Star
add-returns-in_ok-add-in-Star t c =
    let same : form_of c.args.expr.now ≡ form.Star (form_of c.deref-in-Star.result.now) (extent c.in-Star.span) = ap form_of c.in-Star.is ∙ (form_of-Star c.in-Star.part c.in-Star.span ∙ ap (λ e. form.Star (form_of e) (extent c.in-Star.span)) (sym c.deref-in-Star.ensures)) in
    let e = form_of c.deref-in-Star.result.now in
    let rules = rules_in c.args.grammar.now in
    let old = c.args.builder.now in
    let mid = c.add-in-Star.new.builder in
    let new = c.add_star.new.builder in
    let part = c.in_ok-add-in-Star.field-0 in
    let parts : CoreForm → List CoreForm = λ f. Star f (extent c.in-Star.span) ∷ [] in
    let whole : CoreForm → CoreForm = λ f. Star f (extent c.in-Star.span) in
    subst (λ f. IfOk c.add_star.result (λ number. AppendsForm rules f old number new)) (sym same)
    (if_ok (λ number. Appends mid (parts (form_at mid.forms part)) [] (whole (form_at mid.forms part)) number new)
    (λ number. AppendsForm rules (form.Star e (extent c.in-Star.span)) old number new) c.add_star.result
    (λ number lays. Appends-sign rules e old mid new part number parts whole c.in_ok-add-in-Star.ensures lays)
    c.add_star.ensures)

pub add-add_plus-requires-clause-room : goal.add-add_plus-requires-clause-room
add-add_plus-requires-clause-room t c =
    let same : form_of c.args.expr.now ≡ form.Plus (form_of c.deref-in-Plus.result.now) (extent c.in-Plus.span) = ap form_of c.in-Plus.is ∙ (form_of-Plus c.in-Plus.part c.in-Plus.span ∙ ap (λ e. form.Plus (form_of e) (extent c.in-Plus.span)) (sym c.deref-in-Plus.ensures)) in
    omega (arith, c.requires.room, ap form_weight same, AppendsForm-room (rules_in c.args.grammar.now) (form_of c.deref-in-Plus.result.now) c.args.builder.now c.add-in-Plus.new.builder c.in_ok-add-in-Plus.field-0 c.in_ok-add-in-Plus.ensures (subst (λ f. are_in_range (counts_written f) ≡ true) same c.requires.ranged))

pub add-returns-in_ok-add-in-Plus : goal.add-returns-in_ok-add-in-Plus
add-returns-in_ok-add-in-Plus t c =
    let same : form_of c.args.expr.now ≡ form.Plus (form_of c.deref-in-Plus.result.now) (extent c.in-Plus.span) = ap form_of c.in-Plus.is ∙ (form_of-Plus c.in-Plus.part c.in-Plus.span ∙ ap (λ e. form.Plus (form_of e) (extent c.in-Plus.span)) (sym c.deref-in-Plus.ensures)) in
    let e = form_of c.deref-in-Plus.result.now in
    let rules = rules_in c.args.grammar.now in
    let old = c.args.builder.now in
    let mid = c.add-in-Plus.new.builder in
    let new = c.add_plus.new.builder in
    let part = c.in_ok-add-in-Plus.field-0 in
    let parts : CoreForm → List CoreForm = λ f. plus_forms f (extent c.in-Plus.span) in
    let whole : CoreForm → CoreForm = λ f. Seq f (Star f (extent c.in-Plus.span)) in
    subst (λ f. IfOk c.add_plus.result (λ number. AppendsForm rules f old number new)) (sym same)
    (if_ok (λ number. Appends mid (parts (form_at mid.forms part)) [] (whole (form_at mid.forms part)) number new)
    (λ number. AppendsForm rules (form.Plus e (extent c.in-Plus.span)) old number new) c.add_plus.result
    (λ number lays. Appends-sign rules e old mid new part number parts whole c.in_ok-add-in-Plus.ensures lays)
    c.add_plus.ensures)

pub add-add_count-requires-clause-room : goal.add-add_count-requires-clause-room
add-add_count-requires-clause-room t c =
    let same : form_of c.args.expr.now ≡ form.Counted (form_of c.deref-in-Counted.result.now) c.in-Counted.min c.in-Counted.max (extent c.in-Counted.span) = ap form_of c.in-Counted.is ∙ (form_of-Counted c.in-Counted.part c.in-Counted.min c.in-Counted.max c.in-Counted.span ∙ ap (λ e. form.Counted (form_of e) c.in-Counted.min c.in-Counted.max (extent c.in-Counted.span)) (sym c.deref-in-Counted.ensures)) in
    let part = form_of c.deref-in-Counted.result.now in
    let count : Count = record { min = c.in-Counted.min; max = c.in-Counted.max; span = extent c.in-Counted.span } in
    let ranged = subst (λ f. are_in_range (counts_written f) ≡ true) same c.requires.ranged in
    let following = are_in_range-right (count ∷ []) (counts_written part) ranged in
    omega (arith, c.requires.room, ap form_weight same, AppendsForm-room (rules_in c.args.grammar.now) part c.args.builder.now c.add-in-Counted.new.builder c.in_ok-add-in-Counted.field-0 c.in_ok-add-in-Counted.ensures following)

pub add-returns-in_ok-add-in-Counted : goal.add-returns-in_ok-add-in-Counted
add-returns-in_ok-add-in-Counted t c =
    let same : form_of c.args.expr.now ≡ form.Counted (form_of c.deref-in-Counted.result.now) c.in-Counted.min c.in-Counted.max (extent c.in-Counted.span) = ap form_of c.in-Counted.is ∙ (form_of-Counted c.in-Counted.part c.in-Counted.min c.in-Counted.max c.in-Counted.span ∙ ap (λ e. form.Counted (form_of e) c.in-Counted.min c.in-Counted.max (extent c.in-Counted.span)) (sym c.deref-in-Counted.ensures)) in
    let e = form_of c.deref-in-Counted.result.now in
    let min = c.in-Counted.min in
    let max = c.in-Counted.max in
    let rules = rules_in c.args.grammar.now in
    let old = c.args.builder.now in
    let mid = c.add-in-Counted.new.builder in
    let new = c.add_count.new.builder in
    let part = c.in_ok-add-in-Counted.field-0 in
    let parts : CoreForm → List CoreForm = λ f. count_forms f min max in
    let whole : CoreForm → CoreForm = λ f. count_form f min max in
    subst (λ f. IfOk c.add_count.result (λ number. AppendsForm rules f old number new)) (sym same)
    (if_ok (λ number. Appends mid (parts (form_at mid.forms part)) [] (whole (form_at mid.forms part)) number new)
    (λ number. AppendsForm rules (form.Counted e min max (extent c.in-Counted.span)) old number new) c.add_count.result
    (λ number lays. Appends-sign rules e old mid new part number parts whole c.in_ok-add-in-Counted.ensures lays)
    c.add_count.ensures)

pub add-add_and-requires-clause-room : goal.add-add_and-requires-clause-room
add-add_and-requires-clause-room t c =
    let same : form_of c.args.expr.now ≡ form.And (form_of c.deref-in-And.result.now) (extent c.in-And.span) = ap form_of c.in-And.is ∙ (form_of-And c.in-And.part c.in-And.span ∙ ap (λ e. form.And (form_of e) (extent c.in-And.span)) (sym c.deref-in-And.ensures)) in
    omega (arith, c.requires.room, ap form_weight same, AppendsForm-room (rules_in c.args.grammar.now) (form_of c.deref-in-And.result.now) c.args.builder.now c.add-in-And.new.builder c.in_ok-add-in-And.field-0 c.in_ok-add-in-And.ensures (subst (λ f. are_in_range (counts_written f) ≡ true) same c.requires.ranged))

pub add-returns-in_ok-add-in-And : goal.add-returns-in_ok-add-in-And
add-returns-in_ok-add-in-And t c =
    let same : form_of c.args.expr.now ≡ form.And (form_of c.deref-in-And.result.now) (extent c.in-And.span) = ap form_of c.in-And.is ∙ (form_of-And c.in-And.part c.in-And.span ∙ ap (λ e. form.And (form_of e) (extent c.in-And.span)) (sym c.deref-in-And.ensures)) in
    let e = form_of c.deref-in-And.result.now in
    let rules = rules_in c.args.grammar.now in
    let old = c.args.builder.now in
    let mid = c.add-in-And.new.builder in
    let new = c.add_and.new.builder in
    let part = c.in_ok-add-in-And.field-0 in
    let parts : CoreForm → List CoreForm = and_forms in
    let whole : CoreForm → CoreForm = λ f. Not (Not f) in
    subst (λ f. IfOk c.add_and.result (λ number. AppendsForm rules f old number new)) (sym same)
    (if_ok (λ number. Appends mid (parts (form_at mid.forms part)) [] (whole (form_at mid.forms part)) number new)
    (λ number. AppendsForm rules (form.And e (extent c.in-And.span)) old number new) c.add_and.result
    (λ number lays. Appends-sign rules e old mid new part number parts whole c.in_ok-add-in-And.ensures lays)
    c.add_and.ensures)

pub add-add_not-requires-clause-room : goal.add-add_not-requires-clause-room
add-add_not-requires-clause-room t c =
    let same : form_of c.args.expr.now ≡ form.Not (form_of c.deref-in-Not.result.now) (extent c.in-Not.span) = ap form_of c.in-Not.is ∙ (form_of-Not c.in-Not.part c.in-Not.span ∙ ap (λ e. form.Not (form_of e) (extent c.in-Not.span)) (sym c.deref-in-Not.ensures)) in
    omega (arith, c.requires.room, ap form_weight same, AppendsForm-room (rules_in c.args.grammar.now) (form_of c.deref-in-Not.result.now) c.args.builder.now c.add-in-Not.new.builder c.in_ok-add-in-Not.field-0 c.in_ok-add-in-Not.ensures (subst (λ f. are_in_range (counts_written f) ≡ true) same c.requires.ranged))

pub add-returns-in_ok-add-in-Not : goal.add-returns-in_ok-add-in-Not
add-returns-in_ok-add-in-Not t c =
    let same : form_of c.args.expr.now ≡ form.Not (form_of c.deref-in-Not.result.now) (extent c.in-Not.span) = ap form_of c.in-Not.is ∙ (form_of-Not c.in-Not.part c.in-Not.span ∙ ap (λ e. form.Not (form_of e) (extent c.in-Not.span)) (sym c.deref-in-Not.ensures)) in
    let e = form_of c.deref-in-Not.result.now in
    let rules = rules_in c.args.grammar.now in
    let old = c.args.builder.now in
    let mid = c.add-in-Not.new.builder in
    let new = c.add_not.new.builder in
    let part = c.in_ok-add-in-Not.field-0 in
    let parts : CoreForm → List CoreForm = λ f. Not f ∷ [] in
    let whole : CoreForm → CoreForm = λ f. Not f in
    subst (λ f. IfOk c.add_not.result (λ number. AppendsForm rules f old number new)) (sym same)
    (if_ok (λ number. Appends mid (parts (form_at mid.forms part)) [] (whole (form_at mid.forms part)) number new)
    (λ number. AppendsForm rules (form.Not e (extent c.in-Not.span)) old number new) c.add_not.result
    (λ number lays. Appends-sign rules e old mid new part number parts whole c.in_ok-add-in-Not.ensures lays)
    c.add_not.ensures)

-- ---- sequences and choices

pub add-add_items-requires : goal.add-add_items-requires
add-add_items-requires t c =
    let items = forms (map form_of c.deref-in-Seq.result.now) in
    let rules = rules_in c.args.grammar.now in
    let same : form_of c.args.expr.now ≡ form.Seq items (extent c.in-Seq.span) = ap form_of c.in-Seq.is ∙ (form_of-Seq c.in-Seq.items c.in-Seq.span ∙ ap (λ l. form.Seq (forms (map form_of l)) (extent c.in-Seq.span)) (sym c.deref-in-Seq.ensures.value)) in
    let weight : form_weight (form_of c.args.expr.now) ≡ 1 + forms_weight items = ap form_weight same in (
      search (search_rules, the_lemmas),
      (
        omega (arith, c.requires.room, weight),
        (
          omega (arith, c.requires.few, weight),
          (
            c.requires.rules,
            (
              subst (λ f. are_defined rules (names_used f) ≡ true) same c.requires.defined,
              subst (λ f. are_in_range (counts_written f) ≡ true) same c.requires.ranged,
            ),
          ),
        ),
      ),
    )

pub add-returns-in-Seq : goal.add-returns-in-Seq
add-returns-in-Seq t c =
    let items = forms (map form_of c.deref-in-Seq.result.now) in
    let rules = rules_in c.args.grammar.now in
    let same : form_of c.args.expr.now ≡ form.Seq items (extent c.in-Seq.span) = ap form_of c.in-Seq.is ∙ (form_of-Seq c.in-Seq.items c.in-Seq.span ∙ ap (λ l. form.Seq (forms (map form_of l)) (extent c.in-Seq.span)) (sym c.deref-in-Seq.ensures.value)) in
    subst (λ f. IfOk c.add_items.result (λ number. AppendsForm rules f c.args.builder.now number c.add_items.new.builder))
    (sym same) (c.add_items.ensures (extent c.in-Seq.span))

pub add_items-add_sequence-requires-clause-room : goal.add_items-add_sequence-requires-clause-room
add_items-add_sequence-requires-clause-room t c =
    let items = forms (map form_of c.args.items.now) in
    omega (arith, c.requires.room, ap length c.deref.ensures.value, AppendsForms-room (rules_in c.args.grammar.now) items c.args.builder.now c.add_all.new.builder c.in_ok-numbers.numbers.items c.in_ok-numbers.ensures c.requires.ranged)

pub add_items-returns : goal.add_items-returns
add_items-returns t c = λ span.
    let items = forms (map form_of c.args.items.now) in
    let rules = rules_in c.args.grammar.now in
    let old = c.args.builder.now in
    let mid = c.add_all.new.builder in
    let new = c.add_sequence.new.builder in
    let numbers = c.in_ok-numbers.numbers.items in
    if_ok (λ number. Appends mid (sequences_of (map (form_at mid.forms) numbers)) [] (all_in_order (map (form_at mid.forms) numbers)) number new)
    (λ number. AppendsForm rules (form.Seq items span) old number new) c.add_sequence.result
    (λ number lays. Appends-sequence rules items span old mid new numbers number c.in_ok-numbers.ensures lays)
    (subst (λ l. IfOk c.add_sequence.result (λ number. Appends mid (sequences_of (map (form_at mid.forms) l)) [] (all_in_order (map (form_at mid.forms) l)) number new)) c.deref.ensures.value c.add_sequence.ensures)

pub add-add_all-requires : goal.add-add_all-requires
add-add_all-requires t c =
    let e = form_of c.deref-in-Choice.result.now in
    let items = forms (map form_of c.deref-in-Choice-2.result.now) in
    let rules = rules_in c.args.grammar.now in
    let old = c.args.builder.now in
    let mid = c.add.new.builder in
    let first = c.in_ok-first-in-Choice.first in
    let one = c.in_ok-first-in-Choice.ensures in
    let same : form_of c.args.expr.now ≡ form.Choice e items (extent c.in-Choice.span) = ap form_of c.in-Choice.is ∙ (form_of-Choice c.in-Choice.first c.in-Choice.rest c.in-Choice.span ∙ sym (λ i. form.Choice (form_of (c.deref-in-Choice.ensures i)) (forms (map form_of (c.deref-in-Choice-2.ensures.value i))) (extent c.in-Choice.span))) in
    let ranged = subst (λ f. are_in_range (counts_written f) ≡ true) same c.requires.ranged in
    let here = are_in_range-left (counts_written e) (counts_written_by_all items) ranged in
    let following = are_in_range-right (counts_written e) (counts_written_by_all items) ranged in
    let defined = subst (λ f. are_defined (rules_in c.args.grammar.now) (names_used f) ≡ true) same c.requires.defined in (
      search (search_rules, the_lemmas),
      (
        omega (arith, c.requires.room, ap form_weight same, AppendsForm-room rules e old mid first one here),
        (
          omega (arith, c.requires.few, ap form_weight same, AppendsForm-few rules e old mid first one),
          (one.rules ∙ c.requires.rules, (are_defined-right rules (names_used e) (names_used_by_all items) defined, following)),
        ),
      ),
    )

pub add-add_choices-requires-clause-room : goal.add-add_choices-requires-clause-room
add-add_choices-requires-clause-room t c =
    let e = form_of c.deref-in-Choice.result.now in
    let items = forms (map form_of c.deref-in-Choice-2.result.now) in
    let rules = rules_in c.args.grammar.now in
    let old = c.args.builder.now in
    let mid = c.add.new.builder in
    let first = c.in_ok-first-in-Choice.first in
    let one = c.in_ok-first-in-Choice.ensures in
    let same : form_of c.args.expr.now ≡ form.Choice e items (extent c.in-Choice.span) = ap form_of c.in-Choice.is ∙ (form_of-Choice c.in-Choice.first c.in-Choice.rest c.in-Choice.span ∙ sym (λ i. form.Choice (form_of (c.deref-in-Choice.ensures i)) (forms (map form_of (c.deref-in-Choice-2.ensures.value i))) (extent c.in-Choice.span))) in
    let later = c.add_all.new.builder in
    let others = c.in_ok-others-in-Choice.others.items in
    let ranged = subst (λ f. are_in_range (counts_written f) ≡ true) same c.requires.ranged in
    let here = are_in_range-left (counts_written e) (counts_written_by_all items) ranged in
    let following = are_in_range-right (counts_written e) (counts_written_by_all items) ranged in
    omega (arith, c.requires.room, ap form_weight same, AppendsForm-room rules e old mid first one here, ap length c.deref-in-Choice-3.ensures.value, AppendsForms-room rules items mid later others c.in_ok-others-in-Choice.ensures following)

pub add-returns-in_ok-others-in-Choice : goal.add-returns-in_ok-others-in-Choice
add-returns-in_ok-others-in-Choice t c =
    let e = form_of c.deref-in-Choice.result.now in
    let items = forms (map form_of c.deref-in-Choice-2.result.now) in
    let rules = rules_in c.args.grammar.now in
    let old = c.args.builder.now in
    let mid = c.add.new.builder in
    let first = c.in_ok-first-in-Choice.first in
    let one = c.in_ok-first-in-Choice.ensures in
    let same : form_of c.args.expr.now ≡ form.Choice e items (extent c.in-Choice.span) = ap form_of c.in-Choice.is ∙ (form_of-Choice c.in-Choice.first c.in-Choice.rest c.in-Choice.span ∙ sym (λ i. form.Choice (form_of (c.deref-in-Choice.ensures i)) (forms (map form_of (c.deref-in-Choice-2.ensures.value i))) (extent c.in-Choice.span))) in
    let later = c.add_all.new.builder in
    let others = c.in_ok-others-in-Choice.others.items in
    let new = c.add_choices.new.builder in
    subst (λ f. IfOk c.add_choices.result (λ number. AppendsForm rules f old number new)) (sym same)
    (if_ok (λ number. Appends later (choices_of (form_at later.forms first) (map (form_at later.forms) others)) [] (one_of (form_at later.forms first) (map (form_at later.forms) others)) number new)
    (λ number. AppendsForm rules (form.Choice e items (extent c.in-Choice.span)) old number new) c.add_choices.result
    (λ number lays. Appends-choice rules e items (extent c.in-Choice.span) old mid later new first number others one c.in_ok-others-in-Choice.ensures lays)
    (subst (λ l. IfOk c.add_choices.result (λ number. Appends later (choices_of (form_at later.forms first) (map (form_at later.forms) l)) [] (one_of (form_at later.forms first) (map (form_at later.forms) l)) number new)) c.deref-in-Choice-3.ensures.value c.add_choices.ensures))

-- ---- items one after the other

-- an item is no deeper than the deepest one
no_deeper : (items : List Expr) (i : ℕ) (item : Expr) → i < length items → item ≡ get_or items i item
    → the_size item ≤ most the_size items
no_deeper items i item h e = subst (λ x. the_size x ≤ most the_size items) (sym e) (at_most the_size items i item h)

pub add_all-add-requires : goal.add_all-add-requires
add_all-add-requires t c =
    let items = c.args.items.now in
    let i = c.loop-item.item-index in
    let item = c.item-item.result in
    let rules = rules_in c.args.grammar.now in
    let within : i < length items = omega (arith, c.loop-item-test.true) in
    let deep = no_deeper items i item within c.item-item.is in
    let rest = forms (drop (i + 1) (map form_of items)) in
    let step : forms (drop i (map form_of items)) ≡ Then (form_of item) rest = forms-drop form_of items i item within c.item-item.is in
    let weight : forms_weight (forms (drop i (map form_of items))) ≡ form_weight (form_of item) + forms_weight rest = ap forms_weight step in
    let ranged = subst (λ f. are_in_range (counts_written_by_all f) ≡ true) step c.loop-item.invariant.ranged in
    let defined = subst (λ f. are_defined rules (names_used_by_all f) ≡ true) step c.loop-item.invariant.defined in (
      omega arith,
      (
        omega (arith, c.loop-item.invariant.room, weight),
        (
          omega (arith, c.loop-item.invariant.few, weight),
          (c.loop-item.invariant.rules, (are_defined-left rules (names_used (form_of item)) (names_used_by_all rest) defined, are_in_range-left (counts_written (form_of item)) (counts_written_by_all rest) ranged)),
        ),
      ),
    )

pub add_all-loop-item-preserved : goal.add_all-loop-item-preserved
add_all-loop-item-preserved t c =
    let items = c.args.items.now in
    let i = c.loop-item.item-index in
    let item = c.item-item.result in
    let e = form_of item in
    let rules = rules_in c.args.grammar.now in
    let within : i < length items = omega (arith, c.loop-item-test.true) in
    let rest = forms (drop (i + 1) (map form_of items)) in
    let step : forms (drop i (map form_of items)) ≡ Then e rest = forms-drop form_of items i item within c.item-item.is in
    let weight : forms_weight (forms (drop i (map form_of items))) ≡ form_weight e + forms_weight rest = ap forms_weight step in
    let ranged = subst (λ f. are_in_range (counts_written_by_all f) ≡ true) step c.loop-item.invariant.ranged in
    let defined = subst (λ f. are_defined rules (names_used_by_all f) ≡ true) step c.loop-item.invariant.defined in
    let old = c.args.builder.now in
    let now = c.loop-item.builder in
    let new = c.add.new.builder in
    let number = c.in_ok-number.number in
    let numbers = c.loop-item.numbers.items in
    let lays = c.in_ok-number.ensures in
    let so_far = subst (λ f. SoFar rules (forms (map form_of items)) old f numbers now) step c.loop-item.invariant.so_far in
    record {
      room = omega (arith, c.loop-item.invariant.room, weight, AppendsForm-room rules e now new number lays (are_in_range-left (counts_written e) (counts_written_by_all rest) ranged));
      few = omega (arith, c.loop-item.invariant.few, weight, AppendsForm-few rules e now new number lays);
      rules = lays.rules ∙ c.loop-item.invariant.rules;
      defined = are_defined-right rules (names_used e) (names_used_by_all rest) defined;
      ranged = are_in_range-right (counts_written e) (counts_written_by_all rest) ranged;
      so_far = subst (λ l. SoFar rules (forms (map form_of items)) old rest l new) (sym c.in_ok-push.ensures.items) (SoFar-more rules (forms (map form_of items)) old e rest numbers now new number so_far lays);
    }
