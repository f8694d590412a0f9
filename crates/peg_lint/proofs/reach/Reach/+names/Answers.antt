use Rattle.std.proofs.Common.{inl, inr, refl, string_bytes, ◌≡◌, ◌+◌, ◌<◌, List, ◌++◌, length, map, drop, Result, Ok, Err, OnOk, sym, ap, ◌∙◌, subst, arith}
use Rattle.std.proofs.lemmas.List.Elements.{All-append, All-nil}
use Rattle.peg_bytes.specs.Extent.{extent}
use Rattle.std.proofs.lemmas.Result.{on_ok_weaker}
use Rattle.peg_grammar.proofs.LoopLemmas.{forms-drop, forms-drop_all}
use Rattle.peg_grammar.proofs.WrittenForms.{form_of-Name, form_of-Seq, form_of-Choice}
use Rattle.peg_grammar.specs.GrammarRules.{rules_in}
use Rattle.peg_grammar.specs.Written.{form_of}
use Rattle.peg_grammar.specs.declared.expr.Expr.{Expr}
use Rattle.peg_semantics.specs.Form.{Reference, Seq, forms, names_used, names_used_by_all}
use Rattle.peg_lint.specs.Reaches.{RefersTo}
use Rattle.peg_lint.specs.Reaching.{AreNamesMarked, IsNameMarked, MarksOnly, ReachesMore}
use Rattle.peg_lint.proofs.PartLemmas.{is_on}
use Rattle.peg_lint.proofs.ReachLemmas.{AreNamesMarked-later, MarksOnly-then, ReachesMore-trans}
use Rattle.peg_lint.proofs.reach.Reach.+names.Goals as goal

-- what two facts of a success imply
on_ok : {A E : Type 0} (P Q R : Type 0) (r : Result A E) → (P → Q → R) → OnOk r P → OnOk r Q → OnOk r R
on_ok P Q R (Ok x) join p q = join p q
on_ok P Q R (Err e) join p q = tt

pub add_all_names-loop-item-preserved : goal.add_all_names-loop-item-preserved
add_all_names-loop-item-preserved t c =
    let rules = rules_in c.args.grammar.now in
    let items = c.args.items.now in
    let i = c.loop-item.item-index in
    let item = c.item-item.result in
    let within : i < length items = omega (arith, c.loop-item-test.true) in
    let step = forms-drop form_of items i item within c.item-item.is in
    let rest = names_used_by_all (forms (drop (i + 1) (map form_of items))) in
    let here = names_used (form_of item) in
    let names : names_used_by_all (forms (drop i (map form_of items))) ≡ here ++ rest = ap names_used_by_all step in
    let new = c.add_names.new.self in
    record {
      more = ReachesMore-trans c.args.self.now c.loop-item.self new c.loop-item.invariant.more c.in_ok-add_names.ensures.more;
      marked = λ marks later are. c.loop-item.invariant.marked marks
          (λ number is. later number (c.in_ok-add_names.ensures.more.marked number is))
          (subst (AreNamesMarked rules marks) (sym names)
          (All-append (λ (reference : Reference). IsNameMarked rules marks reference.name) here rest
          (AreNamesMarked-later rules new.marks.items marks here later c.in_ok-add_names.ensures.marked) are));
      only = λ marks rest_only. c.loop-item.invariant.only marks
          (subst (λ (l : List Reference). MarksOnly rules l c.loop-item.self.marks.items marks) (sym names)
          (MarksOnly-then rules here rest c.loop-item.self.marks.items new.marks.items marks
          c.in_ok-add_names.ensures.only rest_only));
    }

pub add_all_names-returns-clause-only : goal.add_all_names-returns-clause-only
add_all_names-returns-clause-only t c =
    let rules = rules_in c.args.grammar.now in
    let items = c.args.items.now in
    let i = c.loop-item.item-index in
    let now = c.loop-item.self.marks.items in
    let none = ap names_used_by_all (forms-drop_all form_of items i (omega (arith, c.loop-item-test.false))) in
    c.loop-item.invariant.only now
    (subst (λ (l : List Reference). MarksOnly rules l now now) (sym none) (λ number is. inl is))

pub add_names-returns-in-Seq-clause-only : goal.add_names-returns-in-Seq-clause-only
add_names-returns-in-Seq-clause-only t c =
    let rules = rules_in c.args.grammar.now in
    let old = c.args.self.now.marks.items in
    let new = c.add_all_names.new.self.marks.items in
    let same : form_of c.args.expr.now ≡ Seq (forms (map form_of c.in-Seq.items.items)) (extent c.in-Seq.span) =
    ap form_of c.in-Seq.is ∙ form_of-Seq c.in-Seq.items c.in-Seq.span in
    let names : names_used (form_of c.args.expr.now) ≡ names_used_by_all (forms (map form_of c.deref.result.now)) =
    ap names_used same ∙ sym (ap (λ (l : List Expr). names_used_by_all (forms (map form_of l))) c.deref.ensures.value) in
    subst (λ (l : List Reference). OnOk c.add_all_names.result (MarksOnly rules l old new)) (sym names)
    c.add_all_names.ensures.only

pub add_names-returns-in_ok-add_names-in-Choice-clause-only : goal.add_names-returns-in_ok-add_names-in-Choice-clause-only
add_names-returns-in_ok-add_names-in-Choice-clause-only t c =
    let rules = rules_in c.args.grammar.now in
    let old = c.args.self.now.marks.items in
    let mid = c.add_names.new.self.marks.items in
    let new = c.add_all_names-in-Choice.new.self.marks.items in
    let first = names_used (form_of c.deref-in-Choice.result.now) in
    let rest = names_used_by_all (forms (map form_of c.deref-in-Choice-2.result.now)) in
    let same = ap form_of c.in-Choice.is ∙ form_of-Choice c.in-Choice.first c.in-Choice.rest c.in-Choice.span in
    let names : names_used (form_of c.args.expr.now) ≡ first ++ rest =
    ap names_used same ∙ sym (λ i. names_used (form_of (c.deref-in-Choice.ensures i))
    ++ names_used_by_all (forms (map form_of (c.deref-in-Choice-2.ensures.value i)))) in
    subst (λ (l : List Reference). OnOk c.add_all_names-in-Choice.result (MarksOnly rules l old new)) (sym names)
    (on_ok_weaker c.add_all_names-in-Choice.result
    (λ only. MarksOnly-then rules first rest old mid new c.in_ok-add_names-in-Choice.ensures.only only)
    c.add_all_names-in-Choice.ensures.only)

pub add_names-returns-in-Seq-clause-marked : goal.add_names-returns-in-Seq-clause-marked
add_names-returns-in-Seq-clause-marked t c =
    let rules = rules_in c.args.grammar.now in
    let new = c.add_all_names.new.self.marks.items in
    let same : form_of c.args.expr.now ≡ Seq (forms (map form_of c.in-Seq.items.items)) (extent c.in-Seq.span) =
    ap form_of c.in-Seq.is ∙ form_of-Seq c.in-Seq.items c.in-Seq.span in
    let names : names_used (form_of c.args.expr.now) ≡ names_used_by_all (forms (map form_of c.deref.result.now)) =
    ap names_used same ∙ sym (ap (λ (l : List Expr). names_used_by_all (forms (map form_of l))) c.deref.ensures.value) in
    subst (λ (l : List Reference). OnOk c.add_all_names.result (AreNamesMarked rules new l)) (sym names)
    c.add_all_names.ensures.marked

pub add_names-returns-in_ok-add_names-in-Choice-clause-marked : goal.add_names-returns-in_ok-add_names-in-Choice-clause-marked
add_names-returns-in_ok-add_names-in-Choice-clause-marked t c =
    let rules = rules_in c.args.grammar.now in
    let mid = c.add_names.new.self in
    let new = c.add_all_names-in-Choice.new.self in
    let first = names_used (form_of c.deref-in-Choice.result.now) in
    let rest = names_used_by_all (forms (map form_of c.deref-in-Choice-2.result.now)) in
    let same = ap form_of c.in-Choice.is ∙ form_of-Choice c.in-Choice.first c.in-Choice.rest c.in-Choice.span in
    let names : names_used (form_of c.args.expr.now) ≡ first ++ rest =
    ap names_used same ∙ sym (λ i. names_used (form_of (c.deref-in-Choice.ensures i))
    ++ names_used_by_all (forms (map form_of (c.deref-in-Choice-2.ensures.value i)))) in
    subst (λ (l : List Reference). OnOk c.add_all_names-in-Choice.result (AreNamesMarked rules new.marks.items l)) (sym names)
    (on_ok (ReachesMore mid new) (AreNamesMarked rules new.marks.items rest)
    (AreNamesMarked rules new.marks.items (first ++ rest)) c.add_all_names-in-Choice.result
    (λ more are. All-append (λ (reference : Reference). IsNameMarked rules new.marks.items reference.name) first rest
    (AreNamesMarked-later rules mid.marks.items new.marks.items first more.marked c.in_ok-add_names-in-Choice.ensures.marked)
    are) c.add_all_names-in-Choice.ensures.more c.add_all_names-in-Choice.ensures.marked)

pub add_names-returns-in_ok-add_names-in-Choice-clause-more : goal.add_names-returns-in_ok-add_names-in-Choice-clause-more
add_names-returns-in_ok-add_names-in-Choice-clause-more t c =
    let old = c.args.self.now in
    let mid = c.add_names.new.self in
    let new = c.add_all_names-in-Choice.new.self in
    on_ok (ReachesMore mid new) (ReachesMore mid new) (ReachesMore old new) c.add_all_names-in-Choice.result
    (λ more _. ReachesMore-trans old mid new c.in_ok-add_names-in-Choice.ensures.more more)
    c.add_all_names-in-Choice.ensures.more c.add_all_names-in-Choice.ensures.more

pub add_all_names-returns-clause-marked : goal.add_all_names-returns-clause-marked
add_all_names-returns-clause-marked t c =
    let rules = rules_in c.args.grammar.now in
    let items = c.args.items.now in
    let i = c.loop-item.item-index in
    let now = c.loop-item.self.marks.items in
    let none = ap names_used_by_all (forms-drop_all form_of items i (omega (arith, c.loop-item-test.false))) in
    c.loop-item.invariant.marked now (λ number is. is)
    (subst (AreNamesMarked rules now) (sym none)
    (All-nil (λ (reference : Reference). IsNameMarked rules now reference.name)))

pub add_names-returns-in-Name-clause-only : goal.add_names-returns-in-Name-clause-only
add_names-returns-in-Name-clause-only t c =
    let rules = rules_in c.args.grammar.now in
    let old = c.args.self.now.marks.items in
    let new = c.add_name.new.self.marks.items in
    let name = string_bytes c.in-Name.name in
    let reference : Reference = record { name = name; span = extent c.in-Name.span } in
    let same = ap form_of c.in-Name.is ∙ form_of-Name c.in-Name.name c.in-Name.span in
    subst (λ (l : List Reference). OnOk c.add_name.result (MarksOnly rules l old new)) (sym (ap names_used same))
    (on_ok_weaker c.add_name.result
    (λ only number is. elim (only number is) [
      | inl before ↦ inl before
      | inr refers ↦
          inr (
            reference,
            (0, omega arith, refl),
            subst (λ n. RefersTo rules n number) c.as_str.ensures.value refers,
          )
    ])
    c.add_name.ensures.only)

pub add_names-returns-in-Optional-clause-only : goal.add_names-returns-in-Optional-clause-only
add_names-returns-in-Optional-clause-only t c =
    let rules = rules_in c.args.grammar.now in
    let old = c.args.self.now.marks.items in
    let new = c.add_names-in-Optional.new.self.marks.items in
    let on = is_on c.args.expr.now c.in-Optional.part c.in-Optional.is in
    let names = on.names_are ∙ sym (ap (λ (e : Expr). names_used (form_of e)) c.deref-in-Optional.ensures) in
    subst (λ (l : List Reference). OnOk c.add_names-in-Optional.result (MarksOnly rules l old new)) (sym names)
    c.add_names-in-Optional.ensures.only
