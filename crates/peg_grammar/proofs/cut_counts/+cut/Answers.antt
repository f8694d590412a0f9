use Rattle.std.proofs.Common.{sym, ap, ap₂, ◌∙◌, arith}
use Rattle.std.proofs.Common.{map, min}
use Rattle.std.specs.declared.alloc.Global.{Global}
use Rattle.std.specs.declared.boxed.Box.{Box}
use Rattle.std.specs.declared.vec.Vec.{Vec}
use Rattle.peg_grammar.specs.declared.expr.Expr.{Expr}
use Rattle.peg_bytes.specs.Extent.{extent}
use Rattle.peg_semantics.specs.CutCounts.{cut_counts}
use Rattle.peg_semantics.specs.Form as form
use Rattle.peg_semantics.specs.Form.{forms}
use Rattle.peg_grammar.specs.Written.{form_of}
use Rattle.peg_grammar.proofs.CutLoops.{at_most_one-min, form_of-Choice-with, form_of-Seq-with, forms-cut, replaced-all}
use Rattle.peg_grammar.proofs.WrittenForms.{form_of-Seq, form_of-Choice, form_of-Optional, form_of-Star, form_of-Plus, form_of-Counted, form_of-And, form_of-Not}
use Rattle.peg_grammar.proofs.cut_counts.+cut.Goals as goal

pub cut-returns-in-Seq : goal.cut-returns-in-Seq
cut-returns-in-Seq t c =
    form_of-Seq-with _ _ _ (c.cut_all.auto.items ∙ c.deref_mut.ensures.len)
    ∙ ap (λ span. form.Seq (forms (map form_of c.cut_all.new.items)) (extent span)) c.in-Seq._span-is
    ∙ ap (λ l. form.Seq (forms l) (extent c.in-Seq._span))
    (c.cut_all.ensures ∙ ap (λ l. map (λ item. cut_counts (form_of item)) l)
    (c.deref_mut.ensures.value ∙ ap (λ (items : Vec Expr Global). items.items) c.in-Seq.items-is))
    ∙ ap (λ l. form.Seq l (extent c.in-Seq._span)) (forms-cut c.in-Seq.items.items)
    ∙ ap cut_counts (sym (form_of-Seq c.in-Seq.items c.in-Seq._span))
    ∙ ap (λ e. cut_counts (form_of e)) (sym c.in-Seq.is)

pub cut-returns-in-Choice : goal.cut-returns-in-Choice
cut-returns-in-Choice t c =
    form_of-Choice-with _ _ _ _ (c.cut_all-in-Choice.auto.items ∙ c.deref_mut-in-Choice-2.ensures.len)
    ∙ ap (λ span. form.Choice (form_of c.cut.new.expression) (forms (map form_of c.cut_all-in-Choice.new.items)) (extent span))
    c.in-Choice._span-is
    ∙ ap₂ (λ e l. form.Choice e (forms l) (extent c.in-Choice._span))
    (c.cut.ensures ∙ ap (λ e. cut_counts (form_of e))
    (c.deref_mut-in-Choice.ensures.value ∙ ap (λ (part : Box Expr Global). part.value) c.in-Choice.first-is))
    (c.cut_all-in-Choice.ensures ∙ ap (λ l. map (λ item. cut_counts (form_of item)) l)
    (c.deref_mut-in-Choice-2.ensures.value ∙ ap (λ (items : Vec Expr Global). items.items) c.in-Choice.rest-is))
    ∙ ap (λ l. form.Choice (cut_counts (form_of c.in-Choice.first.value)) l (extent c.in-Choice._span))
    (forms-cut c.in-Choice.rest.items)
    ∙ ap cut_counts (sym (form_of-Choice c.in-Choice.first c.in-Choice.rest c.in-Choice._span))
    ∙ ap (λ e. cut_counts (form_of e)) (sym c.in-Choice.is)

pub cut-returns-in-Counted : goal.cut-returns-in-Counted
cut-returns-in-Counted t c =
    form_of-Counted _ _ _ _
    ∙ ap₂ (λ e span. form.Counted e c.min.result c.min-in-Counted.result (extent span))
    (c.cut-in-Counted.ensures ∙ ap (λ e. cut_counts (form_of e)) (c.deref_mut-in-Counted.ensures.value ∙ ap (λ (part : Box Expr Global). part.value) c.in-Counted.part-is)) c.in-Counted._span-is
    ∙ ap₂ (λ m n. form.Counted (cut_counts (form_of c.in-Counted.part.value)) m n (extent c.in-Counted._span))
    (c.min.ensures ∙ ap (λ n. min n 1) c.in-Counted.min-is ∙ at_most_one-min c.in-Counted.min)
    (c.min-in-Counted.ensures ∙ ap (λ n. min n 1) c.in-Counted.max-is ∙ at_most_one-min c.in-Counted.max)
    ∙ ap cut_counts (sym (form_of-Counted c.in-Counted.part c.in-Counted.min c.in-Counted.max c.in-Counted._span))
    ∙ ap (λ e. cut_counts (form_of e)) (sym c.in-Counted.is)

pub cut-returns-in-Optional : goal.cut-returns-in-Optional
cut-returns-in-Optional t c =
    form_of-Optional _ _
    ∙ ap₂ (λ e span. form.Optional e (extent span))
    (c.cut-in-Optional.ensures ∙ ap (λ e. cut_counts (form_of e)) (c.deref_mut-in-Optional.ensures.value ∙ ap (λ (part : Box Expr Global). part.value) c.in-Optional.part-is)) c.in-Optional._span-is
    ∙ ap cut_counts (sym (form_of-Optional c.in-Optional.part c.in-Optional._span))
    ∙ ap (λ e. cut_counts (form_of e)) (sym c.in-Optional.is)

pub cut-returns-in-Star : goal.cut-returns-in-Star
cut-returns-in-Star t c =
    form_of-Star _ _
    ∙ ap₂ (λ e span. form.Star e (extent span))
    (c.cut-in-Star.ensures ∙ ap (λ e. cut_counts (form_of e)) (c.deref_mut-in-Star.ensures.value ∙ ap (λ (part : Box Expr Global). part.value) c.in-Star.part-is)) c.in-Star._span-is
    ∙ ap cut_counts (sym (form_of-Star c.in-Star.part c.in-Star._span))
    ∙ ap (λ e. cut_counts (form_of e)) (sym c.in-Star.is)

pub cut-returns-in-Plus : goal.cut-returns-in-Plus
cut-returns-in-Plus t c =
    form_of-Plus _ _
    ∙ ap₂ (λ e span. form.Plus e (extent span))
    (c.cut-in-Plus.ensures ∙ ap (λ e. cut_counts (form_of e)) (c.deref_mut-in-Plus.ensures.value ∙ ap (λ (part : Box Expr Global). part.value) c.in-Plus.part-is)) c.in-Plus._span-is
    ∙ ap cut_counts (sym (form_of-Plus c.in-Plus.part c.in-Plus._span))
    ∙ ap (λ e. cut_counts (form_of e)) (sym c.in-Plus.is)

pub cut-returns-in-And : goal.cut-returns-in-And
cut-returns-in-And t c =
    form_of-And _ _
    ∙ ap₂ (λ e span. form.And e (extent span))
    (c.cut-in-And.ensures ∙ ap (λ e. cut_counts (form_of e)) (c.deref_mut-in-And.ensures.value ∙ ap (λ (part : Box Expr Global). part.value) c.in-And.part-is)) c.in-And._span-is
    ∙ ap cut_counts (sym (form_of-And c.in-And.part c.in-And._span))
    ∙ ap (λ e. cut_counts (form_of e)) (sym c.in-And.is)

pub cut-returns-in-Not : goal.cut-returns-in-Not
cut-returns-in-Not t c =
    form_of-Not _ _
    ∙ ap₂ (λ e span. form.Not e (extent span))
    (c.cut-in-Not.ensures ∙ ap (λ e. cut_counts (form_of e)) (c.deref_mut-in-Not.ensures.value ∙ ap (λ (part : Box Expr Global). part.value) c.in-Not.part-is)) c.in-Not._span-is
    ∙ ap cut_counts (sym (form_of-Not c.in-Not.part c.in-Not._span))
    ∙ ap (λ e. cut_counts (form_of e)) (sym c.in-Not.is)

pub cut_all-returns : goal.cut_all-returns
cut_all-returns t c =
    replaced-all form_of (λ item. cut_counts (form_of item)) c.args.items.now c.loop-item.items c.loop-item.item-index
    c.loop-item.invariant.cut (omega (arith, c.loop-item-test.false, c.loop-item.invariant.cut.count))
