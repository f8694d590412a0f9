use Rattle.std.proofs.Common.{◌≡◌, ◌+◌, ◌<◌, ℕ, List, [], ◌++◌, length, map, drop, ap, sym, ◌∙◌, subst, arith, Contains}
use Rattle.std.proofs.lemmas.List.Elements.{All-append, All-cons, All-nil}
use Rattle.std.proofs.lemmas.Result.{on_ok_weaker}
use Rattle.peg_bytes.specs.Extent.{extent}
use Rattle.peg_grammar.proofs.LoopLemmas.{forms-drop, forms-drop_all}
use Rattle.peg_grammar.proofs.WrittenForms.{form_of-Seq, form_of-Choice}
use Rattle.peg_grammar.specs.Written.{form_of}
use Rattle.peg_grammar.specs.declared.expr.Expr.{Expr}
use Rattle.peg_semantics.specs.Form as form
use Rattle.peg_semantics.specs.Form.{Form, Forms, forms}
use Rattle.peg_semantics.specs.Rules.{Rule}
use Rattle.peg_semantics.specs.WellFormed.{below, below_all, subexpressions}
use Rattle.peg_lint.specs.Linting.{AddsIn, FindsBut, FindsText, FindsTexts, Keeps}
use Rattle.peg_lint.specs.declared.warning.Warning.{Warning}
use Rattle.peg_lint.proofs.FileLemmas.{AddsIn-same, AddsIn-then, AddsIn-weaker, FindsText-later, FindsTexts-later}
use Rattle.peg_lint.proofs.PartLemmas.{first-is, is_on, item-parts, items-are, no-parts, rest-are, whole}
use Rattle.peg_lint.proofs.file_visit.+file.Goals as goal

module _ (file : List ℕ) (number : ℕ) where
  -- the warnings about an expression and those about all below it
  with-below : (e : Form) (under : List Form) (one two : List Warning) → below e ≡ under → Keeps one two
      → FindsText file number one e → FindsTexts file number under two → FindsTexts file number (subexpressions e) two
  with-below e under one two same keeps here finds =
      All-cons (FindsText file number two) e (below e) (FindsText-later one two keeps file number e here)
      (subst (λ (es : List Form). FindsTexts file number es two) (sym same) finds)

  -- the warnings about a choice, its first alternative and the others
  with-choice : (e first f : Form) (rest r : Forms) (one two three : List Warning)
      → below e ≡ subexpressions first ++ below_all rest → f ≡ first → r ≡ rest → Keeps one two → Keeps two three
      → FindsText file number one e → FindsTexts file number (subexpressions f) two
      → FindsTexts file number (below_all r) three → FindsTexts file number (subexpressions e) three
  with-choice e first f rest r one two three same at_f at_r keeps more here of_first of_rest =
      with-below e (subexpressions first ++ below_all rest) one three same (λ w in_it. more w (keeps w in_it)) here
      (All-append (FindsText file number three) (subexpressions first) (below_all rest)
      (FindsTexts-later two three more file number (subexpressions first)
      (subst (λ (x : Form). FindsTexts file number (subexpressions x) two) at_f of_first))
      (subst (λ (x : Forms). FindsTexts file number (below_all x) three) at_r of_rest))

  -- the warnings about one more item
  one-more-found : (e : Form) (now after : Forms) (all : List Form) (one two : List Warning) → now ≡ form.Then e after
      → Keeps one two → FindsBut file number (below_all now) all one → FindsTexts file number (subexpressions e) two
      → FindsBut file number (below_all after) all two
  one-more-found e now after all one two step keeps so_far here later more rest =
      so_far later (λ w in_it. more w (keeps w in_it))
      (subst (λ (items : Forms). FindsTexts file number (below_all items) later) (sym step)
      (All-append (FindsText file number later) (subexpressions e) (below_all after)
      (FindsTexts-later two later more file number (subexpressions e) here) rest))

  all-found : (now : Forms) (all : List Form) (found : List Warning) → now ≡ form.End
      → FindsBut file number (below_all now) all found → FindsTexts file number all found
  all-found now all found none so_far =
      so_far found (λ w in_it. in_it)
      (subst (λ (items : Forms). FindsTexts file number (below_all items) found) (sym none)
      (All-nil (FindsText file number found)))

-- an expression without parts
alone : (file : List ℕ) (rules : List Rule) (number : ℕ) (e : Form) (old new : List Warning) → below e ≡ []
    → AddsIn file rules (λ (l : List Warning). FindsText file number l e) old new
    → AddsIn file rules (FindsTexts file number (subexpressions e)) old new
alone file rules number e old new none adds =
    AddsIn-weaker file rules (λ (l : List Warning). FindsText file number l e) (FindsTexts file number (subexpressions e))
    old new
    (λ here. with-below file number e [] new new none (λ w in_it. in_it) here (All-nil (FindsText file number new)))
    adds

pub lint_text-returns-in-Seq : goal.lint_text-returns-in-Seq
lint_text-returns-in-Seq t c =
    let file = c.args.file.now in
    let number = c.args.rule in
    let e = form_of c.args.expr.now in
    let items = forms (map form_of c.in-Seq.items.items) in
    let span = extent c.in-Seq.span in
    let l0 = c.args.found.now.items in
    let l1 = c.add_of_text.new.found.items in
    let l2 = c.lint_texts.new.found.items in
    let now = forms (map form_of c.deref.result.now) in
    let same : e ≡ form.Seq items span = ap form_of c.in-Seq.is ∙ form_of-Seq c.in-Seq.items c.in-Seq.span in
    let here : now ≡ items = ap (λ (l : List Expr). forms (map form_of l)) c.deref.ensures.value in
    let under : below e ≡ below_all now = ap below same ∙ sym (ap below_all here) in
    on_ok_weaker c.lint_texts.result
    (λ adds rules parts. AddsIn-then file rules (λ (l : List Warning). FindsText file number l e)
    (FindsTexts file number (below_all now)) (FindsTexts file number (subexpressions e)) l0 l1 l2
    (c.in_ok-add_of_text.ensures rules (whole rules number e parts))
    (adds rules (items-are rules number e parts items span same now here))
    (λ keeps a b. with-below file number e (below_all now) l1 l2 under keeps a b))
    c.lint_texts.ensures

pub lint_text-returns-in_ok-lint_text-in-Choice : goal.lint_text-returns-in_ok-lint_text-in-Choice
lint_text-returns-in_ok-lint_text-in-Choice t c =
    let file = c.args.file.now in
    let number = c.args.rule in
    let e = form_of c.args.expr.now in
    let first = form_of c.in-Choice.first.value in
    let rest = forms (map form_of c.in-Choice.rest.items) in
    let span = extent c.in-Choice.span in
    let l0 = c.args.found.now.items in
    let l1 = c.add_of_text.new.found.items in
    let l2 = c.lint_text.new.found.items in
    let l3 = c.lint_texts-in-Choice.new.found.items in
    let f = form_of c.deref-in-Choice.result.now in
    let r = forms (map form_of c.deref-in-Choice-2.result.now) in
    let same : e ≡ form.Choice first rest span =
    ap form_of c.in-Choice.is ∙ form_of-Choice c.in-Choice.first c.in-Choice.rest c.in-Choice.span in
    let at_first : f ≡ first = ap form_of c.deref-in-Choice.ensures in
    let at_rest : r ≡ rest = ap (λ (l : List Expr). forms (map form_of l)) c.deref-in-Choice-2.ensures.value in
    let Here = λ (l : List Warning). FindsText file number l e in
    let OfFirst = FindsTexts file number (subexpressions f) in
    let Both = λ (l : List Warning). ((one : List Warning) × Keeps one l × Here one) × OfFirst l in
    on_ok_weaker c.lint_texts-in-Choice.result
    (λ adds rules parts. AddsIn-then file rules Both
    (FindsTexts file number (below_all r)) (FindsTexts file number (subexpressions e)) l0 l2 l3
    (AddsIn-then file rules Here OfFirst Both l0 l1 l2 (c.in_ok-add_of_text.ensures rules (whole rules number e parts))
    (c.in_ok-lint_text-in-Choice.ensures rules (first-is rules number e parts first rest span same f at_first))
    (λ keeps a b. ((l1, keeps, a), b)))
    (adds rules (rest-are rules number e parts first rest span same r at_rest))
    (λ keeps a b. with-choice file number e first f rest r a.0.0 l2 l3 (ap below same) at_first at_rest a.0.1 keeps a.0.2
    a.1 b))
    c.lint_texts-in-Choice.ensures

pub lint_text-returns-in-Optional : goal.lint_text-returns-in-Optional
lint_text-returns-in-Optional t c =
    let file = c.args.file.now in
    let number = c.args.rule in
    let e = form_of c.args.expr.now in
    let on = is_on c.args.expr.now c.in-Optional.part c.in-Optional.is in
    let part = form_of c.in-Optional.part.value in
    let p = form_of c.deref-in-Optional.result.now in
    let l0 = c.args.found.now.items in
    let l1 = c.add_of_text.new.found.items in
    let l2 = c.lint_text-in-Optional.new.found.items in
    let at_part : p ≡ part = ap form_of c.deref-in-Optional.ensures in
    let under : below e ≡ subexpressions p = on.below_is ∙ sym (ap subexpressions at_part) in
    on_ok_weaker c.lint_text-in-Optional.result
    (λ adds rules parts. AddsIn-then file rules (λ (l : List Warning). FindsText file number l e)
    (FindsTexts file number (subexpressions p)) (FindsTexts file number (subexpressions e)) l0 l1 l2
    (c.in_ok-add_of_text.ensures rules (whole rules number e parts))
    (adds rules (λ x in_it. parts x (on.parts x (subst (λ (f : Form). Contains (subexpressions f) x) at_part in_it))))
    (λ keeps a b. with-below file number e (subexpressions p) l1 l2 under keeps a b))
    c.lint_text-in-Optional.ensures

pub lint_texts-loop-item-init : goal.lint_texts-loop-item-init
lint_texts-loop-item-init t c rules parts =
    let file = c.args.file.now in
    let all = below_all (forms (map form_of c.args.items.now)) in
    AddsIn-same file rules (FindsBut file c.args.rule all all) c.args.found.now.items (λ later keeps finds. finds)

pub lint_texts-loop-item-preserved : goal.lint_texts-loop-item-preserved
lint_texts-loop-item-preserved t c rules parts =
    let file = c.args.file.now in
    let number = c.args.rule in
    let items = c.args.items.now in
    let i = c.loop-item.item-index in
    let item = c.item-item.result in
    let e = form_of item in
    let within : i < length items = omega (arith, c.loop-item-test.true) in
    let step = forms-drop form_of items i item within c.item-item.is in
    let now = forms (drop i (map form_of items)) in
    let after = forms (drop (i + 1) (map form_of items)) in
    let all = below_all (forms (map form_of items)) in
    let l0 = c.args.found.now.items in
    let l1 = c.loop-item.found.items in
    let l2 = c.lint_text.new.found.items in
    AddsIn-then file rules (FindsBut file number (below_all now) all) (FindsTexts file number (subexpressions e))
    (FindsBut file number (below_all after) all) l0 l1 l2 (c.loop-item.invariant rules parts)
    (c.in_ok-lint_text.ensures rules (λ x in_it. parts x (item-parts items i item within c.item-item.is x in_it)))
    (λ keeps a b. one-more-found file number e now after all l1 l2 step keeps a b)

pub lint_texts-returns : goal.lint_texts-returns
lint_texts-returns t c rules parts =
    let file = c.args.file.now in
    let items = c.args.items.now in
    let i = c.loop-item.item-index in
    let now = forms (drop i (map form_of items)) in
    let all = below_all (forms (map form_of items)) in
    let none = forms-drop_all form_of items i (omega (arith, c.loop-item-test.false)) in
    let l1 = c.loop-item.found.items in
    AddsIn-weaker file rules (FindsBut file c.args.rule (below_all now) all) (FindsTexts file c.args.rule all)
    c.args.found.now.items l1 (λ finds. all-found file c.args.rule now all l1 none finds) (c.loop-item.invariant rules parts)

pub lint_text-returns-in-Literal : goal.lint_text-returns-in-Literal
lint_text-returns-in-Literal t c = λ rules parts.
    let e = form_of c.args.expr.now in
    alone c.args.file.now rules c.args.rule e c.args.found.now.items c.add_of_text.new.found.items
    (no-parts c.args.expr.now c.in-Literal.is)
    (c.in_ok-add_of_text.ensures rules (whole rules c.args.rule e parts))

pub lint_text-returns-in-Literal-2 : goal.lint_text-returns-in-Literal-2
lint_text-returns-in-Literal-2 t c = λ rules parts.
    let e = form_of c.args.expr.now in
    alone c.args.file.now rules c.args.rule e c.args.found.now.items c.add_of_text.new.found.items
    (no-parts c.args.expr.now c.in-Literal.is)
    (c.in_ok-add_of_text.ensures rules (whole rules c.args.rule e parts))

pub lint_text-returns-in-Literal-3 : goal.lint_text-returns-in-Literal-3
lint_text-returns-in-Literal-3 t c = λ rules parts.
    let e = form_of c.args.expr.now in
    alone c.args.file.now rules c.args.rule e c.args.found.now.items c.add_of_text.new.found.items
    (no-parts c.args.expr.now c.in-Literal.is)
    (c.in_ok-add_of_text.ensures rules (whole rules c.args.rule e parts))

pub lint_text-returns-in-Literal-4 : goal.lint_text-returns-in-Literal-4
lint_text-returns-in-Literal-4 t c = λ rules parts.
    let e = form_of c.args.expr.now in
    alone c.args.file.now rules c.args.rule e c.args.found.now.items c.add_of_text.new.found.items
    (no-parts c.args.expr.now c.in-Literal.is)
    (c.in_ok-add_of_text.ensures rules (whole rules c.args.rule e parts))
