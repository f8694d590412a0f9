use Rattle.std.proofs.Common.{◌≡◌, map, Option, None, Some, sym, ap, ◌∙◌, subst}
use Rattle.peg_bytes.specs.Extent.{Extent, extent}
use Rattle.peg_grammar.specs.Written.{form_of}
use Rattle.peg_semantics.specs.Form.{Form, Forms, Seq, forms}
use Rattle.peg_lint.specs.FileWarnings.{EndInDot, EndsInDot, IsLastAlternative}
use Rattle.peg_lint.proofs.DotLemmas.{same-alternative, same-items}
use Rattle.peg_lint.proofs.dots.dot_at_end.Goals as goal

-- the dot of an expression ends the items of its last alternative
dot-of : (e one : Form) (items : Forms) (whole span : Extent) → IsLastAlternative e one → one ≡ Seq items whole
    → EndsInDot e span → EndInDot items span
dot-of e one items whole span last is dot =
    let same = same-items e dot.items items dot.whole whole dot.last (subst (IsLastAlternative e) is last) in
    subst (λ (l : Forms). EndInDot l span) same dot.dot

pub returns-in_err-items-clause-every : goal.returns-in_err-items-clause-every
returns-in_err-items-clause-every c = λ span dot.
    let same = same-alternative (form_of c.args.expr.now) (form_of c.last_alternative.result.now) (Seq dot.items dot.whole)
    c.last_alternative.ensures dot.last in
    absurd (c.in_err-items.ensures.none dot.items dot.whole same)

pub returns-in_err-span-clause-every : goal.returns-in_err-span-clause-every
returns-in_err-span-clause-every c = λ span dot.
    let is = c.in_ok-items.ensures.some in
    let items = forms (map form_of c.in_ok-items.items.now) in
    let bad : ◌≡◌ {A = Option Extent} None (Some span) =
    c.in_err-span.ensures.every span (dot-of (form_of c.args.expr.now) (form_of c.last_alternative.result.now) items is.0
    span c.last_alternative.ensures is.1 dot) in
    cc

pub returns-then-span-span_of-clause-every : goal.returns-then-span-span_of-clause-every
returns-then-span-span_of-clause-every c = λ span dot.
    let is = c.in_ok-items.ensures.some in
    let items = forms (map form_of c.in_ok-items.items.now) in
    c.in_ok-span.ensures.every span (dot-of (form_of c.args.expr.now) (form_of c.last_alternative.result.now) items is.0
    span c.last_alternative.ensures is.1 dot)

pub returns-else-span-span_of-clause-every : goal.returns-else-span-span_of-clause-every
returns-else-span-span_of-clause-every c = λ span dot.
    let is = c.in_ok-items.ensures.some in
    let items = forms (map form_of c.in_ok-items.items.now) in
    let read : Some (extent c.in_ok-span.span) ≡ Some span =
    c.in_ok-span.ensures.every span (dot-of (form_of c.args.expr.now) (form_of c.last_alternative.result.now) items is.0
    span c.last_alternative.ensures is.1 dot) in
    let same : extent c.in_ok-span.span ≡ span = cc in
    let ends = ap (λ (s : Extent). s.end) same ∙ (dot.ends ∙ sym (ap (λ (s : Extent). s.end) c.span_of.ensures)) in
    absurd (c.if-span-span_of.false ends)
