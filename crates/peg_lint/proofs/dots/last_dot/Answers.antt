use Rattle.std.proofs.Common.{◌≡◌, ◌+◌, ◌-◌, length, map, get_or, false, true, Option, None, Some, IfSome, sym, ap, ◌∙◌, subst, arith}
use Rattle.peg_bytes.specs.Extent.{extent}
use Rattle.peg_bytes.specs.declared.span.Span.{Span}
use Rattle.peg_grammar.specs.Written.{form_of}
use Rattle.peg_semantics.specs.Form.{Any, Form, Forms, forms}
use Rattle.peg_lint.specs.FileWarnings.{AreLastTwo, EndInDot, IsPredicateOrDot}
use Rattle.peg_lint.proofs.DotLemmas.{before-is, dot-read, last-two, second-is, two-at-least}
use Rattle.peg_lint.proofs.dots.last_dot.Goals as goal

-- items that end in a dot, whose span was read
ends : (items : Forms) (before other : Form) (read : Option Span) → AreLastTwo items before other
    → ¬ IsPredicateOrDot before → IfSome read (λ s. other ≡ Any (extent s))
    → IfSome read (λ s. EndInDot items (extent s))
ends items before other None two habit some = tt
ends items before other (Some s) two habit some =
    (before, subst (λ (e : Form). AreLastTwo items before e) some two, habit)

pub returns-then-items-lt2-clause-every : goal.returns-then-items-lt2-clause-every
returns-then-items-lt2-clause-every c = λ span dot.
    let two = two-at-least c.args.items.now dot.0 (Any span) dot.1 in
    absurd (omega (arith, two, c.if-items-lt2.true))

pub returns-then-is_exempt-clause-every : goal.returns-then-is_exempt-clause-every
returns-then-is_exempt-clause-every c = λ span dot.
    let items = c.args.items.now in
    let one = c.index-items-last.result in
    let same = before-is items (length items - 1 - 1) one dot.0 (Any span) (omega (arith, c.if-items-lt2.false))
    c.index-items-last.is dot.1 in
    absurd (dot.2 (subst IsPredicateOrDot (sym same) (c.is_exempt.ensures.0 c.if-is_exempt.true)))

pub returns-clause-some : goal.returns-clause-some
returns-clause-some c =
    let items = c.args.items.now in
    let one = c.index-items-last.result in
    let other = c.index-items-last-2.result in
    let n = length items - 1 - 1 in
    let last : n + 1 ≡ length items - 1 = omega (arith, c.if-items-lt2.false) in
    let at = c.index-items-last-2.is ∙ ap (λ k. get_or items k other) (sym last) in
    ends (forms (map form_of items)) (form_of one) (form_of other) c.dot_span.result
    (last-two items n one other (omega (arith, c.if-items-lt2.false)) c.index-items-last.is at)
    (λ exempt. let bad : true ≡ false = sym (c.is_exempt.ensures.1 exempt) ∙ c.if-is_exempt.false in cc)
    c.dot_span.ensures.some

pub returns-clause-every : goal.returns-clause-every
returns-clause-every c = λ span dot.
    let items = c.args.items.now in
    let other = c.index-items-last-2.result in
    let same = second-is items (length items - 1) other dot.0 (Any span) (omega (arith, c.if-items-lt2.false))
    c.index-items-last-2.is dot.1 in
    dot-read c.dot_span.result (form_of other) span c.dot_span.ensures.some c.dot_span.ensures.none (sym same)
