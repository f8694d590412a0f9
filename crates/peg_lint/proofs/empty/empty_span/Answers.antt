use Rattle.std.proofs.Common.{◌≡◌, ◌==◌, ℕ, false, true, List, [], ◌∷◌, length, map, sym, ap, ◌∙◌, arith}
use Rattle.peg_bytes.specs.Extent.{Extent, extent}
use Rattle.peg_grammar.proofs.WrittenForms.{form_of-Seq}
use Rattle.peg_grammar.specs.Written.{form_of}
use Rattle.peg_grammar.specs.declared.expr.Expr.{Expr}
use Rattle.peg_semantics.specs.Form.{End, Forms, Seq, forms}
use Rattle.peg_lint.proofs.empty.empty_span.Goals as goal

same-items : (items others : Forms) (span other : Extent) → Seq items span ≡ Seq others other → items ≡ others
same-items items others span other same = cc

no-items : (items : List Expr) → forms (map form_of items) ≡ End → length items ≡ 0
no-items [] none = omega arith
no-items (x ∷ xs) none = cc

not-zero : (n : ℕ) → n ≡ 0 → false ≡ (n == 0) → ⊥
not-zero n is empty = let bad : false ≡ true = empty ∙ ap (λ k. k == 0) is in cc

pub returns-else-is_empty-clause-none : goal.returns-else-is_empty-clause-none
returns-else-is_empty-clause-none c = λ span same.
    let items = c.in-Seq.items.items in
    let is = ap form_of c.in-Seq.is ∙ form_of-Seq c.in-Seq.items c.in-Seq.span in
    let none = no-items items (same-items (forms (map form_of items)) End (extent c.in-Seq.span) span (sym is ∙ same)) in
    not-zero c.in-Seq.items.len (omega (arith, none, c.in-Seq.items.ok.0)) (sym c.if-is_empty.false ∙ c.is_empty.ensures)
