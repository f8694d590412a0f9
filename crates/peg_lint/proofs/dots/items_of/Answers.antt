use Rattle.std.proofs.Common.{List, map, sym, ap, ◌∙◌}
use Rattle.peg_bytes.specs.Extent.{extent}
use Rattle.peg_grammar.proofs.WrittenForms.{form_of-Seq}
use Rattle.peg_grammar.specs.Written.{form_of}
use Rattle.peg_grammar.specs.declared.expr.Expr.{Expr}
use Rattle.peg_semantics.specs.Form.{Seq, forms}
use Rattle.peg_lint.proofs.dots.items_of.Goals as goal

pub returns-in-Seq-clause-some : goal.returns-in-Seq-clause-some
returns-in-Seq-clause-some c = (
  extent c.in-Seq.span,
  ap form_of c.in-Seq.is ∙ (form_of-Seq c.in-Seq.items c.in-Seq.span
      ∙ sym (ap (λ (l : List Expr). Seq (forms (map form_of l)) (extent c.in-Seq.span)) c.deref.ensures.value)),
)
