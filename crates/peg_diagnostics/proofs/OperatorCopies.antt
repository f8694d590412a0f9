-- Copies of operators: the operator on the copy of its part.
use Rattle.std.proofs.Common.{◌≡◌, ◌⊎◌, inl, inr, ℕ, ap, sym, ◌∙◌}
use Rattle.std.specs.declared.alloc.Global.{Global}
use Rattle.std.specs.declared.boxed.Box.{Box}
use Rattle.peg_bytes.specs.declared.span.Span.{Span}
use Rattle.peg_grammar.proofs.WrittenForms.{form_of-Optional, form_of-Star, form_of-Plus, form_of-Counted, form_of-And, form_of-Not}
use Rattle.peg_grammar.specs.Written.{form_of}
use Rattle.peg_grammar.specs.declared.expr.Expr.{Expr}
use Rattle.peg_grammar.specs.declared.expr.Expr.TheViews as code
use Rattle.peg_diagnostics.specs.Diagnostic.{loud, quiet}
use Rattle.peg_diagnostics.specs.Marked.{mark}
use Rattle.peg_diagnostics.specs.Operators.{with_part}

-- an expression is a repetition of a part
abbrev pub IsRepetition : Expr → Box Expr Global → Type 0
IsRepetition expr part =
    ((span : Span) × (expr ≡ code.Optional part span))
    ⊎ (((span : Span) × (expr ≡ code.Star part span))
    ⊎ (((span : Span) × (expr ≡ code.Plus part span))
    ⊎ ((min max : ℕ) × (span : Span) × (expr ≡ code.Counted part min max span))))

-- an expression is an operator on a part
abbrev pub IsOperator : Expr → Box Expr Global → Type 0
IsOperator expr part =
    ((span : Span) × (expr ≡ code.Optional part span))
    ⊎ (((span : Span) × (expr ≡ code.Star part span))
    ⊎ (((span : Span) × (expr ≡ code.Plus part span))
    ⊎ (((min max : ℕ) × (span : Span) × (expr ≡ code.Counted part min max span))
    ⊎ (((span : Span) × (expr ≡ code.And part span))
    ⊎ ((span : Span) × (expr ≡ code.Not part span))))))

module _ (expr : Expr) (part : Box Expr Global) where
  pub loud-operator : IsRepetition expr part → with_part (form_of expr) (loud (form_of part.value)) ≡ loud (form_of expr)
  loud-operator (inl (span, is)) =
      let same = ap form_of is ∙ form_of-Optional part span in
      ap (λ f. with_part f (loud (form_of part.value))) same ∙ ap loud (sym same)
  loud-operator (inr (inl (span, is))) =
      let same = ap form_of is ∙ form_of-Star part span in
      ap (λ f. with_part f (loud (form_of part.value))) same ∙ ap loud (sym same)
  loud-operator (inr (inr (inl (span, is)))) =
      let same = ap form_of is ∙ form_of-Plus part span in
      ap (λ f. with_part f (loud (form_of part.value))) same ∙ ap loud (sym same)
  loud-operator (inr (inr (inr (min, max, span, is)))) =
      let same = ap form_of is ∙ form_of-Counted part min max span in
      ap (λ f. with_part f (loud (form_of part.value))) same ∙ ap loud (sym same)

  pub quiet-operator : IsOperator expr part → with_part (form_of expr) (quiet (form_of part.value)) ≡ quiet (form_of expr)
  quiet-operator (inl (span, is)) =
      let same = ap form_of is ∙ form_of-Optional part span in
      ap (λ f. with_part f (quiet (form_of part.value))) same ∙ ap quiet (sym same)
  quiet-operator (inr (inl (span, is))) =
      let same = ap form_of is ∙ form_of-Star part span in
      ap (λ f. with_part f (quiet (form_of part.value))) same ∙ ap quiet (sym same)
  quiet-operator (inr (inr (inl (span, is)))) =
      let same = ap form_of is ∙ form_of-Plus part span in
      ap (λ f. with_part f (quiet (form_of part.value))) same ∙ ap quiet (sym same)
  quiet-operator (inr (inr (inr (inl (min, max, span, is))))) =
      let same = ap form_of is ∙ form_of-Counted part min max span in
      ap (λ f. with_part f (quiet (form_of part.value))) same ∙ ap quiet (sym same)
  quiet-operator (inr (inr (inr (inr (inl (span, is)))))) =
      let same = ap form_of is ∙ form_of-And part span in
      ap (λ f. with_part f (quiet (form_of part.value))) same ∙ ap quiet (sym same)
  quiet-operator (inr (inr (inr (inr (inr (span, is)))))) =
      let same = ap form_of is ∙ form_of-Not part span in
      ap (λ f. with_part f (quiet (form_of part.value))) same ∙ ap quiet (sym same)

  pub mark-operator : (n : ℕ) → IsOperator expr part
      → with_part (form_of expr) (mark n (form_of part.value)) ≡ mark n (form_of expr)
  mark-operator n (inl (span, is)) =
      let same = ap form_of is ∙ form_of-Optional part span in
      ap (λ f. with_part f (mark n (form_of part.value))) same ∙ ap (mark n) (sym same)
  mark-operator n (inr (inl (span, is))) =
      let same = ap form_of is ∙ form_of-Star part span in
      ap (λ f. with_part f (mark n (form_of part.value))) same ∙ ap (mark n) (sym same)
  mark-operator n (inr (inr (inl (span, is)))) =
      let same = ap form_of is ∙ form_of-Plus part span in
      ap (λ f. with_part f (mark n (form_of part.value))) same ∙ ap (mark n) (sym same)
  mark-operator n (inr (inr (inr (inl (min, max, span, is))))) =
      let same = ap form_of is ∙ form_of-Counted part min max span in
      ap (λ f. with_part f (mark n (form_of part.value))) same ∙ ap (mark n) (sym same)
  mark-operator n (inr (inr (inr (inr (inl (span, is)))))) =
      let same = ap form_of is ∙ form_of-And part span in
      ap (λ f. with_part f (mark n (form_of part.value))) same ∙ ap (mark n) (sym same)
  mark-operator n (inr (inr (inr (inr (inr (span, is)))))) =
      let same = ap form_of is ∙ form_of-Not part span in
      ap (λ f. with_part f (mark n (form_of part.value))) same ∙ ap (mark n) (sym same)
