-- Lists of copied expressions, as `Forms`.
use Rattle.std.proofs.Common.{◌≡◌, List, [], ◌∷◌, map, refl, ap}
use Rattle.std.proofs.Common.{Result, IfOk, subst}
use Rattle.std.specs.declared.alloc.Global.{Global}
use Rattle.std.specs.declared.boxed.Box.{Box}
use Rattle.peg_semantics.specs.Form.{Form, Then, forms}
use Rattle.peg_grammar.specs.Written.{form_of}
use Rattle.peg_grammar.specs.declared.expr.Expr.{Expr}
use Rattle.peg_diagnostics.specs.Diagnostic.{rename_all, quiet, quiet_name, loud, loud_all}

-- the quiet expressions of a list
pub forms-quiet : (items : List Expr)
    → forms (map (λ item. quiet (form_of item)) items) ≡ rename_all quiet_name (forms (map form_of items))
forms-quiet [] = refl
forms-quiet (item ∷ items) = ap (Then (quiet (form_of item))) (forms-quiet items)

-- the loud expressions of a list
pub forms-loud : (items : List Expr)
    → forms (map (λ item. loud (form_of item)) items) ≡ loud_all (forms (map form_of items))
forms-loud [] = refl
forms-loud (item ∷ items) = ap (Then (loud (form_of item))) (forms-loud items)

-- a boxed expression that represents one form represents an equal one
pub IfOk-form : {E : Type 0} (r : Result (Box Expr Global) E) (a b : Form) → a ≡ b
    → IfOk r (λ e. form_of e.value ≡ a) → IfOk r (λ e. form_of e.value ≡ b)
IfOk-form r a b same is = subst (λ form. IfOk r (λ e. form_of e.value ≡ form)) same is
