-- The expression that each `Expr` represents, where the code's value contains boxes and lists.
use Rattle.std.proofs.Common.{◌≡◌, ℕ, map, sym, ap, ◌∙◌, string_bytes}
use Rattle.std.specs.declared.alloc.Global.{Global}
use Rattle.std.specs.declared.boxed.Box.{Box}
use Rattle.std.specs.declared.string.String.{String}
use Rattle.std.specs.declared.vec.Vec.{Vec}
use Rattle.peg_bytes.specs.Extent.{extent}
use Rattle.peg_bytes.specs.declared.span.Span.{Span}
use Rattle.peg_semantics.specs.Form as form
use Rattle.peg_semantics.specs.Form.{Form, forms}
use Rattle.peg_grammar.specs.Written.{form_of, node_form}
use Rattle.peg_grammar.specs.declared.expr.Expr.{Expr}
use Rattle.peg_grammar.specs.declared.expr.Expr.TheViews.{Seq, Choice, Optional, Star, Plus, Counted, And, Not}
use Rattle.peg_grammar.specs.declared.expr.Expr.TheVariants.{Name, rolls-Name, rolls-Seq, rolls-Choice, rolls-Optional, rolls-Star, rolls-Plus, rolls-Counted, rolls-And, rolls-Not}
use Rattle.peg_grammar.specs.declared.expr.Expr.TheOpen as layer
use Rattle.peg_grammar.specs.declared.expr.Expr.TheFolds.{fold-roll-Expr}

-- a name represents the name with its bytes
pub form_of-Name : (name : String Global) (span : Span) → form_of (Name name span) ≡ form.Name (string_bytes name) (extent span)
form_of-Name name span = ap form_of (sym (rolls-Name name span)) ∙ fold-roll-Expr Form node_form (layer.Name name span)

-- a sequence represents the sequence of its items' expressions
pub form_of-Seq : (items : Vec Expr Global) (span : Span) → form_of (Seq items span) ≡ form.Seq (forms (map form_of items.items)) (extent span)
form_of-Seq items span = ap form_of (sym (rolls-Seq items span)) ∙ fold-roll-Expr Form node_form (layer.Seq items span)

-- a choice represents the choice of its alternatives' expressions
pub form_of-Choice : (first : Box Expr Global) (rest : Vec Expr Global) (span : Span)
    → form_of (Choice first rest span) ≡ form.Choice (form_of first.value) (forms (map form_of rest.items)) (extent span)
form_of-Choice first rest span =
    ap form_of (sym (rolls-Choice first rest span)) ∙ fold-roll-Expr Form node_form (layer.Choice first rest span)

-- an operator represents the operator on its part's expression
pub form_of-Optional : (part : Box Expr Global) (span : Span) → form_of (Optional part span) ≡ form.Optional (form_of part.value) (extent span)
form_of-Optional part span =
    ap form_of (sym (rolls-Optional part span)) ∙ fold-roll-Expr Form node_form (layer.Optional part span)

pub form_of-Star : (part : Box Expr Global) (span : Span) → form_of (Star part span) ≡ form.Star (form_of part.value) (extent span)
form_of-Star part span = ap form_of (sym (rolls-Star part span)) ∙ fold-roll-Expr Form node_form (layer.Star part span)

pub form_of-Plus : (part : Box Expr Global) (span : Span) → form_of (Plus part span) ≡ form.Plus (form_of part.value) (extent span)
form_of-Plus part span = ap form_of (sym (rolls-Plus part span)) ∙ fold-roll-Expr Form node_form (layer.Plus part span)

pub form_of-Counted : (part : Box Expr Global) (min max : ℕ) (span : Span) → form_of (Counted part min max span) ≡ form.Counted (form_of part.value) min max (extent span)
form_of-Counted part min max span =
    ap form_of (sym (rolls-Counted part min max span)) ∙ fold-roll-Expr Form node_form (layer.Counted part min max span)

pub form_of-And : (part : Box Expr Global) (span : Span) → form_of (And part span) ≡ form.And (form_of part.value) (extent span)
form_of-And part span = ap form_of (sym (rolls-And part span)) ∙ fold-roll-Expr Form node_form (layer.And part span)

pub form_of-Not : (part : Box Expr Global) (span : Span) → form_of (Not part span) ≡ form.Not (form_of part.value) (extent span)
form_of-Not part span = ap form_of (sym (rolls-Not part span)) ∙ fold-roll-Expr Form node_form (layer.Not part span)
