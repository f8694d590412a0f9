-- The rules that the code's expressions and definitions represent.
use Rattle.std.specs.Prelude.{List, map, string_bytes}
use Rattle.peg_bytes.specs.ByteSet.{bytes_of}
use Rattle.peg_bytes.specs.Extent.{extent}
use Rattle.peg_semantics.specs.Form as form
use Rattle.peg_semantics.specs.Form.{Form, forms}
use Rattle.peg_semantics.specs.Rules.{Rule}
use Rattle.peg_grammar.specs.declared.expr.Expr.{Expr}
use Rattle.peg_grammar.specs.declared.expr.Expr.TheOpen.{Expr-F, Literal, Class, Any, Name, Seq, Choice, Optional, Star}
use Rattle.peg_grammar.specs.declared.expr.Expr.TheOpen.{Plus, Counted, And, Not}
use Rattle.peg_grammar.specs.declared.expr.Expr.TheFolds.{fold-Expr}
use Rattle.peg_grammar.specs.declared.expr.Definition.{Definition}

-- one expression, given the expressions that its parts represent
abbrev pub node_form : Expr-F Form → Form
node_form (Literal bytes span) = form.Literal bytes.items (extent span)
node_form (Class set span) = form.Class (bytes_of set) (extent span)
node_form (Any span) = form.Any (extent span)
node_form (Name name span) = form.Name (string_bytes name) (extent span)
node_form (Seq items span) = form.Seq (forms items.items) (extent span)
node_form (Choice first rest span) = form.Choice first.value (forms rest.items) (extent span)
node_form (Optional part span) = form.Optional part.value (extent span)
node_form (Star part span) = form.Star part.value (extent span)
node_form (Plus part span) = form.Plus part.value (extent span)
node_form (Counted part min max span) = form.Counted part.value min max (extent span)
node_form (And part span) = form.And part.value (extent span)
node_form (Not part span) = form.Not part.value (extent span)

-- the expression that an `Expr` represents
abbrev pub form_of : Expr → Form
form_of = fold-Expr Form node_form

-- the rule that a `Definition` represents
abbrev pub rule_of : Definition → Rule
rule_of definition =
    record { name = string_bytes definition.name; span = extent definition.span; body = form_of definition.body }

-- the rules that definitions represent
abbrev pub rules_of : List Definition → List Rule
rules_of definitions = map rule_of definitions
