use Rattle.std.proofs.Common.{◌≡◌, List, [], ◌∷◌, ◌++◌, map, ap, ◌∙◌}
use Rattle.peg_bytes.specs.Extent.{extent}
use Rattle.peg_semantics.specs.Form.{Form, Forms, Class, Choice, Then, End, forms}
use Rattle.peg_grammar.specs.Written.{form_of}
use Rattle.peg_grammar.specs.declared.expr.Expr.{Expr}
use Rattle.peg_diagnostics.proofs.EmptySet.{bytes_of-empty}
use Rattle.peg_diagnostics.proofs.WrittenCopies.{IfOk-form}
use Rattle.peg_diagnostics.specs.Diagnostic.{no_bytes, or_fail}
use Rattle.peg_diagnostics.proofs.builders.or_empty_class.Goals as goal

pub returns : goal.returns
returns c =
    let span = extent c.args.span in
    let first = form_of c.args.first.value in
    let empty = bytes_of-empty c.empty.result c.empty.ensures in
    let class : form_of c.in_ok-none.none.value ≡ Class no_bytes span =
    ◌∙◌ {A = Form} c.in_ok-none.ensures (ap (λ set. Class set span) empty) in
    let pushed =
    ◌∙◌ {A = List Expr} c.in_ok-add.ensures (ap (λ l. l ++ c.in_ok-none.none.value ∷ []) c.new-rest.ensures.items) in
    let rest : forms (map form_of c.add.new.items.items) ≡ Then (Class no_bytes span) End =
    ◌∙◌ {A = Forms} (ap (λ l. forms (map form_of l)) pushed) (ap (λ e. Then e End) class) in
    IfOk-form c.choice.result (Choice first (forms (map form_of c.add.new.items.items)) span) (or_fail first span)
    (ap (λ l. Choice first l span) rest) c.choice.ensures
