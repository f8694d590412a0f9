use Rattle.std.proofs.Common.{◌∙◌, [], ap, arith}
use Rattle.peg_bytes.specs.Extent.{extent}
use Rattle.peg_semantics.specs.Form as form
use Rattle.peg_metagrammar.specs.Denotation.{counted_form}
use Rattle.peg_grammar.specs.Written.{form_of}
use Rattle.peg_grammar.proofs.WrittenForms.{form_of-Counted}
use Rattle.peg_lexer.specs.LexicalCode.{bounds_in_code}
use Rattle.peg_lexer.specs.declared.token.TokenKind.TheVariants as kind
use Rattle.peg_bootstrap.specs.AstBuilderCode.{file_in}
use Rattle.peg_bootstrap.proofs.TokenNodes.{token}
use Rattle.peg_bootstrap.proofs.CountNodes.{count-out, count-fine, count-form}
use Rattle.peg_bootstrap.proofs.ast_builder.AstBuilder.counted.Goals as goal

pub slice_bounds-count_bounds-count : goal.slice_bounds-count_bounds-count
slice_bounds-count_bounds-count c =
    let t = token (file_in c.args.self.now) kind.Count _ _ _ _ c.requires in omega (arith, t.inside)

pub slice_bounds-count_bounds-start : goal.slice_bounds-count_bounds-start
slice_bounds-count_bounds-start c =
    let t = token (file_in c.args.self.now) kind.Count _ _ _ _ c.requires in omega (arith, t.inside)

pub returns-in_default-clause-bad : goal.returns-in_default-clause-bad
returns-in_default-clause-bad c =
    ([], count-out (file_in c.args.self.now) _ _ _ _ (token (file_in c.args.self.now) kind.Count _ _ _ _ c.requires) c.in_default.ensures)

pub returns-clause-form : goal.returns-clause-form
returns-clause-form c =
    form_of-Counted c.in_ok-new.field-0 c.in-Some.bounds.min c.in-Some.bounds.max c.args.span
    ∙ (ap (λ e. form.Counted (form_of e) c.in-Some.bounds.min c.in-Some.bounds.max (extent c.args.span)) c.in_ok-new.ensures.ok
    ∙ ap (λ b. counted_form b (form_of c.args.part) (extent c.args.span))
    (count-form (file_in c.args.self.now) _ _ _ _ (token (file_in c.args.self.now) kind.Count _ _ _ _ c.requires)
    (bounds_in_code c.in-Some.bounds) c.in-Some.ensures))

pub returns-clause-fine : goal.returns-clause-fine
returns-clause-fine c =
    count-fine (file_in c.args.self.now) _ _ _ _ (token (file_in c.args.self.now) kind.Count _ _ _ _ c.requires)
    (bounds_in_code c.in-Some.bounds) c.in-Some.ensures
