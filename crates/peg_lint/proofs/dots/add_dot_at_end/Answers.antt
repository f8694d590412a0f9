use Rattle.std.proofs.Common.{◌≡◌, ◌++◌, ◌∷◌, [], None, Option, Some, refl, sym, subst}
use Rattle.peg_bytes.specs.Extent.{Extent, extent}
use Rattle.peg_grammar.specs.GrammarRules.{rules_in}
use Rattle.peg_grammar.specs.Written.{form_of}
use Rattle.peg_semantics.specs.Form.{Form}
use Rattle.peg_lint.specs.FileWarnings.{EndsInDot, IsDotAtEnd}
use Rattle.peg_lint.specs.Linting.{AddsIn, FindsDot}
use Rattle.peg_lint.specs.Warnings.{HasWarning}
use Rattle.peg_lint.specs.declared.warning.Warning.{Warning}
use Rattle.peg_lint.specs.declared.warning.WarningKind.TheVariants as kind
use Rattle.peg_lint.proofs.DotLemmas.{dot-at-end}
use Rattle.peg_lint.proofs.FileLemmas.{AddsIn-push, AddsIn-same, HasWarning-push}
use Rattle.peg_lint.proofs.PartLemmas.{body-is}
use Rattle.peg_lint.proofs.dots.add_dot_at_end.Goals as goal

pub returns-in_default : goal.returns-in_default
returns-in_default c =
    let file = c.args.file.now in
    let rules = rules_in c.args.grammar.now in
    let number = c.args.rule in
    let e = form_of c.body.result.now in
    AddsIn-same file rules (FindsDot file rules number) c.args.found.now.items
    (λ span is.
    let dot = subst (λ (f : Form). EndsInDot f span) (body-is rules number is.rule e c.body.ensures is.at) is.dot in
    let bad : ◌≡◌ {A = Option Extent} None (Some span) = c.in_default.ensures.every span dot in
    absurd cc)

pub returns : goal.returns
returns c =
    let file = c.args.file.now in
    let rules = rules_in c.args.grammar.now in
    let number = c.args.rule in
    let found = c.args.found.now.items in
    let e = form_of c.body.result.now in
    let span = extent c.in-Some.span in
    let w : Warning = record { kind = kind.AnyAtEnd; rule = number; span = c.in-Some.span; by = None } in
    let says : IsDotAtEnd file rules number span =
    dot-at-end file rules number e span (extent c.name_span.result) c.body.ensures c.name_span.ensures
    c.in-Some.ensures.some (c.ends_rule.ensures.0 c.if-not-ends_rule.false) in
    subst (AddsIn file rules (FindsDot file rules number) found) (sym c.in_ok-push.ensures.items)
    (AddsIn-push file rules (FindsDot file rules number) found w (says, refl)
    (λ other is.
    let dot = subst (λ (f : Form). EndsInDot f other) (body-is rules number is.rule e c.body.ensures is.at) is.dot in
    let read : Some span ≡ Some other = c.in-Some.ensures.every other dot in
    let same : span ≡ other = cc in
    subst (λ s. HasWarning (found ++ w ∷ []) kind.AnyAtEnd number s None) same (HasWarning-push found w)))
