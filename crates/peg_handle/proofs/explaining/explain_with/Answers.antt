use Rattle.std.proofs.Common.{◌≡◌, ◌⊎◌, IfSome, Option, None, Some, subst}
use Rattle.peg_explain.specs.Explanations.{IsMismatchIn}
use Rattle.peg_explain.specs.declared.mismatch.Mismatch.{Mismatch}
use Rattle.peg_explain.specs.declared.style.ItemStyle.{ItemStyle}
use Rattle.peg_parser.specs.Parser.{parser_rules, start_named}
use Rattle.peg_parser.specs.declared.parser.ParseFault.{ParseFault}
use Rattle.peg_parser.specs.declared.parser.ParseFault.TheVariants as fault
use Rattle.peg_semantics.specs.Starts.{start_name}
use Rattle.peg_handle.proofs.AnswerLemmas.{err_of}
use Rattle.peg_handle.proofs.ExplanationLemmas.{IsMismatchOf, explains, other-faults, passed-on}
use Rattle.peg_handle.proofs.explaining.explain_with.Goals as goal

pub returns-in_err-mismatch-clause-faults : goal.returns-in_err-mismatch-clause-faults
returns-in_err-mismatch-clause-faults c explainer =
    let grammar = c.args.grammar.now in
    let rules = parser_rules grammar.parser in
    let from = c.requires.start in
    passed-on (λ (why : ParseFault). (why ≡ fault.StepLimit) ⊎ (why ≡ fault.Memory)) c.from_residual.result
    c.in_err-mismatch.field-0.0 c.from_residual.ensures.1
    (other-faults {V = Option Mismatch} (start_name rules (start_named c.args.options.now)) from.0 c.args.text.now
    c.in_err-mismatch.field-0.0 from.1 c.requires.short
    (λ is. (c.in_err-mismatch.ensures.no_start grammar.bytes.items rules explainer).0 is)
    (λ is. (c.in_err-mismatch.ensures.long grammar.bytes.items rules from.0 explainer from.1).0 is))

pub returns-in_err-mismatch-clause-limited : goal.returns-in_err-mismatch-clause-limited
returns-in_err-mismatch-clause-limited c explainer is =
    let grammar = c.args.grammar.now in
    c.in_err-mismatch.ensures.limited grammar.bytes.items (parser_rules grammar.parser)
    explainer
    (err_of _ _ _ c.from_residual.ensures.1 is)

pub returns-in_ok-explanation-in-Some-clause-explained : goal.returns-in_ok-explanation-in-Some-clause-explained
returns-in_ok-explanation-in-Some-clause-explained c explainer =
    let grammar = c.args.grammar.now in
    let text = c.args.text.now in
    let rules = parser_rules grammar.parser in
    let found = start_name rules (start_named c.args.options.now) in
    let is = subst (λ (m : Option Mismatch). IfSome found (IsMismatchOf grammar text m)) c.in-Some.is
    (subst (λ (style : ItemStyle). IfSome found (λ start. IsMismatchIn rules style text start
    c.in_ok-mismatch.field-0)) c.requires.styled
    (c.in_ok-mismatch.ensures.mismatch grammar.bytes.items rules explainer)) in
    explains grammar c.args.name.now text found (Some c.in-Some.mismatch) (Some c.in_ok-explanation-in-Some.explanation) is
    (c.in_ok-explanation-in-Some.ensures grammar.bytes.items rules explainer)

pub returns-in-None-clause-explained : goal.returns-in-None-clause-explained
returns-in-None-clause-explained c explainer =
    let grammar = c.args.grammar.now in
    let text = c.args.text.now in
    let rules = parser_rules grammar.parser in
    let found = start_name rules (start_named c.args.options.now) in
    let is = subst (λ (m : Option Mismatch). IfSome found (IsMismatchOf grammar text m)) c.in-None.is
    (subst (λ (style : ItemStyle). IfSome found (λ start. IsMismatchIn rules style text start
    c.in_ok-mismatch.field-0)) c.requires.styled
    (c.in_ok-mismatch.ensures.mismatch grammar.bytes.items rules explainer)) in
    explains grammar c.args.name.now text found None None is tt

pub returns-in_ok-explanation-in-Some-clause-enough : goal.returns-in_ok-explanation-in-Some-clause-enough
returns-in_ok-explanation-in-Some-clause-enough c explainer no_memo =
    let grammar = c.args.grammar.now in
    c.in_ok-mismatch.ensures.enough grammar.bytes.items (parser_rules grammar.parser)
    explainer no_memo

pub returns-in-None-clause-enough : goal.returns-in-None-clause-enough
returns-in-None-clause-enough c explainer no_memo =
    let grammar = c.args.grammar.now in
    c.in_ok-mismatch.ensures.enough grammar.bytes.items (parser_rules grammar.parser)
    explainer no_memo

pub returns-in_ok-explanation-in-Some-clause-within : goal.returns-in_ok-explanation-in-Some-clause-within
returns-in_ok-explanation-in-Some-clause-within c explainer =
    let grammar = c.args.grammar.now in
    c.in_ok-mismatch.ensures.within grammar.bytes.items (parser_rules grammar.parser)
    explainer

pub returns-in-None-clause-within : goal.returns-in-None-clause-within
returns-in-None-clause-within c explainer =
    let grammar = c.args.grammar.now in
    c.in_ok-mismatch.ensures.within grammar.bytes.items (parser_rules grammar.parser)
    explainer
