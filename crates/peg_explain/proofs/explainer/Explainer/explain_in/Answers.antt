use Rattle.std.proofs.Common.{rules as by_rules, IfSome, Option, subst}
use Rattle.peg_blame.proofs.BlameFaults.{error-passed, passed-error}
use Rattle.peg_parser.specs.Parser.{start_named}
use Rattle.peg_semantics.specs.Starts.{start_name}
use Rattle.peg_explain.specs.Explanations.{IsMismatchIn}
use Rattle.peg_explain.specs.declared.mismatch.Mismatch.{Mismatch}
use Rattle.peg_explain.proofs.ExplanationLemmas.{message-explains, no_message-explains}
use Rattle.peg_explain.proofs.explainer.Explainer.explain_in.Goals as goal

pub returns-in_err-mismatch-clause-no_start : goal.returns-in_err-mismatch-clause-no_start
returns-in_err-mismatch-clause-no_start c file rules of_explainer =
    let stated = c.in_err-mismatch.ensures.no_start file rules of_explainer in (
      λ fault. stated.0 (passed-error _ _ _ c.from_residual.ensures.1 fault),
      λ none. error-passed _ _ _ c.from_residual.ensures.1 (stated.1 none),
    )

pub returns-in_err-mismatch-clause-long : goal.returns-in_err-mismatch-clause-long
returns-in_err-mismatch-clause-long c file rules start of_explainer at =
    let stated = c.in_err-mismatch.ensures.long file rules start of_explainer at in (
      λ fault. stated.0 (passed-error _ _ _ c.from_residual.ensures.1 fault),
      λ over. error-passed _ _ _ c.from_residual.ensures.1 (stated.1 over),
    )

pub returns-in_err-mismatch-clause-limited : goal.returns-in_err-mismatch-clause-limited
returns-in_err-mismatch-clause-limited c file rules of_explainer is_limit =
    c.in_err-mismatch.ensures.limited file rules of_explainer (search by_rules)

pub returns-in_ok-message_in-in-Some-clause-explanation : goal.returns-in_ok-message_in-in-Some-clause-explanation
returns-in_ok-message_in-in-Some-clause-explanation c file rules of_explainer =
    let text = c.args.text.now in
    let style = c.args.self.now.style in
    let found = start_name rules (start_named c.args.options.now) in
    let is = subst (λ (m : Option Mismatch). IfSome found (λ start. IsMismatchIn rules style text start m)) c.in-Some.is
    (c.in_ok-mismatch.ensures.mismatch file rules of_explainer) in
    message-explains file rules style c.args.lines c.args.name.now text found c.in-Some.mismatch c.in_ok-message_in-in-Some.field-0.items is
    (c.in_ok-message_in-in-Some.ensures file rules of_explainer)

pub returns-in-None-clause-explanation : goal.returns-in-None-clause-explanation
returns-in-None-clause-explanation c file rules of_explainer =
    let text = c.args.text.now in
    let style = c.args.self.now.style in
    let found = start_name rules (start_named c.args.options.now) in
    let is = subst (λ (m : Option Mismatch). IfSome found (λ start. IsMismatchIn rules style text start m)) c.in-None.is
    (c.in_ok-mismatch.ensures.mismatch file rules of_explainer) in
    no_message-explains file rules style c.args.lines c.args.name.now text found is
