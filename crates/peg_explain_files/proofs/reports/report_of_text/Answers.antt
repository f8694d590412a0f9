use Rattle.std.proofs.Common.{◌≡◌, ◌∙◌, None, Some, Err, ap, refl, sym}
use Rattle.peg_parser.specs.Parser.{start_named}
use Rattle.peg_semantics.specs.Starts.{start_name}
use Rattle.peg_explain_files.specs.TextReports.{differs, matches, too_long, too_many_steps}
use Rattle.peg_explain_files.proofs.ReportLemmas.{explained-from}
use Rattle.peg_explain_files.proofs.reports.report_of_text.Goals as goal

pub returns-in-Ok-None-clause-report : goal.returns-in-Ok-None-clause-report
returns-in-Ok-None-clause-report c file rules of from is =
    matches is (explained-from file rules c.args.explainer.now.style c.args.lines c.args.called.now c.args.called.now c.args.text.now from
    (start_name rules (start_named c.args.options.now)) c.in-Ok-None.field-0 None is refl
    c.in-Ok-None.field-0-is (c.in-Ok-None.ensures.explanation file rules of))
    (c.in-Ok-None.ensures.enough file rules of) (c.in-Ok-None.ensures.within file rules of)

pub returns-in-Ok-Some-clause-report : goal.returns-in-Ok-Some-clause-report
returns-in-Ok-Some-clause-report c file rules of from is =
    differs is (explained-from file rules c.args.explainer.now.style c.args.lines c.args.called.now c.args.called.now c.args.text.now from
    (start_name rules (start_named c.args.options.now)) c.in-Ok-Some.field-0 (Some c.in-Ok-Some.message) is
    refl c.in-Ok-Some.field-0-is (c.in-Ok-Some.ensures.explanation file rules of))
    (c.in-Ok-Some.ensures.enough file rules of) (c.in-Ok-Some.ensures.within file rules of)

pub returns-in-Err-TextTooLong-clause-report : goal.returns-in-Err-TextTooLong-clause-report
returns-in-Err-TextTooLong-clause-report c file rules of from is =
    too_long ((c.in-Err-TextTooLong.ensures.long file rules from of is).0 (ap Err c.in-Err-TextTooLong.field-0-is))

pub returns-in-Err-StepLimit-clause-report : goal.returns-in-Err-StepLimit-clause-report
returns-in-Err-StepLimit-clause-report c file rules of from is =
    too_many_steps (c.in-Err-StepLimit.ensures.limited file rules of (ap Err c.in-Err-StepLimit.field-0-is))

pub returns-in-Err-NoSuchStart-clause-report : goal.returns-in-Err-NoSuchStart-clause-report
returns-in-Err-NoSuchStart-clause-report c file rules of from is =
    let none = (c.in-Err-NoSuchStart.ensures.no_start file rules of).0 (ap Err c.in-Err-NoSuchStart.field-0-is) in
    let both : None ≡ Some from = sym none ∙ is in cc
