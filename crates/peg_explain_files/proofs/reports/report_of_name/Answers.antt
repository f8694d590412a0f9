use Rattle.std.proofs.Common.{List, subst, ℕ}
use Rattle.std.proofs.lemmas.Result.{IfOk-weaker}
use Rattle.peg_messages.specs.FileNames.{shown_name}
use Rattle.peg_parser.specs.Parser.{start_named}
use Rattle.peg_explain_files.specs.TextReports.{IsReport, IsReportOf}
use Rattle.peg_explain_files.proofs.reports.report_of_name.Goals as goal

pub returns-in-Ok : goal.returns-in-Ok
returns-in-Ok g c file rules of from is =
    let options = c.args.options.now in
    let style = c.args.explainer.now.style in
    let cases = c.in-Ok.ensures.cases in
    IfOk-weaker c.report_of.result _ _ (λ report right. record {
      of_file = λ text. subst (λ (name : List ℕ). IsReportOf (IsReport file rules style (start_named options)
          options.memo options.steps (shown_name name)) (g.O.Opener.file_at c.args.files.now name) report) cases.0 right;
      not_utf8 = λ other. absurd (other cases.1);
    }) (c.report_of.ensures file rules of from is)
