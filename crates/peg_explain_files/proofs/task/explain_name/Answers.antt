use Rattle.std.proofs.Common.{◌∙◌, ◌∷◌, ◌++◌, [], ap, string_bytes, subst}
use Rattle.std.proofs.KnownBytes.{Keeps-refl}
use Rattle.peg_explain.specs.declared.style.ItemStyle.{ItemStyle}
use Rattle.peg_messages.specs.FileNames.{shown_name}
use Rattle.peg_parser.specs.Parser.{parser_rules, start_named}
use Rattle.peg_explain_files.specs.Entries.{entry_fault, entry_verdict}
use Rattle.peg_explain_files.specs.Printings.{printed_by}
use Rattle.peg_explain_files.specs.Progress.{Leads}
use Rattle.peg_explain_files.specs.Tasks.{setting_of}
use Rattle.peg_explain_files.specs.TextReports.{IsReport, IsReportOfName}
use Rattle.peg_explain_files.specs.Verdicts.{worse}
use Rattle.peg_explain_files.specs.declared.ended.Ended.{Ended}
use Rattle.peg_explain_files.specs.declared.entry.Entry.{Entry}
use Rattle.peg_explain_files.proofs.ProgressLemmas.{Stops-unwritten, error-passed, leads-one}
use Rattle.peg_explain_files.proofs.StartLemmas.{start-some}
use Rattle.peg_explain_files.proofs.task.explain_name.Goals as goal

pub returns-in_err-explainer-clause-leads : goal.returns-in_err-explainer-clause-leads
returns-in_err-explainer-clause-leads g c start =
    let setting = setting_of (g.O.Opener.file_at c.args.task.now.files.now) c.args.task.now in
    error-passed (Leads setting (c.args.name.now ∷ []) _ _) c.from_residual.result _ c.from_residual.ensures.1
    (Stops-unwritten setting (c.args.name.now ∷ []) _ _ (Keeps-refl _))

pub returns-in_err-report-clause-leads : goal.returns-in_err-report-clause-leads
returns-in_err-report-clause-leads g c start =
    let setting = setting_of (g.O.Opener.file_at c.args.task.now.files.now) c.args.task.now in
    error-passed (Leads setting (c.args.name.now ∷ []) _ _) c.from_residual-in_err-report.result _
    c.from_residual-in_err-report.ensures.1 (Stops-unwritten setting (c.args.name.now ∷ []) _ _ (Keeps-refl _))

pub returns-in_err-add-clause-leads : goal.returns-in_err-add-clause-leads
returns-in_err-add-clause-leads g c start =
    let setting = setting_of (g.O.Opener.file_at c.args.task.now.files.now) c.args.task.now in
    error-passed (Leads setting (c.args.name.now ∷ []) _ _) c.from_residual-in_err-add.result _
    c.from_residual-in_err-add.ensures.1 (Stops-unwritten setting (c.args.name.now ∷ []) _ _ (Keeps-refl _))

pub returns-clause-leads : goal.returns-clause-leads
returns-clause-leads g c start =
    let task = c.args.task.now in
    let options = task.query.now.options in
    let files = g.O.Opener.file_at task.files.now in
    let rules = parser_rules task.parser.now in
    let entry : Entry = record { name = c.args.name; report = c.in_ok-report.report } in
    let known = start-some _ start in
    let same = c.take_explainer.ensures.unchanged in
    let right = subst (λ (style : ItemStyle). IsReportOfName (IsReport task.file.now rules style (start_named options)
    options.memo options.steps (shown_name c.args.name.now)) files c.args.name.now c.in_ok-report.report)
    c.in_ok-explainer.ensures.styled
    (c.in_ok-report.ensures task.file.now rules c.in_ok-explainer.ensures.made known.0 known.1) in
    leads-one (setting_of files task) entry _ _ c.write_entry.result right c.write_entry.ensures.writes
    (c.in_ok-add.ensures.faults
    ∙ ap (λ (e : Ended). string_bytes e.faults ++ printed_by task.printing (entry_fault entry)) same)
    (c.in_ok-add.ensures.verdict ∙ ap (λ (e : Ended). worse e.verdict (entry_verdict entry)) same)
