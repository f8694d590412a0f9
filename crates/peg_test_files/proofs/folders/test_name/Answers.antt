use Rattle.std.proofs.Common.{◌∙◌, ℕ, List, ap, subst, sym}
use Rattle.std.proofs.lemmas.Result.{IfOk-weaker}
use Rattle.peg_explain_files.specs.TextReports.{IsReport, IsReportOfName}
use Rattle.peg_explain_files.specs.declared.entry.Entry.{Entry}
use Rattle.peg_messages.specs.FileNames.{shown_name}
use Rattle.peg_test_files.specs.TestNames.{wanted_of}
use Rattle.peg_test_files.specs.Testers.{setting_by}
use Rattle.peg_test_files.specs.declared.trial.Trial.TheVariants.{Tried}
use Rattle.peg_test_files.proofs.FolderLemmas.{text-tried}
use Rattle.peg_test_files.proofs.folders.test_name.Goals as goal

pub returns : goal.returns
returns g c file rules of =
    let tester = c.args.tester.now in
    let setting = setting_by (g.O.Opener.file_at tester.files.now) file rules tester in
    let entry : Entry = record { name = c.as_bytes-name.result; report = c.in_ok-report.report } in
    let right = subst (λ (n : List ℕ). IsReportOfName (IsReport setting.file setting.rules setting.style setting.start
    setting.memo setting.steps (shown_name n)) setting.named n c.in_ok-report.report)
    (c.as_bytes-2.ensures.value ∙ sym c.as_bytes-name.ensures.value)
    (c.in_ok-report.ensures file rules of.0 of.1.0 of.1.1) in
    IfOk-weaker c.add-2.result _ _ (λ done adds. (
      Tried c.in-Some.wanted entry,
      text-tried setting c.args.folder.now c.args.name.now c.in-Some.wanted entry
          (c.in-Some.ensures ∙ ap wanted_of c.as_bytes.ensures.value)
          (c.as_bytes-name.ensures.value ∙ c.in_ok-path.ensures) right,
      adds,
    )) c.add-2.ensures
