use Rattle.std.proofs.Common.{◌≡◌, List, false, true, map, refl, string_bytes, subst, sym}
use Rattle.std.proofs.lemmas.Result.{IfOk-weaker}
use Rattle.std.specs.declared.alloc.Global.{Global}
use Rattle.std.specs.declared.string.String.{String}
use Rattle.peg_io.specs.OpenFaults.{IsOfFile}
use Rattle.peg_test_files.specs.FolderTexts.{listed, unlisted}
use Rattle.peg_test_files.specs.Testers.{AddsNames, setting_by}
use Rattle.peg_test_files.proofs.FolderLemmas.{is-none}
use Rattle.peg_test_files.proofs.folders.test_folder.Goals as goal

pub returns-in-Ok : goal.returns-in-Ok
returns-in-Ok g c file rules of =
    let setting = setting_by (g.O.Opener.file_at c.args.tester.now.files.now) file rules c.args.tester.now in
    IfOk-weaker c.test_names.result _ _ (λ done adds.
    let same = subst (λ (l : List (String Global)). AddsNames setting c.args.folder.now (map string_bytes l)
    c.args.results.now c.test_names.new.results) c.deref.ensures.value adds in
    (same.0, listed (λ no. let bad : false ≡ true = c.in-Ok.ensures.missing no in cc) c.in-Ok.ensures.names same.1, same.2)) (c.test_names.ensures file rules of)

pub returns-in-Err-File : goal.returns-in-Err-File
returns-in-Err-File g c file rules of =
    IfOk-weaker c.add.result _ _ (λ done adds. (
      _,
      unlisted (is-none _ (λ some. c.in-Err-File.ensures.present some (subst IsOfFile (sym c.in-Err-File.field-0-is) tt))) c.as_bytes.ensures.value refl refl,
      adds,
    )) c.add.ensures
