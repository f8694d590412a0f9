use Rattle.std.proofs.Common.{ℕ, List, ap, map, string_bytes, subst, take}
use Rattle.std.proofs.lemmas.List.{take_all}
use Rattle.peg_test_files.specs.Testers.{HasTested, setting_by}
use Rattle.peg_test_files.proofs.FolderLemmas.{folders-added, folders-none, names-more}
use Rattle.peg_test_files.proofs.folders.test_folders.Goals as goal

pub folders-init : goal.folders-init
folders-init g c file rules of =
    folders-none (setting_by (g.O.Opener.file_at c.args.tester.now.files.now) file rules c.args.tester.now)
    c.new-results.result c.new-results.ensures

pub folders-preserved : goal.folders-preserved
folders-preserved g c file rules of =
    let setting = setting_by (g.O.Opener.file_at c.args.tester.now.files.now) file rules c.args.tester.now in
    let folders = c.args.folders.now in
    let i = c.folders.folder-index in
    subst (λ (l : List (List ℕ)). HasTested setting l c.test_folder.new.results)
    (names-more folders i c.folder-item.result c.deref.result.now c.folders-test.true c.folder-item.is
    c.deref.ensures)
    (folders-added setting c.deref.result.now (map string_bytes (take i folders)) c.folders.results
    c.test_folder.new.results (c.folders.invariant file rules of) (c.in_ok-test_folder.ensures file rules of))

pub returns : goal.returns
returns g c file rules of =
    let setting = setting_by (g.O.Opener.file_at c.args.tester.now.files.now) file rules c.args.tester.now in
    subst (λ (l : List (List ℕ)). HasTested setting l c.folders.results)
    (ap (map string_bytes) (take_all c.folders.folder-index c.args.folders.now c.folders-test.false))
    (c.folders.invariant file rules of)
