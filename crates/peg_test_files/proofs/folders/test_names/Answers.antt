use Rattle.std.proofs.Common.{ℕ, List, ap, map, string_bytes, subst, take}
use Rattle.std.proofs.lemmas.List.{take_all}
use Rattle.peg_test_files.specs.Testers.{AddsNames, setting_by}
use Rattle.peg_test_files.proofs.FolderLemmas.{names-added, names-more, names-none}
use Rattle.peg_test_files.proofs.folders.test_names.Goals as goal

pub names-init : goal.names-init
names-init g c file rules of =
    names-none (setting_by (g.O.Opener.file_at c.args.tester.now.files.now) file rules c.args.tester.now) c.args.folder.now _

pub names-preserved : goal.names-preserved
names-preserved g c file rules of =
    let setting = setting_by (g.O.Opener.file_at c.args.tester.now.files.now) file rules c.args.tester.now in
    let names = c.args.names.now in
    let i = c.names.name-index in
    subst (λ (l : List (List ℕ)). AddsNames setting c.args.folder.now l c.args.results.now c.test_name.new.results)
    (names-more names i c.name-item.result c.deref.result.now c.names-test.true c.name-item.is c.deref.ensures)
    (names-added setting c.args.folder.now c.deref.result.now (map string_bytes (take i names)) c.args.results.now
    c.names.results c.test_name.new.results (c.names.invariant file rules of) (c.in_ok-test_name.ensures file rules of))

pub returns : goal.returns
returns g c file rules of =
    let setting = setting_by (g.O.Opener.file_at c.args.tester.now.files.now) file rules c.args.tester.now in
    subst (λ (l : List (List ℕ)). AddsNames setting c.args.folder.now l c.args.results.now c.names.results)
    (ap (map string_bytes) (take_all c.names.name-index c.args.names.now c.names-test.false))
    (c.names.invariant file rules of)
