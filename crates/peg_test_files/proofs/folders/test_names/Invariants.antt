use Rattle.std.proofs.Common.{ℕ, List, map, string_bytes, take}
use Rattle.peg_semantics.specs.Rules.{Rule}
use Rattle.peg_test_files.specs.Testers.{AddsNames, IsTesterOf, setting_by}
use Rattle.peg_test_files.proofs.folders.test_names.Given as goal

-- the first files are tested
abbrev pub invariant-names : goal.invariant-names
invariant-names g l = (file : List ℕ) (rules : List Rule) → IsTesterOf file rules l.tester
    → AddsNames (setting_by (g.O.Opener.file_at l.tester.files.now) file rules l.tester) l.folder
    (map string_bytes (take l.name-index l.names)) l.initial.results l.results
