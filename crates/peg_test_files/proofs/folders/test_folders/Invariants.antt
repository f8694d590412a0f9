use Rattle.std.proofs.Common.{ℕ, List, map, string_bytes, take}
use Rattle.peg_semantics.specs.Rules.{Rule}
use Rattle.peg_test_files.specs.Testers.{HasTested, IsTesterOf, setting_by}
use Rattle.peg_test_files.proofs.folders.test_folders.Given as goal

-- the first folders are tested
abbrev pub invariant-folders : goal.invariant-folders
invariant-folders g l = (file : List ℕ) (rules : List Rule) → IsTesterOf file rules l.tester
    → HasTested (setting_by (g.O.Opener.file_at l.tester.files.now) file rules l.tester)
    (map string_bytes (take l.folder-index l.folders)) l.results
