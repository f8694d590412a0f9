use Rattle.std.proofs.Common.{ap, ◌∙◌}
use Rattle.std.specs.FinMap as map
use Rattle.peg_memo.specs.MemoKey.{key_cmp}
use Rattle.peg_memo.specs.MemoMap.{entries_in}
use Rattle.peg_memo.specs.StoredResult.{StoredResult}
use Rattle.peg_library_tests.proofs.shown_rules.run_with_memo.Goals as goal

pub run-requires-clause-empty : goal.run-requires-clause-empty
run-requires-clause-empty c =
    ap (λ pairs. map.len (entries_in pairs)) c.requires.empty ∙ map.len-empty key_cmp StoredResult
