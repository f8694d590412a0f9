use Rattle.std.specs.FinMap.{len-empty}
use Rattle.peg_memo.specs.StoredResult.{StoredResult}
use Rattle.peg_memo.specs.MemoKey.{key_cmp}
use Rattle.peg_library_tests.proofs.shown_rules.run_by_table.Goals as goal

pub run_with_shortcuts-requires-clause-empty : goal.run_with_shortcuts-requires-clause-empty
run_with_shortcuts-requires-clause-empty c = len-empty key_cmp StoredResult
