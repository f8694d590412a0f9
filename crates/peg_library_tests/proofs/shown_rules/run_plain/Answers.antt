use Rattle.std.specs.FinMap.{len-empty}
use Rattle.peg_memo.specs.StoredResult.{StoredResult}
use Rattle.peg_memo.specs.MemoKey.{key_cmp}
use Rattle.peg_library_tests.proofs.shown_rules.run_plain.Goals as goal

pub run-requires-clause-empty : goal.run-requires-clause-empty
run-requires-clause-empty c = len-empty key_cmp StoredResult
