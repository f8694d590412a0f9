use Rattle.std.proofs.Common.{refl}
use Rattle.std.specs.FinMap.{len-empty}
use Rattle.peg_memo.specs.StoredResult.{StoredResult}
use Rattle.peg_memo.specs.MemoKey.{key_cmp}
use Rattle.peg_memo.proofs.no_memo.NoMemoKeep.is_empty.Goals as goal

pub returns : goal.returns
returns c = (λ _. len-empty key_cmp StoredResult, λ _. refl)
