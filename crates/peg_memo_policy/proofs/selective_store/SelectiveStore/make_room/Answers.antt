use Rattle.std.proofs.Common.{refl, subst, sym, arith}
use Rattle.peg_memo.specs.MemoMap.{IsPartOf, entries_in}
use Rattle.peg_memo_policy.specs.LinkedResults.{linked_pairs}
use Rattle.peg_memo_policy.proofs.LinkedLemmas.{none-part, Entries}
use Rattle.peg_memo_policy.proofs.selective_store.SelectiveStore.make_room.Goals as goal

pub returns-then-is_err-clause-memo : goal.returns-then-is_err-clause-memo
returns-then-is_err-clause-memo c =
    let old = c.args.self.now in
    let before = entries_in (linked_pairs old.nodes old.results) in
    record {
      part = subst (λ (entries : Entries). IsPartOf (entries_in (linked_pairs c.flatten.new.self entries)) before)
          (sym c.clear.ensures) (none-part before);
      same = λ some. absurd (omega arith);
      capacity = refl;
      allocation_failed = λ failed. failed;
    }

pub returns-else-is_err-clause-memo : goal.returns-else-is_err-clause-memo
returns-else-is_err-clause-memo c =
    let old = c.args.self.now in
    let before = entries_in (linked_pairs old.nodes old.results) in
    record {
      part = subst (λ (entries : Entries). IsPartOf (entries_in (linked_pairs c.flatten.new.self entries)) before)
          (sym c.clear.ensures) (none-part before);
      same = λ some. absurd (omega arith);
      capacity = refl;
      allocation_failed = λ failed. failed;
    }
