use Rattle.std.proofs.Common.{Some, sym, refl, ap, subst, ◌∙◌, arith}
use Rattle.peg_memo.specs.MemoKey.{key_eq}
use Rattle.peg_memo.specs.MemoMap.{IsPartOf, MemoMap, entries_in}
use Rattle.peg_memo_policy.specs.LinkedResults.{linked_pairs, AreLinked, IsLinked}
use Rattle.peg_memo_policy.specs.declared.linked_result.LinkedResult.{LinkedResult}
use Rattle.peg_memo_policy.specs.declared.linked_result.LinkedResult.TheVariants.{Matched}
use Rattle.peg_memo_policy.proofs.LinkedLemmas.{all-promoted, entries-promoted, found-result, Entries}
use Rattle.peg_memo_policy.proofs.selective_store.SelectiveStore.lookup_and_touch.Goals as goal

pub node_count-requires : goal.node_count-requires
node_count-requires c =
    let old = c.args.self.now in
    found-result (IsLinked old.nodes) (key_eq (c.args.rule, c.args.position)) old.results old.linked
    (Matched c.in-Some-Matched.end c.in-Some-Matched.link)
    (sym c.find.ensures ∙ c.in-Some-Matched.is ∙ ap (λ (r : LinkedResult). Some r) c.in-Some-Matched.field-0-is)

pub invariant_of-self : goal.invariant_of-self
invariant_of-self c =
    let old = c.args.self.now in
    record {
      linked = subst (AreLinked old.nodes) (sym c.touch.ensures)
          (all-promoted (IsLinked old.nodes) (key_eq (c.args.rule, c.args.position)) old.results old.linked);
    }

pub returns-clause-memo : goal.returns-clause-memo
returns-clause-memo c =
    let old = c.args.self.now in
    let before = entries_in (linked_pairs old.nodes old.results) in
    record {
      part = subst (λ (entries : MemoMap). IsPartOf entries before)
          (sym (ap (λ (entries : Entries). entries_in (linked_pairs old.nodes entries)) c.touch.ensures
          ∙ entries-promoted old.nodes old.results (c.args.rule, c.args.position)))
          (λ asked kept found. found);
      same = λ some. absurd (omega arith);
      capacity = refl;
      allocation_failed = λ failed. failed;
    }
