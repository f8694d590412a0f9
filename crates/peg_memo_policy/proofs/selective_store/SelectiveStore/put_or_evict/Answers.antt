use Rattle.std.proofs.Common.{◌≡◌, ◌-◌, false, true, length, take, refl, subst, sym, ap, ◌∙◌, arith}
use Rattle.std.specs.FinMap as finite
use Rattle.peg_memo.specs.MemoKey.{MemoKey}
use Rattle.peg_memo.specs.MemoMap.{IsPartOf, entries_in}
use Rattle.peg_nodes.specs.Linked.{Linked}
use Rattle.peg_memo_policy.specs.LinkedResults.{linked_pairs, stored_result, AreLinked, IsLinked}
use Rattle.peg_memo_policy.proofs.LinkedLemmas.{all-put, entries-put, entries-take, Entries}
use Rattle.peg_memo_policy.proofs.Parts.{IsPartOf-stored, IsPartOf-trans}
use Rattle.peg_memo_policy.proofs.selective_store.SelectiveStore.put_or_evict.Goals as goal

pub invariant_of-self : goal.invariant_of-self
invariant_of-self c =
    let nodes = c.tries.self.nodes in
    let put = c.put.ensures.stored c.tries-test.false in
    record {
      linked = subst (AreLinked nodes) (sym put.1)
          (all-put (IsLinked nodes) c.tries.self.results put.0 (c.args.rule, c.args.position) c.args.linked c.tries.self.linked
          (subst (λ (nodes : Linked). IsLinked nodes c.args.linked) (sym c.tries.invariant.nodes) c.requires));
    }

pub tries-preserved : goal.tries-preserved
tries-preserved c =
    let old = c.args.self.now in
    let now = c.tries.self.results in
    let whole = entries_in (linked_pairs old.nodes old.results) in
    let same : c.put.new.self ≡ now = c.put.ensures.refused (λ yes. let no = c.tries-test.true in let is : false ≡ true = cc in cc) in
    let rest : c.evict.new.self ≡ take (length now - 1) now =
    c.evict.ensures.rest ∙ ap (λ (entries : Entries). take (length entries - 1) entries) same in
    record {
      nodes = c.tries.invariant.nodes;
      part = subst (λ (entries : Entries). IsPartOf (entries_in (linked_pairs old.nodes entries)) whole) (sym rest)
          (IsPartOf-trans (entries_in (linked_pairs old.nodes (take (length now - 1) now)))
          (entries_in (linked_pairs old.nodes now)) whole (entries-take old.nodes now (length now - 1)) c.tries.invariant.part);
      allocation_failed = λ _. refl;
    }

pub returns-clause-memo : goal.returns-clause-memo
returns-clause-memo c =
    let old = c.args.self.now in
    let now = c.tries.self.results in
    let put = c.put.ensures.stored c.tries-test.false in
    let asked : MemoKey = (c.args.rule, c.args.position) in
    let stored = stored_result old.nodes c.args.linked in
    let middle = entries_in (linked_pairs old.nodes now) in
    let before = entries_in (linked_pairs old.nodes old.results) in
    record {
      part = IsPartOf-stored before middle (entries_in (linked_pairs c.tries.self.nodes c.put.new.self)) asked stored true
          c.tries.invariant.part
          (subst
          (λ (nodes : Linked). IsPartOf (entries_in (linked_pairs nodes c.put.new.self)) (finite.insert middle asked stored))
          (sym c.tries.invariant.nodes)
          (subst (λ (entries : Entries). IsPartOf (entries_in (linked_pairs old.nodes entries)) (finite.insert middle asked stored))
          (sym put.1) (entries-put old.nodes now put.0 asked c.args.linked)));
      all = λ some. absurd (omega arith);
      capacity = refl;
      allocation_failed = c.tries.invariant.allocation_failed;
    }
