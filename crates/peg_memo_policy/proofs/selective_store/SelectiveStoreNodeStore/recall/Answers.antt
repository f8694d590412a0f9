use Rattle.std.proofs.Common.{Some, refl, sym, ap, ◌++◌, ◌∙◌}
use Rattle.peg_memo.specs.MemoKey.{key_eq}
use Rattle.peg_nodes.specs.Linked.{link_nodes, nodes_of}
use Rattle.peg_memo_policy.specs.LinkedResults.{IsLinked}
use Rattle.peg_memo_policy.specs.declared.linked_result.LinkedResult.{LinkedResult}
use Rattle.peg_memo_policy.specs.declared.linked_result.LinkedResult.TheVariants.{Failed, Matched}
use Rattle.peg_memo_policy.proofs.LinkedLemmas.{entry-found, found-result, kept-state}
use Rattle.peg_memo_policy.proofs.selective_store.SelectiveStoreNodeStore.recall.Goals as goal

pub append-requires : goal.append-requires
append-requires c =
    let old = c.args.self.now in
    found-result (IsLinked old.nodes) (key_eq (c.args.rule, c.args.position)) old.results old.linked
    (Matched c.in-Some-Matched.end c.in-Some-Matched.link)
    (sym c.find.ensures ∙ c.in-Some-Matched.is ∙ ap (λ (r : LinkedResult). Some r) c.in-Some-Matched.field-0-is)

pub returns-in-Some-Failed-clause-recalled : goal.returns-in-Some-Failed-clause-recalled
returns-in-Some-Failed-clause-recalled c =
    let old = c.args.self.now in (
      refl,
      entry-found old.nodes old.results (c.args.rule, c.args.position) Failed
          (sym (sym c.find.ensures ∙ c.in-Some-Failed.is ∙ ap (λ (r : LinkedResult). Some r) c.in-Some-Failed.field-0-is)),
    )

pub returns-in_ok-append-in-Some-Matched-clause-recalled : goal.returns-in_ok-append-in-Some-Matched-clause-recalled
returns-in_ok-append-in-Some-Matched-clause-recalled c =
    let old = c.args.self.now in
    let link = c.in-Some-Matched.link in (
      link_nodes old.nodes link,
      entry-found old.nodes old.results (c.args.rule, c.args.position) (Matched c.in-Some-Matched.end link)
          (sym (sym c.find.ensures ∙ c.in-Some-Matched.is ∙ ap (λ (r : LinkedResult). Some r) c.in-Some-Matched.field-0-is)),
      kept-state old.nodes c.append.new.self c.append.ensures.links old.results old.allocation_failed
          (nodes_of old.nodes ++ link_nodes old.nodes link) old.linked c.in_ok-append-in-Some-Matched.ensures.ok,
    )
