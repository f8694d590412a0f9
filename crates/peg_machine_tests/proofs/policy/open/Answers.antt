use Rattle.std.proofs.Common.{◌≢◌, [], refl, sym, subst}
use Rattle.std.proofs.lemmas.List.Elements.{All-nil}
use Rattle.peg_memo.specs.StoreState.{StoreState}
use Rattle.peg_memo_policy.specs.SelectiveStore.{state_by}
use Rattle.peg_nodes.specs.OpenNodes.{IsOpenAt}
use Rattle.peg_tree.specs.Rows.{Row}
use Rattle.peg_machine_tests.proofs.policy.open.Goals as goal

pub returns : goal.returns
returns c =
    let nodes = (state_by c.args.store.now).nodes in
    let row : Row = record { rule = c.args.rule; start = c.new.result.start; end = c.new.result.end; size = 0 } in
    subst (λ (store : StoreState). IsOpenAt store.nodes c.len-at.result) (sym c.in_ok-push.ensures.state)
    (record {
      before = nodes;
      newest = row;
      after = [];
      parts = refl;
      counted = sym c.len-at.ensures.number;
      is_open = refl;
      are_closed = All-nil (λ (r : Row). r.size ≢ 0);
    })
