use Rattle.std.proofs.Common.{◌≡◌, ◌≢◌, ℕ, ◌∷◌, ◌++◌, [], List, sym, subst, ◌∙◌, ap, append_assoc}
use Rattle.std.proofs.lemmas.List.Elements.{All-push}
use Rattle.std.proofs.lemmas.Result.{on_ok_weaker}
use Rattle.peg_memo.specs.StoreState.{StoreState}
use Rattle.peg_memo_policy.specs.SelectiveStore.{state_by}
use Rattle.peg_nodes.specs.OpenNodes.{IsOpenAt}
use Rattle.peg_tree.specs.Rows.{Row}
use Rattle.peg_machine_tests.proofs.policy.push_leaf.Goals as goal

-- a closed node after the others leaves the newest open one as it is
longer : (rows : List Row) (row : Row) (at : ℕ) → row.size ≢ 0 → IsOpenAt rows at → IsOpenAt (rows ++ row ∷ []) at
longer rows row at closed opened = record {
  before = opened.before;
  newest = opened.newest;
  after = opened.after ++ row ∷ [];
  parts = ap (λ (l : List Row). l ++ row ∷ []) opened.parts
      ∙ append_assoc opened.before (opened.newest ∷ opened.after) (row ∷ []);
  counted = opened.counted;
  is_open = opened.is_open;
  are_closed = All-push (λ (r : Row). r.size ≢ 0) opened.after row opened.are_closed closed;
}

pub returns : goal.returns
returns c =
    let nodes = (state_by c.args.store.now).nodes in
    let row : Row = record { rule = 2; start = c.new.result.start; end = c.new.result.end; size = 1 } in
    on_ok_weaker c.push.result
    (λ is. subst (λ (store : StoreState). IsOpenAt store.nodes c.args.at) (sym is)
    (longer nodes row c.args.at (λ none. let zero : 1 ≡ 0 = none in cc) c.requires))
    c.push.ensures.state
