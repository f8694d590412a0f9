use Rattle.std.proofs.Common.{◌≡◌, ◌-◌, ◌≤◌, ℕ, List, drop, false, length, set, sym, ◌∙◌, ap, subst, arith}
use Rattle.peg_memo.specs.MemoKey.{MemoKey}
use Rattle.peg_memo.specs.MemoMap.{entries_in}
use Rattle.peg_memo.specs.StoredResult.{StoredMatch, StoredResult}
use Rattle.peg_memo.specs.StoreState.{closed_at, memo_state, IsOfferedAt, MemoState}
use Rattle.peg_nodes.specs.Linked.{nodes_of, IsCut, IsItemAt, Linked}
use Rattle.peg_nodes.specs.OpenNodes.{AreClosed}
use Rattle.peg_tree.specs.Rows.{Row}
use Rattle.peg_memo_policy.specs.LinkedResults.{linked_pairs}
use Rattle.peg_memo_policy.proofs.LinkedLemmas.{closed-length, closed-rest, kept-pairs, offered-none, Entries}
use Rattle.peg_memo_policy.proofs.selective_store.SelectiveStore.close.Goals as goal
use Rattle.peg_memo_policy.proofs.selective_store.SelectiveStore.close.Goals.{After-is_wanted, After-close-index}

abbrev row_from : (rule start end size : ℕ) → Row
row_from rule start end size = record { rule = rule; start = start; end = end; size = size }

-- the nodes with the node closed
closed : (c : After-close-index)
    → nodes_of c.close-index.new.self ≡ closed_at c.args.at (nodes_of c.args.self.now.nodes) c.args.rule c.args.start c.args.end
closed c =
    let nodes = nodes_of c.args.self.now.nodes in
    let at = c.args.at in
    let size = length nodes - at in
    c.close-index.ensures.nodes at c.requires.open
    ∙ ap (λ (n : ℕ). set nodes at (row_from c.args.rule n c.new.result.end size)) c.new.ensures.start
    ∙ ap (λ (n : ℕ). set nodes at (row_from c.args.rule c.args.start n size)) c.new.ensures.end

pub close-index-requires : goal.close-index-requires
close-index-requires c = (c.args.at, c.requires.open)

pub overflow_sub-nodes : goal.overflow_sub-nodes
overflow_sub-nodes c =
    let at = (goal.at.overflow_sub-nodes c).After-close-index in
    let count = c.len.ensures.count ∙ ap length (closed at) in
    let less = closed-length (nodes_of c.args.self.now.nodes) c.args.at c.args.rule c.args.start c.args.end c.requires.open in
    omega arith

pub store_match-requires-clause-place : goal.store_match-requires-clause-place
store_match-requires-clause-place c =
    subst (λ (nodes : Linked). IsItemAt nodes c.close-index.result c.args.at) (sym c.is_wanted.ensures.nodes)
    (c.close-index.ensures.place c.args.at c.requires.open)

pub store_match-requires-clause-are_closed : goal.store_match-requires-clause-are_closed
store_match-requires-clause-are_closed c =
    let at = (goal.at.store_match-requires-clause-are_closed c).After-close-index in
    subst (λ (rows : List Row). AreClosed (drop c.args.at rows))
    (sym (ap nodes_of c.is_wanted.ensures.nodes ∙ closed at))
    (closed-rest (nodes_of c.args.self.now.nodes) c.args.at c.args.rule c.args.start c.args.end c.requires.open)

-- the memo after the node was closed is the one before
same_memo : (c : After-is_wanted)
    → memo_state (entries_in (linked_pairs c.is_wanted.new.self.nodes c.is_wanted.new.self.results)) 0 c.is_wanted.new.self.allocation_failed
    ≡ memo_state (entries_in (linked_pairs c.args.self.now.nodes c.args.self.now.results)) 0 c.args.self.now.allocation_failed
same_memo c =
    let old = c.args.self.now in
    let new = c.is_wanted.new.self in
    ap (λ (failed : _). memo_state (entries_in (linked_pairs new.nodes new.results)) 0 failed) c.is_wanted.ensures.allocation_failed
    ∙ ap (λ (entries : Entries). memo_state (entries_in (linked_pairs new.nodes entries)) 0 old.allocation_failed) c.is_wanted.ensures.results
    ∙ ap (λ (nodes : Linked). memo_state (entries_in (linked_pairs nodes old.results)) 0 old.allocation_failed) c.is_wanted.ensures.nodes
    ∙ ap (λ pairs. memo_state (entries_in pairs) 0 old.allocation_failed)
    (kept-pairs old.nodes c.close-index.new.self c.close-index.ensures.links old.results old.linked)

pub returns-then-is_wanted-clause-nodes : goal.returns-then-is_wanted-clause-nodes
returns-then-is_wanted-clause-nodes c =
    let at = (goal.at.returns-then-is_wanted-clause-nodes c).After-close-index in
    c.store_match.ensures.nodes ∙ ap nodes_of c.is_wanted.ensures.nodes ∙ closed at

pub returns-then-is_wanted-clause-memo : goal.returns-then-is_wanted-clause-memo
returns-then-is_wanted-clause-memo c =
    let at = (goal.at.returns-then-is_wanted-clause-memo c).After-close-index in
    let here = (goal.at.returns-then-is_wanted-clause-memo c).After-is_wanted in
    let new = c.store_match.new.self in
    let asked : MemoKey = (c.args.rule, c.args.start) in
    let after = memo_state (entries_in (linked_pairs new.nodes new.results)) 0 new.allocation_failed in
    let same : nodes_of c.is_wanted.new.self.nodes
    ≡ closed_at c.args.at (nodes_of c.args.self.now.nodes) c.args.rule c.args.start c.args.end =
    ap nodes_of c.is_wanted.ensures.nodes ∙ closed at in
    subst
    (λ (before : MemoState). IsOfferedAt before asked
    (StoredMatch c.args.end
    (drop c.args.at (closed_at c.args.at (nodes_of c.args.self.now.nodes) c.args.rule c.args.start c.args.end)))
    c.store_match.result after)
    (same_memo here)
    (subst
    (λ (rows : List Row). IsOfferedAt
    (memo_state (entries_in (linked_pairs c.is_wanted.new.self.nodes c.is_wanted.new.self.results)) 0 c.is_wanted.new.self.allocation_failed)
    asked (StoredMatch c.args.end (drop c.args.at rows)) c.store_match.result after)
    same c.store_match.ensures.memo)

pub returns-then-is_wanted-clause-cuts : goal.returns-then-is_wanted-clause-cuts
returns-then-is_wanted-clause-cuts c = λ count most cut.
    c.store_match.ensures.cuts count most
    (subst (λ (nodes : Linked). IsCut nodes count) (sym c.is_wanted.ensures.nodes)
    (c.close-index.ensures.cuts c.args.at c.requires.open count most cut))

pub returns-clause-nodes : goal.returns-clause-nodes
returns-clause-nodes c =
    let at = (goal.at.returns-clause-nodes c).After-close-index in
    ap nodes_of c.is_wanted.ensures.nodes ∙ closed at

pub returns-clause-memo : goal.returns-clause-memo
returns-clause-memo c =
    let here = (goal.at.returns-clause-memo c).After-is_wanted in
    let old = c.args.self.now in
    let entries = entries_in (linked_pairs old.nodes old.results) in
    subst
    (λ (after : MemoState). IsOfferedAt (memo_state entries 0 old.allocation_failed) (c.args.rule, c.args.start)
    (StoredMatch c.args.end
    (drop c.args.at (closed_at c.args.at (nodes_of old.nodes) c.args.rule c.args.start c.args.end))) false after)
    (sym (same_memo here))
    (offered-none entries (c.args.rule, c.args.start)
    (StoredMatch c.args.end
    (drop c.args.at (closed_at c.args.at (nodes_of old.nodes) c.args.rule c.args.start c.args.end))) old.allocation_failed)

pub returns-clause-cuts : goal.returns-clause-cuts
returns-clause-cuts c = λ count most cut.
    subst (λ (nodes : Linked). IsCut nodes count) (sym c.is_wanted.ensures.nodes)
    (c.close-index.ensures.cuts c.args.at c.requires.open count most cut)
