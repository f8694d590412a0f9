-- Closing the node of a call completes its tree in the list of nodes.
use Rattle.std.proofs.Common.{◌≡◌, ℕ, ◌+◌, ◌-◌, List, [], ◌∷◌, ◌++◌, length, set, sym, ◌∙◌, ap, arith}
use Rattle.std.proofs.Common.{length-append, append_assoc, append-nil, true, false}
use Rattle.std.proofs.Math.Seq.{set-append_seam}
use Rattle.std.proofs.lemmas.Bool.{cond-false, cond-true}
use Rattle.peg_tree.specs.Rows.{Row}
use Rattle.peg_tree.specs.Trees.{Trees}
use Rattle.peg_semantics.specs.Record.{RuleCall}
use Rattle.peg_runs.specs.OpenRows.{open_row, opened, rows_after_match, close_row}
use Rattle.peg_runs.specs.ShownRows.{shown_rows, Shown}
use Rattle.peg_runs.proofs.ShownLemmas.{by_answer, own_rows-hidden, own_rows-shown, shown_rows-hidden, shown_rows-shown}

module _ (shown : Shown) (before : List Row) (pair : RuleCall) (end : ℕ) (trees : Trees) where
  abbrev closed : (size : ℕ) → Row
  closed size = record { rule = pair.rule; start = pair.position; end = end; size = size }

  -- a node that is shown is at the index of the number of nodes before it; closing it gives the root of the call's tree
  shown-closes : shown pair.rule ≡ true
      → close_row shown (length before) (opened shown before pair ++ shown_rows shown trees) pair end
      ≡ rows_after_match shown before pair end trees
  shown-closes is =
      let inner = shown_rows shown trees in
      let rows = opened shown before pair ++ inner in
      let all : rows ≡ before ++ open_row pair ∷ inner =
      ap (λ (own : List Row). (before ++ own) ++ inner) (own_rows-shown shown pair is)
      ∙ append_assoc before (open_row pair ∷ []) inner in
      let count = ap length all ∙ length-append before (open_row pair ∷ inner) in
      let size : length rows - length before ≡ 1 + length inner = omega arith in
      cond-true (shown pair.rule) (set rows (length before) (closed (length rows - length before))) rows is
      ∙ ap (λ (n : ℕ). set rows (length before) (closed n)) size
      ∙ ap (λ (rows : List Row). set rows (length before) (closed (1 + length inner))) all
      ∙ set-append_seam before (open_row pair) inner (closed (1 + length inner))
      ∙ sym (ap (λ (rows : List Row). before ++ rows) (shown_rows-shown shown pair.rule pair.position end trees is))

  -- a call without a node has the nodes of its children
  hidden-closes : shown pair.rule ≡ false
      → close_row shown (length before) (opened shown before pair ++ shown_rows shown trees) pair end
      ≡ rows_after_match shown before pair end trees
  hidden-closes is =
      let inner = shown_rows shown trees in
      let rows = opened shown before pair ++ inner in
      cond-false (shown pair.rule) (set rows (length before) (closed (length rows - length before))) rows is
      ∙ ap (λ (own : List Row). (before ++ own) ++ inner) (own_rows-hidden shown pair is)
      ∙ ap (λ (rows : List Row). rows ++ inner) (append-nil before)
      ∙ sym (ap (λ (rows : List Row). before ++ rows) (shown_rows-hidden shown pair.rule pair.position end trees is))

  pub close_row-closes : close_row shown (length before) (opened shown before pair ++ shown_rows shown trees) pair end
      ≡ rows_after_match shown before pair end trees
  close_row-closes = by_answer (shown pair.rule) shown-closes hidden-closes
