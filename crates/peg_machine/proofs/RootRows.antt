-- The nodes of the start, and nodes that are closed.
use Rattle.std.proofs.Common.{◌≡◌, ◌≤◌, ℕ, ◌-◌, List, [], ◌∷◌, ◌++◌, length, set, take, sym, ◌∙◌, ap, arith, true, false}
use Rattle.std.proofs.lemmas.Bool.{cond-false, cond-true}
use Rattle.std.proofs.lemmas.List.{length-set}
use Rattle.peg_tree.specs.Rows.{Row}
use Rattle.peg_semantics.specs.Record.{RuleCall}
use Rattle.peg_machine.specs.Entries.{Entry, stack_of, CountsAscend}
use Rattle.peg_runs.specs.OpenRows.{open_row, opened, own_rows, root_rows, close_row}
use Rattle.peg_runs.specs.ShownRows.{Shown}
use Rattle.peg_machine.proofs.EntryLemmas.{stack_of-changed_row}
use Rattle.peg_runs.proofs.ShownLemmas.{by_answer, own_rows-hidden, own_rows-shown, root_rows-hidden, root_rows-shown}

-- ---- the root

module _ (shown : Shown) (start : RuleCall) where
  -- the root is the only node at the start, whether it is the start's own or not
  pub root-opened : opened shown (root_rows shown start) start ≡ open_row start ∷ []
  root-opened =
      by_answer (shown start.rule)
      (λ is.
      ap (λ (root : List Row). root ++ own_rows shown start) (root_rows-shown shown start is)
      ∙ own_rows-shown shown start is)
      (λ is.
      ap (λ (root : List Row). root ++ own_rows shown start) (root_rows-hidden shown start is)
      ∙ ap (λ (own : List Row). open_row start ∷ own) (own_rows-hidden shown start is))

  pub root-within : length (root_rows shown start) ≤ 1
  root-within =
      by_answer (shown start.rule) (λ is. omega (arith, ap length (root_rows-shown shown start is)))
      (λ is. omega (arith, ap length (root_rows-hidden shown start is)))

  pub root-taken : take (length (root_rows shown start)) (open_row start ∷ []) ≡ root_rows shown start
  root-taken =
      by_answer (shown start.rule)
      (λ is.
      ap (λ (root : List Row). take (length root) (open_row start ∷ [])) (root_rows-shown shown start is)
      ∙ sym (root_rows-shown shown start is))
      (λ is.
      ap (λ (root : List Row). take (length root) (open_row start ∷ [])) (root_rows-hidden shown start is)
      ∙ sym (root_rows-hidden shown start is))

-- ---- a node that is closed

module _ (shown : Shown) (rows : List Row) (at : ℕ) (pair : RuleCall) (end : ℕ) where
  abbrev closed : Row
  closed = record { rule = pair.rule; start = pair.position; end = end; size = length rows - at }

  set-row : shown pair.rule ≡ true → close_row shown at rows pair end ≡ set rows at closed
  set-row is = cond-true (shown pair.rule) (set rows at closed) rows is

  same-rows : shown pair.rule ≡ false → close_row shown at rows pair end ≡ rows
  same-rows is = cond-false (shown pair.rule) (set rows at closed) rows is

  -- there are as many nodes as before
  pub length-close_row : length (close_row shown at rows pair end) ≡ length rows
  length-close_row =
      by_answer (shown pair.rule) (λ is. ap length (set-row is) ∙ length-set rows at closed) (λ is. ap length (same-rows is))

  -- entries with fewer nodes denote the same stack
  pub stack_of-closed_row : (entries : List Entry) → CountsAscend 0 at entries
      → stack_of (close_row shown at rows pair end) entries ≡ stack_of rows entries
  stack_of-closed_row entries ascends =
      by_answer (shown pair.rule)
      (λ is. ap (λ (all : List Row). stack_of all entries) (set-row is) ∙ stack_of-changed_row rows at closed entries ascends)
      (λ is. ap (λ (all : List Row). stack_of all entries) (same-rows is))
