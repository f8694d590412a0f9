-- The effect of each instruction, and of backtracking, on the accounts of a run.
use Rattle.std.proofs.Common.{◌≡◌, ◌⊎◌, ℕ, ◌+◌, List, [], ◌∷◌, Contains, Some, length, drop, slice_get, refl, sym, ◌∙◌, ap}
use Rattle.std.proofs.Common.{subst}
use Rattle.peg_bytes.specs.ByteSet.{Bytes, has}
use Rattle.peg_tree.specs.Rows.{Row}
use Rattle.peg_semantics.specs.Record.{Record, RuleCall, matched_at, failed_at, test_of, byte_at}
use Rattle.peg_semantics.specs.Record as ford
use Rattle.peg_code.specs.Instructions.{Test, Ret, Choice, Commit, FailTwice}
use Rattle.peg_runs.specs.Accounts.{counting, Account, ReturnsToCaller, FailsItsCaller}
use Rattle.peg_runs.specs.Local.{Effects, SavedChoice, effects_of, only_steps, saved_choice}
use Rattle.peg_runs.specs.Running.{RunContext}
use Rattle.peg_runs.specs.OpenRows.{rows_after_match, close_row}
use Rattle.peg_runs.specs.Steps.{CallCounting, Own, Plain}
use Rattle.peg_runs.specs.PartialRuns.{ActiveCall, RunsAt, Backtracks, PartialRun, CallHasReturned}
use Rattle.peg_runs.proofs.AccountLemmas.{does_for_both}
use Rattle.peg_runs.proofs.InstructionEvents.{passes_on, test_fails_on, leaves_on, commits_on, fails_twice_on}
use Rattle.peg_runs.proofs.RowClosing.{close_row-closes}
use Rattle.peg_runs.proofs.PartialRunLemmas.{falls_back_on, returns_on, fails_on}

module _ (context : RunContext) (start : RuleCall) (answer : Record) (tests : List ford.Test) (traced : List RuleCall) (steps saved pc position : ℕ)
    (rows : List Row) (active : ActiveCall) (below : List ActiveCall)
    (account : Account context start answer tests traced steps saved (RunsAt pc position rows) (active ∷ below)) where
  pub passes_in_both : (set : Bytes) (terminal : ℕ) → slice_get context.code pc ≡ Some (Test set terminal)
      → byte_at (has set) terminal position (drop position context.text) ≡ matched_at (position + 1)
      → Account context start answer tests traced (steps + 1) saved (RunsAt (pc + 1) (position + 1) rows) (active ∷ below)
  passes_in_both set terminal is passes =
      does_for_both context start answer tests traced steps saved (RunsAt pc position rows) (active ∷ below) account
      (only_steps 1) refl tests (RunsAt (pc + 1) (position + 1) rows) (active ∷ below)
      (λ counted to_come partial_run. passes_on (counting counted context) start answer tests traced to_come pc position rows active below
      partial_run set terminal is passes)

  pub test_fails_in_both : (set : Bytes) (terminal : ℕ) (more_tests : List ford.Test)
      → slice_get context.code pc ≡ Some (Test set terminal)
      → byte_at (has set) terminal position (drop position context.text) ≡ failed_at terminal position
      → ((test : ford.Test) → Contains tests test → Contains more_tests test) → Contains more_tests (test_of terminal position)
      → ((test : ford.Test) → Contains more_tests test → Contains tests test ⊎ (test_of terminal position ≡ test))
      → Account context start answer more_tests traced (steps + 1) saved Backtracks (active ∷ below)
  test_fails_in_both set terminal more_tests is fails may_store noted adds =
      does_for_both context start answer tests traced steps saved (RunsAt pc position rows) (active ∷ below) account
      (effects_of (failed_at terminal position) 1) refl more_tests Backtracks (active ∷ below)
      (λ counted to_come partial_run. test_fails_on (counting counted context) start answer tests traced to_come pc position rows active
      below partial_run set terminal more_tests is fails may_store noted adds)

  pub leaves_in_both : (target : ℕ) → slice_get context.code pc ≡ Some (Choice target)
      → Account context start answer tests traced (steps + 1) saved (RunsAt (pc + 1) position rows)
      (record active { choice_points = saved_choice target position rows ∷ active.choice_points } ∷ below)
  leaves_in_both target is =
      does_for_both context start answer tests traced steps saved (RunsAt pc position rows) (active ∷ below) account
      (only_steps 1) refl tests (RunsAt (pc + 1) position rows) (record active { choice_points = saved_choice target position rows ∷ active.choice_points } ∷ below)
      (λ counted to_come partial_run. leaves_on (counting counted context) start answer tests traced to_come pc position rows active below
      partial_run target is)

  pub commits_in_both : (target : ℕ) → slice_get context.code pc ≡ Some (Commit target)
      → (choice_point : SavedChoice) × (choice_points : List SavedChoice) × (active.choice_points ≡ choice_point ∷ choice_points)
      × Account context start answer tests traced (steps + 1) saved (RunsAt target position rows) (record active { choice_points = choice_points } ∷ below)
  commits_in_both target is =
      let own = commits_on (counting Own context) start answer tests traced account.own_left pc position rows active below account.own
      target is in (
        own.0,
        own.1,
        own.3,
        does_for_both context start answer tests traced steps saved (RunsAt pc position rows) (active ∷ below) account
            (only_steps 1) refl tests (RunsAt target position rows) (record active { choice_points = own.1 } ∷ below)
            (λ counted to_come partial_run.
            let done = commits_on (counting counted context) start answer tests traced to_come pc position rows active below partial_run target
            is in
            let same : done.1 ≡ own.1 = (let one = own.3 in let other = done.3 in cc) in (
              done.2,
              done.4,
              subst
                  (λ (choice_points : List SavedChoice). PartialRun (counting counted context) start answer tests traced done.2 (RunsAt target position rows)
                  (record active { choice_points = choice_points } ∷ below))
                  same done.5,
            )),
      )

  pub fails_twice_in_both : slice_get context.code pc ≡ Some FailTwice
      → (choice_point : SavedChoice) × (choice_points : List SavedChoice) × (active.choice_points ≡ choice_point ∷ choice_points)
      × Account context start answer tests traced (steps + 1) saved Backtracks (record active { choice_points = choice_points } ∷ below)
  fails_twice_in_both is =
      let own = fails_twice_on (counting Own context) start answer tests traced account.own_left pc position rows active below
      account.own is in (
        own.0,
        own.1,
        own.3,
        does_for_both context start answer tests traced steps saved (RunsAt pc position rows) (active ∷ below) account
            (only_steps 1) refl tests Backtracks (record active { choice_points = own.1 } ∷ below)
            (λ counted to_come partial_run.
            let done = fails_twice_on (counting counted context) start answer tests traced to_come pc position rows active below partial_run is in
            let same : done.1 ≡ own.1 = (let one = own.3 in let other = done.3 in cc) in (
              done.2,
              done.4,
              subst
                  (λ (choice_points : List SavedChoice). PartialRun (counting counted context) start answer tests traced done.2 Backtracks
                  (record active { choice_points = choice_points } ∷ below))
                  same done.5,
            )),
      )

module _ (context : RunContext) (start : RuleCall) (answer : Record) (tests : List ford.Test) (traced : List RuleCall) (steps saved : ℕ)
    (active : ActiveCall) (below : List ActiveCall) where
  pub falls_back_in_both : (choice_point : SavedChoice) (choice_points : List SavedChoice) → active.choice_points ≡ choice_point ∷ choice_points
      → Account context start answer tests traced steps saved Backtracks (active ∷ below)
      → Account context start answer tests traced steps saved (RunsAt choice_point.pc choice_point.position choice_point.rows)
      (record active { choice_points = choice_points } ∷ below)
  falls_back_in_both choice_point choice_points are account = record {
    own_left = account.own_left;
    own = falls_back_on (counting Own context) start answer tests traced account.own_left active below choice_point choice_points are account.own;
    own_steps = account.own_steps;
    plain_left = account.plain_left;
    plain = falls_back_on (counting Plain context) start answer tests traced account.plain_left active below choice_point choice_points are
        account.plain;
    n = account.n;
    plain_steps = account.plain_steps;
    in_order = account.in_order;
  }

module _ (context : RunContext) (start : RuleCall) (answer : Record) (tests : List ford.Test) (traced : List RuleCall) (steps saved : ℕ)
    (active caller : ActiveCall) (below : List ActiveCall) where
  -- nodes closed with their children are the list with the node closed in place
  closed_rows : (rows : List Row) (position : ℕ) (counted : CallCounting) (to_come : Effects)
      (return_pc : CallHasReturned (counting counted context) start answer tests traced to_come position rows active caller below)
      → rows_after_match context.shown active.frame.before active.frame.pair position return_pc.children
      ≡ close_row context.shown (length active.frame.before) rows active.frame.pair position
  closed_rows rows position counted to_come return_pc =
      sym (close_row-closes context.shown active.frame.before active.frame.pair position return_pc.children)
      ∙ ap (λ (rows : List Row). close_row context.shown (length active.frame.before) rows active.frame.pair position) return_pc.nodes_after

  pub returns_in_both : (pc position : ℕ) (rows : List Row)
      → Account context start answer tests traced steps saved (RunsAt pc position rows) (active ∷ caller ∷ below)
      → slice_get context.code pc ≡ Some Ret
      → ReturnsToCaller context start answer tests traced steps saved position rows active caller below
  returns_in_both pc position rows account is =
      let own = returns_on (counting Own context) start answer tests traced account.own_left pc position rows active caller below
      account.own is in
      record {
        no_choice_point = own.no_choice_point;
        children = own.children;
        nodes_after = own.nodes_after;
        r = own.r;
        matched = own.matched;
        may_be_stored = record { recorded = own.may_be_stored.recorded; noted = own.may_be_stored.noted };
        account = does_for_both context start answer tests traced steps saved (RunsAt pc position rows) (active ∷ caller ∷ below) account
            (only_steps 1) refl tests
            (RunsAt active.frame.return_pc position (close_row context.shown (length active.frame.before) rows active.frame.pair position))
            (caller ∷ below)
            (λ counted to_come partial_run.
            let return_pc = returns_on (counting counted context) start answer tests traced to_come pc position rows active caller below
            partial_run is in (
              return_pc.left,
              return_pc.remains,
              subst
                  (λ (all : List Row). PartialRun (counting counted context) start answer tests traced return_pc.left
                  (RunsAt active.frame.return_pc position all) (caller ∷ below))
                  (closed_rows rows position counted to_come return_pc) return_pc.partial_run,
            ));
      }

  pub fails_in_both : Account context start answer tests traced steps saved Backtracks (active ∷ caller ∷ below) → active.choice_points ≡ []
      → FailsItsCaller context start answer tests traced steps saved active caller below
  fails_in_both account none =
      let own = fails_on (counting Own context) start answer tests traced account.own_left active caller below account.own none in
      let plain = fails_on (counting Plain context) start answer tests traced account.plain_left active caller below account.plain
      none in
      record {
        r = own.r;
        failed = own.failed;
        may_be_stored = record { recorded = own.may_be_stored.recorded; noted = own.may_be_stored.noted };
        account = record {
          own_left = account.own_left;
          own = own.partial_run;
          own_steps = account.own_steps;
          plain_left = account.plain_left;
          plain = plain.partial_run;
          n = account.n;
          plain_steps = account.plain_steps;
          in_order = account.in_order;
        };
      }
