-- The tasks of a run together: the newest record is part of the start's, and no call is active twice.
use Rattle.std.proofs.Common.{◌≡◌, ◌≢◌, ℕ, ◌<◌, ◌≤◌, List, [], ◌∷◌, ◌++◌, All, Contains, Option, Some, slice_get, ap}
use Rattle.std.proofs.Common.{subst, arith}
use Rattle.std.proofs.lemmas.List.Elements.{All-nil, All-cons, Contains-append_left, Contains-append_right}
use Rattle.peg_tree.specs.Rows.{Row}
use Rattle.peg_semantics.specs.Record.{Record, RuleCall, as_call}
use Rattle.peg_semantics.specs.Record as ford
use Rattle.peg_core.specs.CoreForm.{CoreForm}
use Rattle.peg_core.specs.CoreRecord.{core_record_in, IsCoreRecord}
use Rattle.peg_runs.specs.Local.{Effects, effects_of, then_effects, BodyResult, continue_after, run_local}
use Rattle.peg_runs.specs.Running.{RunContext, body_context_of, Expectation, Frame, CallTask, with_done, cost_of, AreSuspended, oldest_call}
use Rattle.peg_runs.proofs.Stacks.{awaited}

module _ (context : RunContext) where
  -- ---- the newest record is part of the start's

  -- The start has a record, which includes the tests and the calls of the newest task's record.
  pub within_the_start : (n : ℕ) (called : Frame) (done to_come : Effects) (later : ℕ → Option BodyResult) (older : List CallTask)
      (promise : Expectation context n called.pair called.before done to_come later) → AreSuspended context n called older
      → (body : CoreForm) × (all : Record)
      × (slice_get context.bodies (oldest_call called.pair older).rule ≡ Some body)
      × IsCoreRecord context.bodies context.text body (oldest_call called.pair older).position all
      × ((test : ford.Test) → Contains promise.answer.tests test → Contains all.tests test)
      × ((other : RuleCall) → Contains (called.pair ∷ promise.answer.calls) other
      → Contains (oldest_call called.pair older ∷ all.calls) other)
  within_the_start n called done to_come later [] promise wait =
      (promise.body, promise.answer, promise.is_body, (n, promise.recorded.recorded), λ test has. has, λ other has. has)
  within_the_start n called done to_come later (task ∷ older) promise wait =
      let same = awaited context promise wait.0 in
      let work = with_done task (effects_of wait.0.answer (cost_of context task called.pair)) task.to_come in
      let above = within_the_start task.rounds task.frame work.done task.to_come
      (λ k. continue_after context.shown (run_local (body_context_of context task.rounds) k) wait.0.answer.result called.return_pc called.before task.choice_points)
      older wait.0.holds wait.1 in
      let tests : task.done.tests ++ wait.0.answer.tests ++ task.to_come.tests ≡ wait.0.holds.answer.tests =
      ap (λ (w : Effects). w.tests) wait.0.holds.whole in
      let calls : task.done.calls ++ wait.0.answer.calls ++ task.to_come.calls ≡ wait.0.holds.answer.calls =
      ap (λ (w : Effects). w.calls) wait.0.holds.whole in
      let answer_tests : promise.answer.tests ≡ wait.0.answer.tests = ap (λ (r : Record). r.tests) same in
      let answer_uses : called.pair ∷ promise.answer.calls ≡ wait.0.answer.calls = ap (λ (r : Record). r.calls) same in (
        above.0,
        above.1,
        above.2,
        above.3,
        (λ test has.
            above.4 test
            (subst (λ (l : List ford.Test). Contains l test) tests
            (Contains-append_left (task.done.tests ++ wait.0.answer.tests) task.to_come.tests test
            (Contains-append_right task.done.tests wait.0.answer.tests test
            (subst (λ (l : List ford.Test). Contains l test) answer_tests has))))),
        (λ other has.
            above.5 other
            (Contains-append_right (task.frame.pair ∷ []) wait.0.holds.answer.calls other
            (subst (λ (l : List RuleCall). Contains l other) calls
            (Contains-append_left (task.done.calls ++ wait.0.answer.calls) task.to_come.calls other
            (Contains-append_right task.done.calls wait.0.answer.calls other
            (subst (λ (l : List RuleCall). Contains l other) answer_uses has)))))),
      )

  -- ---- no call twice

  -- two calls of one rule at one position have their first record at the same depth
  not_before : {n m : ℕ} {pair : RuleCall} {before other_before : List Row} {done to_come other_done other_to_come : Effects}
      {later other_later : ℕ → Option BodyResult} → Expectation context n pair before done to_come later
      → Expectation context m pair other_before other_done other_to_come other_later → n < m → ⊥
  not_before {n} {m} {pair} first second less =
      let is_first = first.is_body in
      let is_second = second.is_body in
      let same : first.body ≡ second.body = cc in
      let there = first.recorded.recorded in
      let none = second.recorded.none_before n less in
      let also = ap (λ (body : CoreForm). core_record_in context.bodies context.text n body pair.position) same in
      cc

  -- A call is active once: no older task has the pair of a newer one.
  pub no_pair_twice : (n m : ℕ) (pair : RuleCall) (before : List Row) (done to_come : Effects) (later : ℕ → Option BodyResult)
      (called : Frame) (older : List CallTask) → Expectation context n pair before done to_come later → n ≤ m → AreSuspended context m called older
      → All (λ (task : CallTask). task.frame.pair ≢ pair) older
  no_pair_twice n m pair before done to_come later called [] promise less wait =
      All-nil (λ (task : CallTask). task.frame.pair ≢ pair)
  no_pair_twice n m pair before done to_come later called (task ∷ older) promise less wait =
      let deeper : m < task.rounds = wait.0.deeper in
      let below : n < task.rounds = omega arith in
      let within : n ≤ task.rounds = omega arith in
      All-cons (λ (task : CallTask). task.frame.pair ≢ pair) task older
      (λ same. not_before promise
      (subst
      (λ (other : RuleCall). Expectation context task.rounds other task.frame.before
      (then_effects task.done (effects_of wait.0.answer (cost_of context task called.pair))) task.to_come
      (λ k. continue_after context.shown (run_local (body_context_of context task.rounds) k) wait.0.answer.result called.return_pc called.before task.choice_points))
      same wait.0.holds)
      below)
      (no_pair_twice n task.rounds pair before done to_come later task.frame older promise within wait.1)
