-- How a run starts, and how a call enters the body of its rule.
use Rattle.std.specs.Prelude.{◌≡◌, ℕ, ◌+◌, List, [], ◌∷◌, Some, slice_get}
use Rattle.peg_tree.specs.Rows.{Row}
use Rattle.peg_semantics.specs.Record.{Record, RuleCall, as_call}
use Rattle.peg_runs.specs.Local.{Effects, effects_of, then_effects}
use Rattle.peg_runs.specs.OpenRows.{opened, root_rows}
use Rattle.peg_runs.specs.Running.{RunContext, CallTask, new_task, steps_of_call, RunsAsExpected}
use Rattle.peg_runs.specs.Steps.{body_steps_in}

-- A run has started with a call whose body has this record. It is at the entry of the call's rule, with the call's
-- node open.
pub record RunStart (context : RunContext) (entries : List ℕ) (pair : RuleCall) (answer : Record) : Type 0 where
  pub entry : ℕ
  pub enters : slice_get entries pair.rule ≡ Some entry
  pub rounds : ℕ
  pub steps : ℕ
  pub counts : body_steps_in context.counted 1 context.bodies context.text rounds pair.rule pair.position ≡ Some steps
  pub as_expected : RunsAsExpected context entry pair.position
      (opened context.shown (root_rows context.shown pair) pair) (new_task pair 0 (root_rows context.shown pair) rounds
      (effects_of answer steps)) []

-- A call has entered the body of its rule: it is at the entry of the rule, with its node open. The caller's remaining
-- work is the work of the call's record, at the cost of the call, and the rest after its return.
pub record CallStart (context : RunContext) (entries : List ℕ) (pc : ℕ) (rows : List Row) (task : CallTask)
    (older : List CallTask)
    (pair : RuleCall) : Type 0 where
  pub entry : ℕ
  pub enters : slice_get entries pair.rule ≡ Some entry
  pub rounds : ℕ
  pub answer : Record
  pub steps : ℕ
  pub counts : body_steps_in context.counted 1 context.bodies context.text rounds pair.rule pair.position ≡ Some steps
  pub rest : Effects
  pub costs : task.to_come
      ≡ then_effects (effects_of (as_call pair.rule pair.position answer) (steps_of_call context.counted steps)) rest
  pub as_expected : RunsAsExpected context entry pair.position (opened context.shown rows pair)
      (new_task pair (pc + 1) rows rounds (effects_of answer steps)) (record task { to_come = rest } ∷ older)
