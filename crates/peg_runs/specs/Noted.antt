-- What a run has noted: the failed tests so far, and the calls made.
use Rattle.std.specs.Prelude.{List, Contains}
use Rattle.peg_semantics.specs.Record.{Test, RuleCall}
use Rattle.peg_runs.specs.Local.{Effects}
use Rattle.peg_runs.specs.Running.{CallTask}

-- the failed tests and the calls of some work are noted
pub record IsNoted (tests : List Test) (calls : List RuleCall) (work : Effects) : Type 0 where
  pub tests_noted : (test : Test) → Contains work.tests test → Contains tests test
  pub uses_noted : (pair : RuleCall) → Contains work.calls pair → Contains calls pair

-- the work that a task has done is noted, and so is the task's call
pub record TaskNoted (tests : List Test) (calls : List RuleCall) (task : CallTask) : Type 0 where
  pub begun : Contains calls task.frame.pair
  pub done : IsNoted tests calls task.done
