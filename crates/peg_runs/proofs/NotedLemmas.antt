-- Noted work stays noted, and the record of a task that has ended is noted.
use Rattle.std.proofs.Common.{◌≡◌, ◌⊎◌, inl, inr, ℕ, ◌<◌, List, [], ◌∷◌, Contains, Option, subst, arith, get_or, zero}
use Rattle.std.proofs.Common.{suc}
use Rattle.std.proofs.lemmas.List.Elements.{Contains-append_cases}
use Rattle.peg_tree.specs.Rows.{Row}
use Rattle.peg_semantics.specs.Record.{Test, RuleCall, Record, as_call}
use Rattle.peg_runs.specs.Local.{Effects, only_steps, effects_of, then_effects, BodyResult}
use Rattle.peg_runs.specs.Running.{RunContext, Expectation, CallTask, with_done, resume_task, new_task, cost_of}
use Rattle.peg_runs.specs.Noted.{IsNoted, TaskNoted}

-- an empty list has no element
pub not_in_none : {X : Type 0} (x : X) → Contains {X = X} [] x → ⊥
not_in_none x has = let within : has.0 < 0 = has.1 in omega arith

-- an element of a list is its first one, or in the rest
pub head_or_tail : {X : Type 0} (first : X) (rest : List X) (x : X) → Contains (first ∷ rest) x → (first ≡ x) ⊎ Contains rest x
head_or_tail {X} first rest x has =
    elim (Contains-append_cases (first ∷ []) rest x has) as (λ _. (first ≡ x) ⊎ Contains rest x) [
      | inl one ↦ inl (only one)
      | inr other ↦ inr other
    ]
  where
    only : Contains (first ∷ []) x → first ≡ x
    only one = by one.0 one.1 one.2
      where
        by : (k : ℕ) → k < 1 → get_or (first ∷ []) k x ≡ x → first ≡ x
        by zero less is = is
        by (suc k) less is = absurd (omega arith)

module _ (tests : List Test) (calls : List RuleCall) where
  -- steps alone need no note
  pub noted_steps : (steps : ℕ) → IsNoted tests calls (only_steps steps)
  noted_steps steps = record {
    tests_noted = λ test has. absurd (not_in_none test has);
    uses_noted = λ pair has. absurd (not_in_none pair has);
  }

  -- the concatenation of noted works is noted
  pub noted_both : (first second : Effects) → IsNoted tests calls first → IsNoted tests calls second
      → IsNoted tests calls (then_effects first second)
  noted_both first second one other = record {
    tests_noted = λ test has.
        elim (Contains-append_cases first.tests second.tests test has) as (λ _. Contains tests test) [
          | inl has ↦ one.tests_noted test has
          | inr has ↦ other.tests_noted test has
        ];
    uses_noted = λ pair has.
        elim (Contains-append_cases first.calls second.calls pair has) as (λ _. Contains calls pair) [
          | inl has ↦ one.uses_noted pair has
          | inr has ↦ other.uses_noted pair has
        ];
  }

  -- the same record with other steps
  pub noted_record : (r : Record) (steps other : ℕ) → IsNoted tests calls (effects_of r steps)
      → IsNoted tests calls (effects_of r other)
  noted_record r steps other noted = record { tests_noted = noted.tests_noted; uses_noted = noted.uses_noted }

  -- a record with its call, if the call is noted
  pub noted_use : (pair : RuleCall) (r : Record) (steps other : ℕ) → Contains calls pair → IsNoted tests calls (effects_of r steps)
      → IsNoted tests calls (effects_of (as_call pair.rule pair.position r) other)
  noted_use pair r steps other new_task noted = record {
    tests_noted = noted.tests_noted;
    uses_noted = λ other has.
        elim (head_or_tail pair r.calls other has) as (λ _. Contains calls other) [
          | inl same ↦ subst (λ (p : RuleCall). Contains calls p) same new_task
          | inr has ↦ noted.uses_noted other has
        ];
  }

  -- a new task has done no work
  pub noted_begun : (pair : RuleCall) (return_pc : ℕ) (before : List Row) (rounds : ℕ) (to_come : Effects) → Contains calls pair
      → TaskNoted tests calls (new_task pair return_pc before rounds to_come)
  noted_begun pair return_pc before rounds to_come is = record { begun = is; done = noted_steps 0 }

  -- a task after more work that is noted
  pub noted_worked : (task : CallTask) (work rest : Effects) → TaskNoted tests calls task → IsNoted tests calls work
      → TaskNoted tests calls (with_done task work rest)
  noted_worked task work rest task_noted noted = record {
    begun = task_noted.begun;
    done = noted_both task.done work task_noted.done noted;
  }

  -- the record of a task is noted when only steps remain
  pub noted_end : (context : RunContext) (n : ℕ) (pair : RuleCall) (before : List Row) (done : Effects) (later : ℕ → Option BodyResult) (steps : ℕ)
      (promise : Expectation context n pair before done (only_steps steps) later) → IsNoted tests calls done
      → IsNoted tests calls (effects_of promise.answer promise.steps)
  noted_end context n pair before done later steps promise noted =
      subst (IsNoted tests calls) promise.whole (noted_both done (only_steps steps) noted (noted_steps steps))

  -- and so is the work of its caller then
  pub noted_resumed : (context : RunContext) (task : CallTask) (pair : RuleCall) (r : Record) (steps : ℕ) → TaskNoted tests calls task
      → Contains calls pair → IsNoted tests calls (effects_of r steps) → TaskNoted tests calls (resume_task context task pair r)
  noted_resumed context task pair r steps task_noted new_task noted =
      noted_worked task (effects_of (as_call pair.rule pair.position r) (cost_of context task pair)) task.to_come task_noted
      (noted_use pair r steps (cost_of context task pair) new_task noted)

  -- noted work stays noted when more is noted
  pub noted_more : (more_tests : List Test) (more_uses : List RuleCall)
      → ((test : Test) → Contains tests test → Contains more_tests test)
      → ((pair : RuleCall) → Contains calls pair → Contains more_uses pair)
      → (task : CallTask) → TaskNoted tests calls task → TaskNoted more_tests more_uses task
  noted_more more_tests more_uses keeps_tests keeps_uses task noted = record {
    begun = keeps_uses task.frame.pair noted.begun;
    done = record {
      tests_noted = λ test has. keeps_tests test (noted.done.tests_noted test has);
      uses_noted = λ pair has. keeps_uses pair (noted.done.uses_noted pair has);
    };
  }
