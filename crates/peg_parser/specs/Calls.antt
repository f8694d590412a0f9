-- The calls of rules in Ford's record of a text (Ford 2004, section 3.3; Ford 2002, section 3).
use Rattle.std.specs.Prelude.{◌≡◌, ◌↔◌, ◌+◌, ℕ, List, ◌++◌, Contains, Option, Some}
use Rattle.peg_core.specs.CoreForm.{core_bodies, number_of}
use Rattle.peg_runs.specs.Accounts.{OwnSteps}
use Rattle.peg_machine.specs.CoreOutcome.{saturated}
use Rattle.peg_machine.specs.Traced.{OwnStepsExceed, end_of_run}
use Rattle.peg_machine.specs.declared.answer.Answer.{Answer}
use Rattle.peg_semantics.specs.Record.{Record, RuleCall}
use Rattle.peg_semantics.specs.Rules.{Rule}
use Rattle.peg_semantics.specs.Starts.{Recognizes}
use Rattle.peg_tree.specs.declared.outcome.Parsed.{Parsed}

-- The calls are, as a set, those of Ford's record of a text from the start rule with this name. Calls in abandoned
-- alternatives and in predicates count too.
abbrev pub AreCallsOf : List Rule → List ℕ → (start : List ℕ) → List RuleCall → Type 0
AreCallsOf rules text start calls =
    (r : Record) × Recognizes rules text start r × ((call : RuleCall) → (Contains calls call ↔ Contains r.calls call))

-- The calls are those of Ford's record of a text from the start rule with this name, in order, each as often as it is
-- made.
abbrev pub AreCallsInOrder : List Rule → List ℕ → (start : List ℕ) → List RuleCall → Type 0
AreCallsInOrder rules text start calls = (r : Record) × Recognizes rules text start r × (calls ≡ r.calls)

-- The calls are the first ones of Ford's record of a text from the start rule with this name, in order.
abbrev pub AreFirstCalls : List Rule → List ℕ → (start : List ℕ) → List RuleCall → Type 0
AreFirstCalls rules text start calls =
    (r : Record) × (later : List RuleCall) × Recognizes rules text start r × (r.calls ≡ calls ++ later)

-- the call is one of Ford's record of a text from the start rule with this name
abbrev pub IsCallOf : List Rule → List ℕ → (start : List ℕ) → RuleCall → Type 0
IsCallOf rules text start call = (r : Record) × Recognizes rules text start r × Contains r.calls call

-- the calls are some of Ford's record of a text from the start rule with this name
abbrev pub AreSomeCalls : List Rule → List ℕ → (start : List ℕ) → List RuleCall → Type 0
AreSomeCalls rules text start calls = (call : RuleCall) → Contains calls call → IsCallOf rules text start call

-- The calls are some of Ford's record of a text from the start rule with this name. There is a limit of steps, and the
-- steps of the bodies of these calls alone are more than the limit.
pub record AreCallsSoFar (rules : List Rule) (text start : List ℕ) (max_steps : Option ℕ) (calls : List RuleCall)
    : Type 0 where
  pub of_record : AreSomeCalls rules text start calls
  pub limit : ℕ
  pub own : ℕ
  pub asked : max_steps ≡ Some limit
  pub own_steps : OwnSteps (core_bodies rules) text calls own
  pub exceed : OwnStepsExceed (core_bodies rules) text (number_of rules start) limit own

-- a tracer got the calls of the record, in order
abbrev pub TracesCallsInOrder : List Rule → List ℕ → (start : List ℕ) → (gets : List RuleCall → Type 0) → Type 0
TracesCallsInOrder rules text start gets = (r : Record) × Recognizes rules text start r × gets r.calls

-- A parse that met its step limit had shown a tracer some calls of the record, and without a memo the first ones, in
-- order.
abbrev pub TracesCallsSoFar : List Rule → List ℕ → (start : List ℕ) → (memo : ℕ) → (max_steps : Option ℕ)
    → (gets : List RuleCall → Type 0) → Type 0
TracesCallsSoFar rules text start memo max_steps gets =
    (calls : List RuleCall) × gets calls × AreCallsSoFar rules text start max_steps calls
    × (memo ≡ 0 → AreFirstCalls rules text start calls)

-- a parse that ran out of memory had shown a tracer some calls of the record
abbrev pub TracesSomeCalls : List Rule → List ℕ → (start : List ℕ) → (gets : List RuleCall → Type 0) → Type 0
TracesSomeCalls rules text start gets = (calls : List RuleCall) × gets calls × AreSomeCalls rules text start calls

-- The steps are the own steps of the bodies of calls, and one more for the end of a match.
abbrev pub AreStepsOf : List Rule → List ℕ → List RuleCall → Parsed → (steps : ℕ) → Type 0
AreStepsOf rules text calls result steps =
    (own : ℕ) × OwnSteps (core_bodies rules) text calls own × (steps ≡ saturated (own + end_of_run result))

-- The steps of an answer are those of the bodies of some calls, and one more for the end of a match. The calls are, as a
-- set, those of Ford's record of a text from the start rule with this name.
pub record IsSumOfSteps (rules : List Rule) (text start : List ℕ) (answer : Answer) : Type 0 where
  pub calls : List RuleCall
  pub of_record : AreCallsOf rules text start calls
  pub steps : AreStepsOf rules text calls answer.outcome.result answer.steps

-- A tracer got these calls. So the calls shown are, as a set, those of the record, and the steps of the answer are those
-- of their bodies, each as often as it was shown.
abbrev pub TracesCallsOf : List Rule → List ℕ → (start : List ℕ) → Answer → (gets : List RuleCall → Type 0) → Type 0
TracesCallsOf rules text start answer gets = (sum : IsSumOfSteps rules text start answer) × gets sum.calls
