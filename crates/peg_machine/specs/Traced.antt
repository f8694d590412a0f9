-- The calls that a run reports to a tracer.
use Rattle.std.specs.Prelude.{◌≡◌, ◌≢◌, ◌↔◌, ◌⊎◌, ℕ, ◌+◌, ◌*◌, ◌<◌, ◌≤◌, Bool, false, IsTrue}
use Rattle.std.specs.Prelude.{List, ◌∷◌, ◌++◌, Contains, length, Option, Some, Result, Ok, Err}
use Rattle.std.specs.List.{AllPairs}
use Rattle.peg_tree.specs.Trees.{Trees}
use Rattle.peg_semantics.specs.Record.{Matched as MatchedTo, Record, RuleCall}
use Rattle.peg_tree.specs.declared.outcome.Parsed.{Parsed}
use Rattle.peg_tree.specs.declared.outcome.Parsed.TheVariants.{Matched, Failed}
use Rattle.peg_core.specs.CoreForm.{CoreForm, Rule}
use Rattle.peg_core.specs.CoreRecord.{core_record_in}
use Rattle.peg_runs.specs.Accounts.{OwnSteps}
use Rattle.peg_machine.specs.CoreOutcome.{saturated}
use Rattle.peg_machine.specs.declared.answer.Answer.{Answer}
use Rattle.peg_machine.specs.declared.fault.RunFault.{RunFault}
use Rattle.peg_machine.specs.declared.fault.RunFault.TheVariants.{StepLimit}

-- ---- the pairs

-- the call of a rule at the start of a text
abbrev pub starts_at : (start : ℕ) → RuleCall
starts_at start = record { rule = start; position = 0 }

-- A pair is visited: it is a call in Ford's record of the start, the start itself included. Calls in abandoned
-- branches and in predicates count too (Ford 2002, section 3).
abbrev pub IsVisited : List CoreForm → List ℕ → (start : ℕ) → RuleCall → Type 0
IsVisited bodies text start pair =
    (n : ℕ) × (r : Record) × (core_record_in bodies text n (Rule start) 0 ≡ Some r) × Contains r.calls pair

abbrev pub AreVisited : List CoreForm → List ℕ → (start : ℕ) → List RuleCall → Type 0
AreVisited bodies text start pairs = (pair : RuleCall) → Contains pairs pair → IsVisited bodies text start pair

-- one more step if the start matched, for the end of the run
abbrev pub end_of_run : Parsed → ℕ
end_of_run (Matched end tree) = 1
end_of_run Failed = 0

-- ---- what holds of them, by the result of the run

-- a memo has capacity for each rule at each position of a text
abbrev pub IsFullCapacity : List CoreForm → List ℕ → (capacity : ℕ) → Type 0
IsFullCapacity bodies text capacity = length bodies * (length text + 1) ≤ capacity

-- The run has an answer. As a set the pairs are exactly those visited, and the start is first. The steps are the own
-- steps of the pairs, each as often as it was traced, and the end of the run.
--
-- No pair was traced twice if the memo has capacity for all and no allocation of it failed.
pub record HasTraced (bodies : List CoreForm) (text : List ℕ) (start capacity : ℕ) (allocation_failed : Bool)
    (answer : Answer)
    (pairs : List RuleCall) : Type 0 where
  pub later : List RuleCall
  pub first : pairs ≡ starts_at start ∷ later
  pub visited : (pair : RuleCall) → (Contains pairs pair ↔ IsVisited bodies text start pair)
  pub own : ℕ
  pub own_steps : OwnSteps bodies text pairs own
  pub steps : answer.steps ≡ saturated (own + end_of_run answer.outcome.result)
  pub once : IsFullCapacity bodies text capacity → allocation_failed ≡ false → AllPairs (λ a b. a ≢ b) pairs

-- the record of the start is a match
abbrev pub StartMatches : List CoreForm → List ℕ → (start : ℕ) → Type 0
StartMatches bodies text start = (n : ℕ) × (r : Record) × (end : ℕ) × (trees : Trees)
    × (core_record_in bodies text n (Rule start) 0 ≡ Some r) × (r.result ≡ MatchedTo end trees)

-- The own steps of the pairs exceed a limit. If the start matches, one more step is counted, for the end of the run.
abbrev pub OwnStepsExceed : List CoreForm → List ℕ → (start limit own : ℕ) → Type 0
OwnStepsExceed bodies text start limit own = (limit < own) ⊎ (StartMatches bodies text start × (limit < own + 1))

-- The run has no answer. The pairs are visited, and `StepLimit` comes only if their own steps exceed the limit.
pub record HasTracedSoFar (bodies : List CoreForm) (text : List ℕ) (start : ℕ) (max_steps : Option ℕ) (fault : RunFault)
    (pairs : List RuleCall) : Type 0 where
  pub visited : AreVisited bodies text start pairs
  pub limited : fault ≡ StepLimit
      → (limit : ℕ) × (own : ℕ) × (max_steps ≡ Some limit) × OwnSteps bodies text pairs own
      × OwnStepsExceed bodies text start limit own

abbrev pub Traces : List CoreForm → List ℕ → (start capacity : ℕ) → (allocation_failed : Bool) → (max_steps : Option ℕ)
    → Result Answer RunFault → List RuleCall → Type 0
Traces bodies text start capacity allocation_failed max_steps (Ok answer) pairs =
    HasTraced bodies text start capacity allocation_failed answer pairs
Traces bodies text start capacity allocation_failed max_steps (Err fault) pairs =
    HasTracedSoFar bodies text start max_steps fault pairs

-- A tracer got the calls of the record of the start, in order, each as often as it was made. The start is the first.
abbrev pub TracesInOrder : List CoreForm → List ℕ → (start : ℕ) → (gets : List RuleCall → Type 0) → Type 0
TracesInOrder bodies text start gets =
    (n : ℕ) × (r : Record) × (core_record_in bodies text n (Rule start) 0 ≡ Some r) × gets r.calls

-- A run without a memo was stopped by its step limit. The pairs are the first calls of the record of the start, in
-- order, and their own steps exceed the limit.
pub record HasTracedFirst (bodies : List CoreForm) (text : List ℕ) (start : ℕ) (max_steps : Option ℕ)
    (pairs : List RuleCall) : Type 0 where
  pub so_far : HasTracedSoFar bodies text start max_steps StepLimit pairs
  pub n : ℕ
  pub r : Record
  pub later : List RuleCall
  pub recorded : core_record_in bodies text n (Rule start) 0 ≡ Some r
  pub first : r.calls ≡ pairs ++ later

-- ---- a tracer

-- between two states a tracer got these calls: what the old state had traced, and these after it, the new one has
-- traced
abbrev pub TracesMore : {Tracer : Type 0} → (traced : Tracer → List RuleCall → Type 0) → (old new : Tracer)
    → (calls : List RuleCall) → Type 0
TracesMore traced old new calls = (before : List RuleCall) → traced old before → traced new (before ++ calls)

-- the same, for a tracer that records
abbrev pub GetsCalls : {Tracer : Type 0} → (records : Bool) → (traced : Tracer → List RuleCall → Type 0)
    → (old new : Tracer) → (calls : List RuleCall) → Type 0
GetsCalls records traced old new calls = IsTrue records → TracesMore traced old new calls

-- A tracer that records got the same additional calls that the run counts among its pairs.
abbrev pub TracesAgree : {Tracer : Type 0} → (records : Bool) → (traced : Tracer → List RuleCall → Type 0)
    → (old new : Tracer) → (counted_before counted_after : List RuleCall) → Type 0
TracesAgree records traced old new counted_before counted_after =
    IsTrue records → (more : List RuleCall) × TracesMore traced old new more × (counted_after ≡ counted_before ++ more)
