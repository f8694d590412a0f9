-- The calls that a run shows are those of Ford's record of the grammar as written, and its outcome fits the grammar.
use Rattle.std.proofs.Common.{◌≡◌, ◌↔◌, ℕ, ◌<◌, Bool, List, Contains, IfOk, Result, Ok, Err, Option, None, Some, length, ap, ◌∙◌, refl, subst, sym}
use Rattle.peg_bytes.specs.Extent.{between}
use Rattle.peg_core.specs.CoreForm.{CoreForm, core_bodies, core_form}
use Rattle.peg_core.specs.CoreForm.{Rule as use_of}
use Rattle.peg_core.specs.CoreRecord.{AreBytes, IsCoreRecord, core_record_in}
use Rattle.peg_core.specs.Layout.{bodies_of}
use Rattle.peg_core.proofs.CoreRounds.{one_core_record}
use Rattle.peg_core.proofs.SugarRecords.{IsRecord-from_core}
use Rattle.peg_semantics.specs.Form.{Name}
use Rattle.peg_semantics.specs.Record.{Record, RuleCall}
use Rattle.peg_semantics.specs.Rules.{Rule, name_of}
use Rattle.peg_semantics.specs.Starts.{Recognizes}
use Rattle.peg_runs.specs.Accounts.{OwnSteps}
use Rattle.peg_machine.specs.SelectedTests.{IsCoreOutcomeBy}
use Rattle.peg_machine.specs.Traced.{HasTraced, HasTracedFirst, HasTracedSoFar, IsVisited, OwnStepsExceed, TracesInOrder}
use Rattle.peg_machine.specs.declared.fault.RunFault.{RunFault}
use Rattle.peg_machine.specs.declared.fault.RunFault.TheVariants.{StepLimit}
use Rattle.peg_tree.specs.declared.outcome.Outcome.{Outcome}
use Rattle.peg_machine.specs.declared.answer.Answer.{Answer}
use Rattle.peg_parser.specs.Calls.{AreCallsOf, AreCallsSoFar, AreFirstCalls, AreSomeCalls, AreStepsOf, TracesCallsInOrder}
use Rattle.peg_parser.specs.SelectedOutcomes.{FitsBy, IsParseOutcomeBy}
use Rattle.peg_parser.specs.declared.parser.ParseFault.{ParseFault}
use Rattle.peg_parser.specs.Engine.{engine_rules, shown_in}
use Rattle.peg_parser.specs.declared.engine.Engine.{Engine}
use Rattle.peg_parser.proofs.CoreStarts.{number-named, same-bodies}
use Rattle.peg_parser.proofs.OutcomeFits.{SelectedFits, outcome-fits, outcome-fits_among}

-- the calls are those of the rule's record on core forms
abbrev AreVisitedCalls : List CoreForm → List ℕ → (start : ℕ) → List RuleCall → Type 0
AreVisitedCalls bodies text start calls = (call : RuleCall) → (Contains calls call ↔ IsVisited bodies text start call)

written-calls : (rules : List Rule) (text : List ℕ) (start : ℕ) (r : Record) (calls : List RuleCall) → AreBytes text
    → IsCoreRecord (core_bodies rules) text (core_form rules 0 (Name (name_of rules start) (between 0 0))) 0 r
    → IsCoreRecord (core_bodies rules) text (use_of start) 0 r
    → AreVisitedCalls (core_bodies rules) text start calls → AreCallsOf rules text (name_of rules start) calls
written-calls rules text start r calls bytes named here visited =
    (r, IsRecord-from_core rules text bytes (Name (name_of rules start) (between 0 0)) 0 0 r named, λ call. (to call, from call))
  where
    to : (call : RuleCall) → Contains calls call → Contains r.calls call
    to call has =
        let there = (visited call).0 has in
        let same : there.1 ≡ r = one_core_record (core_bodies rules) text (use_of start) 0 there.1 r (there.0, there.2) here in
        subst (λ (s : Record). Contains s.calls call) same there.3

    from : (call : RuleCall) → Contains r.calls call → Contains calls call
    from call has = (visited call).1 (here.0, r, here.1, has)

-- the calls of a run of a parser's program
pub engine-calls : (among : Option (List ℕ)) (engine : Engine) (text : List ℕ) (start : ℕ) (outcome : Outcome)
    (calls : List RuleCall) → AreBytes text → start < length (engine_rules engine)
    → IsCoreOutcomeBy (shown_in engine) among (bodies_of engine.program.core) text start outcome
    → AreVisitedCalls (bodies_of engine.program.core) text start calls
    → AreCallsOf (engine_rules engine) text (name_of (engine_rules engine) start) calls
engine-calls among engine text start outcome calls bytes less is visited =
    let rules = engine_rules engine in
    let held = subst (λ (bodies : List CoreForm). IsCoreOutcomeBy (shown_in engine) among bodies text start outcome) (same-bodies engine) is in
    let r = held.1.0 in
    let named : IsCoreRecord (core_bodies rules) text (core_form rules 0 (Name (name_of rules start) (between 0 0))) 0 r =
    (held.0, ap (λ (rule : ℕ). core_record_in (core_bodies rules) text held.0 (use_of rule) 0) (number-named engine start less) ∙ held.1.1) in
    written-calls rules text start r calls bytes named (held.0, held.1.1)
    (subst (λ (bodies : List CoreForm). AreVisitedCalls bodies text start calls) (same-bodies engine) visited)

-- the steps of a run's answer are those of the bodies of its calls
pub engine-steps : (engine : Engine) (text : List ℕ) (start capacity : ℕ) (allocation_failed : Bool) (answer : Answer)
    (calls : List RuleCall)
    → HasTraced (bodies_of engine.program.core) text start capacity allocation_failed answer calls
    → AreStepsOf (engine_rules engine) text calls answer.outcome.result answer.steps
engine-steps engine text start capacity allocation_failed answer calls traced = (
  traced.own,
  subst (λ (bodies : List CoreForm). OwnSteps bodies text calls traced.own) (same-bodies engine) traced.own_steps,
  traced.steps,
)

-- the record of a rule on core forms is Ford's record from the rule's name
recognized : (engine : Engine) (text : List ℕ) (start n : ℕ) (r : Record) → AreBytes text
    → start < length (engine_rules engine)
    → core_record_in (core_bodies (engine_rules engine)) text n (use_of start) 0 ≡ Some r
    → Recognizes (engine_rules engine) text (name_of (engine_rules engine) start) r
recognized engine text start n r bytes less is =
    let rules = engine_rules engine in
    let named : IsCoreRecord (core_bodies rules) text (core_form rules 0 (Name (name_of rules start) (between 0 0))) 0 r =
    (n, ap (λ (rule : ℕ). core_record_in (core_bodies rules) text n (use_of rule) 0) (number-named engine start less) ∙ is) in
    IsRecord-from_core rules text bytes (Name (name_of rules start) (between 0 0)) 0 0 r named

-- a tracer that got the calls of the rule's record on core forms got those of Ford's record, in the same order
pub engine-calls-in-order : (engine : Engine) (text : List ℕ) (start : ℕ) (gets : List RuleCall → Type 0)
    → AreBytes text → start < length (engine_rules engine)
    → TracesInOrder (bodies_of engine.program.core) text start gets
    → TracesCallsInOrder (engine_rules engine) text (name_of (engine_rules engine) start) gets
engine-calls-in-order engine text start gets bytes less is =
    let held = subst (λ (bodies : List CoreForm). TracesInOrder bodies text start gets) (same-bodies engine) is in
    (held.1, recognized engine text start held.0 held.1 bytes less held.2, held.3)

-- the calls of a run without an answer are calls of Ford's record
pub engine-some-calls : (engine : Engine) (text : List ℕ) (start : ℕ) (max_steps : Option ℕ) (fault : RunFault)
    (calls : List RuleCall) → AreBytes text → start < length (engine_rules engine)
    → HasTracedSoFar (bodies_of engine.program.core) text start max_steps fault calls
    → AreSomeCalls (engine_rules engine) text (name_of (engine_rules engine) start) calls
engine-some-calls engine text start max_steps fault calls bytes less is call has =
    let held = subst (λ (bodies : List CoreForm). HasTracedSoFar bodies text start max_steps fault calls)
    (same-bodies engine) is in
    let there = held.visited call has in
    (there.1, recognized engine text start there.0 there.1 bytes less there.2, there.3)

-- at the step limit their steps exceed the limit
pub engine-calls-so-far : (engine : Engine) (text : List ℕ) (start : ℕ) (max_steps : Option ℕ) (calls : List RuleCall)
    → AreBytes text → start < length (engine_rules engine)
    → HasTracedSoFar (bodies_of engine.program.core) text start max_steps StepLimit calls
    → AreCallsSoFar (engine_rules engine) text (name_of (engine_rules engine) start) max_steps calls
engine-calls-so-far engine text start max_steps calls bytes less is =
    let held = subst (λ (bodies : List CoreForm). HasTracedSoFar bodies text start max_steps StepLimit calls)
    (same-bodies engine) is in
    let limited = held.limited refl in
    record {
      of_record = engine-some-calls engine text start max_steps StepLimit calls bytes less is;
      limit = limited.0;
      own = limited.1;
      asked = limited.2;
      own_steps = limited.3;
      exceed = subst (λ (n : ℕ). OwnStepsExceed (core_bodies (engine_rules engine)) text n limited.0 limited.1)
          (sym (number-named engine start less)) limited.4;
    }

-- without a memo they are its first calls, in order
pub engine-first-calls : (engine : Engine) (text : List ℕ) (start : ℕ) (max_steps : Option ℕ) (calls : List RuleCall)
    → AreBytes text → start < length (engine_rules engine)
    → HasTracedFirst (bodies_of engine.program.core) text start max_steps calls
    → AreFirstCalls (engine_rules engine) text (name_of (engine_rules engine) start) calls
engine-first-calls engine text start max_steps calls bytes less is =
    let held = subst (λ (bodies : List CoreForm). HasTracedFirst bodies text start max_steps calls) (same-bodies engine) is in
    (held.r, held.later, recognized engine text start held.n held.r bytes less held.recorded, held.first)

-- the outcome of an answer fits the grammar
pub answer-fits : SelectedFits → (among : Option (List ℕ)) (engine : Engine) (text : List ℕ) (start : ℕ)
    (result : Result Answer ParseFault)
    → IfOk result (λ answer. IsParseOutcomeBy (shown_in engine) among (engine_rules engine) text
    (name_of (engine_rules engine) start) answer.outcome)
    → IfOk result (λ answer. FitsBy among (engine_rules engine) answer.outcome)
answer-fits fit None engine text start (Ok answer) is =
    let rules = engine_rules engine in
    outcome-fits fit (shown_in engine) rules text (name_of rules start) answer.outcome is
answer-fits fit (Some terminals) engine text start (Ok answer) is =
    let rules = engine_rules engine in
    outcome-fits_among fit (shown_in engine) rules terminals text (name_of rules start) answer.outcome is
answer-fits fit among engine text start (Err fault) is = tt
