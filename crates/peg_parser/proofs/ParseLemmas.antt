-- The contract of a parse follows from that of its run, and is the same for fewer parses without a memo.
use Rattle.std.proofs.Common.{◌≡◌, ◌<◌, ◌≤◌, ◌↔◌, ◌⊎◌, inl, inr, ℕ, Bool, List, IfOk, IfSome, IsErrOf, OnOk, Option, None, Some}
use Rattle.std.proofs.Common.{Result, Ok, Err, length, ap, refl, sym, subst, arith}
use Rattle.std.proofs.lemmas.Bool.{cases_lt}
use Rattle.peg_core.specs.CoreForm.{CoreForm}
use Rattle.peg_core.specs.CoreRecord.{AreBytes}
use Rattle.peg_core.specs.Layout.{bodies_of}
use Rattle.peg_grammar.specs.Limits.{max_text_bytes}
use Rattle.peg_semantics.specs.Record.{RuleCall}
use Rattle.peg_semantics.specs.Rules.{Rule, name_of}
use Rattle.peg_semantics.specs.Starts.{start_name}
use Rattle.peg_machine.specs.CoreOutcome.{saturated, TakesSteps}
use Rattle.peg_machine.specs.RunContract.{IsRun}
use Rattle.peg_machine.specs.declared.answer.Answer.{Answer}
use Rattle.peg_machine.specs.declared.fault.RunFault.{RunFault}
use Rattle.peg_machine.specs.declared.fault.RunFault.TheVariants as run
use Rattle.peg_parser.specs.Calls.{IsSumOfSteps}
use Rattle.peg_parser.specs.ParseContract.{HasParseFaults, HasParseSteps, HasStepLimit, IsParse}
use Rattle.peg_parser.specs.Engine.{engine_rules, shown_in}
use Rattle.peg_parser.specs.SelectedOutcomes.{IsParseOutcomeBy}
use Rattle.peg_parser.specs.declared.parser.ParseFault.{ParseFault}
use Rattle.peg_parser.specs.declared.parser.ParseFault.TheVariants.{NoSuchStart, TextTooLong, StepLimit, Memory}
use Rattle.peg_parser.specs.declared.engine.Engine.{Engine}
use Rattle.peg_parser.proofs.CoreStarts.{engine-outcome, same-bodies}
use Rattle.peg_parser.proofs.OutcomeFits.{SelectedFits}
use Rattle.peg_parser.proofs.StepLemmas.{of-program, of-start, plain-steps, to-program, to-start}
use Rattle.peg_parser.proofs.TraceLemmas.{answer-fits, engine-calls, engine-steps}

-- ---- results

-- the fault of a parse whose run has this fault
abbrev pub fault_of : RunFault → ParseFault
fault_of run.TextTooLong = TextTooLong
fault_of run.StepLimit = StepLimit
fault_of run.Memory = Memory

-- the result of a parse whose run has this result
abbrev pub result_of : Result Answer RunFault → Result Answer ParseFault
result_of (Ok answer) = Ok answer
result_of (Err fault) = Err (fault_of fault)

-- a start that is found is no missing start
found_start : (rules : List Rule) (named : Option (List ℕ)) (start : List ℕ) → start_name rules named ≡ Some start
    → start_name rules named ≡ None → ⊥
found_start rules named start found none = cc

-- a run's result tells whether the text is too long
long_of : (result : Result Answer RunFault) → IsErrOf (result_of result) TextTooLong → IsErrOf result run.TextTooLong
long_of (Ok answer) is = cc
long_of (Err run.TextTooLong) is = refl
long_of (Err run.StepLimit) is = cc
long_of (Err run.Memory) is = cc

-- a run's result is never that of a missing start
not_missing : (result : Result Answer RunFault) → IsErrOf (result_of result) NoSuchStart → ⊥
not_missing (Ok answer) is = cc
not_missing (Err run.TextTooLong) is = cc
not_missing (Err run.StepLimit) is = cc
not_missing (Err run.Memory) is = cc

-- a run's fault tells whether the limit was met
met_limit : (fault : RunFault) → IsErrOf {T = Answer} {E = ParseFault} (Err (fault_of fault)) StepLimit
    → IsErrOf {T = Answer} {E = RunFault} (Err fault) run.StepLimit
met_limit run.TextTooLong is = cc
met_limit run.StepLimit is = refl
met_limit run.Memory is = cc

-- ---- from a run to a parse

faults_of_run : (rules : List Rule) (text : List ℕ) (named : Option (List ℕ)) (start : List ℕ)
    (result : Result Answer RunFault) → start_name rules named ≡ Some start
    → (IsErrOf result run.TextTooLong ↔ (max_text_bytes < length text))
    → HasParseFaults rules text named (result_of result)
faults_of_run rules text named start result found long = record {
  no_start = ((λ is. absurd (not_missing result is)), λ none. absurd (found_start rules named start found none));
  long = λ other is. ((λ too_long. long.0 (long_of result too_long)), λ more. ap result_of (long.1 more));
}

-- a text with an answer isn't too long
short_of_run : (text : List ℕ) (result : Result Answer RunFault)
    → (IsErrOf result run.TextTooLong ↔ (max_text_bytes < length text))
    → OnOk (result_of result) (length text ≤ max_text_bytes)
short_of_run text (Ok answer) long = by (cases_lt max_text_bytes (length text))
  where
    by : (max_text_bytes < length text) ⊎ (length text ≤ max_text_bytes) → length text ≤ max_text_bytes
    by (inl more) = absurd (let bad : Ok answer ≡ Err run.TextTooLong = long.1 more in let no : ⊥ = cc in no)
    by (inr short) = short
short_of_run text (Err fault) long = tt

module _ (among : Option (List ℕ)) (engine : Engine) (text : List ℕ) (start : ℕ) (named : Option (List ℕ))
    (max_steps : Option ℕ) (is_plain : Type 0) (capacity : ℕ) (allocation_failed : Bool)
    (gets : List RuleCall → Type 0) (less : start < length (engine_rules engine))
    (found : start_name (engine_rules engine) named ≡ Some (name_of (engine_rules engine) start)) where
  limit_of_run : (result : Result Answer RunFault)
      → IsRun (shown_in engine) among (bodies_of engine.program.core) text start max_steps is_plain capacity allocation_failed gets result
      → HasStepLimit (engine_rules engine) text named is_plain max_steps (result_of result)
  limit_of_run (Ok answer) is = record {
    limited = λ limit. absurd (let no : ⊥ = cc in no);
    enough = λ plain more. is.enough plain (to-program engine text start max_steps
        (to-start engine text named start max_steps less found more));
  }
  limit_of_run (Err fault) is = record {
    limited = λ limit. of-start engine text named start max_steps less found
        (of-program engine text start max_steps (is.limited (met_limit fault limit)));
    enough = λ plain. tt;
  }

  -- the steps of an answer are those of the calls that were made
  own_of_run : (answer : Answer) → AreBytes text
      → IsRun (shown_in engine) among (bodies_of engine.program.core) text start max_steps is_plain capacity allocation_failed gets (Ok answer)
      → IsSumOfSteps (engine_rules engine) text (name_of (engine_rules engine) start) answer
  own_of_run answer bytes is =
      let traced = is.traced.2 in record {
        calls = is.traced.0;
        of_record = engine-calls among engine text start answer.outcome is.traced.0 bytes less is.outcome traced.visited;
        steps = engine-steps engine text start capacity allocation_failed answer is.traced.0 traced;
      }

  steps_of_run : (result : Result Answer RunFault) → AreBytes text
      → IsRun (shown_in engine) among (bodies_of engine.program.core) text start max_steps is_plain capacity allocation_failed gets result
      → HasParseSteps (engine_rules engine) text named is_plain max_steps (result_of result)
  steps_of_run (Ok answer) bytes is = record {
    allowed = is.allowed;
    plain = plain-steps engine text named start (λ answer count. answer.steps ≤ count) less found (Ok answer)
        (subst (λ (bodies : List CoreForm). (count : ℕ) × TakesSteps bodies text start count × (answer.steps ≤ count))
        (same-bodies engine) is.steps);
    exact = λ plain. plain-steps engine text named start (λ answer count. answer.steps ≡ saturated count) less found
        (Ok answer) (subst (λ (bodies : List CoreForm). (count : ℕ) × TakesSteps bodies text start count
        × (answer.steps ≡ saturated count)) (same-bodies engine) (is.exact plain));
    own = subst (λ (found : Option (List ℕ)). IfSome found (λ start. IsSumOfSteps (engine_rules engine) text start answer))
        (sym found) (own_of_run answer bytes is);
  }
  steps_of_run (Err fault) bytes is = record { allowed = tt; plain = tt; exact = λ plain. tt; own = tt }

  outcome_of_run : (result : Result Answer RunFault) → AreBytes text
      → IsRun (shown_in engine) among (bodies_of engine.program.core) text start max_steps is_plain capacity allocation_failed gets result
      → IfOk (result_of result) (λ answer.
      IsParseOutcomeBy (shown_in engine) among (engine_rules engine) text (name_of (engine_rules engine) start) answer.outcome)
  outcome_of_run (Ok answer) bytes is = engine-outcome among engine text start answer.outcome bytes less is.outcome
  outcome_of_run (Err fault) bytes is = tt

  -- the outcome from the rule is that from its name
  named_outcome : (result : Result Answer ParseFault) → IfOk result (λ answer.
      IsParseOutcomeBy (shown_in engine) among (engine_rules engine) text (name_of (engine_rules engine) start) answer.outcome)
      → IfOk result (λ answer. IfSome (start_name (engine_rules engine) named)
      (λ start. IsParseOutcomeBy (shown_in engine) among (engine_rules engine) text start answer.outcome))
  named_outcome (Ok answer) is =
      subst (λ (found : Option (List ℕ)). IfSome found (λ start. IsParseOutcomeBy (shown_in engine) among (engine_rules engine) text start
      answer.outcome)) (sym found) is
  named_outcome (Err fault) is = tt

  pub parse_of_run : SelectedFits → (result : Result Answer RunFault) → AreBytes text
      → IsRun (shown_in engine) among (bodies_of engine.program.core) text start max_steps is_plain capacity allocation_failed gets result
      → IsParse (shown_in engine) among (engine_rules engine) text named is_plain max_steps (result_of result)
  parse_of_run fit result bytes is =
      let outcome = outcome_of_run result bytes is in record {
        faults = faults_of_run (engine_rules engine) text named (name_of (engine_rules engine) start) result found is.long;
        short = short_of_run text result is.long;
        outcome = named_outcome (result_of result) outcome;
        fits = answer-fits fit among engine text start (result_of result) outcome;
        limit = limit_of_run result is;
        steps = steps_of_run result bytes is;
      }

-- ---- parses without a run

-- a start that no rule has
pub parse_without_start : (shown : Option (List Bool)) (among : Option (List ℕ)) (rules : List Rule) (text : List ℕ) (named : Option (List ℕ))
    (is_plain : Type 0) (max_steps : Option ℕ) → start_name rules named ≡ None
    → IsParse shown among rules text named is_plain max_steps (Err NoSuchStart)
parse_without_start shown among rules text named is_plain max_steps none = record {
  faults = record {
    no_start = ((λ _. none), λ _. refl);
    long = λ start found. absurd (found_start rules named start found none);
  };
  short = tt;
  outcome = tt;
  fits = tt;
  limit = record { limited = λ limit. absurd (let no : ⊥ = cc in no); enough = λ plain. tt };
  steps = record { allowed = tt; plain = tt; exact = λ plain. tt; own = tt };
}

-- a text that is too long
pub parse_of_long_text : (shown : Option (List Bool)) (among : Option (List ℕ)) (rules : List Rule) (text : List ℕ) (named : Option (List ℕ))
    (is_plain : Type 0) (max_steps : Option ℕ) (start : List ℕ) → start_name rules named ≡ Some start
    → max_text_bytes < length text → IsParse shown among rules text named is_plain max_steps (Err TextTooLong)
parse_of_long_text shown among rules text named is_plain max_steps start found more = record {
  faults = record {
    no_start = ((λ is. absurd (let no : ⊥ = cc in no)), λ none. absurd (found_start rules named start found none));
    long = λ other is. ((λ _. more), λ _. refl);
  };
  short = tt;
  outcome = tt;
  fits = tt;
  limit = record { limited = λ limit. absurd (let no : ⊥ = cc in no); enough = λ plain. tt };
  steps = record { allowed = tt; plain = tt; exact = λ plain. tt; own = tt };
}

-- ---- other conditions

module _ (shown : Option (List Bool)) (among : Option (List ℕ)) (rules : List Rule) (text : List ℕ) (named : Option (List ℕ)) where
  -- a parse without a memo, if one without entries is meant
  pub parse_if_plain : {is_plain is_empty : Type 0} (max_steps : Option ℕ) (result : Result Answer ParseFault)
      → (is_empty → is_plain) → IsParse shown among rules text named is_plain max_steps result
      → IsParse shown among rules text named is_empty max_steps result
  parse_if_plain max_steps result plain is = record {
    faults = is.faults;
    short = is.short;
    outcome = is.outcome;
    fits = is.fits;
    limit = record { limited = is.limit.limited; enough = λ empty. is.limit.enough (plain empty) };
    steps = record {
      allowed = is.steps.allowed;
      plain = is.steps.plain;
      exact = λ empty. is.steps.exact (plain empty);
      own = is.steps.own;
    };
  }

  -- a first run that met no limit, for a parse with a memo and a higher limit
  pub parse_within : {is_plain is_empty : Type 0} (within : ℕ) (max_steps : Option ℕ)
      (result : Result Answer ParseFault) → ¬ is_empty → ¬ IsErrOf result StepLimit
      → ((limit : ℕ) → max_steps ≡ Some limit → within ≤ limit)
      → IsParse shown among rules text named is_plain (Some within) result
      → IsParse shown among rules text named is_empty max_steps result
  parse_within within max_steps result memo unmet least is = record {
    faults = is.faults;
    short = is.short;
    outcome = is.outcome;
    fits = is.fits;
    limit = record { limited = λ limit. absurd (unmet limit); enough = λ empty. absurd (memo empty) };
    steps = record {
      allowed = stays_within result is.steps.allowed;
      plain = is.steps.plain;
      exact = λ empty. absurd (memo empty);
      own = is.steps.own;
    };
  }
    where
      stays_within : (result : Result Answer ParseFault)
          → IfOk result (λ answer. (limit : ℕ) → Some within ≡ Some limit → answer.steps ≤ limit)
          → IfOk result (λ answer. (limit : ℕ) → max_steps ≡ Some limit → answer.steps ≤ limit)
      stays_within (Ok answer) all = λ limit asked.
          let one : answer.steps ≤ within = all within refl in
          let other : within ≤ limit = least limit asked in
          omega arith
      stays_within (Err fault) all = tt
