-- Steps, and steps over a limit: of a program from a rule's number, and of a grammar from the name of a start.
use Rattle.std.proofs.Common.{◌≡◌, ℕ, ◌<◌, List, length, Option, Some, Result, Ok, Err, IfOk, sym, ◌∙◌, subst}
use Rattle.peg_core.specs.CoreForm.{CoreForm, core_bodies, number_of}
use Rattle.peg_core.specs.Layout.{bodies_of}
use Rattle.peg_semantics.specs.Rules.{name_of}
use Rattle.peg_semantics.specs.Starts.{start_name}
use Rattle.peg_machine.specs.CoreOutcome.{ExceedsStepLimit, TakesSteps}
use Rattle.peg_machine.specs.declared.answer.Answer.{Answer}
use Rattle.peg_parser.specs.Engine.{engine_rules}
use Rattle.peg_parser.specs.StepLimits.{TakesMoreSteps, TakesPlainSteps}
use Rattle.peg_parser.specs.declared.parser.ParseFault.{ParseFault}
use Rattle.peg_parser.specs.declared.engine.Engine.{Engine}
use Rattle.peg_parser.proofs.CoreStarts.{number-named, same-bodies}

-- the steps of a parser's program are those of its grammar's core forms
pub of-program : (engine : Engine) (text : List ℕ) (start : ℕ) (max_steps : Option ℕ)
    → ExceedsStepLimit (bodies_of engine.program.core) text start max_steps
    → ExceedsStepLimit (core_bodies (engine_rules engine)) text start max_steps
of-program engine text start max_steps =
    subst (λ (bodies : List CoreForm). ExceedsStepLimit bodies text start max_steps) (same-bodies engine)

pub to-program : (engine : Engine) (text : List ℕ) (start : ℕ) (max_steps : Option ℕ)
    → ExceedsStepLimit (core_bodies (engine_rules engine)) text start max_steps
    → ExceedsStepLimit (bodies_of engine.program.core) text start max_steps
to-program engine text start max_steps =
    subst (λ (bodies : List CoreForm). ExceedsStepLimit bodies text start max_steps) (sym (same-bodies engine))

-- the steps of a start with a rule's name are those of the rule
pub of-start : (engine : Engine) (text : List ℕ) (named : Option (List ℕ)) (start : ℕ) (max_steps : Option ℕ)
    → start < length (engine_rules engine)
    → start_name (engine_rules engine) named ≡ Some (name_of (engine_rules engine) start)
    → ExceedsStepLimit (core_bodies (engine_rules engine)) text start max_steps
    → TakesMoreSteps (engine_rules engine) text named max_steps
of-start engine text named start max_steps less is more =
    let rules = engine_rules engine in (
      name_of rules start,
      is,
      subst (λ (n : ℕ). ExceedsStepLimit (core_bodies rules) text n max_steps) (sym (number-named engine start less)) more,
    )

pub to-start : (engine : Engine) (text : List ℕ) (named : Option (List ℕ)) (start : ℕ) (max_steps : Option ℕ)
    → start < length (engine_rules engine)
    → start_name (engine_rules engine) named ≡ Some (name_of (engine_rules engine) start)
    → TakesMoreSteps (engine_rules engine) text named max_steps
    → ExceedsStepLimit (core_bodies (engine_rules engine)) text start max_steps
to-start engine text named start max_steps less is more =
    let rules = engine_rules engine in
    let both : Some more.0 ≡ Some (name_of rules start) = sym more.1 ∙ is in
    let same : more.0 ≡ name_of rules start = cc in
    subst (λ (n : ℕ). ExceedsStepLimit (core_bodies rules) text n max_steps) (number-named engine start less)
    (subst (λ (name : List ℕ). ExceedsStepLimit (core_bodies rules) text (number_of rules name) max_steps) same more.2)

-- what holds of an answer and the steps from a rule holds of the steps from a start with the rule's name
pub plain-steps : (engine : Engine) (text : List ℕ) (named : Option (List ℕ)) (start : ℕ) (P : Answer → ℕ → Type 0)
    → start < length (engine_rules engine)
    → start_name (engine_rules engine) named ≡ Some (name_of (engine_rules engine) start)
    → (result : Result Answer ParseFault)
    → IfOk result (λ answer. (count : ℕ) × TakesSteps (core_bodies (engine_rules engine)) text start count
    × P answer count)
    → IfOk result (λ answer. (count : ℕ) × TakesPlainSteps (engine_rules engine) text named count × P answer count)
plain-steps engine text named start P less is (Ok answer) takes =
    let rules = engine_rules engine in
    let from : TakesSteps (core_bodies rules) text (number_of rules (name_of rules start)) takes.0 =
    subst (λ (n : ℕ). TakesSteps (core_bodies rules) text n takes.0) (sym (number-named engine start less)) takes.1 in
    (takes.0, (name_of rules start, is, from), takes.2)
plain-steps engine text named start P less is (Err fault) takes = tt
