-- Describes code: the causes that faults of a parse denote.
use Rattle.std.specs.Prelude.{ℕ, List, Option, Some}
use Rattle.peg_parser.specs.Cause.{Cause, NoSuchStart, NoSuchRule, StepLimit, TooDeep, TextTooLong}
use Rattle.peg_parser.specs.Faults.{RefusalNames, refusal_cause}
use Rattle.peg_json.specs.declared.fault.Fault.{Fault}
use Rattle.peg_json.specs.declared.fault.Fault.TheVariants as fault

-- the cause of a fault of a parse, where the grammar's rules have these names
abbrev pub fault_cause : (names : List (List ℕ)) → Fault → Option Cause
fault_cause names (fault.Refused why) = refusal_cause names why.now
fault_cause names (fault.NoSuchStart name) = Some (NoSuchStart name.now)
fault_cause names (fault.NoSuchRule name) = Some (NoSuchRule name.now)
fault_cause names fault.StepLimit = Some StepLimit
fault_cause names fault.TooDeep = Some TooDeep
fault_cause names fault.TextTooLong = Some TextTooLong

-- the rule numbers of a fault are below `count`
abbrev pub FaultNames : (count : ℕ) → Fault → Type 0
FaultNames count (fault.Refused why) = RefusalNames count why.now
FaultNames count other = Unit {0}
