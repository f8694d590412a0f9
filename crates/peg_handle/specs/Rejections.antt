-- Why a grammar file is rejected, as a handle holds it.
use Rattle.std.specs.Prelude.{◌≡◌, ℕ, List, [], ◌∷◌, ◌++◌, length, map, string_bytes}
use Rattle.peg_explain.specs.RefusalMessages.{AreRulesOfCycle, IsRefusalMessage}
use Rattle.peg_json.specs.Reply.{Refused, printed_line}
use Rattle.peg_parser.specs.Cause.{Cause}
use Rattle.peg_parser.specs.Faults.{StartsIn}
use Rattle.peg_parser.specs.Refusals.{IsRefusalOf, RefusalImplies}
use Rattle.peg_semantics.specs.Rules.{Rule, defined_at}
use Rattle.peg_handle.specs.RefusalInfos.{cause_info}
use Rattle.peg_handle.specs.declared.content.Rejection.{Rejection}

-- the text is pegtool's line for the cause, without its line end, and the numbers are the cause's
pub record Reports (file : List ℕ) (rejection : Rejection) (cause : Cause) : Type 0 where
  pub line : string_bytes rejection.json ++ 10 ∷ [] ≡ printed_line file (Refused cause)
  pub info : rejection.info ≡ cause_info file cause

-- The file is rejected for a cause, which is the one that is reported. Its place, if it has one, starts within the
-- file. The message is that for a file with an empty name.
pub record IsRejectionOf (file : List ℕ) (rejection : Rejection) : Type 0 where
  pub cause : Cause
  pub reason : IsRefusalOf file cause
  pub meaning : RefusalImplies file cause
  pub starts : StartsIn (length file) cause
  pub reports : Reports file rejection cause
  pub rules : List Rule
  pub of_cycle : AreRulesOfCycle file cause rules
  pub message : IsRefusalMessage [] file (map defined_at rules) cause rejection.message.items
