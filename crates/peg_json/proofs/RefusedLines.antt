-- Lines of refusals, by the names of their rules.
use Rattle.std.proofs.Common.{◌≡◌, ◌≢◌, ℕ, List, [], ◌∷◌, ◌++◌, IfOk, IfSome, Option, None, Some, Result, Ok, Err, is_some, true, length}
use Rattle.std.proofs.Common.{refl, sym, ap, ◌∙◌, subst}
use Rattle.std.specs.declared.alloc.AllocError.{AllocError}
use Rattle.serde_json.specs.Written.{compact_text}
use Rattle.peg_parser.specs.Cause.{Cause}
use Rattle.peg_parser.specs.Faults.{IsTrueRefusal, out_of_memory, of_cause, RefusalNames, StartsIn, cause_of, refusal_names, refusal_cause}
use Rattle.peg_parser.specs.declared.refusal.Refusal.{Refusal}
use Rattle.peg_parser.specs.declared.refusal.Refusal.TheVariants as refusal
use Rattle.peg_json.specs.CauseText.{cause_data, cause_status}
use Rattle.peg_json.specs.Lines.{IsReply, line_bytes}
use Rattle.peg_json.specs.Reply.{Refused}
use Rattle.peg_json.specs.Statuses.{status_code}
use Rattle.peg_json.specs.declared.line.Line.{Line}
use Rattle.peg_json.specs.declared.status.Status.{Status}

-- the facts about a refusal other than `Memory`, given the names of the rules
pub record IsReportable (size : ℕ) (names : List (List ℕ)) (why : Refusal) : Type 0 where
  pub reported : is_some (refusal_cause names why) ≡ true
  pub places : IfSome (refusal_cause names why) (StartsIn size)
  pub rules : RefusalNames (length names) why

by_own_names : (size : ℕ) (why : Refusal) → why ≢ refusal.Memory → IsTrueRefusal size why
    → IsReportable size (refusal_names why) why
by_own_names size why other (out_of_memory is) = absurd (other is)
by_own_names size why other (of_cause cause cause_is kind starts named) = record {
  reported = ap is_some cause_is;
  places = subst (λ (reported : Option Cause). IfSome reported (StartsIn size)) (sym cause_is) starts;
  rules = named;
}

pub reportable : (size : ℕ) (names : List (List ℕ)) (why : Refusal) → names ≡ refusal_names why → why ≢ refusal.Memory
    → IsTrueRefusal size why → IsReportable size names why
reportable size names why same other is =
    subst (λ (list : List (List ℕ)). IsReportable size list why) (sym same) (by_own_names size why other is)

some-reported : (result : Result Line AllocError) (file : List ℕ) (found : Option Cause) → is_some found ≡ true
    → IfOk result (λ line. IfSome found (λ cause.
    IsReply file (Refused cause) (line_bytes line) (status_code line.status)))
    → IfOk result (λ line. (cause : Cause) × (found ≡ Some cause)
    × IsReply file (Refused cause) (line_bytes line) (status_code line.status))
some-reported (Ok line) file None some is = cc
some-reported (Ok line) file (Some cause) some is = (cause, refl, is)
some-reported (Err why) file found some is = tt

-- the line by given names is the line by the refusal's own names
pub reported-by_names : (result : Result Line AllocError) (file : List ℕ) (names : List (List ℕ)) (why : Refusal)
    → names ≡ refusal_names why → is_some (refusal_cause names why) ≡ true
    → IfOk result (λ line. IfSome (refusal_cause names why) (λ cause.
    IsReply file (Refused cause) (line_bytes line) (status_code line.status)))
    → IfOk result (λ line. (cause : Cause) × (cause_of why ≡ Some cause)
    × IsReply file (Refused cause) (line_bytes line) (status_code line.status))
reported-by_names result file names why same reported is =
    subst (λ (list : List (List ℕ)). IfOk result (λ line. (cause : Cause) × (refusal_cause list why ≡ Some cause)
    × IsReply file (Refused cause) (line_bytes line) (status_code line.status))) same
    (some-reported result file (refusal_cause names why) reported is)

-- the line of a fault
pub fault-reply : (line : Line) (file text : List ℕ) (status : Status) (found : Option Cause)
    → line_bytes line ≡ text ++ 10 ∷ [] → line.status ≡ status
    → IfSome found (λ cause. text ≡ compact_text (cause_data file cause))
    → IfSome found (λ cause. status_code status ≡ cause_status cause)
    → IfSome found (λ cause. IsReply file (Refused cause) (line_bytes line) (status_code line.status))
fault-reply line file text status None is ends same_text same = tt
fault-reply line file text status (Some cause) is ends same_text same =
    (is ∙ ap (λ (l : List ℕ). l ++ 10 ∷ []) same_text, ap status_code ends ∙ same)
