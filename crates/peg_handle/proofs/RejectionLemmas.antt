-- Refusals and their causes.
use Rattle.std.proofs.Common.{◌≡◌, ◌≢◌, inl, ℕ, ◌<◌, List, [], ◌∷◌, ◌++◌, IfOk, IfSome, Option, None, Some, Result, Ok, Err}
use Rattle.std.proofs.Common.{◌∙◌, is_some, true, length, map, refl, string_bytes, sym, ap, subst}
use Rattle.std.specs.Borrow.{Bor}
use Rattle.std.specs.declared.alloc.AllocError.{AllocError}
use Rattle.serde_json.specs.Written.{compact_text}
use Rattle.peg_explain.proofs.RefusalCauses.{HasRules, cause-rules}
use Rattle.peg_explain.specs.RefusalMessages.{IsReasonOf, IsRefusalMessage, refusal_definitions}
use Rattle.peg_messages.specs.Rejections.{rejection_message}
use Rattle.peg_messages.specs.declared.reason.Reason.{Reason}
use Rattle.peg_messages.specs.declared.reason.Reason.TheVariants as reason
use Rattle.peg_metagrammar.specs.Notation.{max_file_bytes}
use Rattle.peg_parser.specs.Cause.{Cause, FileTooLong}
use Rattle.peg_parser.specs.Faults.{HasCause, IsTrueRefusal, RefusalMeaning, RefusalNames, StartsIn}
use Rattle.peg_parser.specs.Faults.{HasDefinitionsOf, cause_of, of_cause, out_of_memory, refusal_cause, refusal_names}
use Rattle.peg_parser.specs.Refusals.{IsRefusalOf, RefusalImplies, file_too_long}
use Rattle.peg_parser.specs.declared.refusal.Refusal.{Refusal}
use Rattle.peg_parser.specs.declared.refusal.Refusal.TheVariants as refusal
use Rattle.peg_json.specs.CauseText.{cause_data}
use Rattle.peg_semantics.specs.Form.{Reference}
use Rattle.peg_semantics.specs.Rules.{defined_at}
use Rattle.peg_handle.specs.RefusalInfos.{cause_info}
use Rattle.peg_handle.specs.Rejections.{IsRejectionOf, Reports}
use Rattle.peg_handle.specs.declared.content.Rejection.{Rejection}

-- what a report of a refusal needs to know of it, under these names of its rules
pub record Reportable (size : ℕ) (names : List (List ℕ)) (why : Refusal) : Type 0 where
  pub known : is_some (refusal_cause names why) ≡ true
  pub places : IfSome (refusal_cause names why) (StartsIn size)
  pub rules : RefusalNames (length names) why

reportable_own : (size : ℕ) (why : Refusal) → why ≢ refusal.Memory → IsTrueRefusal size why
    → Reportable size (refusal_names why) why
reportable_own size why other (out_of_memory is) = absurd (other is)
reportable_own size why other (of_cause cause is kind starts named) = record {
  known = ap is_some is;
  places = subst (λ (found : Option Cause). IfSome found (StartsIn size)) (sym is) starts;
  rules = named;
}

pub reportable : (size : ℕ) (names : List (List ℕ)) (why : Refusal) → names ≡ refusal_names why
    → why ≢ refusal.Memory → IsTrueRefusal size why → Reportable size names why
reportable size names why same other holds =
    subst (λ (list : List (List ℕ)). Reportable size list why) (sym same) (reportable_own size why other holds)

-- a refusal for a stated cause is a refusal for some cause
pub true_refusal : (Kind : Cause → Type 0) (size : ℕ) (why : Refusal) → HasCause Kind size why
    → IsTrueRefusal size why
true_refusal Kind size why (out_of_memory is) = out_of_memory is
true_refusal Kind size why (of_cause cause is kind starts named) = of_cause cause is tt starts named

-- the text and the numbers of a cause make its report
pub reports : (file : List ℕ) (rejection : Rejection) (found : Option Cause)
    → IfSome found (λ cause. string_bytes rejection.json ≡ compact_text (cause_data file cause))
    → IfSome found (λ cause. rejection.info ≡ cause_info file cause)
    → IfSome found (Reports file rejection)
reports file rejection None text info = tt
reports file rejection (Some cause) text info =
    record { line = ap (λ (bytes : List ℕ). bytes ++ 10 ∷ []) text; info = info }

-- the message of a refusal, with its cause
abbrev pub HasMessage : (file : List ℕ) (why : Refusal) → (message : List ℕ) → Type 0
HasMessage file why message =
    (cause : Cause) × (cause_of why ≡ Some cause) × IsRefusalMessage [] file (refusal_definitions why) cause message

-- the message is about the rules that the file has
message_about : (file : List ℕ) (why : Refusal) (cause : Cause) (message : List ℕ) (known : HasRules file why cause)
    → cause_of why ≡ Some cause → HasMessage file why message
    → IsRefusalMessage [] file (map defined_at known.rules) cause message
message_about file why cause message known is printed =
    let both : Some cause ≡ Some printed.0 = sym is ∙ printed.1 in
    let of_cause : printed.0 ≡ cause = cc in
    subst (λ (d : List Reference). IsRefusalMessage [] file d cause message) known.defined
    (subst (λ (c : Cause). IsRefusalMessage [] file (refusal_definitions why) c message) of_cause printed.2)

-- the report of a file's refusal says why the file is rejected
pub is_rejection : (file : List ℕ) (why : Refusal) (rejection : Rejection)
    → HasCause (IsRefusalOf file) (length file) why → RefusalMeaning file why → HasDefinitionsOf file why
    → why ≢ refusal.Memory → IfSome (cause_of why) (Reports file rejection)
    → HasMessage file why rejection.message.items → IsRejectionOf file rejection
is_rejection file why rejection (out_of_memory is) meaning has other reported printed = absurd (other is)
is_rejection file why rejection (of_cause cause is reason starts named) meaning has other reported printed =
    let known = cause-rules file why cause is has in
    record {
      cause = cause;
      reason = reason;
      meaning = subst (λ (found : Option Cause). IfSome found (RefusalImplies file)) is meaning;
      starts = starts;
      reports = subst (λ (found : Option Cause). IfSome found (Reports file rejection)) is reported;
      rules = known.rules;
      of_cycle = known.of_cycle;
      message = message_about file why cause rejection.message.items known is printed;
    }

pub is_rejection_ok : (file : List ℕ) (why : Refusal) (result : Result Rejection AllocError)
    → HasCause (IsRefusalOf file) (length file) why → RefusalMeaning file why → HasDefinitionsOf file why
    → why ≢ refusal.Memory → IfOk result (λ rejection. IfSome (cause_of why) (Reports file rejection))
    → IfOk result (λ rejection. HasMessage file why rejection.message.items) → IfOk result (IsRejectionOf file)
is_rejection_ok file why (Ok rejection) holds meaning has other reported printed =
    is_rejection file why rejection holds meaning has other reported printed
is_rejection_ok file why (Err error) holds meaning has other reported printed = tt

-- ---- a file that is too long

-- no other reason is that of a file that is too long
too_long_reason : (file : List ℕ) (definitions : List Reference) (why : Reason)
    → IsReasonOf file definitions FileTooLong why → why ≡ reason.FileTooLong
too_long_reason file definitions reason.FileTooLong is = refl
too_long_reason file definitions (reason.Syntax at) is = absurd is
too_long_reason file definitions (reason.TooNested at) is = absurd is
too_long_reason file definitions (reason.BadCount at) is = absurd is
too_long_reason file definitions reason.NoRule is = absurd is
too_long_reason file definitions (reason.Duplicate name at) is = absurd is
too_long_reason file definitions (reason.Undefined name meant at) is = absurd is
too_long_reason file definitions reason.TooManyParts is = absurd is
too_long_reason file definitions (reason.EmptyLoop rule at) is = absurd is
too_long_reason file definitions (reason.LeftRecursion path at) is = absurd is
too_long_reason file definitions reason.CodeTooLarge is = absurd is

-- the message for a reason
abbrev message_for : (name file : Bor (List ℕ)) → Reason → List ℕ
message_for name file why = rejection_message (record { name = name; file = file; reason = why })

-- its message is the same for each file
too_long_message : (file : Bor (List ℕ)) (definitions : List Reference) (message : List ℕ)
    → IsRefusalMessage [] [] definitions FileTooLong message → IsRefusalMessage [] file.now [] FileTooLong message
too_long_message file definitions message (shown, is, same) =
    let only : shown.reason ≡ reason.FileTooLong = too_long_reason [] definitions shown.reason is.has_reason in (
      record { name = shown.name; file = file; reason = reason.FileTooLong },
      record { named = is.named; has_file = refl; has_reason = tt },
      same ∙ ap (message_for shown.name shown.file) only,
    )

-- a file over the limit is rejected, and its report reads nothing of it
pub is_rejection_too_long : (file : Bor (List ℕ)) (why : Refusal) (result : Result Rejection AllocError)
    → max_file_bytes < length file.now → cause_of why ≡ Some FileTooLong
    → IfOk result (λ rejection. Reports [] rejection FileTooLong)
    → IfOk result (λ rejection. HasMessage [] why rejection.message.items) → IfOk result (IsRejectionOf file.now)
is_rejection_too_long file why (Ok rejection) over is reported printed =
    let both : Some FileTooLong ≡ Some printed.0 = sym is ∙ printed.1 in
    let of_cause : printed.0 ≡ FileTooLong = cc in
    record {
      cause = FileTooLong;
      reason = inl (file_too_long over);
      meaning = tt;
      starts = tt;
      reports = record { line = reported.line; info = reported.info };
      rules = [];
      of_cycle = λ path cycle. absurd (cc);
      message = too_long_message file (refusal_definitions why) rejection.message.items
          (subst (λ (c : Cause). IsRefusalMessage [] [] (refusal_definitions why) c rejection.message.items) of_cause printed.2);
    }
is_rejection_too_long file why (Err error) over is reported printed = tt
