-- How explanations of records end.
use Rattle.std.proofs.Common.{◌≡◌, ◌∙◌, ℕ, ◌+◌, List, [], Option, None, Some, Result, Ok, Err, IfErr, IfOk, IsErrAnd, inl, inr}
use Rattle.std.proofs.Common.{ap, codes, length, map, refl, string_bytes, subst, sym}
use Rattle.std.proofs.KnownBytes.{Keeps-refl}
use Rattle.std.specs.Io.KnownBytes.{Keeps}
use Rattle.std.specs.declared.alloc.Global.{Global}
use Rattle.std.specs.declared.vec.Vec.{Vec}
use Rattle.peg_explain.proofs.RefusalCauses.{cause-rules}
use Rattle.peg_explain.specs.RefusalMessages.{IsRefusalMessage, refusal_definitions}
use Rattle.peg_explain_files.specs.Contents.{IsContentOf}
use Rattle.peg_explain_files.specs.Explained.{IsUnread, WritesRefusal}
use Rattle.peg_explain_files.specs.Printings.{WritesAlone}
use Rattle.peg_explain_files.specs.declared.content.Content.{Content}
use Rattle.peg_explain_files.specs.declared.content.Content.TheVariants.{Bytes, Unopened, Unreadable}
use Rattle.peg_explain_files.specs.declared.ended.Ended.{Ended}
use Rattle.peg_explain_files.specs.declared.ended.ExplainFault.{ExplainFault}
use Rattle.peg_explain_files.specs.declared.ended.ExplainFault.TheVariants as explaining
use Rattle.peg_explain_files.specs.declared.ended.Verdict.TheVariants.{Refused}
use Rattle.peg_io.specs.NamedFile.{NamedFile}
use Rattle.peg_messages.specs.FileNames.{shown_name}
use Rattle.peg_metagrammar.specs.Notation.{max_file_bytes}
use Rattle.peg_parser.specs.Cause.{Cause}
use Rattle.peg_parser.specs.Faults.{HasCause, HasDefinitionsOf, cause_of, of_cause, out_of_memory}
use Rattle.peg_parser.specs.Refusals.{IsRefusalOf}
use Rattle.peg_parser.specs.declared.refusal.Refusal.{Refusal}
use Rattle.peg_record_files.specs.declared.fault.RecordsFault.{RecordsFault}
use Rattle.peg_record_files.specs.declared.fault.RecordsFault.TheVariants.{Memory}
use Rattle.peg_semantics.specs.Form.{Reference}
use Rattle.peg_explain_records.specs.Questions.{RecordsQuestion}
use Rattle.peg_explain_records.specs.RecordExplainers.{LeadsByParser}
use Rattle.peg_explain_records.specs.RecordsExplained.{IsRecordsExplained, Refuses, early_end, refused}

-- the message of a refusal alone answers a question
refused-early : (question : RecordsQuestion) (file : List ℕ) (why : Refusal) (old new : Option (List ℕ))
    (ended : Result Ended ExplainFault) → HasCause (IsRefusalOf file) (length file) why → HasDefinitionsOf file why
    → (message : List ℕ) × (cause : Cause) × (cause_of why ≡ Some cause)
    × IsRefusalMessage (shown_name question.grammar) file (refusal_definitions why) cause message
    × WritesAlone question.printing message Refused old new ended → Refuses question file old new ended
refused-early question file why old new ended (out_of_memory is) has printed =
    absurd (let none : None ≡ Some printed.1 = sym (ap cause_of is) ∙ printed.2 in cc)
refused-early question file why old new ended (of_cause cause cause_is holds starts named) has printed =
    let name = shown_name question.grammar in
    let both : Some cause ≡ Some printed.1 = sym cause_is ∙ printed.2 in
    let of_cause : printed.1 ≡ cause = cc in
    let known = cause-rules file why cause cause_is has in
    refused holds known.of_cycle
    (subst (λ (d : List Reference). IsRefusalMessage name file d cause printed.0) known.defined
    (subst (λ (c : Cause). IsRefusalMessage name file (refusal_definitions why) c printed.0) of_cause printed.3)) printed.4

-- an error that is passed on is that of the result
pub stated-error : {T : Type 0} (result : Result T RecordsFault) (why : RecordsFault)
    → IsErrAnd result (λ stated. stated ≡ why) → result ≡ Err why
stated-error (Ok value) why is = absurd is
stated-error (Err stated) why is = ap Err is

module _ (question : RecordsQuestion) (file_at : List ℕ → NamedFile) (input : Option (List ℕ)) (content : Content)
    (right : IsContentOf (max_file_bytes + 1) (file_at question.grammar) content) where
  read-as : (other : Content) → content ≡ other → IsContentOf (max_file_bytes + 1) (file_at question.grammar) other
  read-as other is = subst (λ (c : Content). IsContentOf (max_file_bytes + 1) (file_at question.grammar) c) is right

  -- a grammar file that can't be opened
  pub unopened-explained : (old : Option (List ℕ)) (ended : Result Ended ExplainFault) (result : Result Ended RecordsFault)
      → content ≡ Unopened → IfOk ended (IsUnread question.grammar (codes ": can't be opened\n") question.printing)
      → IfErr ended (λ fault. fault ≡ explaining.Memory) → result ≡ early_end ended
      → IsRecordsExplained question file_at input old old result
  unopened-explained old (Ok ended) result is unread memory same =
      inr (Unopened, read-as Unopened is, inl (Ok ended, (ended, refl, unread, Keeps-refl old), same))
  unopened-explained old (Err fault) result is unread memory same =
      inl (same ∙ ap (λ (f : ExplainFault). early_end (Err f)) memory, Keeps-refl old)

  -- a grammar file that can't be read
  pub unreadable-explained : (old : Option (List ℕ)) (ended : Result Ended ExplainFault) (result : Result Ended RecordsFault)
      → content ≡ Unreadable → IfOk ended (IsUnread question.grammar (codes ": can't be read\n") question.printing)
      → IfErr ended (λ fault. fault ≡ explaining.Memory) → result ≡ early_end ended
      → IsRecordsExplained question file_at input old old result
  unreadable-explained old (Ok ended) result is unread memory same =
      inr (Unreadable, read-as Unreadable is, inl (Ok ended, (ended, refl, unread, Keeps-refl old), same))
  unreadable-explained old (Err fault) result is unread memory same =
      inl (same ∙ ap (λ (f : ExplainFault). early_end (Err f)) memory, Keeps-refl old)

  -- a refused grammar file
  pub refused-explained : (old new : Option (List ℕ)) (ended : Result Ended ExplainFault) (result : Result Ended RecordsFault)
      (file : Vec ℕ Global) (read : List ℕ) (why : Refusal) → content ≡ Bytes file → read ≡ file.items
      → HasCause (IsRefusalOf read) (length read) why → HasDefinitionsOf read why
      → WritesRefusal question.grammar read why question.printing old new ended → result ≡ early_end ended
      → IsRecordsExplained question file_at input old new result
  refused-explained old new ended result file read why is same caused has (inl failed) end =
      inl (end ∙ ap early_end failed.0, failed.1)
  refused-explained old new ended result file read why is same caused has (inr writes) end = inr (
    Bytes file,
    read-as (Bytes file) is,
    inl (
      ended,
      subst (λ (l : List ℕ). Refuses question l old new ended) same
          (refused-early question read why old new ended caused has writes),
      end,
    ),
  )

  -- an accepted grammar file
  pub accepted-explained : (old new : Option (List ℕ)) (result : Result Ended RecordsFault) (file : Vec ℕ Global)
      (read : List ℕ) → content ≡ Bytes file → read ≡ file.items
      → LeadsByParser question file_at input read old new result
      → IsRecordsExplained question file_at input old new result
  accepted-explained old new result file read is same (inl failed) = inl failed
  accepted-explained old new result file read is same (inr (inl early)) = inr (
    Bytes file,
    read-as (Bytes file) is,
    inl (early.0, subst (λ (l : List ℕ). Refuses question l old new early.0) same early.1, early.2),
  )
  accepted-explained old new result file read is same (inr (inr explains)) =
      inr (Bytes file, read-as (Bytes file) is, inr (read, sym same, explains))
