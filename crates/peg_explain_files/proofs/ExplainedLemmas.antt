-- What is printed for a question.
use Rattle.std.proofs.Common.{◌≡◌, ◌∙◌, ℕ, List, [], Option, None, Some, Result, ap, length, option_map, refl, subst, sym, unwrap_or}
use Rattle.std.specs.Borrow.{Bor}
use Rattle.peg_explain.proofs.RefusalCauses.{cause-rules}
use Rattle.peg_explain.specs.RefusalMessages.{IsRefusalMessage, refusal_definitions}
use Rattle.peg_io.specs.NamedFile.{NamedFile}
use Rattle.peg_messages.specs.FileNames.{shown_name}
use Rattle.peg_parser.specs.Cause.{Cause}
use Rattle.peg_parser.specs.Faults.{HasCause, HasDefinitionsOf, cause_of, of_cause, out_of_memory}
use Rattle.peg_parser.specs.Refusals.{IsRefusalOf}
use Rattle.peg_parser.specs.declared.refusal.Refusal.{Refusal}
use Rattle.peg_semantics.specs.Form.{Reference}
use Rattle.peg_explain_files.specs.Explained.{IsAnswer, refused}
use Rattle.peg_explain_files.specs.Printings.{WritesAlone}
use Rattle.peg_explain_files.specs.Questions.{Question}
use Rattle.peg_explain_files.specs.declared.ended.Ended.{Ended}
use Rattle.peg_explain_files.specs.declared.ended.ExplainFault.{ExplainFault}
use Rattle.peg_explain_files.specs.declared.ended.Verdict.TheVariants.{Refused}
use Rattle.peg_explain_files.specs.declared.printing.Printing.{Printing}

-- the bytes of a name, or no bytes
pub unwrap-name : (name : Option (Bor (List ℕ))) (default : Bor (List ℕ)) → default.now ≡ []
    → (unwrap_or name default).now ≡ unwrap_or (option_map (λ n. n.now) name) []
unwrap-name None default empty = empty
unwrap-name (Some name) default empty = refl

-- ---- refused grammar files

-- the message of a refusal alone answers a question
pub refused-answer : (question : Question) (printing : Printing) (file_at : List ℕ → NamedFile) (input : Option (List ℕ))
    (file : List ℕ) (why : Refusal) (old new : Option (List ℕ)) (result : Result Ended ExplainFault)
    → HasCause (IsRefusalOf file) (length file) why → HasDefinitionsOf file why
    → (message : List ℕ) × (cause : Cause) × (cause_of why ≡ Some cause)
    × IsRefusalMessage (shown_name question.grammar) file (refusal_definitions why) cause message
    × WritesAlone printing message Refused old new result
    → IsAnswer question printing file_at input file old new result
refused-answer question printing file_at input file why old new result (out_of_memory is) has printed =
    absurd (let none : None ≡ Some printed.1 = sym (ap cause_of is) ∙ printed.2 in cc)
refused-answer question printing file_at input file why old new result (of_cause cause cause_is holds starts named) has printed =
    let name = shown_name question.grammar in
    let both : Some cause ≡ Some printed.1 = sym cause_is ∙ printed.2 in
    let of_cause : printed.1 ≡ cause = cc in
    let known = cause-rules file why cause cause_is has in
    refused holds known.of_cycle
    (subst (λ (d : List Reference). IsRefusalMessage name file d cause printed.0) known.defined
    (subst (λ (c : Cause). IsRefusalMessage name file (refusal_definitions why) c printed.0) of_cause printed.3)) printed.4
