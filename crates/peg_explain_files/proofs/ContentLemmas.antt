-- What is written for a grammar file, by what is read of it.
use Rattle.std.proofs.Common.{◌≡◌, ℕ, ◌+◌, inl, inr, List, Option, IfErr, IfOk, Result, Ok, Err, ap, codes, length, refl, subst}
use Rattle.std.proofs.KnownBytes.{Keeps-refl}
use Rattle.std.specs.declared.alloc.Global.{Global}
use Rattle.std.specs.declared.vec.Vec.{Vec}
use Rattle.peg_io.specs.NamedFile.{NamedFile}
use Rattle.peg_metagrammar.specs.Notation.{max_file_bytes}
use Rattle.peg_parser.specs.Faults.{HasCause, HasDefinitionsOf}
use Rattle.peg_parser.specs.Refusals.{IsRefusalOf}
use Rattle.peg_parser.specs.declared.refusal.Refusal.{Refusal}
use Rattle.peg_explain_files.specs.Contents.{IsContentOf}
use Rattle.peg_explain_files.specs.Explained.{IsAnswer, IsExplained, IsUnread, WritesRefusal}
use Rattle.peg_explain_files.specs.Questions.{Question}
use Rattle.peg_explain_files.specs.declared.content.Content.{Content}
use Rattle.peg_explain_files.specs.declared.content.Content.TheVariants.{Bytes, Unopened, Unreadable}
use Rattle.peg_explain_files.specs.declared.ended.Ended.{Ended}
use Rattle.peg_explain_files.specs.declared.ended.ExplainFault.{ExplainFault}
use Rattle.peg_explain_files.specs.declared.ended.ExplainFault.TheVariants.{Memory}
use Rattle.peg_explain_files.specs.declared.printing.Printing.{Printing}
use Rattle.peg_explain_files.proofs.ExplainedLemmas.{refused-answer}

module _ (question : Question) (printing : Printing) (file_at : List ℕ → NamedFile) (input : Option (List ℕ))
    (content : Content) (right : IsContentOf (max_file_bytes + 1) (file_at question.grammar) content) where
  -- a grammar file that can't be opened
  pub unopened-explained : (old : Option (List ℕ)) (result : Result Ended ExplainFault) → content ≡ Unopened
      → IfOk result (IsUnread question.grammar (codes ": can't be opened\n") printing)
      → IfErr result (λ fault. fault ≡ Memory) → IsExplained question printing file_at input old old result
  unopened-explained old (Ok ended) is unread memory = inr (
    Unopened,
    subst (λ (c : Content). IsContentOf (max_file_bytes + 1) (file_at question.grammar) c) is right,
    (ended, refl, unread, Keeps-refl old),
  )
  unopened-explained old (Err fault) is unread memory = inl (ap Err memory, Keeps-refl old)

  -- a grammar file that can't be read
  pub unreadable-explained : (old : Option (List ℕ)) (result : Result Ended ExplainFault) → content ≡ Unreadable
      → IfOk result (IsUnread question.grammar (codes ": can't be read\n") printing)
      → IfErr result (λ fault. fault ≡ Memory) → IsExplained question printing file_at input old old result
  unreadable-explained old (Ok ended) is unread memory = inr (
    Unreadable,
    subst (λ (c : Content). IsContentOf (max_file_bytes + 1) (file_at question.grammar) c) is right,
    (ended, refl, unread, Keeps-refl old),
  )
  unreadable-explained old (Err fault) is unread memory = inl (ap Err memory, Keeps-refl old)

  -- what is written for the bytes of a grammar file
  pub answer-explained : (old new : Option (List ℕ)) (result : Result Ended ExplainFault) (file : Vec ℕ Global)
      → content ≡ Bytes file → IsAnswer question printing file_at input file.items old new result
      → IsExplained question printing file_at input old new result
  answer-explained old new result file is answer =
      inr (Bytes file, subst (λ (c : Content). IsContentOf (max_file_bytes + 1) (file_at question.grammar) c) is right, answer)

  -- a refused grammar file
  pub refused-explained : (old new : Option (List ℕ)) (result : Result Ended ExplainFault) (file : Vec ℕ Global)
      (read : List ℕ) (why : Refusal) → content ≡ Bytes file → read ≡ file.items
      → HasCause (IsRefusalOf read) (length read) why → HasDefinitionsOf read why
      → WritesRefusal question.grammar read why printing old new result
      → IsExplained question printing file_at input old new result
  refused-explained old new result file read why is same refused has (inl failed) = inl failed
  refused-explained old new result file read why is same refused has (inr writes) =
      answer-explained old new result file is
      (subst (λ (l : List ℕ). IsAnswer question printing file_at input l old new result) same
      (refused-answer question printing file_at input read why old new result refused has writes))
