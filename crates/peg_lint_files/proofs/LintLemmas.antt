-- What is written for a question, by what is read of the grammar file.
use Rattle.std.proofs.Common.{◌≡◌, ◌≢◌, ◌∙◌, ℕ, ◌+◌, inl, inr, List, None, Option, IfErr, IfOk, Result, Ok, Err, codes, length}
use Rattle.std.proofs.Common.{refl, subst, sym}
use Rattle.std.proofs.KnownBytes.{Keeps-refl}
use Rattle.std.specs.Io.KnownBytes.{Keeps}
use Rattle.std.specs.declared.alloc.Global.{Global}
use Rattle.std.specs.declared.vec.Vec.{Vec}
use Rattle.peg_explain_files.proofs.ContentLemmas.{refused-explained, unopened-explained, unreadable-explained}
use Rattle.peg_explain_files.specs.Contents.{IsContentOf}
use Rattle.peg_explain_files.specs.Explained.{IsExplained, IsUnread, OrOutOfMemory, WritesRefusal}
use Rattle.peg_explain_files.specs.declared.content.Content.{Content}
use Rattle.peg_explain_files.specs.declared.content.Content.TheVariants.{Bytes, Unopened, Unreadable}
use Rattle.peg_explain_files.specs.declared.ended.Ended.{Ended}
use Rattle.peg_explain_files.specs.declared.ended.ExplainFault.{ExplainFault}
use Rattle.peg_explain_files.specs.declared.ended.ExplainFault.TheVariants.{Write, Memory}
use Rattle.peg_explain_files.specs.declared.ended.Verdict.TheVariants as verdict
use Rattle.peg_explain_files.specs.declared.printing.Printing.TheVariants.{All}
use Rattle.peg_io.specs.NamedFile.{NamedFile}
use Rattle.peg_metagrammar.specs.Notation.{max_file_bytes}
use Rattle.peg_parser.specs.Accepts.{Accepts}
use Rattle.peg_parser.specs.Faults.{HasCause, HasDefinitionsOf}
use Rattle.peg_parser.specs.Refusals.{IsRefusalOf}
use Rattle.peg_parser.specs.declared.refusal.Refusal.{Refusal}
use Rattle.peg_semantics.specs.Rules.{Rule}
use Rattle.peg_lint_files.specs.LintAnswers.{IsLinted, WritesLints, linted, unlinted}
use Rattle.peg_lint_files.specs.LintQuestions.{LintQuestion, grammar_question}

-- what `explain` writes is an answer if it has another verdict, and if nothing is written without memory
unlinted-by : (question : LintQuestion) (file_at : List ℕ → NamedFile) (old new : Option (List ℕ))
    (result : Result Ended ExplainFault) → IsExplained (grammar_question question) All file_at None old new result
    → IfOk result (λ ended. ended.verdict ≢ verdict.Matches) → (result ≡ Err Memory → Keeps old new)
    → IsLinted question file_at old new result
unlinted-by question file_at old new (Ok ended) explained other keeps = inr (unlinted explained other tt)
unlinted-by question file_at old new (Err Write) explained other keeps = inr (unlinted explained tt refl)
unlinted-by question file_at old new (Err Memory) explained other keeps = inl (refl, keeps refl)

-- a verdict that isn't the best one
unread-verdict : (name rest : List ℕ) (result : Result Ended ExplainFault) → IfOk result (IsUnread name rest All)
    → IfOk result (λ ended. ended.verdict ≢ verdict.Matches)
unread-verdict name rest (Ok ended) unread = λ best.
    let bad : verdict.Unreadable ≡ verdict.Matches = sym unread.1 ∙ best in cc
unread-verdict name rest (Err fault) unread = tt

-- what is written for an accepted file that is read
pub read-linted : (question : LintQuestion) (file_at : List ℕ → NamedFile) (content : Content) (held : Vec ℕ Global)
    (file : List ℕ) (rules : List Rule) (old new : Option (List ℕ)) (result : Result Ended ExplainFault)
    → IsContentOf (max_file_bytes + 1) (file_at question.grammar) content → content ≡ Bytes held → file ≡ held.items
    → Accepts file rules → OrOutOfMemory old new result (WritesLints question file rules old new result)
    → IsLinted question file_at old new result
read-linted question file_at content held file rules old new result right is same accepts (inl failed) = inl failed
read-linted question file_at content held file rules old new result right is same accepts (inr writes) =
    inr (linted held rules
    (subst (λ (c : Content). IsContentOf (max_file_bytes + 1) (file_at question.grammar) c) is right)
    (subst (λ (l : List ℕ). Accepts l rules) same accepts)
    (subst (λ (l : List ℕ). WritesLints question l rules old new result) same writes))

module _ (question : LintQuestion) (file_at : List ℕ → NamedFile) (content : Content)
    (right : IsContentOf (max_file_bytes + 1) (file_at question.grammar) content) where
  -- a grammar file that can't be opened
  pub unopened-linted : (old : Option (List ℕ)) (result : Result Ended ExplainFault) → content ≡ Unopened
      → IfOk result (IsUnread question.grammar (codes ": can't be opened\n") All)
      → IfErr result (λ fault. fault ≡ Memory) → IsLinted question file_at old old result
  unopened-linted old result is unread memory = unlinted-by question file_at old old result
      (unopened-explained (grammar_question question) All file_at None content right old result is unread memory)
      (unread-verdict question.grammar (codes ": can't be opened\n") result unread) (λ without. Keeps-refl old)

  -- a grammar file that can't be read
  pub unreadable-linted : (old : Option (List ℕ)) (result : Result Ended ExplainFault) → content ≡ Unreadable
      → IfOk result (IsUnread question.grammar (codes ": can't be read\n") All)
      → IfErr result (λ fault. fault ≡ Memory) → IsLinted question file_at old old result
  unreadable-linted old result is unread memory = unlinted-by question file_at old old result
      (unreadable-explained (grammar_question question) All file_at None content right old result is unread memory)
      (unread-verdict question.grammar (codes ": can't be read\n") result unread) (λ without. Keeps-refl old)

  -- a refused grammar file
  pub refused-linted : (old new : Option (List ℕ)) (result : Result Ended ExplainFault) (file : Vec ℕ Global)
      (read : List ℕ) (why : Refusal) → content ≡ Bytes file → read ≡ file.items
      → HasCause (IsRefusalOf read) (length read) why → HasDefinitionsOf read why
      → WritesRefusal question.grammar read why All old new result → IsLinted question file_at old new result
  refused-linted old new result file read why is same refused has writes = unlinted-by question file_at old new result
      (refused-explained (grammar_question question) All file_at None content right old new result file read why is same
      refused has writes) (other result writes) (keeps result writes)
    where
      other : (result : Result Ended ExplainFault) → WritesRefusal question.grammar read why All old new result
          → IfOk result (λ ended. ended.verdict ≢ verdict.Matches)
      other (Ok ended) (inl failed) = absurd (let bad : Ok ended ≡ Err Memory = failed.0 in cc)
      other (Ok ended) (inr writes) = λ best.
          let bad : verdict.Refused ≡ verdict.Matches = sym writes.4.2 ∙ best in cc
      other (Err fault) writes = tt

      keeps : (result : Result Ended ExplainFault) → WritesRefusal question.grammar read why All old new result
          → result ≡ Err Memory → Keeps old new
      keeps result (inl failed) without = failed.1
      keeps (Ok ended) (inr writes) without = absurd (let bad : Ok ended ≡ Err Memory = without in cc)
      keeps (Err Write) (inr writes) without = absurd (let bad : Err Write ≡ Err Memory = without in cc)
      keeps (Err Memory) (inr writes) without = writes.4
