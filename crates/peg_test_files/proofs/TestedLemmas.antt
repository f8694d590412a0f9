-- What is written for a question, by what is read of the grammar file.
use Rattle.std.proofs.Common.{◌≡◌, ◌≢◌, ◌∙◌, ℕ, ◌+◌, inl, inr, List, [], None, Option, Some, IfErr, IfOk, Result, Ok, Err, ap, codes}
use Rattle.std.proofs.Common.{length, map, refl, string_bytes, subst, sym, ◌++◌}
use Rattle.std.specs.List.{flat_map}
use Rattle.std.proofs.KnownBytes.{Keeps-refl}
use Rattle.std.specs.Io.KnownBytes.{Appends, Keeps}
use Rattle.std.specs.declared.alloc.Global.{Global}
use Rattle.std.specs.declared.vec.Vec.{Vec}
use Rattle.peg_explain.specs.declared.style.ItemStyle.{ItemStyle}
use Rattle.peg_explain_files.proofs.ContentLemmas.{refused-explained, unopened-explained, unreadable-explained}
use Rattle.peg_explain_files.specs.Contents.{IsContentOf}
use Rattle.peg_explain_files.specs.Explained.{IsExplained, IsUnread, WritesRefusal}
use Rattle.peg_explain_files.specs.declared.content.Content.{Content}
use Rattle.peg_explain_files.specs.declared.content.Content.TheVariants.{Bytes, Unopened, Unreadable}
use Rattle.peg_explain_files.specs.declared.ended.Ended.{Ended}
use Rattle.peg_explain_files.specs.declared.ended.ExplainFault.{ExplainFault}
use Rattle.peg_explain_files.specs.declared.ended.ExplainFault.TheVariants.{Write, Memory}
use Rattle.peg_explain_files.specs.declared.ended.Verdict.{Verdict}
use Rattle.peg_explain_files.specs.declared.ended.Verdict.TheVariants as verdict
use Rattle.peg_explain_files.specs.declared.printing.Printing.TheVariants.{All}
use Rattle.peg_io.specs.NamedFile.{NamedFile}
use Rattle.peg_metagrammar.specs.Notation.{max_file_bytes}
use Rattle.peg_parser.specs.Accepts.{Accepts}
use Rattle.peg_parser.specs.Faults.{HasCause, HasDefinitionsOf}
use Rattle.peg_parser.specs.Refusals.{IsRefusalOf}
use Rattle.peg_parser.specs.declared.refusal.Refusal.{Refusal}
use Rattle.peg_semantics.specs.Rules.{Rule}
use Rattle.peg_semantics.specs.Starts.{start_name}
use Rattle.peg_test_files.specs.FolderTexts.{TestSetting}
use Rattle.peg_test_files.specs.TestCounts.{count_line}
use Rattle.peg_test_files.specs.TestQuestions.{TestQuestion, grammar_question}
use Rattle.peg_test_files.specs.TestResults.{AreResultsOf, WritesResults, written_results}
use Rattle.peg_test_files.specs.Tested.{IsGrammarFile, IsTested, Tests, WritesTrials, printed_trials, tested, untested}
use Rattle.peg_test_files.specs.Testers.{HasTested}
use Rattle.peg_test_files.specs.Trials.{trial_end, trial_fault, trial_message, worst_after}
use Rattle.peg_test_files.specs.declared.ends.TestEnd.{TestEnd}
use Rattle.peg_test_files.specs.declared.results.Results.{Results}
use Rattle.peg_test_files.specs.declared.trial.Trial.{Trial}
use Rattle.peg_io.specs.Transfer.{AppendsProperPrefix}

-- what `explain` writes is an answer if it has another verdict, and if nothing is written without memory
untested-by : (question : TestQuestion) (file_at : List ℕ → NamedFile) (old new : Option (List ℕ))
    (result : Result Ended ExplainFault) → IsExplained (grammar_question question) All file_at None old new result
    → IfOk result (λ ended. ended.verdict ≢ verdict.Matches) → (result ≡ Err Memory → Keeps old new)
    → IsTested question file_at old new result
untested-by question file_at old new (Ok ended) explained other keeps = inr (untested explained other)
untested-by question file_at old new (Err Write) explained other keeps = inr (untested explained tt)
untested-by question file_at old new (Err Memory) explained other keeps = inl (refl, keeps refl)

-- a verdict that isn't the best one
unread-verdict : (name rest : List ℕ) (result : Result Ended ExplainFault) → IfOk result (IsUnread name rest All)
    → IfOk result (λ ended. ended.verdict ≢ verdict.Matches)
unread-verdict name rest (Ok ended) unread = λ best. let bad : verdict.Unreadable ≡ verdict.Matches = sym unread.1 ∙ best in cc
unread-verdict name rest (Err fault) unread = tt

-- the bytes that are read of a grammar file
pub grammar-file : (named : NamedFile) (content : Content) (held : Vec ℕ Global) (file : List ℕ)
    → IsContentOf (max_file_bytes + 1) named content → content ≡ Bytes held → file ≡ held.items
    → IsGrammarFile named file
grammar-file named content held file right is same =
    (held, sym same, subst (λ (c : Content). IsContentOf (max_file_bytes + 1) named c) is right)

module _ (question : TestQuestion) (file_at : List ℕ → NamedFile) (content : Content)
    (right : IsContentOf (max_file_bytes + 1) (file_at question.grammar) content) where
  -- a grammar file that can't be opened
  pub unopened-tested : (old : Option (List ℕ)) (result : Result Ended ExplainFault) → content ≡ Unopened
      → IfOk result (IsUnread question.grammar (codes ": can't be opened\n") All)
      → IfErr result (λ fault. fault ≡ Memory) → IsTested question file_at old old result
  unopened-tested old result is unread memory = untested-by question file_at old old result
      (unopened-explained (grammar_question question) All file_at None content right old result is unread memory)
      (unread-verdict question.grammar (codes ": can't be opened\n") result unread) (λ without. Keeps-refl old)

  -- a grammar file that can't be read
  pub unreadable-tested : (old : Option (List ℕ)) (result : Result Ended ExplainFault) → content ≡ Unreadable
      → IfOk result (IsUnread question.grammar (codes ": can't be read\n") All)
      → IfErr result (λ fault. fault ≡ Memory) → IsTested question file_at old old result
  unreadable-tested old result is unread memory = untested-by question file_at old old result
      (unreadable-explained (grammar_question question) All file_at None content right old result is unread memory)
      (unread-verdict question.grammar (codes ": can't be read\n") result unread) (λ without. Keeps-refl old)

  -- a refused grammar file
  pub refused-tested : (old new : Option (List ℕ)) (result : Result Ended ExplainFault) (file : Vec ℕ Global)
      (read : List ℕ) (why : Refusal) → content ≡ Bytes file → read ≡ file.items
      → HasCause (IsRefusalOf read) (length read) why → HasDefinitionsOf read why
      → WritesRefusal question.grammar read why All old new result → IsTested question file_at old new result
  refused-tested old new result file read why is same refused has writes = untested-by question file_at old new result
      (refused-explained (grammar_question question) All file_at None content right old new result file read why is same
      refused has writes) (other result writes) (keeps result writes)
    where
      other : (result : Result Ended ExplainFault) → WritesRefusal question.grammar read why All old new result
          → IfOk result (λ ended. ended.verdict ≢ verdict.Matches)
      other (Ok ended) (inl failed) = absurd (let bad : Ok ended ≡ Err Memory = failed.0 in cc)
      other (Ok ended) (inr writes) = λ best.
          let bad : verdict.Refused ≡ verdict.Matches = sym writes.4.2 ∙ best in cc
      other (Err fault) writes = tt

      keeps : (result : Result Ended ExplainFault) → WritesRefusal question.grammar read why All old new result
          → result ≡ Err Memory → Keeps old new
      keeps result (inl failed) without = failed.1
      keeps (Ok ended) (inr writes) without = absurd (let bad : Ok ended ≡ Err Memory = without in cc)
      keeps (Err Write) (inr writes) without = absurd (let bad : Err Write ≡ Err Memory = without in cc)
      keeps (Err Memory) (inr writes) without = writes.4

-- ---- the results that are written

-- what texts are tested by, if messages are written in this style
abbrev setting_with : TestQuestion → (file_at : List ℕ → NamedFile) → (file : List ℕ) → List Rule → ItemStyle → TestSetting
setting_with question file_at file rules style = record {
  named = file_at;
  file = file;
  rules = rules;
  start = question.start;
  memo = question.memo;
  steps = question.steps;
  style = style;
}

-- the bytes of results are those that are printed of what is found
results-bytes : (trials : List Trial) (results : Results) → AreResultsOf trials results
    → written_results results ≡ printed_trials trials
results-bytes trials results of =
    let none = of.1 in
    let adds = of.2 in
    let lines : results.lines.items ≡ flat_map trial_message trials =
    adds.lines ∙ ap (λ (l : List ℕ). l ++ flat_map trial_message trials) none.lines in
    let ends : results.ends.items ≡ map trial_end trials =
    adds.ends ∙ ap (λ (l : List TestEnd). l ++ map trial_end trials) none.ends in
    ap (λ (l : List ℕ). l ++ count_line results.ends.items) lines
    ∙ ap (λ (l : List TestEnd). flat_map trial_message trials ++ count_line l) ends

-- results that are written are what is found
pub results-written : (trials : List Trial) (results : Results) (old new : Option (List ℕ))
    (result : Result Ended ExplainFault) → AreResultsOf trials results → WritesResults results old new result
    → WritesTrials trials old new result
results-written trials results old new (Ok ended) of writes =
    let none = of.1 in
    let adds = of.2 in (
      subst (λ (l : List ℕ). Appends old new l) (results-bytes trials results of) writes.0,
      ap (λ (e : Ended). string_bytes e.faults) writes.1
          ∙ (adds.faults ∙ ap (λ (l : List ℕ). l ++ flat_map trial_fault trials) none.faults),
      ap (λ (e : Ended). e.verdict) writes.1
          ∙ (adds.verdict ∙ ap (λ (v : Verdict). worst_after v trials) none.verdict),
    )
results-written trials results old new (Err Write) of writes =
    subst (λ (l : List ℕ). AppendsProperPrefix old new l) (results-bytes trials results of) writes
results-written trials results old new (Err Memory) of writes = writes

-- the results of folders are an answer
pub tested-folders : (question : TestQuestion) (file_at : List ℕ → NamedFile) (file : List ℕ) (rules : List Rule)
    (from : List ℕ) (style : ItemStyle) (old new : Option (List ℕ)) (results : Results)
    (result : Result Ended ExplainFault) → style ≡ question.style → IsGrammarFile (file_at question.grammar) file
    → Accepts file rules → start_name rules question.start ≡ Some from
    → HasTested (setting_with question file_at file rules style) question.folders results
    → WritesResults results old new result → Tests question file_at old new result
tested-folders question file_at file rules from style old new results result same is accepts starts has writes =
    let found = subst (λ (s : ItemStyle). HasTested (setting_with question file_at file rules s) question.folders results)
    same has in
    tested is accepts starts found.1 (results-written found.0 results old new result found.2 writes)
