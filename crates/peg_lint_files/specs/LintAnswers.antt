-- What is printed for a question about a grammar file.
use Rattle.std.specs.Prelude.{◌≡◌, ◌≢◌, ℕ, ◌+◌, List, [], ◌∷◌, Option, None, Result, IfErr, IfOk, unwrap_or}
use Rattle.std.specs.declared.alloc.Global.{Global}
use Rattle.std.specs.declared.vec.Vec.{Vec}
use Rattle.peg_explain_files.specs.Contents.{IsContentOf}
use Rattle.peg_explain_files.specs.Explained.{IsExplained, OrOutOfMemory, no_start_message}
use Rattle.peg_explain_files.specs.Printings.{WritesAlone}
use Rattle.peg_explain_files.specs.declared.content.Content.TheVariants.{Bytes}
use Rattle.peg_explain_files.specs.declared.ended.Ended.{Ended}
use Rattle.peg_explain_files.specs.declared.ended.ExplainFault.{ExplainFault}
use Rattle.peg_explain_files.specs.declared.ended.ExplainFault.TheVariants.{Write}
use Rattle.peg_explain_files.specs.declared.ended.Verdict.{Verdict}
use Rattle.peg_explain_files.specs.declared.ended.Verdict.TheVariants.{Matches, Differs, NoSuchStart}
use Rattle.peg_explain_files.specs.declared.printing.Printing.TheVariants.{All}
use Rattle.peg_io.specs.NamedFile.{NamedFile}
use Rattle.peg_json.specs.Lints.{LintsTo, start_number}
use Rattle.peg_json.specs.Reply.{Linted}
use Rattle.peg_lint.specs.declared.warning.Warning.{Warning}
use Rattle.peg_messages.specs.FileNames.{shown_name}
use Rattle.peg_metagrammar.specs.Notation.{max_file_bytes}
use Rattle.peg_parser.specs.Accepts.{Accepts}
use Rattle.peg_semantics.specs.Rules.{Rule, names}
use Rattle.peg_lint_files.specs.LintQuestions.{LintQuestion, grammar_question}
use Rattle.peg_lint_files.specs.WarningMessages.{lint_message}

-- the verdict for warnings
abbrev pub verdict_of : List Warning → Verdict
verdict_of [] = Matches
verdict_of (warning ∷ warnings) = Differs

-- the messages for these warnings about a grammar file with a name are written
abbrev pub WritesWarnings : (name file : List ℕ) → List Rule → List Warning → (old new : Option (List ℕ))
    → Result Ended ExplainFault → Type 0
WritesWarnings name file rules warnings old new result =
    WritesAlone All (lint_message (shown_name name) file rules warnings) (verdict_of warnings) old new result

-- What is written for an accepted grammar file with these rules: that no rule has the name of the start, or the
-- messages for the warnings that `lint` prints without `--human`.
pub data WritesLints (question : LintQuestion) (file : List ℕ) (rules : List Rule) (old new : Option (List ℕ))
    (result : Result Ended ExplainFault) : Type 0 where
  no_such_start : start_number rules question.start ≡ None
      → WritesAlone All (no_start_message question.grammar (unwrap_or question.start [])) NoSuchStart old new result
      → WritesLints question file rules old new result
  warned : {warnings : List Warning}
      → LintsTo file rules question.start question.selection (Linted (names rules) warnings)
      → WritesWarnings question.grammar file rules warnings old new result
      → WritesLints question file rules old new result

-- What is written for a question: what `explain` writes of a grammar file that can't be opened or read or that is
-- refused, or what is written for an accepted one. The grammar file is read up to its limit and one byte more.
pub data Lints (question : LintQuestion) (file_at : List ℕ → NamedFile) (old new : Option (List ℕ))
    (result : Result Ended ExplainFault) : Type 0 where
  unlinted : IsExplained (grammar_question question) All file_at None old new result
      → IfOk result (λ ended. ended.verdict ≢ Matches) → IfErr result (λ fault. fault ≡ Write)
      → Lints question file_at old new result
  linted : (held : Vec ℕ Global) (rules : List Rule)
      → IsContentOf (max_file_bytes + 1) (file_at question.grammar) (Bytes held) → Accepts held.items rules
      → WritesLints question held.items rules old new result → Lints question file_at old new result

-- what is written for a question over files by name, or nothing, since an allocation failed
abbrev pub IsLinted : LintQuestion → (file_at : List ℕ → NamedFile) → (old new : Option (List ℕ))
    → Result Ended ExplainFault → Type 0
IsLinted question file_at old new result = OrOutOfMemory old new result (Lints question file_at old new result)
