-- What is reported of a text.
use Rattle.std.specs.Prelude.{◌≡◌, ℕ, ◌+◌, ◌<◌, List, Option, None, Some, length}
use Rattle.std.specs.Str.{IsUtf8}
use Rattle.std.specs.declared.alloc.Global.{Global}
use Rattle.std.specs.declared.vec.Vec.{Vec}
use Rattle.peg_explain.specs.Explanations.{ExplainingAnswersWithin, ExplainingStaysWithin, ExplainingTakesMoreSteps}
use Rattle.peg_explain.specs.Explanations.{IsExplanationIn}
use Rattle.peg_explain.specs.declared.style.ItemStyle.{ItemStyle}
use Rattle.peg_grammar.specs.Limits.{max_text_bytes}
use Rattle.peg_io.specs.NamedFile.{NamedFile}
use Rattle.peg_messages.specs.declared.lines.TextLines.{TextLines}
use Rattle.peg_messages.specs.declared.lines.TextLines.TheVariants.{File}
use Rattle.peg_semantics.specs.Rules.{Rule}
use Rattle.peg_semantics.specs.Starts.{start_name}
use Rattle.peg_explain_files.specs.Contents.{IsContentOf}
use Rattle.peg_explain_files.specs.declared.content.Content.{Content}
use Rattle.peg_explain_files.specs.declared.content.Content.TheVariants.{Bytes, Unopened, Unreadable}
use Rattle.peg_explain_files.specs.declared.reports.TextReport.{TextReport}
use Rattle.peg_explain_files.specs.declared.reports.TextReport.TheVariants as report

-- What is reported of a text with these lines from a start rule: nothing, if it matches as a whole; a message, if it
-- doesn't; or that it or its parse is over a limit. The steps of the parse stay within the limit, with a memo, too. Without
-- a memo, a parse over the limit of steps is always reported as such.
pub data IsReportIn (file : List ℕ) (rules : List Rule) (style : ItemStyle) (start : Option (List ℕ)) (memo : ℕ) (steps : Option ℕ)
    (lines : TextLines) (name text : List ℕ) : TextReport → Type 0 where
  matches : {from : List ℕ} → start_name rules start ≡ Some from → IsExplanationIn file rules style lines name text from None
      → (memo ≡ 0 → ExplainingStaysWithin rules text start steps) → ExplainingAnswersWithin rules text start steps
      → IsReportIn file rules style start memo steps lines name text report.Matches
  differs : {from : List ℕ} {message : Vec ℕ Global} → start_name rules start ≡ Some from
      → IsExplanationIn file rules style lines name text from (Some message.items)
      → (memo ≡ 0 → ExplainingStaysWithin rules text start steps) → ExplainingAnswersWithin rules text start steps
      → IsReportIn file rules style start memo steps lines name text (report.Differs message)
  too_long : max_text_bytes < length text → IsReportIn file rules style start memo steps lines name text report.TooLong
  too_many_steps : ExplainingTakesMoreSteps rules text start steps
      → IsReportIn file rules style start memo steps lines name text report.TooManySteps

-- what is reported of the text of a file
abbrev pub IsReport : (file : List ℕ) → List Rule → ItemStyle → (start : Option (List ℕ)) → (memo : ℕ)
    → (steps : Option ℕ) → (name text : List ℕ) → TextReport → Type 0
IsReport file rules style start memo steps name text result =
    IsReportIn file rules style start memo steps File name text result

-- what is reported of what is read of a text
abbrev pub IsReportBy : (IsRight : List ℕ → TextReport → Type 0) → Content → TextReport → Type 0
IsReportBy IsRight (Bytes held) result = IsRight held.items result
IsReportBy IsRight Unopened result = result ≡ report.Unopened
IsReportBy IsRight Unreadable result = result ≡ report.Unreadable

-- What is reported of the text in a file. It is read up to the limit of a text and one byte more.
abbrev pub IsReportOf : (IsRight : List ℕ → TextReport → Type 0) → NamedFile → TextReport → Type 0
IsReportOf IsRight file result =
    (content : Content) × IsContentOf (max_text_bytes + 1) file content × IsReportBy IsRight content result

-- What is reported of the text with a name, which may be any bytes. Only a name in UTF-8 has a file.
pub record IsReportOfName (IsRight : List ℕ → TextReport → Type 0) (file_at : List ℕ → NamedFile) (name : List ℕ)
    (result : TextReport) : Type 0 where
  pub of_file : IsUtf8 name → IsReportOf IsRight (file_at name) result
  pub not_utf8 : ¬ IsUtf8 name → result ≡ report.NotUtf8
