-- Describes code: what explains texts, and how far they are explained.
use Rattle.std.specs.Prelude.{◌≡◌, true, ℕ, List, Option, None, Some, is_some}
use Rattle.peg_explain.specs.Explainers.{IsExplainerOf}
use Rattle.peg_explain.specs.declared.explainer.Explainer.{Explainer}
use Rattle.peg_io.specs.NamedFile.{NamedFile}
use Rattle.peg_parser.specs.Parser.{parser_rules, start_named}
use Rattle.peg_semantics.specs.Starts.{start_name}
use Rattle.peg_explain_files.specs.Progress.{Setting}
use Rattle.peg_explain_files.specs.Questions.{question_of}
use Rattle.peg_explain_files.specs.declared.task.Task.{Task}

-- what texts are explained by, over files by name
abbrev pub setting_of : {O : Type 0} → (files : List ℕ → NamedFile) → Task O → Setting
setting_of files task = record {
  question = question_of task.query.now;
  printing = task.printing;
  named = files;
  file = task.file.now;
  rules = parser_rules task.parser.now;
}

-- a rule has the name of the start, if one is given
abbrev pub HasStart : {O : Type 0} → Task O → Type 0
HasStart task =
    is_some (start_name (parser_rules task.parser.now) (start_named task.query.now.options)) ≡ true

-- an explainer is made for the grammar of a task, if there is one yet
abbrev pub IsMadeFor : {O : Type 0} → Task O → Option Explainer → Type 0
IsMadeFor task None = Unit {0}
IsMadeFor task (Some explainer) = IsExplainerOf task.file.now (parser_rules task.parser.now) explainer
    × (explainer.style ≡ task.query.now.style)
