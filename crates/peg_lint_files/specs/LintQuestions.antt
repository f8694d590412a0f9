-- What is asked of a grammar file.
use Rattle.std.specs.Prelude.{ℕ, false, List, [], None, Option, option_map}
use Rattle.peg_explain.specs.Styles.{style_of}
use Rattle.peg_explain_files.specs.Questions.{Question}
use Rattle.peg_explain_files.specs.declared.query.NameEnd.TheVariants.{LineEnd}
use Rattle.peg_lint.specs.declared.warning.Selection.{Selection}
use Rattle.peg_lint_files.specs.declared.query.LintQuery.{LintQuery}

-- a question: the name of a grammar file, the start rule, and which warnings are written
pub record LintQuestion : Type 0 where
  pub grammar : List ℕ
  pub start : Option (List ℕ)
  pub selection : Selection

-- the question of a query
abbrev pub question_of : LintQuery → LintQuestion
question_of query = record {
  grammar = query.grammar.now;
  start = option_map (λ name. name.now) query.start;
  selection = query.selection;
}

-- what `explain` would be asked of the grammar file alone
abbrev pub grammar_question : LintQuestion → Question
grammar_question question = record {
  grammar = question.grammar;
  texts = [];
  list = None;
  end = LineEnd;
  start = question.start;
  memo = 0;
  steps = None;
  style = style_of false false;
}
