-- What is asked of texts in folders.
use Rattle.std.specs.Prelude.{ℕ, List, [], None, Option, map, string_bytes}
use Rattle.peg_explain.specs.declared.style.ItemStyle.{ItemStyle}
use Rattle.peg_explain_files.specs.Questions.{Question}
use Rattle.peg_explain_files.specs.declared.query.NameEnd.TheVariants.{LineEnd}
use Rattle.peg_parser.specs.Parser.{start_named}
use Rattle.peg_test_files.specs.declared.query.TestQuery.{TestQuery}

-- A question: the names of a grammar file and of folders; the start rule, the capacity of the memo (0 for none), and the
-- limit of steps; and how messages write items.
pub record TestQuestion : Type 0 where
  pub grammar : List ℕ
  pub folders : List (List ℕ)
  pub start : Option (List ℕ)
  pub memo : ℕ
  pub steps : Option ℕ
  pub style : ItemStyle

-- the question of a query
abbrev pub question_of : TestQuery → TestQuestion
question_of query = record {
  grammar = query.grammar.now;
  folders = map string_bytes query.folders.now;
  start = start_named query.options;
  memo = query.options.memo;
  steps = query.options.steps;
  style = query.style;
}

-- what is asked of the grammar file alone
abbrev pub grammar_question : TestQuestion → Question
grammar_question question = record {
  grammar = question.grammar;
  texts = [];
  list = None;
  end = LineEnd;
  start = question.start;
  memo = question.memo;
  steps = question.steps;
  style = question.style;
}
