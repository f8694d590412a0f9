-- What is asked of texts.
use Rattle.std.specs.Prelude.{ℕ, List, Option, map, option_map, string_bytes}
use Rattle.peg_explain.specs.declared.style.ItemStyle.{ItemStyle}
use Rattle.peg_parser.specs.Parser.{start_named}
use Rattle.peg_explain_files.specs.declared.query.NameEnd.{NameEnd}
use Rattle.peg_explain_files.specs.declared.query.Query.{Query}

-- A question: the names of a grammar file and of texts; a list of further names, and which byte ends a name in it; the
-- start rule, the capacity of the memo (0 for none), and the limit of steps; and how messages write items.
pub record Question : Type 0 where
  pub grammar : List ℕ
  pub texts : List (List ℕ)
  pub list : Option (List ℕ)
  pub end : NameEnd
  pub start : Option (List ℕ)
  pub memo : ℕ
  pub steps : Option ℕ
  pub style : ItemStyle

-- the question of a query
abbrev pub question_of : Query → Question
question_of query = record {
  grammar = query.grammar.now;
  texts = map string_bytes query.texts.now;
  list = option_map (λ name. name.now) query.list;
  end = query.end;
  start = start_named query.options;
  memo = query.options.memo;
  steps = query.options.steps;
  style = query.style;
}
