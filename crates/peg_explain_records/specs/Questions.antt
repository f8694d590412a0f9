-- What is asked of the records of texts.
use Rattle.std.specs.Prelude.{ℕ, List, Option, map, string_bytes}
use Rattle.peg_explain.specs.declared.style.ItemStyle.{ItemStyle}
use Rattle.peg_explain_files.specs.declared.printing.Printing.{Printing}
use Rattle.peg_parser.specs.Parser.{start_named}
use Rattle.peg_records.specs.declared.end.RecordEnd.{RecordEnd}
use Rattle.peg_explain_records.specs.declared.query.ExplainRecordsQuery.{ExplainRecordsQuery}

-- A question: the names of a grammar file and of texts, and how records end; the start rule, the capacity of the memo (0
-- for none), and the limit of steps; how messages write items, what is printed, and the limit of the messages of a text.
pub record RecordsQuestion : Type 0 where
  pub grammar : List ℕ
  pub texts : List (List ℕ)
  pub end : RecordEnd
  pub start : Option (List ℕ)
  pub memo : ℕ
  pub steps : Option ℕ
  pub style : ItemStyle
  pub printing : Printing
  pub max_errors : Option ℕ

-- the question of a query
abbrev pub question_of : ExplainRecordsQuery → RecordsQuestion
question_of query = record {
  grammar = query.grammar.now;
  texts = map string_bytes query.texts.now;
  end = query.end;
  start = start_named query.options;
  memo = query.options.memo;
  steps = query.options.steps;
  style = query.style;
  printing = query.printing;
  max_errors = query.max_errors;
}
