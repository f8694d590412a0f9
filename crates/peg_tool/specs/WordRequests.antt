-- Describes code: what requests are.
use Rattle.std.specs.Prelude.{map, string_bytes}
use Rattle.peg_cli.specs.declared.words.Words.{Words}
use Rattle.peg_cli.specs.declared.words.Words.TheVariants as words
use Rattle.peg_coverage_files.specs.declared.cover_query.CoverQuery.{CoverQuery}
use Rattle.peg_explain_files.specs.Questions.{question_of}
use Rattle.peg_explain_records.specs.Questions as of_records
use Rattle.peg_lint_files.specs.LintQuestions as linted
use Rattle.peg_parser.specs.Parser.{start_named}
use Rattle.peg_replies.specs.Commands.{parse_task, task_of}
use Rattle.peg_test_files.specs.TestQuestions as asked
use Rattle.peg_tool.specs.Requests.{CoverQuestion, ToolRequest, InputRequest, HelpRequest, FileRequest, LintRequest, FilesRequest, CoverRequest, CoverRecordsRequest, ExplainRequest, ExplainRecordsRequest, TestRequest, RecordsRequest}
use Rattle.peg_tool.specs.declared.request.Request.{Request}
use Rattle.peg_tool.specs.declared.request.Request.TheVariants as request

-- what a query asks of the coverage of records
abbrev pub cover_question : CoverQuery → CoverQuestion
cover_question query = record {
  texts = map string_bytes query.texts.now;
  end = query.end;
  start = start_named query.options;
  memo = query.options.memo;
  steps = query.options.steps;
  needed = query.needed;
}

-- what a request asks for
abbrev pub request_of : Request → ToolRequest
request_of request.Joined = InputRequest
request_of (request.Help text) = HelpRequest text.now
request_of (request.OnFile g command) = FileRequest (task_of command) g.now
request_of (request.LintMessages query) = LintRequest (linted.question_of query)
request_of (request.OnFiles g t command) = FilesRequest (task_of command) g.now t.now
request_of (request.Cover g texts options needed) =
    CoverRequest (start_named options) options.memo options.steps needed g.now (map string_bytes texts.now)
request_of (request.CoverRecords g query) = CoverRecordsRequest g.now (cover_question query)
request_of (request.Explain query printing) = ExplainRequest (question_of query) printing
request_of (request.ExplainRecords query) = ExplainRecordsRequest (of_records.question_of query)
request_of (request.Test query) = TestRequest (asked.question_of query)
request_of (request.Records g parse) = RecordsRequest (parse_task parse.options parse.printing) g.now
    (map string_bytes parse.query.texts.now) parse.query.end parse.query.filter

-- the arguments are those of a parse
abbrev pub IsParseWords : Words → Type 0
IsParseWords (words.Parse g t start memo steps all rows no_tree show hide text) = Unit {0}
IsParseWords other = ⊥

-- the arguments are those of a parse of records
abbrev pub IsRecordsWords : Words → Type 0
IsRecordsWords (words.Records g texts null crlf failed matched start memo steps all rows no_tree show hide text) =
    Unit {0}
IsRecordsWords other = ⊥

-- the arguments are those of an explanation of records
abbrev pub IsExplainRecordsWords : Words → Type 0
IsExplainRecordsWords (words.ExplainRecords g texts null crlf start memo steps rules terminals quiet max_errors) = Unit {0}
IsExplainRecordsWords other = ⊥

-- the arguments are those of a coverage of records
abbrev pub IsRecordCoverageWords : Words → Type 0
IsRecordCoverageWords (words.RecordCoverage g texts null crlf start memo steps prefix) = Unit {0}
IsRecordCoverageWords other = ⊥
