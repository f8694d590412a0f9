use Rattle.std.proofs.Common.{List, [], length, subst, ℕ}
use Rattle.peg_json.specs.Lines.{line_bytes}
use Rattle.peg_json.specs.Statuses.{status_code}
use Rattle.peg_parser.specs.Accepts.{Accepts}
use Rattle.peg_parser.specs.Parser.{parser_rules}
use Rattle.peg_parser.specs.Refusals.{IsRefusalOf}
use Rattle.peg_replies.proofs.JudgeLemmas.{reported-true_refusal}
use Rattle.peg_tool.specs.RecordCoverage.{RefusesCoverage}
use Rattle.peg_tool.proofs.RecordCoverageLemmas.{faulty-refused}
use Rattle.peg_tool.proofs.prepare_coverage.prepare_by_file.Goals as goal

pub prepare_by_parser-requires : goal.prepare_by_parser-requires
prepare_by_parser-requires c =
    subst (λ (bytes : List ℕ). Accepts bytes (parser_rules c.in-Ok.parser)) c.as_slice-bytes.ensures.value
    c.in-Ok.ensures.accepted

pub refused_line-requires-clause-true_refusal : goal.refused_line-requires-clause-true_refusal
refused_line-requires-clause-true_refusal c =
    let held = c.as_slice-bytes.result.now in
    reported-true_refusal (IsRefusalOf held) (length held) c.in-Err.refusal c.in-Err.ensures.refused

pub returns : goal.returns
returns c =
    let held = c.as_slice-bytes.result.now in
    let line = c.in_ok-line-in-Err.line in
    record {
      prepared = λ question.
          subst (λ (bytes : List ℕ). RefusesCoverage question bytes (line_bytes line) (status_code line.status) [])
          c.as_slice-bytes.ensures.value
          (faulty-refused question held (length held) c.in-Err.refusal line c.in-Err.ensures.refused
          c.in_ok-line-in-Err.ensures);
      parsers = tt;
    }
