use Rattle.std.proofs.Common.{◌∙◌, ap}
use Rattle.peg_json.specs.Lines.{line_bytes}
use Rattle.peg_json.specs.Statuses.{status_code}
use Rattle.peg_json.specs.declared.line.Line.{Line}
use Rattle.peg_tool.proofs.covering.no_coverage.Goals as goal

pub returns-in_ok-line-in_default : goal.returns-in_ok-line-in_default
returns-in_ok-line-in_default c =
    let same = c.line_alone.ensures.line in
    let is = c.in_ok-line-in_default.ensures in
    record {
      line = (
        c.in_default.not-Memory,
        c.line_alone.ensures.faults,
        λ file. (ap line_bytes same ∙ (is file).0, ap (λ (l : Line). status_code l.status) same ∙ (is file).1),
      );
      fault = tt;
    }
