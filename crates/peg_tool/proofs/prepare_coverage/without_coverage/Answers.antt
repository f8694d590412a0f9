use Rattle.peg_tool.proofs.RecordCoverageLemmas.{marked-refused}
use Rattle.peg_tool.proofs.prepare_coverage.without_coverage.Goals as goal

pub returns-in_ok-line-in_default : goal.returns-in_ok-line-in_default
returns-in_ok-line-in_default c = record {
  prepared = λ file rules accepts refused question.
      marked-refused question file rules c.args.why c.in_ok-line-in_default.line accepts c.in_default.not-Memory refused
      (c.in_ok-line-in_default.ensures file);
  parsers = tt;
}
