use Rattle.peg_runs.proofs.RecordRuns.{body_ends}
use Rattle.peg_runs.proofs.laws.a_body_ends_as_its_record_says.Goals as goal

pub returns : goal.returns
returns c counted bodies body_context n body entry position steps r answers at =
    body_ends body_context counted bodies n answers body position entry at r steps
