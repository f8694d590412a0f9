use Rattle.peg_runs.proofs.RecordRuns.{record_runs}
use Rattle.peg_runs.proofs.laws.code_runs_as_its_record_says.Goals as goal

pub returns : goal.returns
returns c counted bodies body_context n form pc position steps r answers code_at =
    record_runs body_context counted bodies n answers form position pc code_at r steps
