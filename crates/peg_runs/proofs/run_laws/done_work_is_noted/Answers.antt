use Rattle.peg_runs.proofs.NotedLemmas.{noted_begun, noted_worked, noted_end, noted_resumed, noted_more}
use Rattle.peg_runs.proofs.run_laws.done_work_is_noted.Goals as goal

pub returns : goal.returns
returns c = record {
  begins = noted_begun;
  does = noted_worked;
  ends = noted_end;
  is_back = noted_resumed;
  stays = noted_more;
}
