use Rattle.peg_runs.proofs.PartialRunLemmas.{hits_on, calls_on}
use Rattle.peg_runs.proofs.step_laws.a_call_hits_or_starts.Goals as goal

pub returns : goal.returns
returns c = record {
  hits = λ context start answer tests calls to_come pc position rows active below partial_run rule r.
      hits_on context start answer tests calls to_come pc position rows active below rule r partial_run;
  begins = calls_on;
}
