use Rattle.peg_runs.proofs.PartialRunLemmas.{kept_more, kept_one}
use Rattle.peg_runs.proofs.step_laws.storable_results_stay_storable.Goals as goal

pub returns : goal.returns
returns c = record { stays = kept_more; one = kept_one }
