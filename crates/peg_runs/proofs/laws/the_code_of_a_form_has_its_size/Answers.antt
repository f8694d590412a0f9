use Rattle.peg_runs.proofs.CodeLemmas.{length-code_of}
use Rattle.peg_runs.proofs.laws.the_code_of_a_form_has_its_size.Goals as goal

pub returns : goal.returns
returns c = length-code_of
