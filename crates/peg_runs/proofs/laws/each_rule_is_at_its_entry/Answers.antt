use Rattle.peg_runs.proofs.CodeLemmas.{program_code-enters}
use Rattle.peg_runs.proofs.laws.each_rule_is_at_its_entry.Goals as goal

pub returns : goal.returns
returns c = program_code-enters
