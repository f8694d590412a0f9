use Rattle.peg_semantics.proofs.TerminalLemmas.{record_in-in_text, record_in-ends}
use Rattle.peg_semantics.proofs.laws.records_stay_within_the_text.Goals as goal

pub returns-clause-tests : goal.returns-clause-tests
returns-clause-tests c = record_in-in_text

pub returns-clause-end : goal.returns-clause-end
returns-clause-end c = record_in-ends
