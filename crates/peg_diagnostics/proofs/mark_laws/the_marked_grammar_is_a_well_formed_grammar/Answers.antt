use Rattle.peg_diagnostics.proofs.MarkedGrammar.{IsGrammar-marked}
use Rattle.peg_diagnostics.proofs.MarkedWellFormed.{well_formed-marked}
use Rattle.peg_diagnostics.proofs.mark_laws.the_marked_grammar_is_a_well_formed_grammar.Goals as goal

pub returns-clause-grammar : goal.returns-clause-grammar
returns-clause-grammar c = IsGrammar-marked

pub returns-clause-well_formed : goal.returns-clause-well_formed
returns-clause-well_formed c = λ rules is distinct few formed. well_formed-marked rules is.defined distinct few formed
