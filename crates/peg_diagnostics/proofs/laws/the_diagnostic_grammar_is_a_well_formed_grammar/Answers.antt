use Rattle.peg_diagnostics.proofs.DiagnosticGrammar.{IsGrammar-diagnostic}
use Rattle.peg_diagnostics.proofs.DiagnosticWellFormed.{well_formed_shown, well_formed_unshown}
use Rattle.peg_diagnostics.proofs.laws.the_diagnostic_grammar_is_a_well_formed_grammar.Goals as goal

pub returns-clause-grammar : goal.returns-clause-grammar
returns-clause-grammar c = IsGrammar-diagnostic

pub returns-clause-well_formed : goal.returns-clause-well_formed
returns-clause-well_formed c = λ rules is distinct.
    (well_formed_unshown rules is.defined distinct, well_formed_shown rules is.defined distinct)
