use Rattle.peg_diagnostics.proofs.AnyExpression.{blame_of_record, shown_of_record}
use Rattle.peg_diagnostics.proofs.laws.the_diagnostic_grammar_keeps_results.Goals as goal

pub returns-clause-blame : goal.returns-clause-blame
returns-clause-blame c = blame_of_record

pub returns-clause-loud : goal.returns-clause-loud
returns-clause-loud c = λ rules text n e terminal other position r distinct is.
    shown_of_record rules distinct e text n terminal other position r is
