use Rattle.peg_bytes.specs.Extent.{between}
use Rattle.peg_diagnostics.proofs.DiagnosisLemmas.{diagnosis, name_diagnosis}
use Rattle.peg_diagnostics.proofs.Lookups.{loud_copies}
use Rattle.peg_diagnostics.proofs.laws.the_diagnostic_grammar_computes_the_blame.Goals as goal

pub returns-clause-expressions : goal.returns-clause-expressions
returns-clause-expressions c = λ rules text n e terminal other item position r distinct placed is.
    diagnosis rules text distinct n e terminal other item position r placed is

pub returns-clause-rules : goal.returns-clause-rules
returns-clause-rules c = λ rules name m is.
    let copy = loud_copies rules name m is in
    (copy.copy, copy.found, copy.numbered, copy.loudened, copy.placed)

pub returns-clause-names : goal.returns-clause-names
returns-clause-names c = λ rules text n name span terminal other item position r distinct is.
    name_diagnosis rules text distinct n name span terminal other item position r is

pub returns-clause-starts : goal.returns-clause-starts
returns-clause-starts c = λ rules text n start r distinct is.
    name_diagnosis rules text distinct n start (between 0 0) 0 0 0 0 r is
