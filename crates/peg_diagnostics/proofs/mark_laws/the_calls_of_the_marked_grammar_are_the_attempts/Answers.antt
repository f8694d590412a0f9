use Rattle.std.proofs.Common.{arith, subst, sym}
use Rattle.peg_bytes.specs.Extent.{between}
use Rattle.peg_semantics.specs.Form.{Name}
use Rattle.peg_diagnostics.proofs.AttemptLemmas.{has_attempt-shown}
use Rattle.peg_diagnostics.proofs.MarkedKept.{HasMarkedRecord, marked-record}
use Rattle.peg_diagnostics.proofs.mark_laws.the_calls_of_the_marked_grammar_are_the_attempts.Goals as goal

pub returns-clause-expressions : goal.returns-clause-expressions
returns-clause-expressions c = λ rules text n e number terminal other position r distinct few within is.
    marked-record rules distinct few text n e number terminal other position r within is

pub returns-clause-starts : goal.returns-clause-starts
returns-clause-starts c = λ rules text start r attempts distinct few are.
    let name = Name start (between 0 0) in
    subst (HasMarkedRecord rules text name 0 0 r) (sym are.2)
    (marked-record rules distinct few text are.0 name 0 0 0 0 r (omega arith) are.1)

pub returns-clause-each : goal.returns-clause-each
returns-clause-each c = λ rules attempts calls attempt shows fits.
    has_attempt-shown rules attempts calls shows attempt fits
