use Rattle.peg_bytes.specs.Extent.{between}
use Rattle.peg_semantics.specs.Form.{Name}
use Rattle.std.proofs.Common.{arith}
use Rattle.peg_diagnostics.proofs.MarkedLookups.{has_marker}
use Rattle.peg_diagnostics.proofs.MarkedKept.{marked-record}
use Rattle.peg_diagnostics.proofs.mark_laws.the_marked_grammar_keeps_results.Goals as goal

pub returns-clause-expressions : goal.returns-clause-expressions
returns-clause-expressions c = λ rules text n e number terminal other position r distinct few within is.
    let it = marked-record rules distinct few text n e number terminal other position r within is in
    (it.0, it.1, it.2)

pub returns-clause-starts : goal.returns-clause-starts
returns-clause-starts c = λ rules text n start r distinct few is.
    let it = marked-record rules distinct few text n (Name start (between 0 0)) 0 0 0 0 r (omega arith) is in
    (it.0, it.1, it.2)

pub returns-clause-markers : goal.returns-clause-markers
returns-clause-markers c = λ rules marker distinct few below.
    let it = has_marker rules distinct few marker below in (it.marker, it.found, it.numbered)
