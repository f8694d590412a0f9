use Rattle.std.proofs.Common.{length}
use Rattle.peg_semantics.specs.Rules.{name_of}
use Rattle.peg_semantics.specs.Terminals.{extents_of_terminals}
use Rattle.peg_semantics.proofs.TerminalLemmas.{start_record-below, expected-below}
use Rattle.peg_semantics.proofs.laws.every_failed_test_is_of_a_terminal.Goals as goal

pub returns-clause-tests : goal.returns-clause-tests
returns-clause-tests c = λ rules text n start r is. start_record-below rules text n (name_of rules start) r is

pub returns-clause-furthest : goal.returns-clause-furthest
returns-clause-furthest c = λ rules text n start r far expected is furthest.
    expected-below (length (extents_of_terminals rules)) r.tests far expected furthest
    (start_record-below rules text n (name_of rules start) r is)
