use Rattle.std.proofs.Common.{All, length, subst, sym, ap, ◌∙◌}
use Rattle.peg_core.specs.Layout.{bodies_of, Desugared}
use Rattle.peg_code.specs.Code.{program_code}
use Rattle.peg_code.specs.Instructions.{TestFits}
use Rattle.peg_code.specs.Sizes.{TestsFitSoFar}
use Rattle.peg_code.proofs.TestLemmas.{fit-program_code}
use Rattle.peg_code.proofs.compiler.compile.Goals as goal

pub new-requires-clause-tests : goal.new-requires-clause-tests
new-requires-clause-tests c =
    let core = c.args.checked.core in
    let tests = subst (λ (core : Desugared). TestsFitSoFar (length core.spans) core.forms (length core.forms)) c.core.ensures c.in_ok-form_sizes.ensures.tests in
    let emitted = c.in_ok-instrs.ensures.code ∙ ap (λ (core : Desugared). program_code (bodies_of core)) c.core-3.ensures in
    subst (All (TestFits (length core.spans))) (sym emitted) (fit-program_code (length core.spans) core tests)
