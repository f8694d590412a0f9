use Rattle.std.proofs.Common.{length, ap, subst}
use Rattle.peg_check.specs.Verdicts.{AreWellFormedIn}
use Rattle.peg_core.specs.Layout.{Desugared}
use Rattle.peg_code.specs.Compiled.{Compiled}
use Rattle.peg_code.proofs.program.Program.core.Goals as goal

pub returns-clause-well_formed : goal.returns-clause-well_formed
returns-clause-well_formed c =
    subst (λ (core : Desugared). ∥ AreWellFormedIn (length core.forms) core ∥₁)
    (ap (λ (program : Compiled). program.core) c.self.view_is) c.self.inside.checked.well_formed
