use Rattle.std.proofs.Common.{◌<◌, All, length, map, sym, subst}
use Rattle.peg_core.specs.CoreLoops.{IsSubformOfBody}
use Rattle.peg_core.specs.Layout.{Desugared, form_at}
use Rattle.peg_core.specs.FormsOfNodes.{AreFormsOfNodes, AllAreFormsOfNodes}
use Rattle.peg_core.proofs.core_forms.Core.len.Goals as goal

pub returns-clause-owned : goal.returns-clause-owned
returns-clause-owned c =
    subst (λ (core : Desugared). All (IsSubformOfBody (map (form_at core.forms) core.bodies)) core.forms) c.self.view_is
    c.self.invariant.owned

pub returns-clause-bodies : goal.returns-clause-bodies
returns-clause-bodies c =
    subst (λ (core : Desugared). All (λ body. body < length core.forms) core.bodies) c.self.view_is
    (λ k d small. c.self.invariant.within k d small)

pub returns-clause-spelled : goal.returns-clause-spelled
returns-clause-spelled c =
    let inside = c.self.inside in
    subst AllAreFormsOfNodes c.self.view_is
    (subst (λ rules. AreFormsOfNodes inside.builder.forms rules (length inside.builder.spans)) (sym c.self.invariant.rules)
    c.len.ensures.spelled)
