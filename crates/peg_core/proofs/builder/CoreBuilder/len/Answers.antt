use Rattle.std.proofs.Common.{length, sym, ap, ◌∙◌, subst}
use Rattle.std.proofs.lemmas.List.{length-map}
use Rattle.peg_bytes.specs.Extent.{extent}
use Rattle.peg_core.specs.BuilderForms.{forms_of}
use Rattle.peg_core.specs.Layout.{Layout}
use Rattle.peg_core.specs.FormsOfNodes.{AreFormsOfNodes}
use Rattle.peg_core.proofs.FlatLemmas.{length-forms_of, forms_of-nodes}
use Rattle.peg_core.proofs.builder.CoreBuilder.len.Goals as goal

pub returns-clause-count : goal.returns-clause-count
returns-clause-count c =
    c.len.ensures ∙ (sym (length-forms_of c.self.inside.nodes)
    ∙ ap (λ (l : Layout). length l.forms) c.self.view_is)

pub returns-clause-spelled : goal.returns-clause-spelled
returns-clause-spelled c =
    let inside = c.self.inside in
    let forms = forms_of inside.nodes in
    subst (λ (l : Layout). AreFormsOfNodes l.forms l.rules (length l.spans)) c.self.view_is
    (subst (AreFormsOfNodes forms inside.rules) (sym (length-map inside.spans.items extent))
    (forms_of-nodes inside.nodes inside.rules (length inside.spans.items) c.self.invariant.fit))
