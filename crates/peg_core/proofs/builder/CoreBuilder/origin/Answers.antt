use Rattle.std.proofs.Common.{◌≡◌, ◌<◌, length, ap, subst, arith}
use Rattle.peg_bytes.specs.Extent.{extent}
use Rattle.peg_bytes.specs.declared.span.Span.{Span}
use Rattle.peg_core.specs.Layout.{Layout, form_at}
use Rattle.peg_core.specs.CoreNodes.{IsStarFrom, shape}
use Rattle.peg_core.specs.declared.node.Entry.{Entry}
use Rattle.peg_core.proofs.FlatLemmas.{length-forms_of, form_at-node, part-at, star-node}
use Rattle.peg_core.proofs.builder.CoreBuilder.origin.Goals as goal

pub origin-requires : goal.origin-requires
origin-requires c =
    omega (arith, c.requires.within, length-forms_of c.self.inside.nodes, ap (λ (l : Layout). length l.forms) c.self.view_is)

pub returns : goal.returns
returns c =
    let inside = c.self.inside in
    let few : c.args.number < length inside.nodes = omega (arith, c.requires.within, length-forms_of inside.nodes, ap (λ (l : Layout). length l.forms) c.self.view_is) in
    let found = part-at (λ (p : Entry). p.origin) inside.nodes c.args.number c.origin.result few c.origin.ensures in
    let part = found.0 in
    let forms = c.args.self.now.forms in
    let is : form_at forms c.args.number ≡ shape forms (extent part.origin) part.node = subst (λ (l : Layout). form_at l.forms c.args.number ≡ shape l.forms (extent part.origin) part.node) c.self.view_is (form_at-node inside.nodes inside.rules (length inside.spans.items) c.args.number part c.self.invariant.fit few found.1.0) in
    subst (λ (span : Span). IsStarFrom forms c.args.number (extent span)) found.1.1
    (star-node forms part.node c.args.number c.requires.star.0 (extent part.origin) c.requires.star.1 is)
