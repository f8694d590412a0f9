use Rattle.std.proofs.Common.{◌<◌, length, sym, ap, subst, arith}
use Rattle.std.proofs.lemmas.List.{length-map}
use Rattle.peg_bytes.specs.Extent.{extent}
use Rattle.peg_core.specs.Layout.{Layout}
use Rattle.peg_core.specs.CoreNodes.{NodeFits, IsFormOfNode}
use Rattle.peg_core.specs.declared.node.Entry.{Entry}
use Rattle.peg_core.proofs.FlatLemmas.{length-forms_of, form_at-node, fits-at, part-at}
use Rattle.peg_core.proofs.builder.CoreBuilder.node.Goals as goal

pub node-requires : goal.node-requires
node-requires c =
    omega (arith, c.requires, length-forms_of c.self.inside.nodes, ap (λ (l : Layout). length l.forms) c.self.view_is)

pub returns-clause-form : goal.returns-clause-form
returns-clause-form c =
    let inside = c.self.inside in
    let few : c.args.number < length inside.nodes = omega (arith, c.requires, length-forms_of inside.nodes, ap (λ (l : Layout). length l.forms) c.self.view_is) in
    let found = part-at (λ (p : Entry). p.node) inside.nodes c.args.number c.node.result few c.node.ensures in
    let part = found.0 in
    subst (IsFormOfNode c.args.self.now.forms c.args.number) found.1.1
    (subst (λ (l : Layout). IsFormOfNode l.forms c.args.number part.node) c.self.view_is (
      extent part.origin,
      form_at-node inside.nodes inside.rules (length inside.spans.items) c.args.number part c.self.invariant.fit few found.1.0,
    ))

pub returns-clause-fits : goal.returns-clause-fits
returns-clause-fits c =
    let inside = c.self.inside in
    let few : c.args.number < length inside.nodes = omega (arith, c.requires, length-forms_of inside.nodes, ap (λ (l : Layout). length l.forms) c.self.view_is) in
    let found = part-at (λ (p : Entry). p.node) inside.nodes c.args.number c.node.result few c.node.ensures in
    let part = found.0 in
    subst (λ (l : Layout). NodeFits c.args.number l.rules (length l.spans) c.node.result) c.self.view_is
    (subst (λ n. NodeFits c.args.number inside.rules n c.node.result) (sym (length-map inside.spans.items extent))
    (subst (NodeFits c.args.number inside.rules (length inside.spans.items)) found.1.1
    (fits-at inside.nodes inside.rules (length inside.spans.items) c.args.number part c.self.invariant.fit few found.1.0)))
