use Rattle.std.proofs.Common.{◌≡◌, ◌+◌, ◌∷◌, ◌++◌, [], length, map, sym, ap, ◌∙◌, subst, arith, length-append}
use Rattle.std.proofs.lemmas.List.{length-map, map-append}
use Rattle.peg_bytes.specs.Extent.{extent}
use Rattle.peg_core.specs.CoreForm.{is_all_empty}
use Rattle.peg_core.specs.Layout.{Layout}
use Rattle.peg_core.specs.CoreNodes.{NodeFits, shape}
use Rattle.peg_core.specs.BuilderForms.{AllFit, forms_of}
use Rattle.peg_core.specs.declared.node.Entry.{Entry}
use Rattle.peg_core.proofs.FlatLemmas.{length-forms_of, forms_of-push, AllFit-push}
use Rattle.peg_core.proofs.builder.CoreBuilder.push.Goals as goal

pub push-requires : goal.push-requires
push-requires c =
    omega (arith, c.requires.room, length-forms_of c.self.inside.nodes, ap (λ (l : Layout). length l.forms) c.self.view_is)

pub invariant_of-self-2 : goal.invariant_of-self-2
invariant_of-self-2 c =
    let inside = c.self.inside in
    let items = inside.nodes in
    let spans = inside.spans.items in
    let n = c.args.node in
    let part : Entry = record { node = n; origin = c.args.origin } in
    let many : length items ≡ length c.args.self.now.forms = sym (length-forms_of items) ∙ ap (λ (l : Layout). length l.forms) c.self.view_is in
    let seen : NodeFits (length (forms_of items)) inside.rules (length (map extent spans)) n = subst (λ (l : Layout). NodeFits (length l.forms) l.rules (length l.spans) n) (sym c.self.view_is) c.requires.fits in
    let counted : NodeFits (length (forms_of items)) inside.rules (length spans) n = subst (λ k. NodeFits (length (forms_of items)) inside.rules k n) (length-map spans extent) seen in
    let here : NodeFits (length items) inside.rules (length spans) n = subst (λ k. NodeFits k inside.rules (length spans) n) (length-forms_of items) counted in
    let pushed = c.in_ok-push.ensures.added in
    let longer : length c.push.new.self ≡ length items + 1 = ap length pushed ∙ length-append items (part ∷ []) in
    let formed = shape (forms_of items) (extent c.args.origin) n in
    let mark : c.is_node_all_empty-all_empty.result ≡ is_all_empty formed = subst (λ (l : Layout). c.is_node_all_empty-all_empty.result ≡ is_all_empty (shape l.forms (extent c.args.origin) n)) (sym c.self.view_is) (c.is_node_all_empty-all_empty.ensures (extent c.args.origin)) in
    let marked =
    c.push_reserved.ensures.items
    ∙ (ap (λ marks. marks ++ c.is_node_all_empty-all_empty.result ∷ []) (c.reserve.ensures.items ∙ c.self.invariant.marks)
    ∙ (ap (λ m. map is_all_empty (forms_of items) ++ m ∷ []) mark
    ∙ (sym (map-append is_all_empty (forms_of items) (formed ∷ []))
    ∙ ap (map is_all_empty) (sym (ap forms_of pushed ∙ forms_of-push items part))))) in
    record {
      fit = subst (AllFit inside.rules (length spans)) (sym pushed) (AllFit-push inside.rules (length spans) items part c.self.invariant.fit here);
      few = omega (arith, longer, many, c.requires.room);
      few_terminals = c.self.invariant.few_terminals;
      marks = marked;
    }

pub returns-clause-number : goal.returns-clause-number
returns-clause-number c =
    c.len-number.ensures ∙ (sym (length-forms_of c.self.inside.nodes)
    ∙ ap (λ (l : Layout). length l.forms) c.self.view_is)
