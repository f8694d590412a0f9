use Rattle.std.proofs.Common.{◌≡◌, ◌+◌, ◌<◌, ◌≤◌, ◌∷◌, [], ◌++◌, length, map, get_or, List, arith, rules, ap, sym}
use Rattle.std.proofs.Common.{subst, ◌∙◌, append_assoc}
use Rattle.std.proofs.lemmas.List.{map_push}
use Rattle.peg_tree.specs.Rows.{Row, row_of}
use Rattle.peg_nodes.specs.Expansion.{images_of}
use Rattle.peg_nodes.specs.Ranges.{AreWaiting, waiting_rows, with_range}
use Rattle.peg_nodes.specs.declared.expand.Waiting.{Waiting}
use Rattle.peg_nodes.specs.declared.item.Item.{Item}
use Rattle.peg_nodes.specs.declared.item.Item.TheVariants.{Node, Stored}
use Rattle.peg_nodes.proofs.RangeLemmas.{AreWaiting-pop, AreWaiting-with, Step, node_rows, link_rows, link_within}
use Rattle.peg_nodes.proofs.RangeLemmas.{node_work, link_work}
use Rattle.peg_nodes.proofs.expand.expand_link.Goals as goal

pub offset_bounds-stored-range : goal.offset_bounds-stored-range
offset_bounds-stored-range c =
    let waiting : AreWaiting (length c.args.stored.now) (c.pop.new.self.items ++ c.in-Some.range ∷ []) =
    subst (AreWaiting (length c.args.stored.now)) c.in-Some.ensures.items c.loop-range.invariant.within in
    let popped = AreWaiting-pop (length c.args.stored.now) c.pop.new.self.items c.in-Some.range waiting in
    let within : c.in-Some.range.next < length c.args.stored.now = omega (arith, popped.1, popped.2) in
    search rules

pub bounds-stored-range : goal.bounds-stored-range
bounds-stored-range c =
    let waiting : AreWaiting (length c.args.stored.now) (c.pop.new.self.items ++ c.in-Some.range ∷ []) =
    subst (AreWaiting (length c.args.stored.now)) c.in-Some.ensures.items c.loop-range.invariant.within in
    let popped = AreWaiting-pop (length c.args.stored.now) c.pop.new.self.items c.in-Some.range waiting in
    omega (arith, popped.1, popped.2)

pub overflow_add-range : goal.overflow_add-range
overflow_add-range c =
    let waiting : AreWaiting (length c.args.stored.now) (c.pop.new.self.items ++ c.in-Some.range ∷ []) =
    subst (AreWaiting (length c.args.stored.now)) c.in-Some.ensures.items c.loop-range.invariant.within in
    let popped = AreWaiting-pop (length c.args.stored.now) c.pop.new.self.items c.in-Some.range waiting in
    let within : c.in-Some.range.next < length c.args.stored.now = omega (arith, popped.1, popped.2) in
    search rules

pub overflow_add-link-in-Stored : goal.overflow_add-link-in-Stored
overflow_add-link-in-Stored c =
    let waiting : AreWaiting (length c.args.stored.now) (c.pop.new.self.items ++ c.in-Some.range ∷ []) =
    subst (AreWaiting (length c.args.stored.now)) c.in-Some.ensures.items c.loop-range.invariant.within in
    let popped = AreWaiting-pop (length c.args.stored.now) c.pop.new.self.items c.in-Some.range waiting in
    let step : Step c.args.stored.now c.pop.new.self.items c.in-Some.range (Stored c.in-Stored.link) = record {
      back = c.requires.older;
      waiting = popped.0;
      some = popped.1;
      within = popped.2;
      is_item = subst (λ (item : Item). item ≡ get_or c.args.stored.now c.in-Some.range.next item) c.in-Stored.is
          c.index-stored-range.is;
    } in
    let within : c.in-Some.range.next < length c.args.stored.now = omega (arith, popped.1, popped.2) in
    let refers : c.in-Stored.link.start + c.in-Stored.link.len ≤ c.in-Some.range.next =
    link_within c.args.stored.now c.in-Some.range.next c.in-Stored.link c.requires.older within step.is_item in
    search rules

pub loop-range-smaller-in-Continue-branch-3 : goal.loop-range-smaller-in-Continue-branch-3
loop-range-smaller-in-Continue-branch-3 c =
    let waiting : AreWaiting (length c.args.stored.now) (c.pop.new.self.items ++ c.in-Some.range ∷ []) =
    subst (AreWaiting (length c.args.stored.now)) c.in-Some.ensures.items c.loop-range.invariant.within in
    let popped = AreWaiting-pop (length c.args.stored.now) c.pop.new.self.items c.in-Some.range waiting in
    let step : Step c.args.stored.now c.pop.new.self.items c.in-Some.range (Node c.in-Node.node) = record {
      back = c.requires.older;
      waiting = popped.0;
      some = popped.1;
      within = popped.2;
      is_item = subst (λ (item : Item). item ≡ get_or c.args.stored.now c.in-Some.range.next item) c.in-Node.is
          c.index-stored-range.is;
    } in
    let less = node_work c.args.stored.now c.pop.new.self.items c.in-Some.range c.in-Node.node step in
    rw (c.in-Some.ensures.items, c.in_ok-push_range-2.ensures) less

pub loop-range-preserved-in-Continue-branch-3 : goal.loop-range-preserved-in-Continue-branch-3
loop-range-preserved-in-Continue-branch-3 c =
    let waiting : AreWaiting (length c.args.stored.now) (c.pop.new.self.items ++ c.in-Some.range ∷ []) =
    subst (AreWaiting (length c.args.stored.now)) c.in-Some.ensures.items c.loop-range.invariant.within in
    let popped = AreWaiting-pop (length c.args.stored.now) c.pop.new.self.items c.in-Some.range waiting in
    let step : Step c.args.stored.now c.pop.new.self.items c.in-Some.range (Node c.in-Node.node) = record {
      back = c.requires.older;
      waiting = popped.0;
      some = popped.1;
      within = popped.2;
      is_item = subst (λ (item : Item). item ≡ get_or c.args.stored.now c.in-Some.range.next item) c.in-Node.is
          c.index-stored-range.is;
    } in
    let rest =
    waiting_rows (images_of c.args.stored.now)
    (with_range c.pop.new.self.items (c.in-Some.range.next + 1) c.in-Some.range.end) in
    record {
      rows = rw (c.in_ok-push-in-Node.ensures.items, c.in_ok-push_range-2.ensures)
          (ap (λ (rows : List Row). rows ++ rest) (map_push row_of c.loop-range.nodes.items c.in-Node.node)
          ∙ append_assoc (map row_of c.loop-range.nodes.items) (row_of c.in-Node.node ∷ []) rest
          ∙ ap (λ (rows : List Row). map row_of c.loop-range.nodes.items ++ rows)
          (sym (node_rows c.args.stored.now c.pop.new.self.items c.in-Some.range c.in-Node.node step))
          ∙ ap (λ (ranges : List Waiting). map row_of c.loop-range.nodes.items ++ waiting_rows (images_of c.args.stored.now) ranges) (sym c.in-Some.ensures.items)
          ∙ c.loop-range.invariant.rows);
      within = rw c.in_ok-push_range-2.ensures
          (AreWaiting-with (length c.args.stored.now) c.pop.new.self.items (c.in-Some.range.next + 1) c.in-Some.range.end popped.0 popped.2);
    }

pub loop-range-smaller : goal.loop-range-smaller
loop-range-smaller c =
    let waiting : AreWaiting (length c.args.stored.now) (c.pop.new.self.items ++ c.in-Some.range ∷ []) =
    subst (AreWaiting (length c.args.stored.now)) c.in-Some.ensures.items c.loop-range.invariant.within in
    let popped = AreWaiting-pop (length c.args.stored.now) c.pop.new.self.items c.in-Some.range waiting in
    let step : Step c.args.stored.now c.pop.new.self.items c.in-Some.range (Stored c.in-Stored.link) = record {
      back = c.requires.older;
      waiting = popped.0;
      some = popped.1;
      within = popped.2;
      is_item = subst (λ (item : Item). item ≡ get_or c.args.stored.now c.in-Some.range.next item) c.in-Stored.is
          c.index-stored-range.is;
    } in
    let less = link_work c.args.stored.now c.pop.new.self.items c.in-Some.range c.in-Stored.link step in
    rw (c.in-Some.ensures.items, c.in_ok-push_range-in-Stored.ensures, c.in_ok-push_range-2.ensures) less

pub loop-range-preserved : goal.loop-range-preserved
loop-range-preserved c =
    let waiting : AreWaiting (length c.args.stored.now) (c.pop.new.self.items ++ c.in-Some.range ∷ []) =
    subst (AreWaiting (length c.args.stored.now)) c.in-Some.ensures.items c.loop-range.invariant.within in
    let popped = AreWaiting-pop (length c.args.stored.now) c.pop.new.self.items c.in-Some.range waiting in
    let step : Step c.args.stored.now c.pop.new.self.items c.in-Some.range (Stored c.in-Stored.link) = record {
      back = c.requires.older;
      waiting = popped.0;
      some = popped.1;
      within = popped.2;
      is_item = subst (λ (item : Item). item ≡ get_or c.args.stored.now c.in-Some.range.next item) c.in-Stored.is
          c.index-stored-range.is;
    } in
    let within : c.in-Some.range.next < length c.args.stored.now = omega (arith, popped.1, popped.2) in
    let refers : c.in-Stored.link.start + c.in-Stored.link.len ≤ c.in-Some.range.next =
    link_within c.args.stored.now c.in-Some.range.next c.in-Stored.link c.requires.older within step.is_item in
    let rest = with_range c.pop.new.self.items (c.in-Some.range.next + 1) c.in-Some.range.end in
    let below : c.in-Stored.link.start + c.in-Stored.link.len ≤ length c.args.stored.now = omega arith in
    record {
      rows = rw (c.in_ok-push_range-in-Stored.ensures, c.in_ok-push_range-2.ensures)
          (ap (λ (rows : List Row). map row_of c.loop-range.nodes.items ++ rows)
          (sym (link_rows c.args.stored.now c.pop.new.self.items c.in-Some.range c.in-Stored.link step))
          ∙ ap (λ (ranges : List Waiting). map row_of c.loop-range.nodes.items ++ waiting_rows (images_of c.args.stored.now) ranges) (sym c.in-Some.ensures.items)
          ∙ c.loop-range.invariant.rows);
      within = rw (c.in_ok-push_range-in-Stored.ensures, c.in_ok-push_range-2.ensures)
          (AreWaiting-with (length c.args.stored.now) rest c.in-Stored.link.start (c.in-Stored.link.start + c.in-Stored.link.len)
          (AreWaiting-with (length c.args.stored.now) c.pop.new.self.items (c.in-Some.range.next + 1) c.in-Some.range.end popped.0 popped.2) below);
    }
