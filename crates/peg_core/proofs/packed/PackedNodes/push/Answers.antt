use Rattle.std.proofs.Common.{List, ◌∷◌, ◌++◌, [], ap, ◌∙◌}
use Rattle.peg_core.specs.declared.node.Node.{Node}
use Rattle.peg_core.specs.declared.node.Entry.{Entry}
use Rattle.peg_core.specs.declared.packed.PackedEntry.{PackedEntry}
use Rattle.peg_core.specs.declared.packed.PackedNodes.TheInside.{Inside}
use Rattle.peg_core.proofs.SlotLemmas.{IsPacked-push, unpacked-push}
use Rattle.peg_core.proofs.packed.PackedNodes.push.Goals as goal

pub invariant_of-self-2 : goal.invariant_of-self-2
invariant_of-self-2 c =
    let new : Inside = record { slots = c.push.new.self; sets = c.slot_of.new.sets } in
    let item : PackedEntry = record { slot = c.in_ok-slot.slot; origin = c.args.next.origin } in
    let put = c.in_ok-push.ensures.items ∙ ap (λ slots. slots ++ item ∷ []) c.reserve.ensures.items in
    IsPacked-push c.self.inside new item c.self.invariant c.in_ok-slot.ensures.added put c.in_ok-slot.ensures.fits

pub returns-clause-added : goal.returns-clause-added
returns-clause-added c =
    let new : Inside = record { slots = c.push.new.self; sets = c.slot_of.new.sets } in
    let item : PackedEntry = record { slot = c.in_ok-slot.slot; origin = c.args.next.origin } in
    let put = c.in_ok-push.ensures.items ∙ ap (λ slots. slots ++ item ∷ []) c.reserve.ensures.items in
    let from_there : Node → Entry = λ node. record { node = node; origin = c.args.next.origin } in
    let holds = ap from_there c.in_ok-slot.ensures.slot in
    unpacked-push c.self.inside new item c.self.invariant c.in_ok-slot.ensures.added put c.args.next holds
    ∙ ap (λ (nodes : List Entry). nodes ++ c.args.next ∷ []) c.self.view_is
