use Rattle.std.proofs.Common.{◌∷◌, ◌++◌, [], ap, ◌∙◌}
use Rattle.peg_code.specs.Instrs.{instruction_of}
use Rattle.peg_code.specs.declared.packed_code.PackedCode.TheInside.{Inside}
use Rattle.peg_code.proofs.SlotLemmas.{IsPacked-push, unpacked-push}
use Rattle.peg_code.proofs.packed_code.PackedCode.push.Goals as goal

pub invariant_of-self-2 : goal.invariant_of-self-2
invariant_of-self-2 c =
    let new : Inside = record { slots = c.push.new.self; sets = c.slot_of.new.sets } in
    let put = c.in_ok-push.ensures.items ∙ ap (λ slots. slots ++ c.in_ok-slot.slot ∷ []) c.reserve.ensures.items in
    IsPacked-push c.self.inside new c.in_ok-slot.slot c.self.invariant c.in_ok-slot.ensures.added put c.in_ok-slot.ensures.fits

pub returns : goal.returns
returns c =
    let new : Inside = record { slots = c.push.new.self; sets = c.slot_of.new.sets } in
    let put = c.in_ok-push.ensures.items ∙ ap (λ slots. slots ++ c.in_ok-slot.slot ∷ []) c.reserve.ensures.items in
    unpacked-push c.self.inside new c.in_ok-slot.slot c.self.invariant c.in_ok-slot.ensures.added put (instruction_of c.args.instr) c.in_ok-slot.ensures.slot
    ∙ ap (λ (code : _). code ++ instruction_of c.args.instr ∷ []) c.self.view_is
