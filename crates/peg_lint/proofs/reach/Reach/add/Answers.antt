use Rattle.std.proofs.Common.{false, true, refl, sym, ◌∙◌}
use Rattle.std.proofs.lemmas.List.{get_or_read}
use Rattle.std.specs.Vec.{with_item}
use Rattle.peg_lint.specs.declared.reach.Reach.{Reach}
use Rattle.peg_lint.proofs.ReachLemmas.{ReachesMore-add, only-added}
use Rattle.peg_lint.proofs.reach.Reach.add.Goals as goal

pub returns-clause-more : goal.returns-clause-more
returns-clause-more c =
    let old = c.args.self.now in
    let new : Reach = record { marks = with_item old.marks c.args.number true; pending = c.push.new.self } in
    ReachesMore-add old new c.args.number c.requires
    (sym (get_or_read old.marks.items c.args.number c.index.result.now c.requires c.index.ensures false) ∙ c.if-index.false)
    refl c.in_ok-push.ensures.items

pub returns-clause-only : goal.returns-clause-only
returns-clause-only c =
    let old = c.args.self.now.marks in
    only-added old.items (with_item old c.args.number true).items c.args.number c.requires refl
