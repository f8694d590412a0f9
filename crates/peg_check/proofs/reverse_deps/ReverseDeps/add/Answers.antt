use Rattle.std.proofs.Common.{◌≡◌, ◌+◌, ◌∷◌, [], ap, refl, length, get_or, arith, length-append}
use Rattle.std.proofs.lemmas.Grind.{common_steps}
use Rattle.peg_check.specs.declared.reverse_deps.Edge.{Edge}
use Rattle.peg_check.proofs.ChainLemmas.{dependent-added, dependents-kept}
use Rattle.peg_check.proofs.reverse_deps.ReverseDeps.add.Goals as goal

pub returns-clause-kept : goal.returns-clause-kept
returns-clause-kept c =
    let newest = c.args.self.now.newest.items in
    let entries = c.args.self.now.entries.items in
    let entry : Edge = record { dependent = c.args.dependent; older = c.index-older.result.now } in
    let older : c.index-older.result.now ≡ get_or newest c.args.part 0 = grind (arith, common_steps) in
    let counted : c.len.result ≡ length entries + 1 = omega (arith, ap length c.in_ok-push.ensures.items, length-append entries (entry ∷ []), c.push.new.self.ok.0, c.len.ensures) in
    dependents-kept newest entries c.push.new.self.items c.args.part c.args.dependent c.len.result c.requires.fits entry refl older c.in_ok-push.ensures.items counted

pub returns-clause-added : goal.returns-clause-added
returns-clause-added c =
    let newest = c.args.self.now.newest.items in
    let entries = c.args.self.now.entries.items in
    let entry : Edge = record { dependent = c.args.dependent; older = c.index-older.result.now } in
    let older : c.index-older.result.now ≡ get_or newest c.args.part 0 = grind (arith, common_steps) in
    let counted : c.len.result ≡ length entries + 1 = omega (arith, ap length c.in_ok-push.ensures.items, length-append entries (entry ∷ []), c.push.new.self.ok.0, c.len.ensures) in
    dependent-added newest entries c.push.new.self.items c.args.part c.args.dependent c.len.result c.requires.fits entry refl older c.in_ok-push.ensures.items counted
