use Rattle.std.proofs.Common.{◌↔◌, ◌∷◌, ◌++◌, [], ℕ, Contains, List, subst, sym}
use Rattle.peg_profile.proofs.CountLemmas.{not-pushed, on-err, same-pushed}
use Rattle.peg_profile.proofs.counts.RuleCalls.insert.Goals as goal

pub returns-then-has_sorted-clause-ok : goal.returns-then-has_sorted-clause-ok
returns-then-has_sorted-clause-ok c =
    not-pushed c.args.self.now.positions.items c.args.position (c.has_sorted.ensures c.if-has_sorted.true)

pub returns-in_err-push-clause-err : goal.returns-in_err-push-clause-err
returns-in_err-push-clause-err c =
    on-err c.from_residual-in_err-push.result
    ((n : ℕ) → (Contains c.push.new.self.items n ↔ Contains c.args.self.now.positions.items n))
    (λ n. subst (λ (positions : List ℕ). Contains positions n ↔ Contains c.args.self.now.positions.items n)
    (sym c.in_err-push.ensures.items) (c.make_room.ensures.same n))

pub returns-clause-ok : goal.returns-clause-ok
returns-clause-ok c n =
    subst (λ (positions : List ℕ). Contains positions n
    ↔ Contains (c.args.self.now.positions.items ++ c.args.position ∷ []) n) (sym c.in_ok-push.ensures.items)
    (same-pushed c.make_room.new.self.positions.items c.args.self.now.positions.items c.args.position
    c.make_room.ensures.same n)
