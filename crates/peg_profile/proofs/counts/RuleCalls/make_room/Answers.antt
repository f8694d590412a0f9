use Rattle.std.proofs.Common.{◌↔◌, ℕ, Contains, List, subst, sym}
use Rattle.peg_profile.proofs.counts.RuleCalls.make_room.Goals as goal

pub returns-in_err-reserve-clause-same : goal.returns-in_err-reserve-clause-same
returns-in_err-reserve-clause-same c n =
    subst (λ (positions : List ℕ). Contains positions n ↔ Contains c.args.self.now.positions.items n)
    (sym c.reserve.ensures.items) (c.drop_repetitions.ensures.same n)

pub returns-in_ok-reserve-clause-same : goal.returns-in_ok-reserve-clause-same
returns-in_ok-reserve-clause-same c n =
    subst (λ (positions : List ℕ). Contains positions n ↔ Contains c.args.self.now.positions.items n)
    (sym c.reserve.ensures.items) (c.drop_repetitions.ensures.same n)
