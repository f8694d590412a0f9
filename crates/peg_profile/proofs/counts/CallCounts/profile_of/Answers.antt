use Rattle.std.proofs.Common.{arith, refl}
use Rattle.peg_profile.proofs.CountLemmas.{counts-changed}
use Rattle.peg_profile.proofs.counts.CallCounts.profile_of.Goals as goal

pub returns-in-Some-clause-same : goal.returns-in-Some-clause-same
returns-in-Some-clause-same c calls are =
    let rules = c.args.self.now.rules in
    let within = c.in-Some.ensures.variant.0 refl in
    counts-changed calls rules.items c.args.rule c.in-Some.counts.now c.profile.new.self
    (omega (arith, within, rules.ok.0)) c.in-Some.ensures.value c.profile.ensures.same are
