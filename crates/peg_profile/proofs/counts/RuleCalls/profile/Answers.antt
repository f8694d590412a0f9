use Rattle.std.proofs.Common.{◌∙◌, sym}
use Rattle.peg_profile.proofs.CountLemmas.{counted-same}
use Rattle.peg_profile.proofs.counts.RuleCalls.profile.Goals as goal

pub returns-clause-profile : goal.returns-clause-profile
returns-clause-profile c positions are =
    let dropped = c.drop_repetitions.new.self in
    record {
      calls = c.drop_repetitions.ensures.calls ∙ are.calls;
      places = (
        dropped.positions.items,
        c.drop_repetitions.ensures.sorted,
        (λ n.
            let here = c.drop_repetitions.ensures.same n in
            let there = are.same n in
            ((λ has. there.0 (here.0 has)), λ has. here.1 (there.1 has))),
        sym (c.len.ensures ∙ dropped.positions.ok.0),
      );
    }

pub returns-clause-same : goal.returns-clause-same
returns-clause-same c positions are =
    counted-same positions c.args.self.now c.drop_repetitions.new.self c.drop_repetitions.ensures.calls
    c.drop_repetitions.ensures.same are
