use Rattle.std.proofs.Common.{arith, refl}
use Rattle.std.proofs.lemmas.Result.{on_ok_weaker}
use Rattle.peg_machine.specs.Watched.{traced_call}
use Rattle.peg_profile.proofs.CountLemmas.{call-counted, call-uncounted}
use Rattle.peg_profile.proofs.counts.CallCountsWatch.begin.Goals as goal

pub returns-clause-ok : goal.returns-clause-ok
returns-clause-ok c =
    let rules = c.list_rule.new.self.rules in
    let within = c.in-Some.ensures.variant.0 refl in
    on_ok_weaker c.add.result (λ step _ calls are. call-counted calls rules.items
    (traced_call c.args.rule c.args.position) c.in-Some.counts.now c.add.new.self (omega (arith, within, rules.ok.0))
    c.in-Some.ensures.value step (c.list_rule.ensures.same calls are)) c.add.ensures.ok

pub returns-clause-err : goal.returns-clause-err
returns-clause-err c =
    let rules = c.list_rule.new.self.rules in
    let within = c.in-Some.ensures.variant.0 refl in
    call-uncounted c.add.result c.args.self.now.rules.items rules.items c.args.rule c.in-Some.counts.now c.add.new.self
    (omega (arith, within, rules.ok.0)) c.in-Some.ensures.value c.list_rule.ensures.same c.add.ensures.err
