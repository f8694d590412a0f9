use Rattle.std.proofs.Common.{◌≡◌, ◌∷◌, ◌++◌, [], List, ap, arith, length, length-append, subst, sym, ◌∙◌}
use Rattle.peg_profile.specs.Counts.{AreCountedIn}
use Rattle.peg_profile.specs.declared.counts.RuleCalls.{RuleCalls}
use Rattle.peg_profile.proofs.CountLemmas.{rule-listed}
use Rattle.peg_profile.proofs.counts.CallCounts.list_rule.Goals as goal

pub missing-preserved : goal.missing-preserved
missing-preserved c =
    let was = c.missing.invariant in
    let old = c.missing.self.rules.items in
    let empty = c.new.result in
    let pushed : c.push.new.self.items ≡ old ++ empty ∷ [] = c.in_ok-push.ensures.items in
    record {
      same = λ calls are.
          subst (λ (list : List RuleCalls). AreCountedIn list calls) (sym pushed)
          (rule-listed calls old empty c.new.ensures (was.same calls are));
      count = ap length pushed ∙ omega (arith, length-append old (empty ∷ []), was.count);
    }
