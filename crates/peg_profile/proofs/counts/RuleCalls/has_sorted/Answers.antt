use Rattle.std.proofs.Common.{◌∙◌, ℕ, Contains, List, subst, sym}
use Rattle.peg_profile.proofs.CountLemmas.{searched-there}
use Rattle.peg_profile.proofs.counts.RuleCalls.has_sorted.Goals as goal

pub returns-in-Some : goal.returns-in-Some
returns-in-Some c is =
    subst (λ (positions : List ℕ). Contains positions c.args.position) c.deref.ensures.value
    (searched-there c.deref.result.now c.min-count.result c.args.position c.binary_search.result
    c.binary_search.ensures.bound c.binary_search.ensures.ok (sym c.is_ok.ensures.value ∙ is))
