use Rattle.std.proofs.Common.{◌≡◌, ◌+◌, ◌<◌, ◌∷◌, ◌++◌, [], ℕ, List, ap, arith, get_or, length, length-append, subst, sym, ◌∙◌}
use Rattle.peg_profile.specs.Positions.{positions_of}
use Rattle.peg_profile.specs.Profiles.{IsProfileOf}
use Rattle.peg_profile.specs.declared.counts.RuleProfile.{RuleProfile}
use Rattle.peg_profile.proofs.ProfileLemmas.{profile-pushed}
use Rattle.peg_profile.proofs.counts.CallCounts.profiles.Goals as goal

pub rules-preserved : goal.rules-preserved
rules-preserved c =
    let was = c.rules.invariant in
    let old = c.rules.profiles.items in
    let profile = c.profile_of.result in
    let pushed : c.push.new.self.items ≡ old ++ profile ∷ [] = c.in_ok-push.ensures.items in
    record {
      same = λ calls are. c.profile_of.ensures.same calls (was.same calls are);
      count = ap length pushed ∙ omega (arith, length-append old (profile ∷ []), was.count);
      done = λ calls are.
          subst (λ (all : List RuleProfile). (rule : ℕ) (d : RuleProfile) → rule < c.rules.rule + 1
          → IsProfileOf (positions_of rule calls) (get_or all rule d)) (sym pushed)
          (profile-pushed calls old c.rules.rule profile was.count (was.done calls are)
          (c.profile_of.ensures.profile calls (was.same calls are)));
    }

pub returns : goal.returns
returns c calls are =
    let was = c.rules.invariant in
    let ended = c.rules-test.false in
    record {
      count = omega (arith, was.count);
      each = λ rule d below. was.done calls are rule d (omega (arith, below));
    }
