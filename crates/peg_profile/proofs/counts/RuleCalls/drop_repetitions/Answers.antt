use Rattle.std.proofs.Common.{◌≡◌, sym, subst}
use Rattle.std.specs.List.{dedup}
use Rattle.std.specs.List.Sorted.{IsStrictlyIncreasing}
use Rattle.std.proofs.lemmas.List.Filters.{dedup_is}
use Rattle.std.proofs.lemmas.List.Sorted.{IsPermutation-sym}
use Rattle.std.proofs.lemmas.Map.Keys.{IsStrictlyIncreasing-dedup}
use Rattle.std.proofs.Math.Dec.{eqb}
use Rattle.peg_profile.proofs.ProfileLemmas.{same-positions}
use Rattle.peg_profile.proofs.counts.RuleCalls.drop_repetitions.Goals as goal

pub returns-clause-same : goal.returns-clause-same
returns-clause-same c n =
    let old = c.args.self.now.positions.items in
    let sorted = c.sort_unstable.new.self.items in
    let distinct = c.dedup.new.self.items in
    same-positions old sorted distinct c.sort_unstable.ensures.permutation
    (IsPermutation-sym old sorted c.sort_unstable.ensures.permutation)
    (dedup_is eqb sorted distinct c.dedup.ensures.filtered) n

pub returns-clause-sorted : goal.returns-clause-sorted
returns-clause-sorted c =
    let sorted = c.sort_unstable.new.self.items in
    let distinct = c.dedup.new.self.items in
    let is : distinct ≡ dedup eqb sorted = dedup_is eqb sorted distinct c.dedup.ensures.filtered in
    subst IsStrictlyIncreasing (sym is) (IsStrictlyIncreasing-dedup sorted c.sort_unstable.ensures.sorted)
