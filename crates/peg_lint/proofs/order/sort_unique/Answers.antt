use Rattle.std.proofs.Common.{rules, ◌≡◌, sym, subst}
use Rattle.std.proofs.lemmas.Fn.{always_returns_same, dedup_same}
use Rattle.std.specs.List.{dedup}
use Rattle.peg_lint.specs.Linting.{HaveSameWarnings, key_of}
use Rattle.peg_lint.specs.Warnings.{AreDistinct, IsInWrittenOrder}
use Rattle.peg_lint.proofs.OrderLemmas.{dedup-distinct, dedup-in_order, dedup-same, has_same_key}
use Rattle.peg_lint.proofs.order.sort_unique.Goals as goal

pub returns-clause-same : goal.returns-clause-same
returns-clause-same c =
    let earlier = c.args.found.now.items in
    let sorted = c.sort_by_key.new.self.items in
    let later = c.dedup_by_key.new.self.items in
    let is : later ≡ dedup has_same_key sorted =
    dedup_same _ has_same_key _ (λ x y b f x2 y2 k. search rules) sorted later c.dedup_by_key.ensures.filtered in
    subst (HaveSameWarnings earlier) (sym is) (dedup-same earlier sorted c.sort_by_key.ensures.permutation)

pub returns-clause-in_order : goal.returns-clause-in_order
returns-clause-in_order c =
    let sorted = c.sort_by_key.new.self.items in
    let later = c.dedup_by_key.new.self.items in
    let is : later ≡ dedup has_same_key sorted =
    dedup_same _ has_same_key _ (λ x y b f x2 y2 k. search rules) sorted later c.dedup_by_key.ensures.filtered in
    subst IsInWrittenOrder (sym is) (dedup-in_order sorted
    (c.in_ok-sort_by_key.ensures.sorted key_of (always_returns_same _ _ _ (λ a r f k. search rules))))

pub returns-clause-distinct : goal.returns-clause-distinct
returns-clause-distinct c =
    let sorted = c.sort_by_key.new.self.items in
    let later = c.dedup_by_key.new.self.items in
    let is : later ≡ dedup has_same_key sorted =
    dedup_same _ has_same_key _ (λ x y b f x2 y2 k. search rules) sorted later c.dedup_by_key.ensures.filtered in
    subst AreDistinct (sym is) (dedup-distinct sorted
    (c.in_ok-sort_by_key.ensures.sorted key_of (always_returns_same _ _ _ (λ a r f k. search rules))))
