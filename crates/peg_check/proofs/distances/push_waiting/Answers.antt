use Rattle.std.proofs.Common.{ℕ, ◌≡◌, ◌<◌, ◌++◌, inl, inr, All, Contains, List, length, sym, subst}
use Rattle.std.proofs.lemmas.List.Elements.{All-append, Contains-append_left, Contains-append_right, Contains-append_cases}
use Rattle.std.proofs.lemmas.Result.{on_ok_weaker}
use Rattle.peg_check.specs.ReverseDeps.{HasDependent}
use Rattle.peg_check.proofs.DistanceLemmas.{All-left, All-right}
use Rattle.peg_check.proofs.distances.push_waiting.Goals as goal

module _ (now later pushed : List ℕ) where
  left : (Has : ℕ → Type 0) → ((k : ℕ) → Has k → Contains pushed k) → (k : ℕ) → Has k → Contains (pushed ++ now) k
  left Has all k has = Contains-append_left pushed now k (all k has)

  right : (Has : ℕ → Type 0) → ((k : ℕ) → Has k → Contains pushed k) → (k : ℕ) → Has k → Contains (later ++ pushed) k
  right Has all k has = Contains-append_right later pushed k (all k has)

  kept-left : ((k : ℕ) → Contains later k → Contains pushed k) → (k : ℕ) → Contains (later ++ now) k → Contains (pushed ++ now) k
  kept-left all k had = elim (Contains-append_cases later now k had) [
    | inl here ↦ Contains-append_left pushed now k (all k here)
    | inr there ↦ Contains-append_right pushed now k there
  ]

  kept-right : ((k : ℕ) → Contains now k → Contains pushed k) → (k : ℕ) → Contains (later ++ now) k → Contains (later ++ pushed) k
  kept-right all k had = elim (Contains-append_cases later now k had) [
    | inl here ↦ Contains-append_left later pushed k here
    | inr there ↦ Contains-append_right later pushed k (all k there)
  ]

  module _ (count forms : ℕ) (same : forms ≡ count) where
    within-left : All (λ k. k < count) now → All (λ k. k < forms) pushed → All (λ k. k < count) (pushed ++ now)
    within-left old new = All-append (λ k. k < count) pushed now (subst (λ n. All (λ k. k < n) pushed) same new) old

    within-right : All (λ k. k < count) later → All (λ k. k < forms) pushed → All (λ k. k < count) (later ++ pushed)
    within-right old new = All-append (λ k. k < count) later pushed old (subst (λ n. All (λ k. k < n) pushed) same new)

pub push_dependents-requires-clause-forms : goal.push_dependents-requires-clause-forms
push_dependents-requires-clause-forms c =
    subst (λ n. All (λ k. k < n) c.args.later.now.items) (sym c.requires.chains.forms)
    (All-left (λ k. k < length c.args.bodies.now) c.args.later.now.items c.args.now.now.items c.requires.forms)

pub push_dependents-requires-else-bodies-number-clause-forms : goal.push_dependents-requires-else-bodies-number-clause-forms
push_dependents-requires-else-bodies-number-clause-forms c =
    subst (λ n. All (λ k. k < n) c.args.now.now.items) (sym c.requires.chains.forms)
    (All-right (λ k. k < length c.args.bodies.now) c.args.later.now.items c.args.now.now.items c.requires.forms)

pub returns-then-bodies-number-clause-dependents : goal.returns-then-bodies-number-clause-dependents
returns-then-bodies-number-clause-dependents c =
    on_ok_weaker c.push_dependents.result
    (left c.args.now.now.items c.args.later.now.items c.push_dependents.new.pending.items (HasDependent c.args.reverse_deps.now c.args.number))
    c.push_dependents.ensures.dependents

pub returns-then-bodies-number-clause-kept : goal.returns-then-bodies-number-clause-kept
returns-then-bodies-number-clause-kept c =
    on_ok_weaker c.push_dependents.result (kept-left c.args.now.now.items c.args.later.now.items c.push_dependents.new.pending.items)
    c.push_dependents.ensures.kept

pub returns-then-bodies-number-clause-within : goal.returns-then-bodies-number-clause-within
returns-then-bodies-number-clause-within c =
    on_ok_weaker c.push_dependents.result
    (within-left c.args.now.now.items c.args.later.now.items c.push_dependents.new.pending.items
    (length c.args.bodies.now) (length c.args.reverse_deps.now.newest.items) c.requires.chains.forms
    (All-right (λ k. k < length c.args.bodies.now) c.args.later.now.items c.args.now.now.items c.requires.forms))
    c.push_dependents.ensures.forms

pub returns-else-bodies-number-clause-dependents : goal.returns-else-bodies-number-clause-dependents
returns-else-bodies-number-clause-dependents c =
    on_ok_weaker c.push_dependents-else-bodies-number.result
    (right c.args.now.now.items c.args.later.now.items c.push_dependents-else-bodies-number.new.pending.items (HasDependent c.args.reverse_deps.now c.args.number))
    c.push_dependents-else-bodies-number.ensures.dependents

pub returns-else-bodies-number-clause-kept : goal.returns-else-bodies-number-clause-kept
returns-else-bodies-number-clause-kept c =
    on_ok_weaker c.push_dependents-else-bodies-number.result
    (kept-right c.args.now.now.items c.args.later.now.items c.push_dependents-else-bodies-number.new.pending.items)
    c.push_dependents-else-bodies-number.ensures.kept

pub returns-else-bodies-number-clause-within : goal.returns-else-bodies-number-clause-within
returns-else-bodies-number-clause-within c =
    on_ok_weaker c.push_dependents-else-bodies-number.result
    (within-right c.args.now.now.items c.args.later.now.items c.push_dependents-else-bodies-number.new.pending.items
    (length c.args.bodies.now) (length c.args.reverse_deps.now.newest.items) c.requires.chains.forms
    (All-left (λ k. k < length c.args.bodies.now) c.args.later.now.items c.args.now.now.items c.requires.forms))
    c.push_dependents-else-bodies-number.ensures.forms
