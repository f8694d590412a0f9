-- Marking rules, and reading the expressions of those that are marked.
use Rattle.std.proofs.Common.{◌≡◌, ◌⊎◌, inl, inr, ℕ, zero, suc, ◌+◌, ◌<◌, Bool, true, false, List, [], ◌∷◌, ◌++◌}
use Rattle.std.proofs.Common.{All, Contains, Some, length, replicate, slice_get, get_or, set, refl, sym, ap, ◌∙◌, subst, arith, length-append}
use Rattle.std.proofs.lemmas.Bool.{cases_eq}
use Rattle.std.proofs.lemmas.List.{get_or_append_left, get_or-set_other, get_or-set_same, length-set}
use Rattle.std.proofs.lemmas.List.Elements.{All-contains, All-push, All-weaker, Contains-append_left, Contains-append_right, Contains-push, Contains-push_cases}
use Rattle.peg_semantics.specs.Form.{Reference, names_used}
use Rattle.peg_semantics.specs.Rules.{Rule, name_of}
use Rattle.peg_lint.specs.Reaches.{Reaches, by_name, itself}
use Rattle.peg_lint.specs.Reaching.{AreClosed, AreMarked, AreNamesMarked, AreReached, IsMarked, IsNameMarked, MarksOnly}
use Rattle.peg_lint.specs.Reaching.{ReachesMore, unmarked}
use Rattle.peg_lint.specs.declared.reach.Reach.{Reach}

-- a rule that is marked is no longer unmarked
unmarked-set : (marks : List Bool) (i : ℕ) → i < length marks → get_or marks i false ≡ false
    → 1 + unmarked (set marks i true) ≡ unmarked marks
unmarked-set [] i within is = absurd (omega (arith, within))
unmarked-set (true ∷ marks) zero within is = let bad : true ≡ false = is in absurd cc
unmarked-set (false ∷ marks) zero within is = refl
unmarked-set (true ∷ marks) (suc i) within is = unmarked-set marks i (omega (arith, within)) is
unmarked-set (false ∷ marks) (suc i) within is =
    let rest = unmarked-set marks i (omega (arith, within)) is in omega (arith, rest)

-- the rule with this number is marked and pending
pub ReachesMore-add : (old new : Reach) (number : ℕ) → number < length old.marks.items
    → get_or old.marks.items number false ≡ false → new.marks.items ≡ set old.marks.items number true
    → new.pending.items ≡ old.pending.items ++ number ∷ [] → ReachesMore old new
ReachesMore-add old new number within free marks pending = record {
  count = count;
  marked = λ k is. marked k is (cases_eq k number);
  pending = λ k in_it. subst (λ (l : List ℕ). Contains l k) (sym pending)
      (Contains-append_left old.pending.items (number ∷ []) k in_it);
  added = λ k is. added k is (cases_eq k number);
  waiting = λ are k in_it. waiting are k (Contains-push_cases old.pending.items number k
      (subst (λ (l : List ℕ). Contains l k) pending in_it));
  within = λ are.
      subst (λ n. All (λ k. k < n) new.pending.items) (sym count)
      (subst (All (λ k. k < length old.marks.items)) (sym pending)
      (All-push (λ k. k < length old.marks.items) old.pending.items number are within));
  work =
      let one = unmarked-set old.marks.items number within free in
      let same = ap unmarked marks in
      let more = ap length pending in
      omega (arith, one, same, more, length-append old.pending.items (number ∷ []));
}
  where
    count : length new.marks.items ≡ length old.marks.items
    count = ap length marks ∙ length-set old.marks.items number true

    marked : (k : ℕ) → IsMarked old.marks.items k → (k ≡ number) ⊎ (k ≡ number → ⊥) → IsMarked new.marks.items k
    marked k is (inl same) =
        subst (IsMarked new.marks.items) (sym same)
        (ap (λ (l : List Bool). get_or l number false) marks ∙ get_or-set_same old.marks.items number true false within)
    marked k is (inr other) =
        ap (λ (l : List Bool). get_or l k false) marks ∙ (get_or-set_other old.marks.items number k true false other ∙ is)

    waiting : AreMarked old → (k : ℕ) → Contains old.pending.items k ⊎ (number ≡ k) → IsMarked new.marks.items k
    waiting are k (inl before) = marked k (are k before) (cases_eq k number)
    waiting are k (inr here) =
        subst (IsMarked new.marks.items) here
        (ap (λ (l : List Bool). get_or l number false) marks ∙ get_or-set_same old.marks.items number true false within)

    added : (k : ℕ) → IsMarked new.marks.items k → (k ≡ number) ⊎ (k ≡ number → ⊥)
        → IsMarked old.marks.items k ⊎ Contains new.pending.items k
    added k is (inl same) =
        inr (subst (λ (l : List ℕ). Contains l k) (sym pending)
        (subst (Contains (old.pending.items ++ number ∷ [])) (sym same) (Contains-push old.pending.items number)))
    added k is (inr other) =
        inl (sym (ap (λ (l : List Bool). get_or l k false) marks
        ∙ get_or-set_other old.marks.items number k true false other) ∙ is)

pub ReachesMore-trans : (one two three : Reach) → ReachesMore one two → ReachesMore two three → ReachesMore one three
ReachesMore-trans one two three h k = record {
  count = k.count ∙ h.count;
  marked = λ number is. k.marked number (h.marked number is);
  pending = λ number in_it. k.pending number (h.pending number in_it);
  added = λ number is. added number (k.added number is);
  within = λ are. k.within (h.within are);
  waiting = λ are. k.waiting (h.waiting are);
  work = k.work ∙ h.work;
}
  where
    added : (number : ℕ) → IsMarked two.marks.items number ⊎ Contains three.pending.items number
        → IsMarked one.marks.items number ⊎ Contains three.pending.items number
    added number (inl is) =
        elim (h.added number is) [ inl before ↦ inl before | inr in_it ↦ inr (k.pending number in_it) ]
    added number (inr in_it) = inr in_it

-- names whose rules are marked stay so
pub AreNamesMarked-later : (rules : List Rule) (marks later : List Bool) (references : List Reference)
    → ((number : ℕ) → IsMarked marks number → IsMarked later number)
    → AreNamesMarked rules marks references → AreNamesMarked rules later references
AreNamesMarked-later rules marks later references stays are =
    All-weaker (λ (reference : Reference). IsNameMarked rules marks reference.name)
    (λ (reference : Reference). IsNameMarked rules later reference.name)
    (λ reference is number at. stays number (is number at)) references are

-- the rules that are still pending after one was taken
pub all_taken : (P : ℕ → Type 0) (pending rest : List ℕ) (number : ℕ) → pending ≡ rest ++ number ∷ [] → All P pending
    → All P rest
all_taken P pending rest number taken all k d below =
    let longer : k < length pending = omega (arith, ap length taken, length-append rest (number ∷ [])) in
    subst P (ap (λ (l : List ℕ). get_or l k d) taken ∙ get_or_append_left rest (number ∷ []) d k below) (all k d longer)

pub last_taken : (P : ℕ → Type 0) (pending rest : List ℕ) (number : ℕ) → pending ≡ rest ++ number ∷ [] → All P pending
    → P number
last_taken P pending rest number taken all =
    All-contains P pending number all (subst (λ (l : List ℕ). Contains l number) (sym taken) (Contains-push rest number))

-- Each marked rule is still pending, or the rules that it refers to are marked, after the expression of one that was
-- pending was read.
module _ (rules : List Rule) (old mid new : Reach) (taken : ℕ) (more : ReachesMore mid new)
    (same : mid.marks.items ≡ old.marks.items) (last : old.pending.items ≡ mid.pending.items ++ taken ∷ [])
    (read : (rule : Rule) → slice_get rules taken ≡ Some rule
    → AreNamesMarked rules new.marks.items (names_used rule.body)) where
  stays : (number : ℕ) → IsMarked old.marks.items number → IsMarked new.marks.items number
  stays number is = more.marked number (subst (λ (l : List Bool). IsMarked l number) (sym same) is)

  pub read-next : ((number : ℕ) (rule : Rule) → slice_get rules number ≡ Some rule → IsMarked old.marks.items number
      → Contains old.pending.items number ⊎ AreNamesMarked rules old.marks.items (names_used rule.body))
      → (number : ℕ) (rule : Rule) → slice_get rules number ≡ Some rule → IsMarked new.marks.items number
      → Contains new.pending.items number ⊎ AreNamesMarked rules new.marks.items (names_used rule.body)
  read-next so_far number rule at is = by (more.added number is)
    where
      waiting : Contains old.pending.items number ⊎ AreNamesMarked rules old.marks.items (names_used rule.body)
          → Contains new.pending.items number ⊎ AreNamesMarked rules new.marks.items (names_used rule.body)
      waiting (inr are) =
          inr (AreNamesMarked-later rules old.marks.items new.marks.items (names_used rule.body) stays are)
      waiting (inl in_it) =
          elim (Contains-push_cases mid.pending.items taken number
          (subst (λ (l : List ℕ). Contains l number) last in_it)) [
            | inl still ↦ inl (more.pending number still)
            | inr here ↦ inr (read rule (ap (slice_get rules) here ∙ at))
          ]

      by : IsMarked mid.marks.items number ⊎ Contains new.pending.items number
          → Contains new.pending.items number ⊎ AreNamesMarked rules new.marks.items (names_used rule.body)
      by (inr in_it) = inl in_it
      by (inl before) = waiting (so_far number rule at (subst (λ (l : List Bool). IsMarked l number) same before))

-- ---- only what is reached is marked

-- marking a rule marks no other
pub only-added : (marks later : List Bool) (number : ℕ) → number < length marks → later ≡ set marks number true
    → (k : ℕ) → IsMarked later k → IsMarked marks k ⊎ (k ≡ number)
only-added marks later number within same k is = by (cases_eq k number)
  where
    by : (k ≡ number) ⊎ (k ≡ number → ⊥) → IsMarked marks k ⊎ (k ≡ number)
    by (inl here) = inr here
    by (inr other) =
        inl (sym (ap (λ (l : List Bool). get_or l k false) same ∙ get_or-set_other marks number k true false other) ∙ is)

-- no rule is marked at first
pub none-marked : (count number : ℕ) → IsMarked (replicate count false) number → ⊥
none-marked zero number is = let bad : false ≡ true = is in cc
none-marked (suc count) zero is = let bad : false ≡ true = is in cc
none-marked (suc count) (suc number) is = none-marked count number is

module _ (rules : List Rule) where
  -- what is marked by the names of one expression, and then of others
  pub MarksOnly-then : (ones others : List Reference) (a b c : List Bool) → MarksOnly rules ones a b
      → MarksOnly rules others b c → MarksOnly rules (ones ++ others) a c
  MarksOnly-then ones others a b c first second number is =
      elim (second number is) [
        | inl before ↦
            elim (first number before) [
              | inl earlier ↦ inl earlier
              | inr named ↦
                  inr (named.0, Contains-append_left ones others named.0 named.1, named.2)
            ]
        | inr named ↦ inr (named.0, Contains-append_right ones others named.0 named.1, named.2)
      ]

  -- a rule that the start reaches is marked
  pub reached-marked : (start : ℕ) (marks : List Bool) → AreClosed rules marks
      → IsNameMarked rules marks (name_of rules start) → {number : ℕ} → Reaches rules start number
      → IsMarked marks number
  reached-marked start marks closed named (itself {number} refers) = named number refers
  reached-marked start marks closed named (by_name {number} {other} reaches names) =
      All-contains (λ (r : Reference). IsNameMarked rules marks r.name) (names_used names.rule.body) names.reference
      (closed number names.rule names.at (reached-marked start marks closed named reaches)) names.used other names.refers

  -- after the names of a reached rule's expression were read, all marked rules are reached
  pub reached-next : (start number : ℕ) (rule : Rule) (marks later : List Bool) → AreReached rules start marks
      → IsMarked marks number → slice_get rules number ≡ Some rule → MarksOnly rules (names_used rule.body) marks later
      → AreReached rules start later
  reached-next start number rule marks later so_far marked at only other is =
      elim (only other is) [
        | inl before ↦ so_far other before
        | inr named ↦
            by_name (so_far number marked)
            (record { rule = rule; at = at; reference = named.0; used = named.1; refers = named.2 })
      ]
