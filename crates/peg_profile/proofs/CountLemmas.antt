-- Counts of the calls of each rule.
use Rattle.std.proofs.Common.{◌≡◌, ◌≢◌, ◌↔◌, ℕ, ◌+◌, ◌<◌, ◌≤◌, inl, inr, Bool, Contains, true, false, ◌==◌, if◌then◌else◌, List, [], ◌∷◌, ◌++◌, length, get_or, set}
use Rattle.std.proofs.Common.{refl, sym, ap, ◌∙◌, subst, arith, append-nil, length-append}
use Rattle.std.proofs.Common.{IfOk, IsOk, IsTrue, OnErr, Result, Ok, Err, Less, Equal, Greater, cond, drop, nat_cmp, nat_lt, take}
use Rattle.std.specs.List.{HoldsAt}
use Rattle.std.specs.List.Sorted.{IsSearchInRange}
use Rattle.std.proofs.lemmas.Bool.{cases_eq, cases_lt, eq-eqb}
use Rattle.std.proofs.lemmas.Bool.Decides.{eqb_tells}
use Rattle.std.proofs.lemmas.List.{take-append-drop}
use Rattle.std.proofs.lemmas.List.{get_or-set_same, get_or-set_other, get_or_append_left, get_or_push, length-set}
use Rattle.std.proofs.lemmas.List.Elements.{Contains-append_left, Contains-from_at, Contains-push, Contains-push_cases}
use Rattle.peg_semantics.specs.Record.{RuleCall}
use Rattle.peg_profile.specs.Counts.{AreCounted, AreCountedIn}
use Rattle.peg_profile.specs.Positions.{positions_of}
use Rattle.peg_profile.specs.declared.counts.RuleCalls.{RuleCalls}

-- the position of a call, if it is one of this rule
abbrev positions_at : (rule : ℕ) → RuleCall → List ℕ
positions_at rule call = if call.rule == rule then call.position ∷ [] else []

one-more : (is : Bool) (position : ℕ) (P Q last : List ℕ) → Q ≡ P ++ last
    → (if is then position ∷ Q else Q) ≡ (if is then position ∷ P else P) ++ last
one-more true position P Q last same = ap (λ (l : List ℕ). position ∷ l) same
one-more false position P Q last same = same

positions_of-push : (rule : ℕ) (calls : List RuleCall) (call : RuleCall)
    → positions_of rule (calls ++ call ∷ []) ≡ positions_of rule calls ++ positions_at rule call
positions_of-push rule [] call = refl
positions_of-push rule (c ∷ calls) call =
    one-more (c.rule == rule) c.position (positions_of rule calls) (positions_of rule (calls ++ call ∷ []))
    (positions_at rule call) (positions_of-push rule calls call)

is-false : (a b : ℕ) → a ≢ b → (a == b) ≡ false
is-false a b differs = elim (eqb_tells a b) [ inl equal ↦ absurd (differs equal.1) | inr other ↦ other.0 ]

-- a call of this rule, and one of another rule
here : (rule : ℕ) (calls : List RuleCall) (call : RuleCall) → call.rule ≡ rule
    → positions_of rule (calls ++ call ∷ []) ≡ positions_of rule calls ++ call.position ∷ []
here rule calls call is =
    positions_of-push rule calls call
    ∙ ap (λ (b : Bool). positions_of rule calls ++ (if b then call.position ∷ [] else [])) (eq-eqb call.rule rule is)

elsewhere : (rule : ℕ) (calls : List RuleCall) (call : RuleCall) → call.rule ≢ rule
    → positions_of rule (calls ++ call ∷ []) ≡ positions_of rule calls
elsewhere rule calls call differs =
    positions_of-push rule calls call
    ∙ (ap (λ (b : Bool). positions_of rule calls ++ (if b then call.position ∷ [] else [])) (is-false call.rule rule differs)
    ∙ append-nil (positions_of rule calls))

-- one more call of a rule in the list
pub call-counted : (calls : List RuleCall) (list : List RuleCalls) (call : RuleCall) (old new : RuleCalls)
    → call.rule < length list → old ≡ get_or list call.rule old
    → ((positions : List ℕ) → AreCounted positions old → AreCounted (positions ++ call.position ∷ []) new)
    → AreCountedIn list calls → AreCountedIn (set list call.rule new) (calls ++ call ∷ [])
call-counted calls list call old new within found step are = record { listed = listed; others = others }
  where
    own : AreCounted (positions_of call.rule (calls ++ call ∷ [])) new
    own =
        subst (λ (positions : List ℕ). AreCounted positions new) (sym (here call.rule calls call refl))
        (step (positions_of call.rule calls) (subst (AreCounted (positions_of call.rule calls)) (sym found)
        (are.listed call.rule old within)))

    listed : (rule : ℕ) (d : RuleCalls) → rule < length (set list call.rule new)
        → AreCounted (positions_of rule (calls ++ call ∷ [])) (get_or (set list call.rule new) rule d)
    listed rule d below = elim (cases_eq rule call.rule) [
      | inl is ↦
          subst (λ (k : ℕ). AreCounted (positions_of k (calls ++ call ∷ [])) (get_or (set list call.rule new) k d))
          (sym is)
          (subst (AreCounted (positions_of call.rule (calls ++ call ∷ [])))
          (sym (get_or-set_same list call.rule new d within)) own)
      | inr differs ↦
          subst (AreCounted (positions_of rule (calls ++ call ∷ [])))
          (sym (get_or-set_other list call.rule rule new d differs))
          (subst (λ (positions : List ℕ). AreCounted positions (get_or list rule d))
          (sym (elsewhere rule calls call (λ same. differs (sym same))))
          (are.listed rule d (omega (arith, below, length-set list call.rule new))))
    ]

    others : (rule : ℕ) → length (set list call.rule new) ≤ rule → positions_of rule (calls ++ call ∷ []) ≡ []
    others rule past =
        elsewhere rule calls call (λ same. absurd (omega (arith, same, within, past, length-set list call.rule new)))
        ∙ are.others rule (omega (arith, past, length-set list call.rule new))

-- the counts of a rule in the list are represented in another way
pub counts-changed : (calls : List RuleCall) (list : List RuleCalls) (index : ℕ) (old new : RuleCalls)
    → index < length list → old ≡ get_or list index old
    → ((positions : List ℕ) → AreCounted positions old → AreCounted positions new)
    → AreCountedIn list calls → AreCountedIn (set list index new) calls
counts-changed calls list index old new within found step are = record {
  listed = listed;
  others = λ rule past. are.others rule (omega (arith, past, length-set list index new));
}
  where
    listed : (rule : ℕ) (d : RuleCalls) → rule < length (set list index new)
        → AreCounted (positions_of rule calls) (get_or (set list index new) rule d)
    listed rule d below = elim (cases_eq rule index) [
      | inl is ↦
          subst (λ (k : ℕ). AreCounted (positions_of k calls) (get_or (set list index new) k d)) (sym is)
          (subst (AreCounted (positions_of index calls)) (sym (get_or-set_same list index new d within))
          (step (positions_of index calls) (subst (AreCounted (positions_of index calls)) (sym found)
          (are.listed index old within))))
      | inr differs ↦
          subst (AreCounted (positions_of rule calls)) (sym (get_or-set_other list index rule new d differs))
          (are.listed rule d (omega (arith, below, length-set list index new)))
    ]

-- the counts of one more rule, which had no call
pub rule-listed : (calls : List RuleCall) (list : List RuleCalls) (empty : RuleCalls) → AreCounted [] empty
    → AreCountedIn list calls → AreCountedIn (list ++ empty ∷ []) calls
rule-listed calls list empty none are = record {
  listed = listed;
  others = λ rule past. are.others rule (omega (arith, past, length-append list (empty ∷ [])));
}
  where
    listed : (rule : ℕ) (d : RuleCalls) → rule < length (list ++ empty ∷ [])
        → AreCounted (positions_of rule calls) (get_or (list ++ empty ∷ []) rule d)
    listed rule d below = elim (cases_lt rule (length list)) [
      | inl before ↦
          subst (AreCounted (positions_of rule calls)) (sym (get_or_append_left list (empty ∷ []) d rule before))
          (are.listed rule d before)
      | inr past ↦
          let last : length list ≡ rule = omega (arith, past, below, length-append list (empty ∷ [])) in
          subst (AreCounted (positions_of rule calls)) (sym (get_or_push list empty d rule last))
          (subst (λ (positions : List ℕ). AreCounted positions empty) (sym (are.others rule past)) none)
    ]

-- no call was counted yet
pub nothing-counted : (list : List RuleCalls) → length list ≡ 0 → AreCountedIn list []
nothing-counted list none = record {
  listed = λ rule d below. absurd (omega (arith, below, none));
  others = λ rule past. refl;
}

-- ---- one rule

-- lists with the same elements have the same elements with a further one
pushed-one : (xs ys : List ℕ) (position : ℕ) → ((n : ℕ) → Contains xs n → Contains ys n) → (n : ℕ)
    → Contains (xs ++ position ∷ []) n → Contains (ys ++ position ∷ []) n
pushed-one xs ys position step n has = elim (Contains-push_cases xs position n has) [
  | inl before ↦ Contains-append_left ys (position ∷ []) n (step n before)
  | inr is ↦ subst (Contains (ys ++ position ∷ [])) is (Contains-push ys position)
]

-- an element that a list has is no further one
pub not-pushed : (xs : List ℕ) (position : ℕ) → Contains xs position → (n : ℕ)
    → (Contains xs n ↔ Contains (xs ++ position ∷ []) n)
not-pushed xs position there n = (
  λ has. Contains-append_left xs (position ∷ []) n has,
  λ has. elim (Contains-push_cases xs position n has) [
    | inl before ↦ before
    | inr is ↦ subst (Contains xs) is there
  ],
)

pub same-pushed : (xs ys : List ℕ) (position : ℕ) → ((n : ℕ) → (Contains xs n ↔ Contains ys n)) → (n : ℕ)
    → (Contains (xs ++ position ∷ []) n ↔ Contains (ys ++ position ∷ []) n)
same-pushed xs ys position same n = (
  pushed-one xs ys position (λ n. (same n).0) n,
  pushed-one ys xs position (λ n. (same n).1) n,
)

-- one more call was counted
pub counted-more : (positions : List ℕ) (old new : RuleCalls) (position : ℕ) → new.calls ≡ old.calls + 1
    → ((n : ℕ) → (Contains new.positions.items n ↔ Contains (old.positions.items ++ position ∷ []) n))
    → AreCounted positions old → AreCounted (positions ++ position ∷ []) new
counted-more positions old new position more same are = record {
  calls = omega (arith, more, are.calls, length-append positions (position ∷ []));
  same = λ n.
      let here = same n in
      let there = same-pushed old.positions.items positions position are.same n in
      ((λ has. there.0 (here.0 has)), λ has. here.1 (there.1 has));
}

-- the same calls, represented in another way
pub counted-same : (positions : List ℕ) (old new : RuleCalls) → new.calls ≡ old.calls
    → ((n : ℕ) → (Contains new.positions.items n ↔ Contains old.positions.items n))
    → AreCounted positions old → AreCounted positions new
counted-same positions old new calls same are = record {
  calls = calls ∙ are.calls;
  same = λ n.
      let here = same n in
      let there = are.same n in
      ((λ has. there.0 (here.0 has)), λ has. here.1 (there.1 has));
}

-- ---- the search among the sorted positions

-- numbers that compare as equal are equal
equal-is : (x y : ℕ) → nat_cmp x y ≡ Equal → x ≡ y
equal-is x y is = elim (eqb_tells x y) [
  | inl equal ↦ equal.1
  | inr other ↦
      absurd (never (nat_lt x y) (subst (λ (b : Bool). cond (nat_lt x y) Less (cond b Equal Greater) ≡ Equal) other.0 is))
]
  where
    never : (less : Bool) → cond less Less Greater ≡ Equal → ⊥
    never true is = cc
    never false is = cc

-- what was found in the first part of a list is in the list
pub searched-there : (xs : List ℕ) (count position : ℕ) (found : Result ℕ ℕ)
    → IsSearchInRange found (length (take count xs)) → IfOk found (HoldsAt (λ y. nat_cmp y position ≡ Equal) (take count xs))
    → IsOk found → Contains xs position
searched-there xs count position (Ok index) within at is =
    subst (λ (l : List ℕ). Contains l position) (take-append-drop count xs)
    (Contains-append_left (take count xs) (drop count xs) position
    (Contains-from_at (take count xs) position
    (index, within, λ d. equal-is (get_or (take count xs) index d) position (at d))))
searched-there xs count position (Err index) within at is = cc

-- ---- errors

pub on-err : {T E : Type 0} (result : Result T E) (P : Type 0) → P → OnErr result P
on-err (Ok x) P p = tt
on-err (Err error) P p = p

-- a call of a rule in the list that isn't counted
pub call-uncounted : {T E : Type 0} (result : Result T E) (first list : List RuleCalls) (index : ℕ) (old new : RuleCalls)
    → index < length list → old ≡ get_or list index old
    → ((calls : List RuleCall) → AreCountedIn first calls → AreCountedIn list calls)
    → OnErr result ((positions : List ℕ) → AreCounted positions old → AreCounted positions new)
    → OnErr result (IsTrue true → (calls : List RuleCall) → AreCountedIn first calls
    → AreCountedIn (set list index new) (calls ++ []))
call-uncounted (Ok x) first list index old new within found listed kept = tt
call-uncounted (Err error) first list index old new within found listed kept = λ _ calls are.
    subst (AreCountedIn (set list index new)) (sym (append-nil calls))
    (counts-changed calls list index old new within found kept (listed calls are))
