-- The abstract outcomes of a written expression, from those of its parts.
use Rattle.std.proofs.Common.{◌≡◌, ℕ, zero, suc, ◌+◌, ◌-◌, ◌<◌, ◌≤◌, ◌↔◌, Bool, true, false, List, [], ◌∷◌}
use Rattle.std.proofs.Common.{position, bytes_eq, slice_get, get_or, length, option_map, Option, None, Some, IsTrue, not, refl, sym, ap, ◌∙◌, subst, arith}
use Rattle.std.specs.List.{AllZip}
use Rattle.peg_bytes.specs.ByteSet.{Bytes, has, has_some}
use Rattle.peg_bytes.specs.Extent.{Extent}
use Rattle.peg_semantics.specs.AbstractOutcomes.{Can, CanAll, no_outcome, always_empty, consumes_or_fails, can_of_set}
use Rattle.peg_semantics.specs.AbstractOutcomes.{seq_outcome, choice_outcome, optional_outcome, star_outcome, plus_outcome}
use Rattle.peg_semantics.specs.AbstractOutcomes.{repeat_outcome, and_outcome, not_outcome, outcome_of_items, outcome_of_choice}
use Rattle.peg_semantics.specs.AbstractOutcomes.{outcome_of_meaning, can_in}
use Rattle.peg_semantics.specs.Form.{Form, Forms, Literal, Class, Any, Name, Seq, Choice, Optional, Star, Plus, Counted}
use Rattle.peg_semantics.specs.Form.{And, Not, End, Then}
use Rattle.peg_semantics.specs.Numbers.{first_from}
use Rattle.peg_semantics.specs.RuleOutcomes.{IsAbstractOutcome}
use Rattle.peg_semantics.specs.Rules.{Rule, names}
use Rattle.peg_semantics.proofs.RoundsLemmas.{can_in-later}
use Rattle.peg_semantics.proofs.RulesLemmas.{meaning, meant-position, meant-no_position}
use Rattle.peg_lint.specs.Outcomes.{outcome_of_all, only_fails, outcome_of_any, AreOutcomes}

-- ---- one outcome in all later rounds

-- a test that stays true
abbrev Stays : (ℕ → Bool) → Type 0
Stays test = (n m : ℕ) → n ≤ m → test n ≡ true → test m ≡ true

-- a test that is true in some round exactly if a flag is set has the value of the flag from some round on
flag_settles : (test : ℕ → Bool) → Stays test → (flag : Bool) → (flag ≡ true) ↔ ((n : ℕ) × (test n ≡ true))
    → (n : ℕ) × ((m : ℕ) → n ≤ m → test m ≡ flag)
flag_settles test stays true is =
    let found = is.0 refl in (found.0, λ m after. stays found.0 m after found.1)
flag_settles test stays false is = (0, λ m after. by m (test m) refl)
  where
    by : (m : ℕ) (b : Bool) → test m ≡ b → test m ≡ false
    by m true e = let bad : false ≡ true = is.1 (m, e) in absurd cc
    by m false e = e

settled_flag : (test : ℕ → Bool) → Stays test → (flag : Bool) (n : ℕ) → ((m : ℕ) → n ≤ m → test m ≡ flag)
    → (flag ≡ true) ↔ ((n : ℕ) × (test n ≡ true))
settled_flag test stays flag n settled = (
  λ e. (n, settled n (omega arith) ∙ e),
  λ found. sym (settled (n + found.0) (omega arith)) ∙ stays found.0 (n + found.0) (omega arith) found.1,
)

module _ (rules : List Rule) (e : Form) where
  later : (n m : ℕ) → n ≤ m → CanAll (can_in rules n e) (can_in rules m e)
  later n m after =
      let gap : (m - n) + n ≡ m = omega (arith, after) in
      subst (λ k. CanAll (can_in rules n e) (can_in rules k e)) gap (can_in-later rules (m - n) n e)

  nothing_stays : Stays (λ n. (can_in rules n e).nothing)
  nothing_stays n m after is = (later n m after).nothing is

  something_stays : Stays (λ n. (can_in rules n e).something)
  something_stays n m after is = (later n m after).something is

  fails_stays : Stays (λ n. (can_in rules n e).fails)
  fails_stays n m after is = (later n m after).fails is

  -- from some round on the outcomes are these
  abbrev Settles : Can → Type 0
  Settles can = (n : ℕ) × ((m : ℕ) → n ≤ m → can_in rules m e ≡ can)

  settles : (can : Can) → IsAbstractOutcome rules e can → Settles can
  settles can is =
      let a = flag_settles (λ n. (can_in rules n e).nothing) nothing_stays can.nothing is.nothing in
      let b = flag_settles (λ n. (can_in rules n e).something) something_stays can.something is.something in
      let c = flag_settles (λ n. (can_in rules n e).fails) fails_stays can.fails is.fails in (
        a.0 + b.0 + c.0,
        λ m after. λ i. record {
          nothing = a.1 m (omega (arith, after)) i;
          something = b.1 m (omega (arith, after)) i;
          fails = c.1 m (omega (arith, after)) i;
        },
      )

  outcome : (can : Can) → Settles can → IsAbstractOutcome rules e can
  outcome can settled = record {
    nothing =
        settled_flag (λ n. (can_in rules n e).nothing) nothing_stays can.nothing settled.0
        (λ m after. ap (λ (c : Can). c.nothing) (settled.1 m after));
    something =
        settled_flag (λ n. (can_in rules n e).something) something_stays can.something settled.0
        (λ m after. ap (λ (c : Can). c.something) (settled.1 m after));
    fails =
        settled_flag (λ n. (can_in rules n e).fails) fails_stays can.fails settled.0
        (λ m after. ap (λ (c : Can). c.fails) (settled.1 m after));
  }

  -- outcomes that are the same in all rounds but round 0
  outcome-constant : (can : Can) → ((m : ℕ) → can_in rules (suc m) e ≡ can) → IsAbstractOutcome rules e can
  outcome-constant can step = outcome can (1, at)
    where
      at : (m : ℕ) → 1 ≤ m → can_in rules m e ≡ can
      at zero after = absurd (omega (arith, after))
      at (suc m) after = step m

  -- outcomes in a round that follow from values in the round before, which settle
  outcome-by : {X : Type 0} (value : ℕ → X) (f : X → Can) (x : X) (n : ℕ) → ((m : ℕ) → n ≤ m → value m ≡ x)
      → ((m : ℕ) → can_in rules (suc m) e ≡ f (value m)) → IsAbstractOutcome rules e (f x)
  outcome-by value f x n settled step = outcome (f x) (suc n, at)
    where
      at : (m : ℕ) → suc n ≤ m → can_in rules m e ≡ f x
      at zero after = absurd (omega (arith, after))
      at (suc m) after = step m ∙ ap f (settled m (omega (arith, after)))

-- ---- each form of expression

module _ (rules : List Rule) (span : Extent) where
  pub of-Literal-empty : IsAbstractOutcome rules (Literal [] span) always_empty
  unfolding can_in
  of-Literal-empty = outcome-constant rules (Literal [] span) always_empty (λ m. refl)

  pub of-Literal : (b : ℕ) (bs : List ℕ) → IsAbstractOutcome rules (Literal (b ∷ bs) span) consumes_or_fails
  unfolding can_in
  of-Literal b bs = outcome-constant rules (Literal (b ∷ bs) span) consumes_or_fails (λ m. refl)

  pub of-Class : (set : Bytes) → IsAbstractOutcome rules (Class set span) (can_of_set set)
  unfolding can_in
  of-Class set = outcome-constant rules (Class set span) (can_of_set set) (λ m. refl)

  pub of-Any : IsAbstractOutcome rules (Any span) consumes_or_fails
  unfolding can_in
  of-Any = outcome-constant rules (Any span) consumes_or_fails (λ m. refl)

  pub of-Name-none : (name : List ℕ) → position (bytes_eq name) (names rules) ≡ None
      → IsAbstractOutcome rules (Name name span) no_outcome
  unfolding can_in
  of-Name-none name none =
      outcome-constant rules (Name name span) no_outcome
      (λ m. ap (outcome_of_meaning (can_in rules m)) (meant-no_position rules name none))

  pub of-Name : (name : List ℕ) (number : ℕ) (r : Rule) (can : Can)
      → position (bytes_eq name) (names rules) ≡ Some number → slice_get rules number ≡ Some r
      → IsAbstractOutcome rules r.body can → IsAbstractOutcome rules (Name name span) can
  unfolding can_in
  of-Name name number r can there at is =
      let settled = settles rules r.body can is in
      outcome-by rules (Name name span) (λ m. can_in rules m r.body) (λ c. c) can settled.0 settled.1
      (λ m. ap (outcome_of_meaning (can_in rules m)) (meant-position rules name number there)
      ∙ ap (λ (found : Option Rule). outcome_of_meaning (can_in rules m) (option_map (λ (r : Rule). meaning (0 + number) (get_or (first_from 0 rules) number 0) r) found)) at)

  module _ (part : Form) (can : Can) (is : IsAbstractOutcome rules part can) where
    settled_part : (n : ℕ) × ((m : ℕ) → n ≤ m → can_in rules m part ≡ can)
    settled_part = settles rules part can is

    pub of-Optional : IsAbstractOutcome rules (Optional part span) (optional_outcome can)
    unfolding can_in
    of-Optional =
        outcome-by rules (Optional part span) (λ m. can_in rules m part) optional_outcome can settled_part.0
        settled_part.1 (λ m. refl)

    pub of-Star : IsAbstractOutcome rules (Star part span) (star_outcome can)
    unfolding can_in
    of-Star =
        outcome-by rules (Star part span) (λ m. can_in rules m part) star_outcome can settled_part.0 settled_part.1
        (λ m. refl)

    pub of-Plus : IsAbstractOutcome rules (Plus part span) (plus_outcome can)
    unfolding can_in
    of-Plus =
        outcome-by rules (Plus part span) (λ m. can_in rules m part) plus_outcome can settled_part.0 settled_part.1
        (λ m. refl)

    pub of-Counted : (min max : ℕ) → IsAbstractOutcome rules (Counted part min max span) (repeat_outcome can min max)
    unfolding can_in
    of-Counted min max =
        outcome-by rules (Counted part min max span) (λ m. can_in rules m part) (λ c. repeat_outcome c min max) can
        settled_part.0 settled_part.1 (λ m. refl)

    pub of-And : IsAbstractOutcome rules (And part span) (and_outcome can)
    unfolding can_in
    of-And =
        outcome-by rules (And part span) (λ m. can_in rules m part) and_outcome can settled_part.0 settled_part.1
        (λ m. refl)

    pub of-Not : IsAbstractOutcome rules (Not part span) (not_outcome can)
    unfolding can_in
    of-Not =
        outcome-by rules (Not part span) (λ m. can_in rules m part) not_outcome can settled_part.0 settled_part.1
        (λ m. refl)

-- ---- sequences and choices

items_settle : (rules : List Rule) (items : Forms) (cans : List Can) → AreOutcomes rules items cans
    → (n : ℕ) × ((m : ℕ) → n ≤ m → outcome_of_items (can_in rules m) items ≡ outcome_of_all cans)
items_settle rules End [] are = (0, λ m after. refl)
items_settle rules End (can ∷ cans) are = absurd are
items_settle rules (Then e rest) [] are = absurd are
items_settle rules (Then e rest) (can ∷ cans) are =
    let one = settles rules e can are.0 in
    let more = items_settle rules rest cans are.1 in (
      one.0 + more.0,
      λ m after. λ i. seq_outcome (one.1 m (omega (arith, after)) i) (more.1 m (omega (arith, after)) i),
    )

-- a choice with one alternative more that only fails
choice-only_fails : (nothing something fails : Bool)
    → let can : Can = record { nothing = nothing; something = something; fails = fails } in
    can ≡ choice_outcome can only_fails
choice-only_fails true true true = refl
choice-only_fails true true false = refl
choice-only_fails true false true = refl
choice-only_fails true false false = refl
choice-only_fails false true true = refl
choice-only_fails false true false = refl
choice-only_fails false false true = refl
choice-only_fails false false false = refl

alternatives_settle : (rules : List Rule) (first : Form) (rest : Forms) (can : Can) (cans : List Can)
    → IsAbstractOutcome rules first can → AreOutcomes rules rest cans
    → (n : ℕ) × ((m : ℕ) → n ≤ m
    → outcome_of_choice (can_in rules m) first rest ≡ choice_outcome can (outcome_of_any cans))
alternatives_settle rules first End can [] is are =
    let one = settles rules first can is in
    (one.0, λ m after. one.1 m after ∙ choice-only_fails can.nothing can.something can.fails)
alternatives_settle rules first End can (other ∷ cans) is are = absurd are
alternatives_settle rules first (Then next rest) can [] is are = absurd are
alternatives_settle rules first (Then next rest) can (other ∷ cans) is are =
    let one = settles rules first can is in
    let more = alternatives_settle rules next rest other cans are.0 are.1 in (
      one.0 + more.0,
      λ m after. λ i. choice_outcome (one.1 m (omega (arith, after)) i) (more.1 m (omega (arith, after)) i),
    )

pub of-Seq : (rules : List Rule) (items : Forms) (span : Extent) (cans : List Can) → AreOutcomes rules items cans
    → IsAbstractOutcome rules (Seq items span) (outcome_of_all cans)
unfolding can_in
of-Seq rules items span cans are =
    let settled = items_settle rules items cans are in
    outcome-by rules (Seq items span) (λ m. outcome_of_items (can_in rules m) items) (λ c. c) (outcome_of_all cans)
    settled.0 settled.1 (λ m. refl)

pub of-Choice : (rules : List Rule) (first : Form) (rest : Forms) (span : Extent) (can : Can) (cans : List Can)
    → IsAbstractOutcome rules first can → AreOutcomes rules rest cans
    → IsAbstractOutcome rules (Choice first rest span) (choice_outcome can (outcome_of_any cans))
unfolding can_in
of-Choice rules first rest span can cans is are =
    let settled = alternatives_settle rules first rest can cans is are in
    outcome-by rules (Choice first rest span) (λ m. outcome_of_choice (can_in rules m) first rest) (λ c. c)
    (choice_outcome can (outcome_of_any cans)) settled.0 settled.1 (λ m. refl)

-- ---- sets

none_has : (set : Bytes) → ((byte : ℕ) → has set byte ≡ false) → has_some set ≡ false
none_has [] none = refl
none_has (true ∷ set) none = none 0
none_has (false ∷ set) none = none_has set (λ byte. none (suc byte))

has_none : (set : Bytes) → has_some set ≡ false → (byte : ℕ) → has set byte ≡ false
has_none [] none byte = refl
has_none (true ∷ set) none byte = cc
has_none (false ∷ set) none zero = refl
has_none (false ∷ set) none (suc byte) = has_none set none byte

-- whether a set has a byte, from whether it is empty
pub not-empty : (set : Bytes) (empty : Bool) → (IsTrue empty ↔ ((byte : ℕ) → has set byte ≡ false))
    → not empty ≡ has_some set
not-empty set true is = sym (none_has set (is.0 refl))
not-empty set false is = by (has_some set) refl
  where
    by : (some : Bool) → has_some set ≡ some → not false ≡ has_some set
    by true e = sym e
    by false e = let bad : false ≡ true = is.1 (has_none set e) in cc

-- ---- the table of the rules

-- a rule has its outcomes in the table
pub rule-outcome : (rules more : List Rule) (cans : List Can) (number : ℕ) (r : Rule) (can : Can)
    → AllZip (λ rule can. IsAbstractOutcome rules rule.body can) more cans
    → slice_get more number ≡ Some r → slice_get cans number ≡ Some can → IsAbstractOutcome rules r.body can
rule-outcome rules [] cans number r can are at there = cc
rule-outcome rules (x ∷ xs) [] number r can are at there = absurd are
rule-outcome rules (x ∷ xs) (c ∷ cs) zero r can are at there =
    let same : x ≡ r = cc in
    let here : c ≡ can = cc in
    subst (λ (y : Rule). IsAbstractOutcome rules y.body can) same
    (subst (λ (d : Can). IsAbstractOutcome rules x.body d) here are.0)
rule-outcome rules (x ∷ xs) (c ∷ cs) (suc number) r can are at there =
    rule-outcome rules xs cs number r can are.1 at there

-- there is one entry for each rule
pub length-outcomes : (rules more : List Rule) (cans : List Can)
    → AllZip (λ rule can. IsAbstractOutcome rules rule.body can) more cans → length cans ≡ length more
length-outcomes rules [] [] are = refl
length-outcomes rules [] (c ∷ cs) are = absurd are
length-outcomes rules (x ∷ xs) [] are = absurd are
length-outcomes rules (x ∷ xs) (c ∷ cs) are = ap (λ n. suc n) (length-outcomes rules xs cs are.1)

-- the rule with a number
pub rule_at : (rules : List Rule) (number : ℕ) → number < length rules → (r : Rule) × (slice_get rules number ≡ Some r)
rule_at [] number below = absurd (omega (arith, below))
rule_at (r ∷ rs) zero below = (r, refl)
rule_at (r ∷ rs) (suc number) below = rule_at rs number (omega (arith, below))
