-- No record is deeper than the number of states, the pairs of an expression and a position. If one more depth finds no
-- new record of any state, no greater depth does.
use Rattle.std.proofs.Common.{◌≡◌, ◌≢◌, ℕ, zero, suc, ◌+◌, ◌*◌, ◌<◌, ◌≤◌, ◌⊎◌, inl, inr, List, [], ◌∷◌, ◌++◌, length}
use Rattle.std.proofs.Common.{All, Contains, Option, None, Some, refl, subst, arith}
use Rattle.std.proofs.lemmas.List.{length-append}
use Rattle.std.proofs.lemmas.List.Elements.{All-nil, All-cons, All-head, All-tail, All-append, All-contains, All-weaker}
use Rattle.std.proofs.lemmas.List.Elements.{All-contains_itself}
use Rattle.std.proofs.lemmas.Nat.{mul-le}
use Rattle.peg_semantics.specs.Depth.{max_cases}
use Rattle.peg_semantics.specs.Record.{Record, record_in, start_record}
use Rattle.peg_semantics.specs.Rules.{Rule, name_of, weight_of}
use Rattle.peg_semantics.specs.WellFormed.{IsWellFormedGrammar}
use Rattle.peg_semantics.proofs.EachHasAResult.{start_has_record}
use Rattle.peg_semantics.proofs.MeaningLemmas.{All-front, All-back}
use Rattle.peg_semantics.proofs.RecordLemmas.{record_in-more}
use Rattle.peg_semantics.proofs.SameParts.{same-table}
use Rattle.peg_semantics.proofs.StableRounds.{found_soon}
use Rattle.peg_semantics.proofs.States.{Part, part_of, start, parts, start-among, asked-among, meaning_of-among, length-parts}
use Rattle.peg_semantics.proofs.TerminalLemmas.{record_in-ends}

-- an expression at a position
record State : Type 0 where
  part : Part
  position : ℕ

abbrev state : Part → ℕ → State
state p position = record { part = p; position = position }

-- one expression at all positions up to a bound; and several expressions there
abbrev at_places : Part → ℕ → List State
at_places p zero = state p zero ∷ []
at_places p (suc n) = state p (suc n) ∷ at_places p n

abbrev states : List Part → ℕ → List State
states [] n = []
states (p ∷ ps) n = at_places p n ++ states ps n

length-at_places : (p : Part) (n : ℕ) → length (at_places p n) ≡ n + 1
length-at_places p zero = refl
length-at_places p (suc n) = omega (arith, length-at_places p n)

length-states : (ps : List Part) (n : ℕ) → length (states ps n) ≡ length ps * (n + 1)
length-states [] n = omega arith
length-states (p ∷ ps) n =
    omega (arith, length-append (at_places p n) (states ps n), length-at_places p n, length-states ps n)

last_or_before : (k n : ℕ) → k ≤ suc n → (suc n ≡ k) ⊎ (k ≤ n)
last_or_before k n within = grind arith

-- a property of all states, by position
place_of : (P : State → Type 0) (p : Part) (n k : ℕ) → k ≤ n → All P (at_places p n) → P (state p k)
place_of P p zero k within all =
    let same : zero ≡ k = omega (arith, within) in
    subst (λ n. P (state p n)) same (All-head P (state p zero) [] all)
place_of P p (suc n) k within all =
    elim (last_or_before k n within) [
      | inl last ↦ subst (λ n. P (state p n)) last (All-head P (state p (suc n)) (at_places p n) all)
      | inr before ↦ place_of P p n k before (All-tail P (state p (suc n)) (at_places p n) all)
    ]

each_part : (P : State → Type 0) (ps : List Part) (n : ℕ) → All P (states ps n)
    → All (λ p. (k : ℕ) → k ≤ n → P (state p k)) ps
each_part P [] n all = All-nil (λ p. (k : ℕ) → k ≤ n → P (state p k))
each_part P (p ∷ ps) n all =
    All-cons (λ p. (k : ℕ) → k ≤ n → P (state p k)) p ps
    (λ k within. place_of P p n k within (All-front P (at_places p n) (states ps n) all))
    (each_part P ps n (All-back P (at_places p n) (states ps n) all))

from_places : (P : State → Type 0) (p : Part) (n : ℕ) → ((k : ℕ) → k ≤ n → P (state p k)) → All P (at_places p n)
from_places P p zero each = All-cons P (state p zero) [] (each zero (omega arith)) (All-nil P)
from_places P p (suc n) each =
    All-cons P (state p (suc n)) (at_places p n) (each (suc n) (omega arith))
    (from_places P p n (λ k within. each k (omega (arith, within))))

from_parts : (P : State → Type 0) (ps : List Part) (n : ℕ) → All (λ p. (k : ℕ) → k ≤ n → P (state p k)) ps
    → All P (states ps n)
from_parts P [] n each = All-nil P
from_parts P (p ∷ ps) n each =
    All-append P (at_places p n) (states ps n)
    (from_places P p n (All-head (λ p. (k : ℕ) → k ≤ n → P (state p k)) p ps each))
    (from_parts P ps n (All-tail (λ p. (k : ℕ) → k ≤ n → P (state p k)) p ps each))

module _ (rules : List Rule) (text name : List ℕ) where
  -- the record of a state in depth n
  abbrev found : ℕ → State → Option Record
  found n s = record_in rules text n s.part.form s.part.terminal s.position

  abbrev Same : ℕ → State → Type 0
  Same n s = found n s ≡ found (suc n) s

  abbrev asked : List State
  asked = states (parts rules name) (length text)

  -- if a depth has no new record, the next depth has none
  on : (n : ℕ) → All (Same n) asked → All (Same (suc n)) asked
  unfolding record_in
  on n all =
      from_parts (Same (suc n)) (parts rules name) (length text)
      (All-weaker (Contains (parts rules name)) (λ p. (k : ℕ) → k ≤ length text → Same (suc n) (state p k))
      (λ p there k within.
      same-table (parts rules name) (length text) (record_in rules text n) (record_in rules text (suc n))
      (λ e terminal position there within.
      All-contains (λ p. (k : ℕ) → k ≤ length text → Same n (state p k)) (parts rules name) (part_of terminal e)
      (each_part (Same n) (parts rules name) (length text) all) there position within)
      (record_in-ends rules text n) rules text (meaning_of-among rules name) p.form p.terminal k there
      (asked-among rules name p.terminal p.form there) within) (parts rules name)
      (All-contains_itself (parts rules name)))

  start-asked : Contains asked (state (part_of 0 (start rules name)) 0)
  start-asked =
      All-contains (λ p. (k : ℕ) → k ≤ length text → Contains asked (state p k)) (parts rules name)
      (part_of 0 (start rules name))
      (each_part (Contains asked) (parts rules name) (length text) (All-contains_itself asked)) (start-among rules name)
      0 (omega arith)

  length-asked : length asked ≤ max_cases rules text
  length-asked =
      let count = length-states (parts rules name) (length text) in
      let most =
      mul-le (length (parts rules name)) (length text + 1) (1 + 2 * weight_of rules) (length text + 1)
      (length-parts rules name) (omega arith) in
      omega (arith, count, most)

  -- the record of a start rule is found in any depth that is at least the number of states
  pub start-soon : (n m : ℕ) (r : Record) → max_cases rules text ≤ m → start_record rules text n name ≡ Some r
      → start_record rules text m name ≡ Some r
  start-soon n m r enough is =
      found_soon found (λ n s. record_in-more rules text n s.part.form s.part.terminal s.position) asked on n m
      (state (part_of 0 (start rules name)) 0) r (omega (arith, length-asked, enough)) start-asked is

-- a well-formed grammar has a record of each start rule within that depth
pub start-within : (rules : List Rule) (text : List ℕ) (start depth : ℕ) → start < length rules
    → IsWellFormedGrammar rules → max_cases rules text ≤ depth → start_record rules text depth (name_of rules start) ≢ None
start-within rules text start depth less grammar enough none =
    let a = start_has_record rules text start grammar less in
    let found = start-soon rules text (name_of rules start) a.0 depth a.1 enough a.2 in
    cc
