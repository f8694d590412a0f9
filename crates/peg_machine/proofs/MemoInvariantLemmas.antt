-- The invariant of a memo is preserved when more is noted, when an entry is marked as used, and when a result is
-- offered. A memo with full capacity stores what it is offered.
use Rattle.std.proofs.Common.{◌≡◌, inl, inr, ⊎_elim, ℕ, zero, suc, ◌+◌, ◌*◌, ◌<◌, ◌≤◌, Bool, true, false}
use Rattle.std.proofs.Common.{if◌then◌else◌, IsTrue, List, ◌∷◌, Contains, length, slice_get, Option, None, Some}
use Rattle.std.proofs.Common.{option_map, option_and_then, refl, sym, ◌∙◌, ap, subst, arith}
use Rattle.std.proofs.Math.Nat.{le-mul_of_pos_right}
use Rattle.std.proofs.lemmas.List.Elements.{All-contains}
use Rattle.std.proofs.lemmas.Option.{slice_get_within}
use Rattle.std.specs.FinMap as map
use Rattle.peg_semantics.specs.Record.{Record, Test, RuleCall, as_call}
use Rattle.peg_core.specs.CoreForm.{CoreForm, Rule}
use Rattle.peg_core.specs.CoreRecord.{core_record_in}
use Rattle.peg_core.proofs.CoreWithin.{core_record_in-uses_in_text}
use Rattle.peg_memo.specs.MemoMap.{MemoMap}
use Rattle.peg_memo.specs.StoredResult.{StoredResult}
use Rattle.peg_memo.specs.MemoKey as asked
use Rattle.peg_memo.proofs.HeldLemmas.{get_inserted, get_other, same_or_other, found_after, contains_or_not, contained}
use Rattle.peg_memo.proofs.HeldLemmas.{contains_found, fewer_are_held}
use Rattle.peg_machine.specs.Packrat.{IsInMemo}
use Rattle.peg_machine.specs.MemoInvariant.{MemoState, IsTouched, IsOffered, IsResultOf, EntriesAreRecords, HasFullCapacity, NoneTwice}
use Rattle.peg_runs.specs.Running.{RunContext}
use Rattle.peg_runs.specs.PartialRuns.{ActiveCall, IsRecordOfCall}
use Rattle.peg_runs.proofs.NotedLemmas.{head_or_tail}
use Rattle.peg_runs.proofs.PartialRunLemmas.{kept_more}

-- Each entry may still be stored when more is noted.
pub remembers_more : (context : RunContext) (tests more_tests : List Test) (traced more_shown : List RuleCall) (stored : MemoMap)
    → ((t : Test) → Contains tests t → Contains more_tests t)
    → ((p : RuleCall) → Contains traced p → Contains more_shown p)
    → EntriesAreRecords context tests traced stored → EntriesAreRecords context more_tests more_shown stored
remembers_more context tests more_tests traced more_shown stored keeps_tests keeps_shown remembers pair result found =
    let known = remembers pair result found in
    record {
      r = known.r;
      may_be_stored =
          kept_more context tests more_tests traced more_shown pair known.r keeps_tests keeps_shown known.may_be_stored;
      is = known.is;
    }

-- ---- a memo with full capacity

-- if no allocation has failed, none had failed before
never_refused : (before after : Bool) → (IsTrue before → IsTrue after) → after ≡ false → before ≡ false
never_refused false after may_store given = refl
never_refused true after may_store given = let allocation_failed : after ≡ true = may_store refl in cc

-- a memo with full capacity has a capacity above 0, if there is a rule
pub has_room : (context : RunContext) (memo : MemoState) (start : RuleCall) (answer : Record) → IsRecordOfCall context start answer
    → HasFullCapacity context memo → 0 < memo.capacity
has_room context memo start answer answers all =
    let some : start.rule < length context.bodies = slice_get_within context.bodies start.rule answers.body answers.is_body in
    let places : 0 < length context.text + 1 = omega arith in
    let least : length context.bodies ≤ length context.bodies * (length context.text + 1) =
    le-mul_of_pos_right (length context.bodies) places in
    let capacity = all.capacity in
    omega arith

-- the same holds for a memo of the same capacity with no more failed allocations
held_all_before : (context : RunContext) (old new : MemoState) → new.capacity ≡ old.capacity → (IsTrue old.allocation_failed → IsTrue new.allocation_failed)
    → HasFullCapacity context new → HasFullCapacity context old
held_all_before context old new same may_store all = record {
  capacity = subst (λ (capacity : ℕ). length context.bodies * (length context.text + 1) ≤ capacity) same all.capacity;
  given = never_refused old.allocation_failed new.allocation_failed may_store all.given;
}

-- ---- an entry is marked as used

module _ (context : RunContext) (old new : MemoState) (touched : IsTouched old new) where
  -- the entries may still be stored
  pub remembers_touched : (tests : List Test) (traced : List RuleCall) → EntriesAreRecords context tests traced old.entries
      → EntriesAreRecords context tests traced new.entries
  remembers_touched tests traced remembers pair result found =
      remembers pair result (touched.part (pair.rule, pair.position) result found)

  -- a memo with full capacity had it before
  pub all_before_touch : HasFullCapacity context new → HasFullCapacity context old
  all_before_touch = held_all_before context old new touched.capacity touched.allocation_failed

  -- if no pair was traced twice before, none is
  pub once_touched : (start : RuleCall) (answer : Record) → IsRecordOfCall context start answer → (traced : List RuleCall)
      (stack : List ActiveCall) → HasFullCapacity context new → (HasFullCapacity context old → NoneTwice traced old.entries stack)
      → NoneTwice traced new.entries stack
  once_touched start answer answers traced stack all once =
      let before = all_before_touch all in
      subst (λ (stored : MemoMap). NoneTwice traced stored stack)
      (sym (touched.same (has_room context old start answer answers before))) (once before)

-- ---- a result is offered

-- a memo with full capacity after an offer had it before
pub all_before_offer : (context : RunContext) (old new : MemoState) (pair : RuleCall) (result : StoredResult) (kept : Bool)
    → IsOffered old pair result kept new → HasFullCapacity context new → HasFullCapacity context old
all_before_offer context old new pair result kept offered = held_all_before context old new offered.capacity offered.allocation_failed

-- the entries may be stored, if the result offered may be
pub remembers_offered : (context : RunContext) (tests : List Test) (traced : List RuleCall) (old new : MemoState) (pair : RuleCall)
    (result : StoredResult) (kept : Bool) → IsOffered old pair result kept new → IsResultOf context tests traced pair result
    → EntriesAreRecords context tests traced old.entries → EntriesAreRecords context tests traced new.entries
remembers_offered context tests traced old new pair result kept offered is remembers other found there =
    by kept (offered.part (other.rule, other.position) found there)
  where
    pushed : ◌≡◌ {A = asked.MemoKey} (other.rule, other.position) (pair.rule, pair.position) → found ≡ result
        → IsResultOf context tests traced other found
    pushed same_pair same_result =
        let same : other ≡ pair =
        ap (λ (u : asked.MemoKey). let use_of : RuleCall = record { rule = u.0; position = u.1 } in use_of) same_pair in
        subst (λ (u : RuleCall). IsResultOf context tests traced u found) (sym same)
        (subst (λ (k : StoredResult). IsResultOf context tests traced pair k) (sym same_result) is)

    by : (kept : Bool)
        → map.get (if kept then map.insert old.entries (pair.rule, pair.position) result else old.entries)
        (other.rule, other.position) ≡ Some found → IsResultOf context tests traced other found
    by false known = remembers other found known
    by true known =
        ⊎_elim (λ here. pushed here.0 here.1) (λ before. remembers other found before)
        (found_after old.entries (pair.rule, pair.position) (other.rule, other.position) result found known)

-- a record of a rule comes from a rule with a body, and includes the call itself
use_recorded : (bodies : List CoreForm) (text : List ℕ) (n rule position : ℕ) (r : Record)
    → core_record_in bodies text n (Rule rule) position ≡ Some r
    → (rule < length bodies) × Contains r.calls (record { rule = rule; position = position })
unfolding core_record_in
use_recorded bodies text zero rule position r is = cc
use_recorded bodies text (suc n) rule position r is = by (slice_get bodies rule) refl is
  where
    of : (o : Option Record) → option_map (as_call rule position) o ≡ Some r
        → Contains r.calls (record { rule = rule; position = position })
    of None is = cc
    of (Some part) is =
        let same : as_call rule position part ≡ r = cc in
        let some : 0 < length (as_call rule position part).calls = omega arith in
        subst (λ (r : Record). Contains r.calls (record { rule = rule; position = position })) same (0, some, refl)

    by : (o : Option CoreForm) → slice_get bodies rule ≡ o
        → option_and_then
        (λ (body : CoreForm). option_map (as_call rule position) (core_record_in bodies text n body position)) o ≡ Some r
        → (rule < length bodies) × Contains r.calls (record { rule = rule; position = position })
    by None none is = cc
    by (Some body) some is =
        (slice_get_within bodies rule body some, of (core_record_in bodies text n body position) is)

-- for a start within the text, the calls traced are those of its record
module _ (context : RunContext) (start : RuleCall) (answer : Record) (answers : IsRecordOfCall context start answer)
    (here : start.position ≤ length context.text) (tests : List Test) (traced : List RuleCall)
    (uses_within : (pair : RuleCall) → Contains traced pair → Contains (start ∷ answer.calls) pair) where
  -- each call traced is at a position of the text
  shown_in_text : (pair : RuleCall) → Contains traced pair → pair.position ≤ length context.text
  shown_in_text pair has =
      ⊎_elim (λ same. subst (λ (p : RuleCall). p.position ≤ length context.text) same here)
      (λ later. All-contains (λ (p : RuleCall). p.position ≤ length context.text) answer.calls pair
      (core_record_in-uses_in_text context.bodies context.text answers.recorded.0 answers.body start.position answer here
      answers.recorded.1)
      later)
      (head_or_tail start answer.calls pair (uses_within pair has))

  -- a result that may be stored is of a rule of the grammar, at a position of the text
  kept_in_bounds : (pair : RuleCall) (result : StoredResult) → IsResultOf context tests traced pair result
      → (pair.rule < length context.bodies) × (pair.position < length context.text + 1)
  kept_in_bounds pair result is =
      let kept = is.may_be_stored in
      let recorded = kept.recorded in
      let known = use_recorded context.bodies context.text recorded.0 pair.rule pair.position is.r recorded.1 in
      let within = shown_in_text pair (kept.noted.uses_noted pair known.1) in
      let less : pair.position < length context.text + 1 = omega arith in
      (known.0, less)

  -- A memo with full capacity stores the result offered, and evicts none.
  pub offered_is_kept : (old new : MemoState) (pair : RuleCall) (result : StoredResult) (kept : Bool)
      → IsOffered old pair result kept new → IsResultOf context tests traced pair result
      → EntriesAreRecords context tests traced old.entries → HasFullCapacity context new
      → new.entries ≡ map.insert old.entries (pair.rule, pair.position) result
  offered_is_kept old new pair result kept offered is remembers all =
      offered.all (has_room context old start answer answers before) all.given
      (⊎_elim (λ there. inr there) (λ none. inl (room_left none))
      (contains_or_not old.entries (pair.rule, pair.position)))
    where
      before : HasFullCapacity context old
      before = all_before_offer context old new pair result kept offered all

      room_left : map.get old.entries (pair.rule, pair.position) ≡ None → map.len old.entries < old.capacity
      room_left none =
          let bounds = kept_in_bounds pair result is in
          let fewer : map.len old.entries < length context.bodies * (length context.text + 1) =
          fewer_are_held old.entries (length context.bodies) (length context.text + 1) (pair.rule, pair.position)
          (λ other found there.
          kept_in_bounds (record { rule = other.0; position = other.1 }) found
          (remembers (record { rule = other.0; position = other.1 }) found there))
          bounds.0 bounds.1 none in
          let capacity = before.capacity in
          omega arith

-- ---- a result that is inserted

module _ (stored : MemoMap) (pair : RuleCall) (result : StoredResult) where
  -- it has an entry
  pub put_is_held : IsInMemo (map.insert stored (pair.rule, pair.position) result) pair
  put_is_held =
      contains_found (map.insert stored (pair.rule, pair.position) result) (pair.rule, pair.position) result
      (get_inserted stored (pair.rule, pair.position) result)

  -- and so has each pair that had one before
  pub still_held : (other : RuleCall) → IsInMemo stored other
      → IsInMemo (map.insert stored (pair.rule, pair.position) result) other
  still_held other is =
      ⊎_elim
      (λ same. subst (λ (u : asked.MemoKey). IsTrue (map.contains_key (map.insert stored (pair.rule, pair.position) result) u))
      (sym same) put_is_held)
      (λ differs. let found = contained stored (other.rule, other.position) is in
      contains_found (map.insert stored (pair.rule, pair.position) result) (other.rule, other.position) found.0
      (get_other stored (pair.rule, pair.position) (other.rule, other.position) result differs ∙ found.1))
      (same_or_other (other.rule, other.position) (pair.rule, pair.position))
