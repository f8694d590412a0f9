-- The result of a core form shows one of its abstract outcomes (Ford 2004, section 3.5). A match of no byte shows 0, a
-- match of some byte shows 1, and a failure shows f. A record in n shows an outcome in n rounds.
use Rattle.std.proofs.Common.{◌≡◌, ℕ, zero, suc, ◌+◌, ◌<◌, ◌≤◌, ◌⊎◌, inl, inr, Bool, true, false, ◌&&◌, ◌||◌}
use Rattle.std.proofs.Common.{List, [], ◌∷◌, drop, Option, None, Some, option_map, option_and_then, slice_get}
use Rattle.std.proofs.Common.{refl, sym, ap, ◌∙◌, subst, arith}
use Rattle.std.proofs.lemmas.Bool.{cases_lt}
use Rattle.peg_bytes.specs.ByteSet.{Bytes, has, has_some}
use Rattle.peg_bytes.specs.Extent.{Extent}
use Rattle.peg_tree.specs.Trees.{Trees}
use Rattle.peg_semantics.specs.AbstractOutcomes.{Can, CanAll, always_empty, can_of_set, succeeds}
use Rattle.peg_semantics.specs.AbstractOutcomes.{seq_outcome, choice_outcome, star_outcome, not_outcome}
use Rattle.peg_semantics.specs.Record.{Recognition, Failed, Matched, Record, matched_at, prepend_trees, if_failed, with_result}
use Rattle.peg_semantics.specs.Record.{byte_at, as_tree, as_call}
use Rattle.peg_semantics.proofs.ResultSteps.{begins_with, byte_at-matched, byte_at-failed, some_case, map_cases}
use Rattle.peg_semantics.proofs.ResultSteps.{then_cases, or_cases, rounds_cases}
use Rattle.peg_semantics.proofs.RoundsLemmas.{or_right}
use Rattle.peg_core.specs.CoreForm.{CoreForm, Empty, Test, Rule, Seq, Choice, Star, Not}
use Rattle.peg_core.specs.CoreOutcomes.{CoreOutcomeOf, outcome_of_body, core_can_table, core_can_in}
use Rattle.peg_core.specs.CoreRecord.{CoreRecognizer, core_table, core_record_in}
use Rattle.peg_core.proofs.CoreRounds.{core_can_in-more}

-- a match ends at its start or later; if at its start, 0 is an outcome, and if later, 1 is
pub record Ends (can : Can) (position end : ℕ) : Type 0 where
  pub onward : position ≤ end
  pub nothing : end ≡ position → can.nothing ≡ true
  pub something : position < end → can.something ≡ true

-- the outcome that a result at a position shows
abbrev pub Shows : Can → (position : ℕ) → Recognition → Type 0
Shows can position Failed = can.fails ≡ true
Shows can position (Matched end trees) = Ends can position end

-- ---- disjunctions and conjunctions

or_left : (a b : Bool) → a ≡ true → (a || b) ≡ true
or_left a b is = ap (λ x. x || b) is

and_both : (a b : Bool) → a ≡ true → b ≡ true → (a && b) ≡ true
and_both a b is also = ap (λ x. x && b) is ∙ also

-- a match is of no byte or of some
pub none_or_some : (position end : ℕ) → position ≤ end → (end ≡ position) ⊎ (position < end)
none_or_some position end onward =
    elim (cases_lt position end) [
      | inl some ↦ inr some
      | inr none ↦ inl (omega (arith, onward, none))
    ]

-- a form that matched can succeed
succeeds-match : (can : Can) (position end : ℕ) → Ends can position end → succeeds can ≡ true
succeeds-match can position end is =
    elim (none_or_some position end is.onward) [
      | inl none ↦ or_left can.nothing can.something (is.nothing none)
      | inr some ↦ or_right can.nothing can.something (is.something some)
    ]

-- ---- each of Ford's rules shows an outcome if its parts do

Ends-here : (can : Can) (position : ℕ) → can.nothing ≡ true → Ends can position position
Ends-here can position is =
    record { onward = omega arith; nothing = λ same. is; something = λ less. absurd (omega (arith, less)) }

Ends-later : (can : Can) (position end : ℕ) → position < end → can.something ≡ true → Ends can position end
Ends-later can position end less is =
    record { onward = omega (arith, less); nothing = λ at. absurd (omega (arith, less, at)); something = λ more. is }

Shows-seq_outcome : (a b : Can) (position middle : ℕ) (trees : Trees) (x : Recognition) → Ends a position middle → Shows b middle x
    → Shows (seq_outcome a b) position (prepend_trees trees x)
Shows-seq_outcome a b position middle trees Failed part rest =
    or_right a.fails (succeeds a && b.fails) (and_both (succeeds a) b.fails (succeeds-match a position middle part) rest)
Shows-seq_outcome a b position middle trees (Matched end more) part rest = record {
  onward = omega (arith, part.onward, rest.onward);
  nothing = λ same.
      and_both a.nothing b.nothing (part.nothing (omega (arith, part.onward, rest.onward, same)))
      (rest.nothing (omega (arith, part.onward, rest.onward, same)));
  something = λ less.
      and_both (succeeds a && succeeds b) (a.something || b.something)
      (and_both (succeeds a) (succeeds b) (succeeds-match a position middle part) (succeeds-match b middle end rest))
      (elim (none_or_some position middle part.onward) [
        | inl none ↦ or_right a.something b.something (rest.something (omega (arith, less, none)))
        | inr some ↦ or_left a.something b.something (part.something some)
      ]);
}

Ends-choice_outcome : (a b : Can) (position end : ℕ) → Ends a position end → Ends (choice_outcome a b) position end
Ends-choice_outcome a b position end part = record {
  onward = part.onward;
  nothing = λ same. or_left a.nothing (a.fails && b.nothing) (part.nothing same);
  something = λ less. or_left a.something (a.fails && b.something) (part.something less);
}

Shows-choice_outcome : (a b : Can) (position : ℕ) (x : Recognition) → a.fails ≡ true → Shows b position x
    → Shows (choice_outcome a b) position x
Shows-choice_outcome a b position Failed fails other = and_both a.fails b.fails fails other
Shows-choice_outcome a b position (Matched end trees) fails other = record {
  onward = other.onward;
  nothing = λ same.
      or_right a.nothing (a.fails && b.nothing) (and_both a.fails b.nothing fails (other.nothing same));
  something = λ less.
      or_right a.something (a.fails && b.something) (and_both a.fails b.something fails (other.something less));
}

-- an iteration of a star, and the iterations after it
rounds-something : (part star : Can) (position middle end : ℕ) → CanAll star (star_outcome part) → Ends part position middle
    → Ends star middle end → position < end → part.something ≡ true
rounds-something part star position middle end within round rest less =
    elim (none_or_some position middle round.onward) [
      | inl none ↦ within.something (rest.something (omega (arith, less, none)))
      | inr some ↦ round.something some
    ]

Shows-star_outcome : (part star : Can) (position middle : ℕ) (trees : Trees) (x : Recognition) → CanAll star (star_outcome part)
    → Ends part position middle → Shows star middle x → Shows (star_outcome part) position (prepend_trees trees x)
Shows-star_outcome part star position middle trees Failed within round rest = within.fails rest
Shows-star_outcome part star position middle trees (Matched end more) within round rest = record {
  onward = omega (arith, round.onward, rest.onward);
  nothing = λ same. within.nothing (rest.nothing (omega (arith, round.onward, rest.onward, same)));
  something = rounds-something part star position middle end within round rest;
}

Shows-not_outcome : (part : Can) (position : ℕ) (x : Recognition) → Shows part position x
    → Shows (not_outcome part) position (if_failed x position)
Shows-not_outcome part position Failed is = Ends-here (not_outcome part) position is
Shows-not_outcome part position (Matched end trees) is = succeeds-match part position end is

Shows-as_tree : (can : Can) (rule position : ℕ) (x : Recognition) → Shows can position x
    → Shows can position (as_tree rule position x)
Shows-as_tree can rule position Failed is = is
Shows-as_tree can rule position (Matched end trees) is = is

-- ---- terminals

-- a set that contains a byte isn't empty
has_some-of : (set : Bytes) (byte : ℕ) → has set byte ≡ true → has_some set ≡ true
has_some-of [] byte is = cc
has_some-of (true ∷ set) byte is = refl
has_some-of (false ∷ set) zero is = cc
has_some-of (false ∷ set) (suc byte) is = has_some-of set byte is

begins-some : (set : Bytes) (bytes : List ℕ) → begins_with (has set) bytes ≡ true → has_some set ≡ true
begins-some set [] is = cc
begins-some set (byte ∷ rest) is = has_some-of set byte is

-- a byte that passes a test, or doesn't
Shows-byte : (can : Can) (test : ℕ → Bool) (terminal position : ℕ) (rest : List ℕ)
    → (begins_with test rest ≡ true → can.something ≡ true) → can.fails ≡ true
    → Shows can position (byte_at test terminal position rest).result
Shows-byte can test terminal position rest some fails = by (begins_with test rest) refl
  where
    by : (t : Bool) → begins_with test rest ≡ t → Shows can position (byte_at test terminal position rest).result
    by true is =
        subst (Shows can position) (sym (byte_at-matched test terminal position (position + 1) rest is refl))
        (Ends-later can position (position + 1) (omega arith) (some is))
    by false is = subst (Shows can position) (sym (byte_at-failed test terminal position rest is)) fails

-- ---- records

-- Let the records of parts show their outcomes, and let the outcomes of a star follow from those of its part. Then the
-- records by the table show the outcomes by the rules.
module _ (bodies : List CoreForm) (text : List ℕ) (take : CoreRecognizer) (judge : CoreOutcomeOf)
    (shown : (form : CoreForm) (position : ℕ) (r : Record) → take form position ≡ Some r
    → Shows (judge form) position r.result)
    (star : (part : CoreForm) (origin : Extent) → CanAll (judge (Star part origin)) (star_outcome (judge part))) where
  -- a part with a known result
  part_shown : (form : CoreForm) (position : ℕ) (r : Record) {x : Recognition} → take form position ≡ Some r
      → r.result ≡ x → Shows (judge form) position x
  part_shown form position r is known = subst (Shows (judge form) position) known (shown form position r is)

  body_shown : (rule position : ℕ) (r : Record) (body : Option CoreForm)
      → option_and_then (λ (body : CoreForm). option_map (as_call rule position) (take body position)) body ≡ Some r
      → Shows (outcome_of_body judge body) position r.result
  body_shown rule position r None is = cc
  body_shown rule position r (Some body) is =
      map_cases (Shows (judge body) position) (take body position) (as_call rule position) r
      (λ part e. Shows-as_tree (judge body) rule position part.result (shown body position part e)) is

  table_shown : (form : CoreForm) (position : ℕ) (r : Record) → core_table bodies text take form position ≡ Some r
      → Shows (core_can_table bodies judge form) position r.result
  table_shown Empty position r is =
      some_case (Shows always_empty position) (matched_at position) r (Ends-here always_empty position refl) is
  table_shown (Test set terminal) position r is =
      some_case (Shows (can_of_set set) position) (byte_at (has set) terminal position (drop position text)) r
      (Shows-byte (can_of_set set) (has set) terminal position (drop position text)
      (begins-some set (drop position text)) refl) is
  table_shown (Rule rule) position r is = body_shown rule position r (slice_get bodies rule) is
  table_shown (Seq first rest) position r is =
      then_cases (Shows (seq_outcome (judge first) (judge rest)) position) (take first position) (λ end. take rest end) r
      (λ part e f.
      or_left (judge first).fails (succeeds (judge first) && (judge rest).fails) (part_shown first position part e f))
      (λ part more end trees e f g.
      Shows-seq_outcome (judge first) (judge rest) position end trees more.result
      (part_shown first position part e f) (shown rest end more g)) is
  table_shown (Choice first rest) position r is =
      or_cases (Shows (choice_outcome (judge first) (judge rest)) position) (take first position) (take rest position) r
      (λ part end trees e f.
      Ends-choice_outcome (judge first) (judge rest) position end (part_shown first position part e f))
      (λ part more e f g.
      Shows-choice_outcome (judge first) (judge rest) position more.result
      (part_shown first position part e f) (shown rest position more g)) is
  table_shown (Star part origin) position r is =
      rounds_cases (Shows (star_outcome (judge part)) position) (take part position) position (λ end. take (Star part origin) end) r
      (λ p e f. Ends-here (star_outcome (judge part)) position (part_shown part position p e f))
      (λ p more end trees e f g.
      Shows-star_outcome (judge part) (judge (Star part origin)) position end trees more.result (star part origin)
      (part_shown part position p e f) (shown (Star part origin) end more g)) is
  table_shown (Not part) position r is =
      map_cases (Shows (not_outcome (judge part)) position) (take part position)
      (λ (r : Record). with_result r (if_failed r.result position)) r
      (λ p e. Shows-not_outcome (judge part) position p.result (shown part position p e)) is

-- a record in n shows an outcome of the form in n rounds
pub core_record_in-shows : (bodies : List CoreForm) (text : List ℕ) (n : ℕ) (form : CoreForm) (position : ℕ) (r : Record)
    → core_record_in bodies text n form position ≡ Some r → Shows (core_can_in bodies n form) position r.result
unfolding core_record_in core_can_in
core_record_in-shows bodies text zero form position r is = cc
core_record_in-shows bodies text (suc n) form position r is =
    table_shown bodies text (core_record_in bodies text n) (core_can_in bodies n) (core_record_in-shows bodies text n)
    (λ part origin. core_can_in-more bodies n (Star part origin)) form position r is

-- and so does its result, if it is known
pub core_result-shows : (bodies : List CoreForm) (text : List ℕ) (n : ℕ) (form : CoreForm) (position : ℕ) (r : Record)
    (x : Recognition) → core_record_in bodies text n form position ≡ Some r → r.result ≡ x
    → Shows (core_can_in bodies n form) position x
core_result-shows bodies text n form position r x is known =
    subst (Shows (core_can_in bodies n form) position) known (core_record_in-shows bodies text n form position r is)
