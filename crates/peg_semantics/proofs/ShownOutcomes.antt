-- Abstract outcomes are sound (Ford 2004, section 3.5): an empty match implies 0, a longer match implies 1, and a
-- failure implies f. A record in depth n implies outcomes in n rounds.
use Rattle.std.proofs.Common.{◌≡◌, ℕ, zero, suc, ◌+◌, ◌<◌, ◌≤◌, ◌⊎◌, inl, inr, nat_eq, Bool, true, false, ◌&&◌, ◌||◌}
use Rattle.std.proofs.Common.{List, [], ◌∷◌, length, drop, Option, None, Some, option_map, option_and_then}
use Rattle.std.proofs.Common.{refl, sym, ap, ◌∙◌, subst, arith}
use Rattle.std.specs.List.{starts_with}
use Rattle.std.proofs.lemmas.Bool.{cases_lt}
use Rattle.peg_bytes.specs.ByteSet.{Bytes, has, has_some}
use Rattle.peg_bytes.specs.Extent.{Extent}
use Rattle.peg_tree.specs.Trees.{Trees}
use Rattle.peg_semantics.specs.AbstractOutcomes.{Can, CanAll, always_empty, consumes_or_fails, can_of_set, succeeds}
use Rattle.peg_semantics.specs.AbstractOutcomes.{seq_outcome, choice_outcome, optional_outcome, star_outcome, plus_outcome, repeat_outcome, and_outcome}
use Rattle.peg_semantics.specs.AbstractOutcomes.{not_outcome}
use Rattle.peg_semantics.specs.AbstractOutcomes.{OutcomeOf, outcome_of_items, outcome_of_choice, outcome_of_meaning, can_table, can_in}
use Rattle.peg_semantics.specs.Form.{Form, Forms, Literal, Class, Any, Name, Seq, Choice, Optional, Star, Plus, Counted, And, Not}
use Rattle.peg_semantics.specs.Form.{End, Then, terminals}
use Rattle.peg_semantics.specs.Record.{Recognition, Failed, Matched, Record, Recognizer, matched_at, prepend_trees, if_matched}
use Rattle.peg_semantics.specs.Record.{if_failed, with_result, literal_at, byte_at, as_tree, as_call, recognize_seq}
use Rattle.peg_semantics.specs.Record.{recognize_choice, recognize_repeat, table, record_in}
use Rattle.peg_semantics.specs.Rules.{Rule, Meaning, meaning_of}
use Rattle.peg_semantics.proofs.ResultSteps.{begins_with, passes_any, literal_at-matched, literal_at-failed}
use Rattle.peg_semantics.proofs.ResultSteps.{byte_at-matched, byte_at-failed, some_case, map_cases, then_cases, or_cases}
use Rattle.peg_semantics.proofs.ResultSteps.{rounds_cases}
use Rattle.peg_semantics.proofs.RoundsLemmas.{or_right, can_in-more}

-- a match ends at its start position or later: at it the expression can give 0, after it 1
pub record Ends (can : Can) (position end : ℕ) : Type 0 where
  pub onward : position ≤ end
  pub nothing : end ≡ position → can.nothing ≡ true
  pub something : position < end → can.something ≡ true

-- the outcome that a result at a position implies
abbrev pub Shows : Can → (position : ℕ) → Recognition → Type 0
Shows can position Failed = can.fails ≡ true
Shows can position (Matched end trees) = Ends can position end

-- ---- tests of both and of either

or_left : (a b : Bool) → a ≡ true → (a || b) ≡ true
or_left a b is = ap (λ x. x || b) is

and_both : (a b : Bool) → a ≡ true → b ≡ true → (a && b) ≡ true
and_both a b is also = ap (λ x. x && b) is ∙ also

-- a match is empty or longer
pub none_or_some : (position end : ℕ) → position ≤ end → (end ≡ position) ⊎ (position < end)
none_or_some position end onward =
    elim (cases_lt position end) [
      | inl some ↦ inr some
      | inr none ↦ inl (omega (arith, onward, none))
    ]

-- an expression that matched can succeed
succeeds-match : (can : Can) (position end : ℕ) → Ends can position end → succeeds can ≡ true
succeeds-match can position end is =
    elim (none_or_some position end is.onward) [
      | inl none ↦ or_left can.nothing can.something (is.nothing none)
      | inr some ↦ or_right can.nothing can.something (is.something some)
    ]

-- ---- Ford's rules preserve soundness

Ends-here : (can : Can) (position : ℕ) → can.nothing ≡ true → Ends can position position
Ends-here can position is =
    record { onward = omega arith; nothing = λ same. is; something = λ less. absurd (omega (arith, less)) }

Ends-later : (can : Can) (position end : ℕ) → position < end → can.something ≡ true → Ends can position end
Ends-later can position end less is =
    record { onward = omega (arith, less); nothing = λ at. absurd (omega (arith, less, at)); something = λ more. is }

Shows-seq_outcome : (a b : Can) (position middle : ℕ) (trees : Trees) (x : Recognition) → Ends a position middle → Shows b middle x
    → Shows (seq_outcome a b) position (prepend_trees trees x)
Shows-seq_outcome a b position middle trees Failed part rest =
    or_right a.fails (succeeds a && b.fails) (and_both (succeeds a) b.fails (succeeds-match a position middle part) rest)
Shows-seq_outcome a b position middle trees (Matched end more) part rest = record {
  onward = omega (arith, part.onward, rest.onward);
  nothing = λ same.
      and_both a.nothing b.nothing (part.nothing (omega (arith, part.onward, rest.onward, same)))
      (rest.nothing (omega (arith, part.onward, rest.onward, same)));
  something = λ less.
      and_both (succeeds a && succeeds b) (a.something || b.something)
      (and_both (succeeds a) (succeeds b) (succeeds-match a position middle part) (succeeds-match b middle end rest))
      (elim (none_or_some position middle part.onward) [
        | inl none ↦ or_right a.something b.something (rest.something (omega (arith, less, none)))
        | inr some ↦ or_left a.something b.something (part.something some)
      ]);
}

Ends-choice_outcome : (a b : Can) (position end : ℕ) → Ends a position end → Ends (choice_outcome a b) position end
Ends-choice_outcome a b position end part = record {
  onward = part.onward;
  nothing = λ same. or_left a.nothing (a.fails && b.nothing) (part.nothing same);
  something = λ less. or_left a.something (a.fails && b.something) (part.something less);
}

Shows-choice_outcome : (a b : Can) (position : ℕ) (x : Recognition) → a.fails ≡ true → Shows b position x
    → Shows (choice_outcome a b) position x
Shows-choice_outcome a b position Failed fails other = and_both a.fails b.fails fails other
Shows-choice_outcome a b position (Matched end trees) fails other = record {
  onward = other.onward;
  nothing = λ same.
      or_right a.nothing (a.fails && b.nothing) (and_both a.fails b.nothing fails (other.nothing same));
  something = λ less.
      or_right a.something (a.fails && b.something) (and_both a.fails b.something fails (other.something less));
}

Ends-optional_outcome : (part : Can) (position end : ℕ) → Ends part position end → Ends (optional_outcome part) position end
Ends-optional_outcome part position end is = record {
  onward = is.onward;
  nothing = λ same. or_left part.nothing part.fails (is.nothing same);
  something = is.something;
}

-- an iteration of a star, and the iterations after it
rounds-something : (part star : Can) (position middle end : ℕ) → CanAll star (star_outcome part) → Ends part position middle
    → Ends star middle end → position < end → part.something ≡ true
rounds-something part star position middle end within round rest less =
    elim (none_or_some position middle round.onward) [
      | inl none ↦ within.something (rest.something (omega (arith, less, none)))
      | inr some ↦ round.something some
    ]

Shows-star_outcome : (part star : Can) (position middle : ℕ) (trees : Trees) (x : Recognition) → CanAll star (star_outcome part)
    → Ends part position middle → Shows star middle x → Shows (star_outcome part) position (prepend_trees trees x)
Shows-star_outcome part star position middle trees Failed within round rest = within.fails rest
Shows-star_outcome part star position middle trees (Matched end more) within round rest = record {
  onward = omega (arith, round.onward, rest.onward);
  nothing = λ same. within.nothing (rest.nothing (omega (arith, round.onward, rest.onward, same)));
  something = rounds-something part star position middle end within round rest;
}

Shows-plus_outcome : (part star : Can) (position middle : ℕ) (trees : Trees) (x : Recognition)
    → CanAll star (star_outcome part) → Ends part position middle → Shows star middle x
    → Shows (plus_outcome part) position (prepend_trees trees x)
Shows-plus_outcome part star position middle trees Failed within round rest =
    let never : false ≡ true = within.fails rest in cc
Shows-plus_outcome part star position middle trees (Matched end more) within round rest = record {
  onward = omega (arith, round.onward, rest.onward);
  nothing = λ same.
      and_both part.nothing part.fails (round.nothing (omega (arith, round.onward, rest.onward, same)))
      (within.nothing (rest.nothing (omega (arith, round.onward, rest.onward, same))));
  something = rounds-something part star position middle end within round rest;
}

-- a part, and then optional repetitions, which never fail
Shows-or_both : (part : Can) (max position middle : ℕ) (trees : Trees) (x : Recognition) → Ends part position middle
    → Shows (repeat_outcome part 0 max) middle x → Shows (optional_outcome (seq_outcome part (repeat_outcome part 0 max))) position (prepend_trees trees x)
Shows-or_both part zero position middle trees Failed here rest = let never : false ≡ true = rest in cc
Shows-or_both part (suc max) position middle trees Failed here rest = let never : false ≡ true = rest in cc
Shows-or_both part max position middle trees (Matched end more) here rest =
    Ends-optional_outcome (seq_outcome part (repeat_outcome part 0 max)) position end
    (Shows-seq_outcome part (repeat_outcome part 0 max) position middle trees (Matched end more) here rest)

Shows-and_outcome : (part : Can) (position : ℕ) (x : Recognition) → Shows part position x
    → Shows (and_outcome part) position (if_matched x position)
Shows-and_outcome part position Failed is = is
Shows-and_outcome part position (Matched end trees) is = Ends-here (and_outcome part) position (succeeds-match part position end is)

Shows-not_outcome : (part : Can) (position : ℕ) (x : Recognition) → Shows part position x
    → Shows (not_outcome part) position (if_failed x position)
Shows-not_outcome part position Failed is = Ends-here (not_outcome part) position is
Shows-not_outcome part position (Matched end trees) is = succeeds-match part position end is

Shows-as_tree : (can : Can) (rule position : ℕ) (x : Recognition) → Shows can position x
    → Shows can position (as_tree rule position x)
Shows-as_tree can rule position Failed is = is
Shows-as_tree can rule position (Matched end trees) is = is

-- ---- terminals

-- a set that contains a byte is not empty
has_some-of : (set : Bytes) (byte : ℕ) → has set byte ≡ true → has_some set ≡ true
has_some-of [] byte is = cc
has_some-of (true ∷ set) byte is = refl
has_some-of (false ∷ set) zero is = cc
has_some-of (false ∷ set) (suc byte) is = has_some-of set byte is

begins-some : (set : Bytes) (bytes : List ℕ) → begins_with (has set) bytes ≡ true → has_some set ≡ true
begins-some set [] is = cc
begins-some set (byte ∷ rest) is = has_some-of set byte is

-- a nonempty literal against the bytes from a position on
Shows-literal : (b : ℕ) (bs : List ℕ) (terminal position : ℕ) (rest : List ℕ)
    → Shows consumes_or_fails position (literal_at terminal position (b ∷ bs) rest).result
Shows-literal b bs terminal position rest = by (starts_with nat_eq rest (b ∷ bs)) refl
  where
    by : (t : Bool) → starts_with nat_eq rest (b ∷ bs) ≡ t
        → Shows consumes_or_fails position (literal_at terminal position (b ∷ bs) rest).result
    by true is =
        subst (Shows consumes_or_fails position)
        (sym (literal_at-matched terminal position (position + length (b ∷ bs)) (b ∷ bs) rest is refl))
        (Ends-later consumes_or_fails position (position + length (b ∷ bs)) (omega arith) refl)
    by false is =
        subst (Shows consumes_or_fails position) (sym (literal_at-failed terminal position (b ∷ bs) rest is)) refl

-- a byte that passes a test, or does not
Shows-byte : (can : Can) (test : ℕ → Bool) (terminal position : ℕ) (rest : List ℕ)
    → (begins_with test rest ≡ true → can.something ≡ true) → can.fails ≡ true
    → Shows can position (byte_at test terminal position rest).result
Shows-byte can test terminal position rest some fails = by (begins_with test rest) refl
  where
    by : (t : Bool) → begins_with test rest ≡ t → Shows can position (byte_at test terminal position rest).result
    by true is =
        subst (Shows can position) (sym (byte_at-matched test terminal position (position + 1) rest is refl))
        (Ends-later can position (position + 1) (omega arith) (some is))
    by false is = subst (Shows can position) (sym (byte_at-failed test terminal position rest is)) fails

-- ---- records

-- If the records of the parts imply their outcomes, and the outcomes of a star follow from its part, the table implies
-- the outcomes by Ford's rules.
module _ (rules : List Rule) (text : List ℕ) (take : Recognizer) (judge : OutcomeOf)
    (shown : (e : Form) (terminal position : ℕ) (r : Record) → take e terminal position ≡ Some r
    → Shows (judge e) position r.result)
    (star : (part : Form) (span : Extent) → CanAll (judge (Star part span)) (star_outcome (judge part))) where
  -- a part with a known result
  part_shown : (e : Form) (terminal position : ℕ) (r : Record) {x : Recognition} → take e terminal position ≡ Some r
      → r.result ≡ x → Shows (judge e) position x
  part_shown e terminal position r is known = subst (Shows (judge e) position) known (shown e terminal position r is)

  items_shown : (items : Forms) (terminal position : ℕ) (r : Record) → recognize_seq take items terminal position ≡ Some r
      → Shows (outcome_of_items judge items) position r.result
  items_shown End terminal position r is =
      some_case (Shows always_empty position) (matched_at position) r (Ends-here always_empty position refl) is
  items_shown (Then item rest) terminal position r is =
      then_cases (Shows (seq_outcome (judge item) (outcome_of_items judge rest)) position) (take item terminal position)
      (λ end. recognize_seq take rest (terminal + terminals item) end) r
      (λ part e f.
      or_left (judge item).fails (succeeds (judge item) && (outcome_of_items judge rest).fails)
      (part_shown item terminal position part e f))
      (λ part more end trees e f g.
      Shows-seq_outcome (judge item) (outcome_of_items judge rest) position end trees more.result
      (part_shown item terminal position part e f) (items_shown rest (terminal + terminals item) end more g)) is

  times_shown : (part : Form) (terminal min max position : ℕ) (r : Record)
      → recognize_repeat (λ at. take part terminal at) min max position ≡ Some r
      → Shows (repeat_outcome (judge part) min max) position r.result
  times_shown part terminal min zero position r is =
      some_case (Shows always_empty position) (matched_at position) r (Ends-here always_empty position refl) is
  times_shown part terminal zero (suc max) position r is =
      let rest = repeat_outcome (judge part) 0 max in
      let once = seq_outcome (judge part) rest in
      rounds_cases (Shows (optional_outcome once) position) (take part terminal position) position
      (λ end. recognize_repeat (λ at. take part terminal at) 0 max end) r
      (λ p e f.
      Ends-here (optional_outcome once) position
      (or_right once.nothing once.fails
      (or_left (judge part).fails (succeeds (judge part) && rest.fails) (part_shown part terminal position p e f))))
      (λ p more end trees e f g.
      Shows-or_both (judge part) max position end trees more.result (part_shown part terminal position p e f)
      (times_shown part terminal 0 max end more g)) is
  times_shown part terminal (suc min) (suc max) position r is =
      let rest = repeat_outcome (judge part) min max in
      then_cases (Shows (seq_outcome (judge part) rest) position) (take part terminal position)
      (λ end. recognize_repeat (λ at. take part terminal at) min max end) r
      (λ p e f.
      or_left (judge part).fails (succeeds (judge part) && rest.fails) (part_shown part terminal position p e f))
      (λ p more end trees e f g.
      Shows-seq_outcome (judge part) rest position end trees more.result (part_shown part terminal position p e f)
      (times_shown part terminal min max end more g)) is

  first_shown : (first : Form) (rest : Forms) (terminal position : ℕ) (r : Record)
      → recognize_choice take first rest terminal position ≡ Some r → Shows (outcome_of_choice judge first rest) position r.result
  first_shown first End terminal position r is = shown first terminal position r is
  first_shown first (Then next rest) terminal position r is =
      or_cases (Shows (choice_outcome (judge first) (outcome_of_choice judge next rest)) position) (take first terminal position)
      (recognize_choice take next rest (terminal + terminals first) position) r
      (λ part end trees e f.
      Ends-choice_outcome (judge first) (outcome_of_choice judge next rest) position end (part_shown first terminal position part e f))
      (λ part more e f g.
      Shows-choice_outcome (judge first) (outcome_of_choice judge next rest) position more.result
      (part_shown first terminal position part e f)
      (first_shown next rest (terminal + terminals first) position more g)) is

  name_shown : (position : ℕ) (r : Record) (meaning : Option Meaning)
      → option_and_then (λ (m : Meaning). option_map (as_call m.rule position) (take m.body m.terminal position)) meaning
      ≡ Some r → Shows (outcome_of_meaning judge meaning) position r.result
  name_shown position r None is = cc
  name_shown position r (Some m) is =
      map_cases (Shows (judge m.body) position) (take m.body m.terminal position) (as_call m.rule position) r
      (λ part e. Shows-as_tree (judge m.body) m.rule position part.result (shown m.body m.terminal position part e)) is

  table_shown : (e : Form) (terminal position : ℕ) (r : Record) → table rules text take e terminal position ≡ Some r
      → Shows (can_table rules judge e) position r.result
  table_shown (Literal [] span) terminal position r is =
      some_case (Shows always_empty position) (matched_at position) r (Ends-here always_empty position refl) is
  table_shown (Literal (b ∷ bs) span) terminal position r is =
      some_case (Shows consumes_or_fails position) (literal_at terminal position (b ∷ bs) (drop position text)) r
      (Shows-literal b bs terminal position (drop position text)) is
  table_shown (Class set span) terminal position r is =
      some_case (Shows (can_of_set set) position) (byte_at (has set) terminal position (drop position text)) r
      (Shows-byte (can_of_set set) (has set) terminal position (drop position text)
      (begins-some set (drop position text)) refl) is
  table_shown (Any span) terminal position r is =
      some_case (Shows consumes_or_fails position) (byte_at passes_any terminal position (drop position text)) r
      (Shows-byte consumes_or_fails passes_any terminal position (drop position text) (λ begins. refl) refl) is
  table_shown (Name name span) terminal position r is = name_shown position r (meaning_of rules name) is
  table_shown (Seq items span) terminal position r is = items_shown items terminal position r is
  table_shown (Choice first rest span) terminal position r is = first_shown first rest terminal position r is
  table_shown (Optional part span) terminal position r is =
      or_cases (Shows (optional_outcome (judge part)) position) (take part terminal position) (Some (matched_at position)) r
      (λ p end trees e f. Ends-optional_outcome (judge part) position end (part_shown part terminal position p e f))
      (λ p more e f g.
      some_case (Shows (optional_outcome (judge part)) position) (matched_at position) more
      (Ends-here (optional_outcome (judge part)) position
      (or_right (judge part).nothing (judge part).fails (part_shown part terminal position p e f))) g) is
  table_shown (Star part span) terminal position r is =
      rounds_cases (Shows (star_outcome (judge part)) position) (take part terminal position) position
      (λ end. take (Star part span) terminal end) r
      (λ p e f. Ends-here (star_outcome (judge part)) position (part_shown part terminal position p e f))
      (λ p more end trees e f g.
      Shows-star_outcome (judge part) (judge (Star part span)) position end trees more.result (star part span)
      (part_shown part terminal position p e f) (shown (Star part span) terminal end more g)) is
  table_shown (Plus part span) terminal position r is =
      then_cases (Shows (plus_outcome (judge part)) position) (take part terminal position)
      (λ end. take (Star part span) terminal end) r
      (λ p e f. part_shown part terminal position p e f)
      (λ p more end trees e f g.
      Shows-plus_outcome (judge part) (judge (Star part span)) position end trees more.result (star part span)
      (part_shown part terminal position p e f) (shown (Star part span) terminal end more g)) is
  table_shown (Counted part min max span) terminal position r is = times_shown part terminal min max position r is
  table_shown (And part span) terminal position r is =
      map_cases (Shows (and_outcome (judge part)) position) (take part terminal position)
      (λ (r : Record). with_result r (if_matched r.result position)) r
      (λ p e. Shows-and_outcome (judge part) position p.result (shown part terminal position p e)) is
  table_shown (Not part span) terminal position r is =
      map_cases (Shows (not_outcome (judge part)) position) (take part terminal position)
      (λ (r : Record). with_result r (if_failed r.result position)) r
      (λ p e. Shows-not_outcome (judge part) position p.result (shown part terminal position p e)) is

-- a record in depth n implies outcomes in n rounds
pub record_in-shows : (rules : List Rule) (text : List ℕ) (n : ℕ) (e : Form) (terminal position : ℕ) (r : Record)
    → record_in rules text n e terminal position ≡ Some r → Shows (can_in rules n e) position r.result
unfolding record_in can_in
record_in-shows rules text zero e terminal position r is = cc
record_in-shows rules text (suc n) e terminal position r is =
    table_shown rules text (record_in rules text n) (can_in rules n) (record_in-shows rules text n)
    (λ part span. can_in-more rules n (Star part span)) e terminal position r is
