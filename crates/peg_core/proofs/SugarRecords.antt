-- A written expression and its core form have the same records.
use Rattle.std.proofs.Common.{◌≡◌, ℕ, zero, suc, ◌+◌, ◌-◌, ◌<◌, Bool, true, false, ◌==◌, if◌then◌else◌, List, [], ◌∷◌, All, drop, Option, None, Some, refl, sym, ap, ◌∙◌, subst, slice_get, option_map, option_and_then, inl, inr}
use Rattle.std.proofs.lemmas.Bool.{ne_eqb}
use Rattle.std.proofs.lemmas.Bool.Decides.{eqb_tells}
use Rattle.std.proofs.lemmas.List.{drop-drop}
use Rattle.std.proofs.lemmas.List.Elements.{All-drop, All-head}
use Rattle.peg_bytes.specs.ByteSet.{Bytes, has, only, all_bytes}
use Rattle.peg_bytes.specs.Extent.{Extent}
use Rattle.peg_semantics.specs.Form.{Form, Forms, Literal, Class, Any, Name, Optional, Plus, Counted, And, End, Then, terminals}
use Rattle.peg_semantics.specs.Form as written_form
use Rattle.peg_tree.specs.Trees.{NoTrees}
use Rattle.peg_semantics.specs.Record.{Record, matched_at, failed_at, after_both, prepend_trees, then_at, or_else, star_result, as_call, literal_at, byte_at, recognize_seq, recognize_choice, recognize_repeat, table, record_in, IsRecord}
use Rattle.peg_semantics.specs.Rules.{Meaning, meaning_of}
use Rattle.peg_semantics.specs.Rules as grammar
use Rattle.peg_semantics.proofs.RecordLemmas.{Extends-recognize_seq, Extends-recognize_choice, Extends-recognize_repeat, Extends-then_at, record_in-more}
use Rattle.peg_core.specs.CoreForm.{CoreForm, Empty, Test, Rule, Seq, Choice, Star, Not, in_order, all_in_order, one_of, tests_of, unfolded, is_all_empty, left_out, count_form, number_of, core_form, core_forms, core_bodies}
use Rattle.peg_core.specs.CoreRecord.{AreBytes, core_table, core_record_in, IsCoreRecord}
use Rattle.peg_core.proofs.CoreRounds.{core_record_in-more, one_core_record}
use Rattle.peg_core.proofs.EmptyParts.{first-all_empty, rest-all_empty, left_out-same}
use Rattle.peg_core.proofs.Meanings.{number_of-meaning_of, body-meaning_of, body-unmeant}
use Rattle.peg_core.proofs.ReachedInSome.{Grows, IsReached, IsReached-some, IsReached-shift, IsReached-unshift, IsReached-same, IsReached-from, IsReached-none, IsReached-map, IsReached-then_at, IsReached-rounds, IsReached-or_else, then_at-nothing, after_both-nothing, rounds-times, unless, provided, unless-unless}
use Rattle.peg_core.proofs.Sets.{has-only, has-all_bytes}

same_test : (a b : ℕ) → (a == b) ≡ (b == a)
same_test a b = elim (eqb_tells a b) [ inl same ↦ same.0 ∙ sym (elim (eqb_tells b a) as (λ _. (b == a) ≡ true) [ inl also ↦ also.0 | inr not ↦ absurd (not.1 (sym same.1)) ]) | inr differs ↦ differs.0 ∙ sym (ne_eqb b a (λ same. differs.1 (sym same))) ]

-- ---- parts that are built of empty expressions alone

-- each record matches the empty string, without tests and calls
abbrev MatchNothing : (ℕ → Option Record) → Type 0
MatchNothing take = (at : ℕ) (r : Record) → take at ≡ Some r → r ≡ matched_at at

-- nothing, and what comes next
after-nothing_of : (position : ℕ) (o : Option Record)
    → option_map (λ (more : Record). after_both (matched_at position) more (prepend_trees NoTrees more.result)) o ≡ o
after-nothing_of position None = refl
after-nothing_of position (Some p) = ap Some (after_both-nothing position p)

after-nothing : (position : ℕ) (next : ℕ → Option Record) → then_at (Some (matched_at position)) next ≡ next position
after-nothing position next = after-nothing_of position (next position)

-- such a part, and again the part, is the part once
then_at-again_of : (take : ℕ → Option Record) → MatchNothing take → (position : ℕ) (next : ℕ → Option Record)
    (o : Option Record) → take position ≡ o
    → then_at o (λ end. then_at (take end) next) ≡ then_at o next
then_at-again_of take empty position next None is = refl
then_at-again_of take empty position next (Some r) is =
    let here : r ≡ matched_at position = empty position r is in
    let now : take position ≡ Some (matched_at position) = is ∙ ap Some here in
    subst (λ r. then_at (Some r) (λ end. then_at (take end) next) ≡ then_at (Some r) next) (sym here)
    (after-nothing position (λ end. then_at (take end) next)
    ∙ ap (λ o. then_at o next) now)

then_at-again : (take : ℕ → Option Record) → MatchNothing take → (position : ℕ) (next : ℕ → Option Record)
    → then_at (take position) (λ end. then_at (take end) next) ≡ then_at (take position) next
then_at-again take empty position next = then_at-again_of take empty position next (take position) refl

-- the records of a count without the iterations that are left out
recognize_repeat-left_out : (part : CoreForm) (take : ℕ → Option Record) → (is_all_empty part ≡ true → MatchNothing take)
    → (min max position : ℕ)
    → recognize_repeat take min (suc max) position
    ≡ recognize_repeat take (min - left_out part min) (suc (max - left_out part min)) position
recognize_repeat-left_out part take empty min max position =
    left_out-same (λ min max. recognize_repeat take min max position) part (λ is min. refl)
    (λ is min max. then_at-again take (empty is) position (λ end. recognize_repeat take min max end)) min max

module _ (rules : List grammar.Rule) (text : List ℕ) where
  abbrev bodies : List CoreForm
  bodies = core_bodies rules

  -- the records of a core form at a position, and of a written expression, by n
  abbrev core : CoreForm → (position n : ℕ) → Option Record
  core form position n = core_record_in bodies text n form position

  abbrev written : Form → (terminal position n : ℕ) → Option Record
  written e terminal position n = record_in rules text n e terminal position

  core-grows : (form : CoreForm) (position : ℕ) → Grows (core form position)
  core-grows form position n = core_record_in-more bodies text n form position

  written-grows : (e : Form) (terminal position : ℕ) → Grows (written e terminal position)
  written-grows e terminal position n = record_in-more rules text n e terminal position

  -- the tests of a byte
  abbrev tested : Bytes → (terminal position : ℕ) → Record
  tested set terminal position = byte_at (has set) terminal position (drop position text)

  -- one iteration of a star, and then the next ones
  abbrev rounds : Option Record → ℕ → (ℕ → Option Record) → Option Record
  rounds tried position next = option_and_then (λ (round : Record). star_result round.result position round next) tried

  -- ---- the records of core forms, from those of their parts

  core-Empty : (position : ℕ) → IsReached (Some (matched_at position)) (core Empty position)
  unfolding core_record_in
  core-Empty position = IsReached-shift (Some (matched_at position)) (core Empty position) (IsReached-some (matched_at position))

  core-Test : (set : Bytes) (terminal position : ℕ) → IsReached (Some (tested set terminal position)) (core (Test set terminal) position)
  unfolding core_record_in
  core-Test set terminal position =
      IsReached-shift (Some (tested set terminal position)) (core (Test set terminal) position)
      (IsReached-some (tested set terminal position))

  core-Rule : (rule : ℕ) (body : CoreForm) (o : Option Record) (position : ℕ) → slice_get bodies rule ≡ Some body
      → IsReached o (core body position) → IsReached (option_map (as_call rule position) o) (core (Rule rule) position)
  unfolding core_record_in
  core-Rule rule body o position is h =
      IsReached-shift (option_map (as_call rule position) o) (core (Rule rule) position)
      (IsReached-same (option_map (as_call rule position) o)
      (λ n. option_map (as_call rule position) (core body position n))
      (λ n. option_and_then (λ (body : CoreForm). option_map (as_call rule position) (core body position n)) (slice_get bodies rule))
      (λ n. sym (ap (option_and_then (λ (body : CoreForm). option_map (as_call rule position) (core body position n))) is))
      (IsReached-map (as_call rule position) o (core body position) h))

  core-Seq : (a b : CoreForm) (o : Option Record) (next : ℕ → Option Record) (position : ℕ) → IsReached o (core a position)
      → ((end : ℕ) → IsReached (next end) (core b end)) → IsReached (then_at o next) (core (Seq a b) position)
  unfolding core_record_in
  core-Seq a b o next position h k =
      IsReached-shift (then_at o next) (core (Seq a b) position)
      (IsReached-then_at o next (core a position) (λ n end. core b end n) (core-grows a position) (λ end. core-grows b end) h k)

  core-Choice : (a b : CoreForm) (o other : Option Record) (position : ℕ) → IsReached o (core a position)
      → IsReached other (core b position) → IsReached (or_else o other) (core (Choice a b) position)
  unfolding core_record_in
  core-Choice a b o other position h k =
      IsReached-shift (or_else o other) (core (Choice a b) position)
      (IsReached-or_else o other (core a position) (core b position) (core-grows a position) (core-grows b position) h k)

  core-Star : (a : CoreForm) (origin : Extent) (o : Option Record) (next : ℕ → Option Record) (position : ℕ)
      → IsReached o (core a position) → ((end : ℕ) → IsReached (next end) (core (Star a origin) end))
      → IsReached (rounds o position next) (core (Star a origin) position)
  unfolding core_record_in
  core-Star a origin o next position h k =
      IsReached-shift (rounds o position next) (core (Star a origin) position)
      (IsReached-rounds o position next (core a position) (λ n end. core (Star a origin) end n) (core-grows a position)
      (λ end. core-grows (Star a origin) end) h k)

  core-Not : (a : CoreForm) (o : Option Record) (position : ℕ) → IsReached o (core a position)
      → IsReached (option_map (unless position) o) (core (Not a) position)
  unfolding core_record_in
  core-Not a o position h =
      IsReached-shift (option_map (unless position) o) (core (Not a) position) (IsReached-map (unless position) o (core a position) h)

  core-And : (a : CoreForm) (o : Option Record) (position : ℕ) → IsReached o (core a position)
      → IsReached (option_map (provided position) o) (core (Not (Not a)) position)
  core-And a o position h =
      IsReached-from (option_map (provided position) o) (option_map (unless position) (option_map (unless position) o))
      (core (Not (Not a)) position) (sym (unless-unless position o))
      (core-Not (Not a) (option_map (unless position) o) position (core-Not a o position h))

  -- a count, iteration by iteration
  core-unfolded : (part : CoreForm) (take : ℕ → Option Record) → ((at : ℕ) → IsReached (take at) (core part at))
      → (min max position : ℕ) → IsReached (recognize_repeat take min max position) (core (unfolded part min max) position)
  core-unfolded part take h min zero position = core-Empty position
  core-unfolded part take h zero (suc max) position =
      let inner = unfolded part zero max in
      let next = λ (end : ℕ). recognize_repeat take zero max end in
      IsReached-from (rounds (take position) position next) (or_else (then_at (take position) next) (Some (matched_at position)))
      (core (Choice (Seq part inner) Empty) position) (rounds-times take max position (take position))
      (core-Choice (Seq part inner) Empty (then_at (take position) next) (Some (matched_at position)) position
      (core-Seq part inner (take position) next position (h position) (λ end. core-unfolded part take h zero max end))
      (core-Empty position))
  core-unfolded part take h (suc min) (suc max) position =
      core-Seq part (unfolded part min max) (take position) (λ end. recognize_repeat take min max end) position (h position)
      (λ end. core-unfolded part take h min max end)

  -- a form of empty expressions alone matches the empty string
  core-all_empty : (form : CoreForm) → is_all_empty form ≡ true → (position : ℕ)
      → IsReached (Some (matched_at position)) (core form position)
  core-all_empty Empty empty position = core-Empty position
  core-all_empty (Test set terminal) empty position = cc
  core-all_empty (Rule rule) empty position = cc
  core-all_empty (Seq first rest) empty position =
      let next : ℕ → Option Record = λ end. Some (matched_at end) in
      IsReached-from (Some (matched_at position)) (then_at (Some (matched_at position)) next) (core (Seq first rest) position)
      (sym (then_at-nothing (Some (matched_at position))))
      (core-Seq first rest (Some (matched_at position)) next position
      (core-all_empty first (first-all_empty first rest empty) position)
      (λ end. core-all_empty rest (rest-all_empty first rest empty) end))
  core-all_empty (Choice first rest) empty position = cc
  core-all_empty (Star part origin) empty position = cc
  core-all_empty (Not part) empty position = cc

  reached-nothing : (part : CoreForm) (take : ℕ → Option Record) → ((at : ℕ) → IsReached (take at) (core part at))
      → is_all_empty part ≡ true → MatchNothing take
  reached-nothing part take h empty at r is =
      one_core_record bodies text part at r (matched_at at) (h at r is) (core-all_empty part empty at (matched_at at) refl)

  core-count : (part : CoreForm) (take : ℕ → Option Record) → ((at : ℕ) → IsReached (take at) (core part at))
      → (min max position : ℕ) → IsReached (recognize_repeat take min max position) (core (count_form part min max) position)
  core-count part take h min zero position =
      core-Choice Empty part (Some (matched_at position)) (take position) position (core-Empty position) (h position)
  core-count part take h min (suc max) position =
      let least = min - left_out part min in
      let most = suc (max - left_out part min) in
      IsReached-from (recognize_repeat take min (suc max) position) (recognize_repeat take least most position)
      (core (unfolded part least most) position)
      (recognize_repeat-left_out part take (reached-nothing part take h) min max position)
      (core-unfolded part take h least most position)

  -- ---- literals

  -- a literal is its first byte and then the others
  literal-step : (terminal position b : ℕ) (bs : List ℕ)
      → Some (literal_at terminal position (b ∷ bs) (drop position text))
      ≡ then_at (Some (tested (only b) terminal position)) (λ end. Some (literal_at terminal end bs (drop end text)))
  literal-step terminal position b bs = by (drop position text) refl
    where
      next : ℕ → Option Record
      next end = Some (literal_at terminal end bs (drop end text))

      chosen : (rest : List ℕ) (c : ℕ) → drop position text ≡ c ∷ rest → (same : Bool)
          → Some (if same then literal_at terminal (position + 1) bs rest else failed_at terminal position)
          ≡ then_at (Some (if same then matched_at (position + 1) else failed_at terminal position)) next
      chosen rest c is true =
          let left : drop (position + 1) text ≡ rest = sym (drop-drop 1 position text) ∙ ap (drop 1) is in
          sym
          (ap Some (after_both-nothing (position + 1) (literal_at terminal (position + 1) bs (drop (position + 1) text)))
          ∙ ap (λ l. Some (literal_at terminal (position + 1) bs l)) left)
      chosen rest c is false = refl

      by : (left : List ℕ) → drop position text ≡ left
          → Some (literal_at terminal position (b ∷ bs) left)
          ≡ then_at (Some (byte_at (has (only b)) terminal position left)) next
      by [] is = refl
      by (c ∷ rest) is =
          chosen rest c is (b == c)
          ∙ ap (λ same. then_at (Some (if same then matched_at (position + 1) else failed_at terminal position)) next)
          (sym (has-only b c ∙ same_test c b))

  to_tests : (b : ℕ) (bs : List ℕ) (terminal position : ℕ)
      → IsReached (Some (literal_at terminal position (b ∷ bs) (drop position text)))
      (core (in_order (Test (only b) terminal) (tests_of terminal bs)) position)
  to_tests b [] terminal position =
      IsReached-from (Some (literal_at terminal position (b ∷ []) (drop position text))) (Some (tested (only b) terminal position))
      (core (Test (only b) terminal) position)
      (literal-step terminal position b [] ∙ then_at-nothing (Some (tested (only b) terminal position)))
      (core-Test (only b) terminal position)
  to_tests b (c ∷ bs) terminal position =
      let next : ℕ → Option Record = λ end. Some (literal_at terminal end (c ∷ bs) (drop end text)) in
      IsReached-from (Some (literal_at terminal position (b ∷ c ∷ bs) (drop position text)))
      (then_at (Some (tested (only b) terminal position)) next)
      (core (in_order (Test (only b) terminal) (tests_of terminal (c ∷ bs))) position)
      (literal-step terminal position b (c ∷ bs))
      (core-Seq (Test (only b) terminal) (in_order (Test (only c) terminal) (tests_of terminal bs))
      (Some (tested (only b) terminal position)) next position (core-Test (only b) terminal position)
      (λ end. to_tests c bs terminal end))

  to_literal : (bs : List ℕ) (terminal position : ℕ)
      → IsReached (Some (literal_at terminal position bs (drop position text))) (core (all_in_order (tests_of terminal bs)) position)
  to_literal [] terminal position = core-Empty position
  to_literal (b ∷ bs) terminal position = to_tests b bs terminal position

  -- ---- from a written expression to its core form

  -- the induction hypothesis for the records in n
  abbrev ToCore : ℕ → Type 0
  ToCore n = (e : Form) (terminal position : ℕ)
      → IsReached (record_in rules text n e terminal position) (core (core_form rules terminal e) position)

  module _ (n : ℕ) (h : ToCore n) where
    to_items : (items : Forms) (terminal position : ℕ)
        → IsReached (recognize_seq (record_in rules text n) items terminal position)
        (core (all_in_order (core_forms rules terminal items)) position)
    to_items End terminal position = core-Empty position
    to_items (Then e End) terminal position =
        IsReached-from (recognize_seq (record_in rules text n) (Then e End) terminal position)
        (record_in rules text n e terminal position) (core (core_form rules terminal e) position)
        (then_at-nothing (record_in rules text n e terminal position)) (h e terminal position)
    to_items (Then e (Then f rest)) terminal position =
        core-Seq (core_form rules terminal e) (all_in_order (core_forms rules (terminal + terminals e) (Then f rest)))
        (record_in rules text n e terminal position)
        (λ end. recognize_seq (record_in rules text n) (Then f rest) (terminal + terminals e) end) position
        (h e terminal position) (λ end. to_items (Then f rest) (terminal + terminals e) end)

    to_first : (e : Form) (rest : Forms) (terminal position : ℕ)
        → IsReached (recognize_choice (record_in rules text n) e rest terminal position)
        (core (one_of (core_form rules terminal e) (core_forms rules (terminal + terminals e) rest)) position)
    to_first e End terminal position = h e terminal position
    to_first e (Then next rest) terminal position =
        core-Choice (core_form rules terminal e)
        (one_of (core_form rules (terminal + terminals e) next) (core_forms rules (terminal + terminals e + terminals next) rest))
        (record_in rules text n e terminal position)
        (recognize_choice (record_in rules text n) next rest (terminal + terminals e) position) position
        (h e terminal position) (to_first next rest (terminal + terminals e) position)

    to_meaning : (name : List ℕ) (position : ℕ) (meaning : Option Meaning) → meaning_of rules name ≡ meaning
        → IsReached
        (option_and_then (λ (m : Meaning). option_map (as_call m.rule position) (record_in rules text n m.body m.terminal position)) meaning)
        (core (Rule (number_of rules name)) position)
    to_meaning name position None is = IsReached-none (core (Rule (number_of rules name)) position)
    to_meaning name position (Some m) is =
        let tried = record_in rules text n m.body m.terminal position in
        IsReached-from (option_map (as_call m.rule position) tried) (option_map (as_call (number_of rules name) position) tried)
        (core (Rule (number_of rules name)) position)
        (ap (λ rule. option_map (as_call rule position) tried) (sym (number_of-meaning_of rules name m is)))
        (core-Rule (number_of rules name) (core_form rules m.terminal m.body) tried position (body-meaning_of rules name m is)
        (h m.body m.terminal position))

  -- each byte of the text is in the set of all bytes
  any_byte : AreBytes text → (terminal position : ℕ)
      → byte_at (λ byte. true) terminal position (drop position text) ≡ tested all_bytes terminal position
  any_byte bytes terminal position = by (drop position text) refl
    where
      by : (left : List ℕ) → drop position text ≡ left
          → byte_at (λ byte. true) terminal position left ≡ byte_at (has all_bytes) terminal position left
      by [] is = refl
      by (c ∷ rest) is =
          let Byte : ℕ → Type 0 = λ byte. byte < 256 in
          let left : All Byte (c ∷ rest) = subst (All Byte) is (All-drop Byte position text bytes) in
          let within : c < 256 = All-head Byte c rest left in
          ap (λ passes. if passes then matched_at (position + 1) else failed_at terminal position) (sym (has-all_bytes c within))

  to_core-table : AreBytes text → (n : ℕ) → ToCore n → (e : Form) (terminal position : ℕ)
      → IsReached (table rules text (record_in rules text n) e terminal position) (core (core_form rules terminal e) position)
  to_core-table bytes n h (Literal bs span) terminal position = to_literal bs terminal position
  to_core-table bytes n h (Class set span) terminal position = core-Test set terminal position
  to_core-table bytes n h (Any span) terminal position =
      IsReached-from (Some (byte_at (λ byte. true) terminal position (drop position text)))
      (Some (tested all_bytes terminal position)) (core (Test all_bytes terminal) position)
      (ap Some (any_byte bytes terminal position)) (core-Test all_bytes terminal position)
  to_core-table bytes n h (Name name span) terminal position = to_meaning n h name position (meaning_of rules name) refl
  to_core-table bytes n h (written_form.Seq items span) terminal position = to_items n h items terminal position
  to_core-table bytes n h (written_form.Choice first rest span) terminal position = to_first n h first rest terminal position
  to_core-table bytes n h (Optional part span) terminal position =
      core-Choice (core_form rules terminal part) Empty (record_in rules text n part terminal position)
      (Some (matched_at position)) position (h part terminal position) (core-Empty position)
  to_core-table bytes n h (written_form.Star part span) terminal position =
      core-Star (core_form rules terminal part) span (record_in rules text n part terminal position)
      (λ end. record_in rules text n (written_form.Star part span) terminal end) position
      (h part terminal position) (λ end. h (written_form.Star part span) terminal end)
  to_core-table bytes n h (Plus part span) terminal position =
      core-Seq (core_form rules terminal part) (Star (core_form rules terminal part) span)
      (record_in rules text n part terminal position)
      (λ end. record_in rules text n (written_form.Star part span) terminal end) position
      (h part terminal position) (λ end. h (written_form.Star part span) terminal end)
  to_core-table bytes n h (Counted part min max span) terminal position =
      core-count (core_form rules terminal part) (λ at. record_in rules text n part terminal at)
      (λ at. h part terminal at) min max position
  to_core-table bytes n h (And part span) terminal position =
      core-And (core_form rules terminal part) (record_in rules text n part terminal position) position (h part terminal position)
  to_core-table bytes n h (written_form.Not part span) terminal position =
      core-Not (core_form rules terminal part) (record_in rules text n part terminal position) position (h part terminal position)

  to_core : AreBytes text → (n : ℕ) → ToCore n
  unfolding record_in
  to_core bytes zero = λ e terminal position. IsReached-none (core (core_form rules terminal e) position)
  to_core bytes (suc n) = λ e terminal position. to_core-table bytes n (to_core bytes n) e terminal position

  -- ---- from a core form to the written expression

  abbrev FromCore : ℕ → Type 0
  FromCore n = (e : Form) (terminal position : ℕ)
      → IsReached (core (core_form rules terminal e) position n) (written e terminal position)

  -- the table over the records in n
  abbrev tabled : ℕ → CoreForm → (position : ℕ) → Option Record
  tabled n form position = core_table bodies text (core_record_in bodies text n) form position

  -- items and alternatives of written expressions, by n
  abbrev items_in : Forms → (terminal position n : ℕ) → Option Record
  items_in items terminal position n = recognize_seq (record_in rules text n) items terminal position

  abbrev first_in : Form → Forms → (terminal position n : ℕ) → Option Record
  first_in e rest terminal position n = recognize_choice (record_in rules text n) e rest terminal position

  items-grow : (items : Forms) (terminal position : ℕ) → Grows (items_in items terminal position)
  items-grow items terminal position n =
      Extends-recognize_seq (record_in rules text n) (record_in rules text (suc n)) (record_in-more rules text n)
      items terminal position

  first-grows : (e : Form) (rest : Forms) (terminal position : ℕ) → Grows (first_in e rest terminal position)
  first-grows e rest terminal position n =
      Extends-recognize_choice (record_in rules text n) (record_in rules text (suc n)) (record_in-more rules text n)
      e rest terminal position

  -- the empty form as a part
  from_empty : (n position : ℕ) → IsReached (core Empty position n) (λ m. Some (matched_at position))
  unfolding core_record_in
  from_empty zero position = IsReached-none (λ m. Some (matched_at position))
  from_empty (suc n) position = IsReached-some (matched_at position)

  -- a part with a number of repetitions, by n
  abbrev times_in : (f : ℕ → ℕ → Option Record) → (min max position n : ℕ) → Option Record
  times_in f min max position n = recognize_repeat (λ at. f at n) min max position

  times-grow : (f : ℕ → ℕ → Option Record) → ((at : ℕ) → Grows (f at)) → (min max position : ℕ)
      → Grows (times_in f min max position)
  times-grow f grows min max position n =
      Extends-recognize_repeat (λ at. f at n) (λ at. f at (suc n)) (λ at. grows at n) min max position

  -- a result that is reached from the records of a form in one n, reached from those in fewer
  abbrev AllReached : CoreForm → (n : ℕ) → (f : ℕ → ℕ → Option Record) → Type 0
  AllReached part n f = (at : ℕ) → IsReached (core part at n) (f at)

  sooner : (part : CoreForm) (n : ℕ) (f : ℕ → ℕ → Option Record) → AllReached part (suc n) f → AllReached part n f
  sooner part n f h = λ at r is. h at r (core-grows part at n r is)

  -- a count, iteration by iteration, in any n
  from_unfolded : (part : CoreForm) (f : ℕ → ℕ → Option Record) → ((at : ℕ) → Grows (f at)) → (min max n : ℕ)
      → AllReached part n f → (position : ℕ) → IsReached (core (unfolded part min max) position n) (times_in f min max position)
  unfolding core_record_in
  from_unfolded part f grows min zero n h position = from_empty n position
  from_unfolded part f grows zero (suc max) zero h position = IsReached-none (times_in f zero (suc max) position)
  from_unfolded part f grows zero (suc max) (suc zero) h position = IsReached-none (times_in f zero (suc max) position)
  from_unfolded part f grows zero (suc max) (suc (suc n)) h position =
      let k = sooner part n f (sooner part (suc n) f h) in
      let tried = core part position n in
      let next = λ (end : ℕ). core (unfolded part zero max) end n in
      let round = λ (m : ℕ). then_at (f position m) (λ end. times_in f zero max end m) in
      IsReached-same (or_else (then_at tried next) (Some (matched_at position)))
      (λ m. or_else (round m) (Some (matched_at position))) (times_in f zero (suc max) position)
      (λ m. sym (rounds-times (λ at. f at m) max position (f position m)))
      (IsReached-or_else (then_at tried next) (Some (matched_at position)) round (λ m. Some (matched_at position))
      (λ m. Extends-then_at (f position m) (f position (suc m)) (λ end. times_in f zero max end m)
      (λ end. times_in f zero max end (suc m)) (grows position m) (λ end. times-grow f grows zero max end m))
      (λ m r is. is)
      (IsReached-then_at tried next (f position) (λ m end. times_in f zero max end m) (grows position)
      (λ end. times-grow f grows zero max end) (k position) (λ end. from_unfolded part f grows zero max n k end))
      (IsReached-some (matched_at position)))
  from_unfolded part f grows (suc min) (suc max) zero h position = IsReached-none (times_in f (suc min) (suc max) position)
  from_unfolded part f grows (suc min) (suc max) (suc n) h position =
      let k = sooner part n f h in
      IsReached-then_at (core part position n) (λ end. core (unfolded part min max) end n) (f position)
      (λ m end. times_in f min max end m) (grows position) (λ end. times-grow f grows min max end) (k position)
      (λ end. from_unfolded part f grows min max n k end)

  from_count : (part : CoreForm) (f : ℕ → ℕ → Option Record) → ((at : ℕ) → Grows (f at))
      → (is_all_empty part ≡ true → (m : ℕ) → MatchNothing (λ at. f at m)) → (min max n : ℕ)
      → ((at : ℕ) → IsReached (tabled n part at) (f at)) → (position : ℕ)
      → IsReached (tabled n (count_form part min max) position) (times_in f min max position)
  unfolding core_record_in
  from_count part f grows empty min zero zero h position = IsReached-none (λ m. Some (matched_at position))
  from_count part f grows empty min zero (suc n) h position = IsReached-some (matched_at position)
  from_count part f grows empty min (suc max) n h position =
      let least = min - left_out part min in
      let most = suc (max - left_out part min) in
      IsReached-same (tabled n (unfolded part least most) position) (times_in f least most position)
      (times_in f min (suc max) position)
      (λ m. sym (recognize_repeat-left_out part (λ at. f at m) (λ is. empty is m) min max position))
      (from_unfolded part f grows least most (suc n) h position)

  module _ (n : ℕ) (h : FromCore n) where
    -- the rest of a sequence, and of a choice
    from_rest : (items : Forms) (span : Extent) (terminal position : ℕ)
        → IsReached (core (all_in_order (core_forms rules terminal items)) position n) (items_in items terminal position)
    unfolding record_in
    from_rest items span terminal position =
        IsReached-unshift (core (all_in_order (core_forms rules terminal items)) position n)
        (written (written_form.Seq items span) terminal position) refl (h (written_form.Seq items span) terminal position)

    from_others : (e : Form) (rest : Forms) (span : Extent) (terminal position : ℕ)
        → IsReached (core (one_of (core_form rules terminal e) (core_forms rules (terminal + terminals e) rest)) position n)
        (first_in e rest terminal position)
    unfolding record_in
    from_others e rest span terminal position =
        IsReached-unshift
        (core (one_of (core_form rules terminal e) (core_forms rules (terminal + terminals e) rest)) position n)
        (written (written_form.Choice e rest span) terminal position) refl
        (h (written_form.Choice e rest span) terminal position)

    -- two and more alternatives
    from_first : (e next : Form) (rest : Forms) (span : Extent) (terminal position : ℕ)
        → IsReached (tabled n (core_form rules terminal (written_form.Choice e (Then next rest) span)) position)
        (first_in e (Then next rest) terminal position)
    from_first e next rest span terminal position =
        let later = terminal + terminals e in
        let tried = core (core_form rules terminal e) position n in
        let other = core (one_of (core_form rules later next) (core_forms rules (later + terminals next) rest)) position n in
        IsReached-or_else tried other (written e terminal position) (first_in next rest later position)
        (written-grows e terminal position) (first-grows next rest later position) (h e terminal position)
        (from_others next rest span later position)

    from_meaning : (name : List ℕ) (span : Extent) (terminal position : ℕ) (meaning : Option Meaning)
        → meaning_of rules name ≡ meaning
        → IsReached (tabled n (Rule (number_of rules name)) position) (written (Name name span) terminal position)
    unfolding record_in
    from_meaning name span terminal position None is =
        let rule = number_of rules name in
        IsReached-from (tabled n (Rule rule) position) None (written (Name name span) terminal position)
        (ap (option_and_then (λ (body : CoreForm). option_map (as_call rule position) (core body position n))) (body-unmeant rules name is))
        (IsReached-none (written (Name name span) terminal position))
    from_meaning name span terminal position (Some m) is =
        let rule = number_of rules name in
        let tried = core (core_form rules m.terminal m.body) position n in
        IsReached-from (tabled n (Rule rule) position) (option_map (as_call rule position) tried) (written (Name name span) terminal position)
        (ap (option_and_then (λ (body : CoreForm). option_map (as_call rule position) (core body position n))) (body-meaning_of rules name m is))
        (IsReached-shift (option_map (as_call rule position) tried) (written (Name name span) terminal position)
        (IsReached-same (option_map (as_call rule position) tried)
        (λ k. option_map (as_call rule position) (written m.body m.terminal position k))
        (λ k. written (Name name span) terminal position (suc k))
        (λ k. ap (λ r. option_map (as_call r position) (written m.body m.terminal position k)) (number_of-meaning_of rules name m is)
        ∙ sym (ap (option_and_then (λ (m : Meaning). option_map (as_call m.rule position) (written m.body m.terminal position k))) is))
        (IsReached-map (as_call rule position) tried (written m.body m.terminal position) (h m.body m.terminal position))))

    -- a literal has one record only
    from_literal : (bs : List ℕ) (span : Extent) (terminal position : ℕ)
        → IsReached (tabled n (all_in_order (tests_of terminal bs)) position) (written (Literal bs span) terminal position)
    unfolding record_in core_record_in
    from_literal bs span terminal position r e =
        let r' : Record = literal_at terminal position bs (drop position text) in
        let form = all_in_order (tests_of terminal bs) in
        let there : IsCoreRecord bodies text form position r' = to_literal bs terminal position r' refl in
        let same : r' ≡ r = one_core_record bodies text form position r' r there (suc n, e) in
        (1, ap Some same)

    mutual
      unfolding record_in

      from_core-table : AreBytes text → (e : Form) (terminal position : ℕ)
          → IsReached (tabled n (core_form rules terminal e) position) (written e terminal position)
      from_core-table bytes (Literal bs span) terminal position = from_literal bs span terminal position
      from_core-table bytes (Class set span) terminal position =
          IsReached-shift (Some (tested set terminal position)) (written (Class set span) terminal position)
          (IsReached-some (tested set terminal position))
      from_core-table bytes (Any span) terminal position =
          IsReached-shift (Some (tested all_bytes terminal position)) (written (Any span) terminal position)
          (IsReached-same (Some (tested all_bytes terminal position)) (λ k. Some (tested all_bytes terminal position))
          (λ k. written (Any span) terminal position (suc k)) (λ k. ap Some (sym (any_byte bytes terminal position)))
          (IsReached-some (tested all_bytes terminal position)))
      from_core-table bytes (Name name span) terminal position = from_meaning name span terminal position (meaning_of rules name) refl
      from_core-table bytes (written_form.Seq items span) terminal position =
          IsReached-shift (tabled n (all_in_order (core_forms rules terminal items)) position)
          (written (written_form.Seq items span) terminal position) (from_items bytes items span terminal position)
      from_core-table bytes (written_form.Choice first End span) terminal position =
          IsReached-shift (tabled n (core_form rules terminal first) position)
          (written (written_form.Choice first End span) terminal position) (from_core-table bytes first terminal position)
      from_core-table bytes (written_form.Choice first (Then next rest) span) terminal position =
          IsReached-shift (tabled n (core_form rules terminal (written_form.Choice first (Then next rest) span)) position)
          (written (written_form.Choice first (Then next rest) span) terminal position)
          (from_first first next rest span terminal position)
      from_core-table bytes (Optional part span) terminal position =
          let tried = core (core_form rules terminal part) position n in
          IsReached-shift (or_else tried (core Empty position n)) (written (Optional part span) terminal position)
          (IsReached-or_else tried (core Empty position n) (written part terminal position) (λ m. Some (matched_at position))
          (written-grows part terminal position) (λ m r e. e) (h part terminal position) (from_empty n position))
      from_core-table bytes (written_form.Star part span) terminal position =
          let star : Form = written_form.Star part span in
          let tried = core (core_form rules terminal part) position n in
          let next : ℕ → Option Record = λ end. core (core_form rules terminal star) end n in
          IsReached-shift (rounds tried position next) (written star terminal position)
          (IsReached-rounds tried position next (written part terminal position) (λ m end. written star terminal end m)
          (written-grows part terminal position) (λ end. written-grows star terminal end) (h part terminal position)
          (λ end. h star terminal end))
      from_core-table bytes (Plus part span) terminal position =
          let star : Form = written_form.Star part span in
          let tried = core (core_form rules terminal part) position n in
          let next : ℕ → Option Record = λ end. core (core_form rules terminal star) end n in
          IsReached-shift (then_at tried next) (written (Plus part span) terminal position)
          (IsReached-then_at tried next (written part terminal position) (λ m end. written star terminal end m)
          (written-grows part terminal position) (λ end. written-grows star terminal end) (h part terminal position)
          (λ end. h star terminal end))
      from_core-table bytes (Counted part min max span) terminal position =
          let form = core_form rules terminal part in
          IsReached-shift (tabled n (count_form form min max) position) (written (Counted part min max span) terminal position)
          (from_count form (λ at. written part terminal at) (λ at. written-grows part terminal at)
          (λ empty m. reached-nothing form (λ at. written part terminal at m) (λ at. to_core bytes m part terminal at) empty) min max n
          (λ at. from_core-table bytes part terminal at) position)
      from_core-table bytes (And part span) terminal position =
          let not : Form = written_form.Not part span in
          let tried = core (core_form rules terminal not) position n in
          let parts = written part terminal position in
          IsReached-shift (option_map (unless position) tried) (written (And part span) terminal position)
          (IsReached-same (option_map (unless position) tried)
          (λ m. option_map (unless position) (option_map (unless position) (parts m)))
          (λ m. option_map (provided position) (parts m)) (λ m. unless-unless position (parts m))
          (IsReached-map (unless position) tried (λ m. option_map (unless position) (parts m))
          (IsReached-unshift tried (written not terminal position) refl (h not terminal position))))
      from_core-table bytes (written_form.Not part span) terminal position =
          let tried = core (core_form rules terminal part) position n in
          IsReached-shift (option_map (unless position) tried) (written (written_form.Not part span) terminal position)
          (IsReached-map (unless position) tried (written part terminal position) (h part terminal position))

      from_items : AreBytes text → (items : Forms) (span : Extent) (terminal position : ℕ)
          → IsReached (tabled n (all_in_order (core_forms rules terminal items)) position) (items_in items terminal position)
      from_items bytes End span terminal position = IsReached-some (matched_at position)
      from_items bytes (Then e End) span terminal position =
          IsReached-same (tabled n (core_form rules terminal e) position) (written e terminal position)
          (items_in (Then e End) terminal position) (λ m. sym (then_at-nothing (written e terminal position m)))
          (from_core-table bytes e terminal position)
      from_items bytes (Then e (Then f rest)) span terminal position =
          let later = terminal + terminals e in
          let tried = core (core_form rules terminal e) position n in
          let next : ℕ → Option Record = λ end. core (all_in_order (core_forms rules later (Then f rest))) end n in
          IsReached-then_at tried next (written e terminal position) (λ m end. items_in (Then f rest) later end m)
          (written-grows e terminal position) (λ end. items-grow (Then f rest) later end) (h e terminal position)
          (λ end. from_rest (Then f rest) span later end)

  from_core : AreBytes text → (n : ℕ) → FromCore n
  unfolding core_record_in
  from_core bytes zero = λ e terminal position. IsReached-none (written e terminal position)
  from_core bytes (suc n) = λ e terminal position. from_core-table n (from_core bytes n) bytes e terminal position

-- the record of a written expression is the record of its core form
pub IsRecord-to_core : (rules : List grammar.Rule) (text : List ℕ) → AreBytes text → (e : Form) (terminal position : ℕ)
    (r : Record) → IsRecord rules text e terminal position r
    → IsCoreRecord (core_bodies rules) text (core_form rules terminal e) position r
IsRecord-to_core rules text bytes e terminal position r is = to_core rules text bytes is.0 e terminal position r is.1

-- and the other way
pub IsRecord-from_core : (rules : List grammar.Rule) (text : List ℕ) → AreBytes text → (e : Form) (terminal position : ℕ)
    (r : Record) → IsCoreRecord (core_bodies rules) text (core_form rules terminal e) position r
    → IsRecord rules text e terminal position r
IsRecord-from_core rules text bytes e terminal position r is = from_core rules text bytes is.0 e terminal position r is.1
