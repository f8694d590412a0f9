-- Ford's recognition relation on results alone (Ford 2004, section 3.3), without terminal numbers, failed tests, calls
-- and depth. Each case of an expression is a constructor.
use Rattle.std.proofs.Common.{◌≡◌, ℕ, zero, suc, ◌+◌, nat_eq, Bool, true, false}
use Rattle.std.proofs.Common.{List, [], ◌∷◌, ◌++◌, length, drop, Option, None, Some, option_map, option_and_then}
use Rattle.std.proofs.Common.{refl, sym, ◌∙◌, ap, subst}
use Rattle.std.specs.List.{starts_with}
use Rattle.peg_bytes.specs.ByteSet.{Bytes, has}
use Rattle.peg_bytes.specs.Extent.{Extent}
use Rattle.peg_tree.specs.Trees.{Trees, NoTrees, Tree, followed_by}
use Rattle.peg_semantics.specs.Form.{Form, Forms, Literal, Class, Any, Name, Seq, Choice, Optional, Star, Plus, Counted, And, Not}
use Rattle.peg_semantics.specs.Form.{End, Then, terminals}
use Rattle.peg_semantics.specs.Rules.{Rule, Meaning, meaning_of}
use Rattle.peg_semantics.specs.Record.{Recognition, Failed, Matched, Record, Recognizer, IsRecord, matched_at}
use Rattle.peg_semantics.specs.Record.{prepend_trees, if_matched, if_failed, with_result}
use Rattle.peg_semantics.specs.Record.{literal_at, byte_at, as_tree, as_call, recognize_seq, recognize_choice, recognize_repeat, table, record_in}
use Rattle.peg_semantics.proofs.RecordLemmas.{Extends-refl, Extends-recognize_seq, Extends-recognize_choice, Extends-recognize_repeat}
use Rattle.peg_semantics.proofs.RecordLemmas.{record_in-later}
use Rattle.peg_semantics.proofs.ResultSteps.{begins_with, passes_any, starts_with-front, starts_with-rest}
use Rattle.peg_semantics.proofs.ResultSteps.{literal_at-matched, literal_at-failed, byte_at-matched, byte_at-failed}
use Rattle.peg_semantics.proofs.ResultSteps.{Recorded, Grows, Both, both, Recorded-same, Recorded-result, Recorded-map}
use Rattle.peg_semantics.proofs.ResultSteps.{then_failed, then_matched, or_matched, or_failed, rounds_failed}
use Rattle.peg_semantics.proofs.ResultSteps.{rounds_matched, some_case, map_cases, then_cases, or_cases, rounds_cases}
use Rattle.peg_semantics.proofs.RecordLemmas as record_lemmas

-- ---- the relation

-- the predecessor of a number; 0 for 0
abbrev pub one_less : ℕ → ℕ
one_less zero = zero
one_less (suc n) = n

-- The results of an expression at a position. Also those of the items of a sequence, of the alternatives of a choice,
-- and of a part that is repeated between `min` and `max` times.
mutual
  pub data Derives (rules : List Rule) (text : List ℕ) : Form → (position : ℕ) → Recognition → Type 0 where
    literal_matched : {bytes : List ℕ} {span : Extent} {position end : ℕ}
        → starts_with nat_eq (drop position text) bytes ≡ true → end ≡ position + length bytes
        → Derives rules text (Literal bytes span) position (Matched end NoTrees)
    literal_failed : {bytes : List ℕ} {span : Extent} {position : ℕ}
        → starts_with nat_eq (drop position text) bytes ≡ false → Derives rules text (Literal bytes span) position Failed
    class_matched : {set : Bytes} {span : Extent} {position end : ℕ}
        → begins_with (has set) (drop position text) ≡ true → end ≡ position + 1
        → Derives rules text (Class set span) position (Matched end NoTrees)
    class_failed : {set : Bytes} {span : Extent} {position : ℕ}
        → begins_with (has set) (drop position text) ≡ false → Derives rules text (Class set span) position Failed
    any_matched : {span : Extent} {position end : ℕ}
        → begins_with passes_any (drop position text) ≡ true → end ≡ position + 1
        → Derives rules text (Any span) position (Matched end NoTrees)
    any_failed : {span : Extent} {position : ℕ}
        → begins_with passes_any (drop position text) ≡ false → Derives rules text (Any span) position Failed
    name_matched : {used : List ℕ} {span : Extent} {meaning : Meaning} {position end : ℕ} {trees tree : Trees}
        → meaning_of rules used ≡ Some meaning → Derives rules text meaning.body position (Matched end trees)
        → tree ≡ Tree meaning.rule position end trees NoTrees
        → Derives rules text (Name used span) position (Matched end tree)
    name_failed : {used : List ℕ} {span : Extent} {meaning : Meaning} {position : ℕ}
        → meaning_of rules used ≡ Some meaning → Derives rules text meaning.body position Failed
        → Derives rules text (Name used span) position Failed
    sequence : {items : Forms} {span : Extent} {position : ℕ} {result : Recognition}
        → DerivesItems rules text items position result → Derives rules text (Seq items span) position result
    choice : {first : Form} {rest : Forms} {span : Extent} {position : ℕ} {result : Recognition}
        → DerivesFirst rules text first rest position result → Derives rules text (Choice first rest span) position result
    optional_some : {part : Form} {span : Extent} {position end : ℕ} {trees : Trees}
        → Derives rules text part position (Matched end trees)
        → Derives rules text (Optional part span) position (Matched end trees)
    optional_none : {part : Form} {span : Extent} {position : ℕ}
        → Derives rules text part position Failed → Derives rules text (Optional part span) position (Matched position NoTrees)
    star_none : {part : Form} {span : Extent} {position : ℕ}
        → Derives rules text part position Failed → Derives rules text (Star part span) position (Matched position NoTrees)
    star_more : {part : Form} {span : Extent} {position middle end : ℕ} {first more trees : Trees}
        → Derives rules text part position (Matched middle first)
        → Derives rules text (Star part span) middle (Matched end more) → trees ≡ followed_by first more
        → Derives rules text (Star part span) position (Matched end trees)
    plus_failed : {part : Form} {span : Extent} {position : ℕ}
        → Derives rules text part position Failed → Derives rules text (Plus part span) position Failed
    plus_matched : {part : Form} {span : Extent} {position middle end : ℕ} {first more trees : Trees}
        → Derives rules text part position (Matched middle first)
        → Derives rules text (Star part span) middle (Matched end more) → trees ≡ followed_by first more
        → Derives rules text (Plus part span) position (Matched end trees)
    counted : {part : Form} {min max : ℕ} {span : Extent} {position : ℕ} {result : Recognition}
        → DerivesTimes rules text part min max position result
        → Derives rules text (Counted part min max span) position result
    and_matched : {part : Form} {span : Extent} {position end : ℕ} {trees : Trees}
        → Derives rules text part position (Matched end trees)
        → Derives rules text (And part span) position (Matched position NoTrees)
    and_failed : {part : Form} {span : Extent} {position : ℕ}
        → Derives rules text part position Failed → Derives rules text (And part span) position Failed
    not_matched : {part : Form} {span : Extent} {position : ℕ}
        → Derives rules text part position Failed → Derives rules text (Not part span) position (Matched position NoTrees)
    not_failed : {part : Form} {span : Extent} {position end : ℕ} {trees : Trees}
        → Derives rules text part position (Matched end trees) → Derives rules text (Not part span) position Failed

  pub data DerivesItems (rules : List Rule) (text : List ℕ) : Forms → (position : ℕ) → Recognition → Type 0 where
    items_none : {position : ℕ} → DerivesItems rules text End position (Matched position NoTrees)
    items_failed : {item : Form} {rest : Forms} {position : ℕ}
        → Derives rules text item position Failed → DerivesItems rules text (Then item rest) position Failed
    items_then : {item : Form} {rest : Forms} {position middle : ℕ} {trees : Trees} {more result : Recognition}
        → Derives rules text item position (Matched middle trees) → DerivesItems rules text rest middle more
        → result ≡ prepend_trees trees more → DerivesItems rules text (Then item rest) position result

  pub data DerivesFirst (rules : List Rule) (text : List ℕ)
      : Form → Forms → (position : ℕ) → Recognition → Type 0 where
    alternative_last : {only : Form} {position : ℕ} {result : Recognition}
        → Derives rules text only position result → DerivesFirst rules text only End position result
    alternative_matched : {first next : Form} {rest : Forms} {position end : ℕ} {trees : Trees}
        → Derives rules text first position (Matched end trees)
        → DerivesFirst rules text first (Then next rest) position (Matched end trees)
    alternative_failed : {first next : Form} {rest : Forms} {position : ℕ} {result : Recognition}
        → Derives rules text first position Failed → DerivesFirst rules text next rest position result
        → DerivesFirst rules text first (Then next rest) position result

  pub data DerivesTimes (rules : List Rule) (text : List ℕ)
      : Form → (min max position : ℕ) → Recognition → Type 0 where
    times_none : {part : Form} {min position : ℕ} → DerivesTimes rules text part min zero position (Matched position NoTrees)
    times_stopped : {part : Form} {max position : ℕ}
        → Derives rules text part position Failed
        → DerivesTimes rules text part zero (suc max) position (Matched position NoTrees)
    times_failed : {part : Form} {min max position : ℕ}
        → Derives rules text part position Failed → DerivesTimes rules text part (suc min) (suc max) position Failed
    times_then : {part : Form} {min max position middle : ℕ} {trees : Trees} {more result : Recognition}
        → Derives rules text part position (Matched middle trees)
        → DerivesTimes rules text part (one_less min) max middle more → result ≡ prepend_trees trees more
        → DerivesTimes rules text part min (suc max) position result

-- a star never fails
pub star_never_fails : {rules : List Rule} {text : List ℕ} {part : Form} {span : Extent} {position : ℕ}
    → Derives rules text (Star part span) position Failed → ⊥
star_never_fails d = elim d [ ]

-- ---- literals, classes and dots, by the bytes at a position

module _ {rules : List Rule} {text : List ℕ} {span : Extent} {position : ℕ} where
  -- a literal whose bytes are at the position, and one whose bytes are not
  pub literal_here : {bytes : List ℕ} (rest : List ℕ) → drop position text ≡ bytes ++ rest
      → Derives rules text (Literal bytes span) position (Matched (position + length bytes) NoTrees)
  literal_here {bytes} rest is =
      literal_matched (ap (λ l. starts_with nat_eq l bytes) is ∙ starts_with-front bytes rest) refl

  pub literal_missing : {bytes : List ℕ} → ((rest : List ℕ) → drop position text ≡ bytes ++ rest → ⊥)
      → Derives rules text (Literal bytes span) position Failed
  literal_missing {bytes} missing = by (starts_with nat_eq (drop position text) bytes) refl
    where
      by : (b : Bool) → starts_with nat_eq (drop position text) bytes ≡ b
          → Derives rules text (Literal bytes span) position Failed
      by true is =
          absurd (missing (drop (length bytes) (drop position text)) (starts_with-rest bytes (drop position text) is))
      by false is = literal_failed is

  -- a class at a byte that it contains, at another byte, and at the end of the text
  pub class_here : {set : Bytes} {byte : ℕ} {rest : List ℕ} → drop position text ≡ byte ∷ rest → has set byte ≡ true
      → Derives rules text (Class set span) position (Matched (position + 1) NoTrees)
  class_here {set} is in_set = class_matched (ap (begins_with (has set)) is ∙ in_set) refl

  pub class_missing : {set : Bytes} {byte : ℕ} {rest : List ℕ} → drop position text ≡ byte ∷ rest → has set byte ≡ false
      → Derives rules text (Class set span) position Failed
  class_missing {set} is not_in_set = class_failed (ap (begins_with (has set)) is ∙ not_in_set)

  pub class_at_end : {set : Bytes} → drop position text ≡ [] → Derives rules text (Class set span) position Failed
  class_at_end {set} is = class_failed (ap (begins_with (has set)) is)

  -- a dot at a byte, and at the end of the text
  pub any_here : {byte : ℕ} {rest : List ℕ} → drop position text ≡ byte ∷ rest
      → Derives rules text (Any span) position (Matched (position + 1) NoTrees)
  any_here is = any_matched (ap (begins_with passes_any) is) refl

  pub any_at_end : drop position text ≡ [] → Derives rules text (Any span) position Failed
  any_at_end is = any_failed (ap (begins_with passes_any) is)

-- ---- records from derivations

module _ (rules : List Rule) (text : List ℕ) where
  -- the records of an expression, of items, of alternatives and of repetitions, by depth n
  abbrev pub records_of : Form → (terminal position n : ℕ) → Option Record
  records_of e terminal position n = record_in rules text n e terminal position

  abbrev pub records_of_items : Forms → (terminal position n : ℕ) → Option Record
  records_of_items items terminal position n = recognize_seq (record_in rules text n) items terminal position

  abbrev pub records_of_first : Form → Forms → (terminal position n : ℕ) → Option Record
  records_of_first first rest terminal position n = recognize_choice (record_in rules text n) first rest terminal position

  abbrev pub records_of_times : Form → (min max terminal position n : ℕ) → Option Record
  records_of_times part min max terminal position n =
      recognize_repeat (λ at. record_in rules text n part terminal at) min max position

  grows : (e : Form) (terminal position : ℕ) → Grows (records_of e terminal position)
  grows e terminal position more n = record_in-later rules text more n e terminal position

  items_grow : (items : Forms) (terminal position : ℕ) → Grows (records_of_items items terminal position)
  items_grow items terminal position more n =
      Extends-recognize_seq (record_in rules text n) (record_in rules text (more + n)) (record_in-later rules text more n)
      items terminal position

  first_grows : (first : Form) (rest : Forms) (terminal position : ℕ) → Grows (records_of_first first rest terminal position)
  first_grows first rest terminal position more n =
      Extends-recognize_choice (record_in rules text n) (record_in rules text (more + n)) (record_in-later rules text more n)
      first rest terminal position

  times_grow : (part : Form) (min max terminal position : ℕ) → Grows (records_of_times part min max terminal position)
  times_grow part min max terminal position more n =
      Extends-recognize_repeat (λ at. record_in rules text n part terminal at)
      (λ at. record_in rules text (more + n) part terminal at)
      (λ at. record_in-later rules text more n part terminal at) min max position

  -- the table over the records in depth n gives the records in depth n + 1
  above : (e : Form) (terminal position : ℕ) {x : Recognition}
      → Recorded (λ n. table rules text (record_in rules text n) e terminal position) x
      → Recorded (records_of e terminal position) x
  unfolding record_in
  above e terminal position a = record { depth = suc a.depth; found = a.found; is = a.is; result_is = a.result_is }

  -- a literal, a class and a dot
  literal_recorded : (bytes : List ℕ) (span : Extent) (terminal position : ℕ) {x : Recognition}
      → (literal_at terminal position bytes (drop position text)).result ≡ x
      → Recorded (records_of (Literal bytes span) terminal position) x
  literal_recorded bytes span terminal position is =
      above (Literal bytes span) terminal position
      (Recorded-result (literal_at terminal position bytes (drop position text)) is)

  class_recorded : (set : Bytes) (span : Extent) (terminal position : ℕ) {x : Recognition}
      → (byte_at (has set) terminal position (drop position text)).result ≡ x
      → Recorded (records_of (Class set span) terminal position) x
  class_recorded set span terminal position is =
      above (Class set span) terminal position
      (Recorded-result (byte_at (has set) terminal position (drop position text)) is)

  any_recorded : (span : Extent) (terminal position : ℕ) {x : Recognition}
      → (byte_at passes_any terminal position (drop position text)).result ≡ x
      → Recorded (records_of (Any span) terminal position) x
  any_recorded span terminal position is =
      above (Any span) terminal position (Recorded-result (byte_at passes_any terminal position (drop position text)) is)

  -- a rule's expression, and a call of the rule
  used : (name : List ℕ) (span : Extent) (m : Meaning) (terminal position : ℕ) {x : Recognition}
      → meaning_of rules name ≡ Some m → Recorded (records_of m.body m.terminal position) x
      → Recorded (records_of (Name name span) terminal position) (as_tree m.rule position x)
  used name span m terminal position known a =
      let part = records_of m.body m.terminal position in
      let made = Recorded-map part (as_call m.rule position) (as_tree m.rule position) (λ r. refl) a in
      above (Name name span) terminal position (record {
        depth = made.depth;
        found = made.found;
        is = ap (option_and_then (λ (m : Meaning). option_map (as_call m.rule position)
            (record_in rules text made.depth m.body m.terminal position))) known ∙ made.is;
        result_is = made.result_is;
      })

  -- an optional expression; and the results of its part and of nothing, in one depth
  optional_failed : (part : Form) (span : Extent) (terminal position : ℕ)
      → Recorded (records_of part terminal position) Failed
      → Recorded (records_of (Optional part span) terminal position) (Matched position NoTrees)
  optional_failed part span terminal position a =
      let nothing = λ (n : ℕ). Some (matched_at position) in
      above (Optional part span) terminal position
      (or_failed (records_of part terminal position) nothing (Matched position NoTrees)
      (both (records_of part terminal position) nothing (grows part terminal position)
      (λ more n. Extends-refl (Some (matched_at position))) a (Recorded-result (matched_at position) refl)))

  -- the iterations of a star after a position
  abbrev star_next : Form → Extent → ℕ → ℕ → ℕ → Option Record
  star_next part span terminal n end = record_in rules text n (Star part span) terminal end

  -- an iteration that matched, and the star from its end
  round : (part : Form) (span : Extent) (terminal position middle : ℕ) {trees : Trees} {x : Recognition}
      → Recorded (records_of part terminal position) (Matched middle trees)
      → Recorded (records_of (Star part span) terminal middle) x
      → Both (records_of part terminal position) (λ n. star_next part span terminal n middle) (Matched middle trees) x
  round part span terminal position middle a b =
      both (records_of part terminal position) (records_of (Star part span) terminal middle) (grows part terminal position)
      (grows (Star part span) terminal middle) a b

  -- the items after the first
  abbrev items_next : Form → Forms → ℕ → ℕ → ℕ → Option Record
  items_next item rest terminal n end = recognize_seq (record_in rules text n) rest (terminal + terminals item) end

  -- the repetitions after the first
  abbrev times_next : Form → (min max terminal : ℕ) → ℕ → ℕ → Option Record
  times_next part min max terminal n end = recognize_repeat (λ at. record_in rules text n part terminal at) min max end

  -- a predicate, by the change that it makes to the result of its part
  turned : (turn : Recognition → ℕ → Recognition) (part : Form) (terminal position : ℕ) {x : Recognition}
      → Recorded (records_of part terminal position) x
      → Recorded (λ n. option_map (λ (r : Record). with_result r (turn r.result position))
      (records_of part terminal position n)) (turn x position)
  turned turn part terminal position a =
      Recorded-map (records_of part terminal position) (λ (r : Record). with_result r (turn r.result position))
      (λ x. turn x position) (λ r. refl) a

  mutual
    -- every derived result of an expression is the result of a record, for any terminal number
    to_record : {e : Form} {position : ℕ} {x : Recognition}
        → Derives rules text e position x → (terminal : ℕ) → Recorded (records_of e terminal position) x
    to_record (literal_matched {bytes} {span} {position} {end} begins ends) terminal =
        literal_recorded bytes span terminal position
        (literal_at-matched terminal position end bytes (drop position text) begins ends)
    to_record (literal_failed {bytes} {span} {position} begins) terminal =
        literal_recorded bytes span terminal position
        (literal_at-failed terminal position bytes (drop position text) begins)
    to_record (class_matched {set} {span} {position} {end} begins ends) terminal =
        class_recorded set span terminal position
        (byte_at-matched (has set) terminal position end (drop position text) begins ends)
    to_record (class_failed {set} {span} {position} begins) terminal =
        class_recorded set span terminal position (byte_at-failed (has set) terminal position (drop position text) begins)
    to_record (any_matched {span} {position} {end} begins ends) terminal =
        any_recorded span terminal position
        (byte_at-matched passes_any terminal position end (drop position text) begins ends)
    to_record (any_failed {span} {position} begins) terminal =
        any_recorded span terminal position (byte_at-failed passes_any terminal position (drop position text) begins)
    to_record (name_matched {used = name} {span} {meaning = m} {position} {end} {trees} {tree} known d is) terminal =
        Recorded-same (records_of (Name name span) terminal position) (ap (Matched end) is)
        (used name span m terminal position known (to_record d m.terminal))
    to_record (name_failed {used = name} {span} {meaning = m} {position} known d) terminal =
        used name span m terminal position known (to_record d m.terminal)
    to_record (sequence {items} {span} {position} ds) terminal =
        above (Seq items span) terminal position (to_items ds terminal)
    to_record (choice {first} {rest} {span} {position} ds) terminal =
        above (Choice first rest span) terminal position (to_first ds terminal)
    to_record (optional_some {part} {span} {position} {end} {trees} d) terminal =
        above (Optional part span) terminal position
        (or_matched (records_of part terminal position) (λ n. Some (matched_at position)) end trees
        (to_record d terminal))
    to_record (optional_none {part} {span} {position} d) terminal =
        optional_failed part span terminal position (to_record d terminal)
    to_record (star_none {part} {span} {position} d) terminal =
        above (Star part span) terminal position
        (rounds_failed (records_of part terminal position) position (star_next part span terminal)
        (to_record d terminal))
    to_record (star_more {part} {span} {position} {middle} {end} {first} {more} {trees} d ds is) terminal =
        Recorded-same (records_of (Star part span) terminal position) (ap (Matched end) is)
        (above (Star part span) terminal position
        (rounds_matched (records_of part terminal position) position (star_next part span terminal) middle first
        (Matched end more)
        (round part span terminal position middle (to_record d terminal) (to_record ds terminal))))
    to_record (plus_failed {part} {span} {position} d) terminal =
        above (Plus part span) terminal position
        (then_failed (records_of part terminal position) (star_next part span terminal) (to_record d terminal))
    to_record (plus_matched {part} {span} {position} {middle} {end} {first} {more} {trees} d ds is) terminal =
        Recorded-same (records_of (Plus part span) terminal position) (ap (Matched end) is)
        (above (Plus part span) terminal position
        (then_matched (records_of part terminal position) (star_next part span terminal) middle first
        (Matched end more)
        (round part span terminal position middle (to_record d terminal) (to_record ds terminal))))
    to_record (counted {part} {min} {max} {span} {position} ds) terminal =
        above (Counted part min max span) terminal position (to_times ds terminal)
    to_record (and_matched {part} {span} {position} d) terminal =
        above (And part span) terminal position (turned if_matched part terminal position (to_record d terminal))
    to_record (and_failed {part} {span} {position} d) terminal =
        above (And part span) terminal position (turned if_matched part terminal position (to_record d terminal))
    to_record (not_matched {part} {span} {position} d) terminal =
        above (Not part span) terminal position (turned if_failed part terminal position (to_record d terminal))
    to_record (not_failed {part} {span} {position} d) terminal =
        above (Not part span) terminal position (turned if_failed part terminal position (to_record d terminal))

    -- the same for items
    to_items : {items : Forms} {position : ℕ} {x : Recognition}
        → DerivesItems rules text items position x → (terminal : ℕ) → Recorded (records_of_items items terminal position) x
    to_items (items_none {position}) terminal = Recorded-result (matched_at position) refl
    to_items (items_failed {item} {rest} {position} d) terminal =
        then_failed (records_of item terminal position) (items_next item rest terminal) (to_record d terminal)
    to_items (items_then {item} {rest} {position} {middle} {trees} {more} d ds is) terminal =
        Recorded-same (records_of_items (Then item rest) terminal position) is
        (then_matched (records_of item terminal position) (items_next item rest terminal) middle trees more
        (both (records_of item terminal position) (records_of_items rest (terminal + terminals item) middle)
        (grows item terminal position) (items_grow rest (terminal + terminals item) middle)
        (to_record d terminal) (to_items ds (terminal + terminals item))))

    -- the same for alternatives
    to_first : {first : Form} {rest : Forms} {position : ℕ} {x : Recognition}
        → DerivesFirst rules text first rest position x → (terminal : ℕ)
        → Recorded (records_of_first first rest terminal position) x
    to_first (alternative_last d) terminal = to_record d terminal
    to_first (alternative_matched {first} {next} {rest} {position} {end} {trees} d) terminal =
        or_matched (records_of first terminal position)
        (records_of_first next rest (terminal + terminals first) position) end trees (to_record d terminal)
    to_first (alternative_failed {first} {next} {rest} {position} {result} d ds) terminal =
        or_failed (records_of first terminal position)
        (records_of_first next rest (terminal + terminals first) position) result
        (both (records_of first terminal position)
        (records_of_first next rest (terminal + terminals first) position) (grows first terminal position)
        (first_grows next rest (terminal + terminals first) position) (to_record d terminal)
        (to_first ds (terminal + terminals first)))

    -- the same for repetitions
    to_times : {part : Form} {min max position : ℕ} {x : Recognition}
        → DerivesTimes rules text part min max position x → (terminal : ℕ)
        → Recorded (records_of_times part min max terminal position) x
    to_times (times_none {position = position}) terminal = Recorded-result (matched_at position) refl
    to_times (times_stopped {part} {max} {position} d) terminal =
        rounds_failed (records_of part terminal position) position (times_next part zero max terminal) (to_record d terminal)
    to_times (times_failed {part} {min} {max} {position} d) terminal =
        then_failed (records_of part terminal position) (times_next part min max terminal) (to_record d terminal)
    to_times (times_then {part} {min = zero} {max} {position} {middle} {trees} {more} d ds is) terminal =
        Recorded-same (records_of_times part zero (suc max) terminal position) is
        (rounds_matched (records_of part terminal position) position (times_next part zero max terminal) middle trees more
        (both (records_of part terminal position) (records_of_times part zero max terminal middle)
        (grows part terminal position) (times_grow part zero max terminal middle) (to_record d terminal)
        (to_times ds terminal)))
    to_times (times_then {part} {min = suc min} {max} {position} {middle} {trees} {more} d ds is) terminal =
        Recorded-same (records_of_times part (suc min) (suc max) terminal position) is
        (then_matched (records_of part terminal position) (times_next part min max terminal) middle trees more
        (both (records_of part terminal position) (records_of_times part min max terminal middle)
        (grows part terminal position) (times_grow part min max terminal middle) (to_record d terminal)
        (to_times ds terminal)))

-- every derived result of an expression is the result of a record, for any terminal number
pub recorded : {rules : List Rule} {text : List ℕ} {e : Form} {position : ℕ} {x : Recognition}
    → Derives rules text e position x → (terminal : ℕ) → Recorded (records_of rules text e terminal position) x
recorded {rules} {text} d terminal = to_record rules text d terminal

-- the same for items, alternatives and repetitions
pub items_recorded : {rules : List Rule} {text : List ℕ} {items : Forms} {position : ℕ} {x : Recognition}
    → DerivesItems rules text items position x → (terminal : ℕ)
    → Recorded (records_of_items rules text items terminal position) x
items_recorded {rules} {text} ds terminal = to_items rules text ds terminal

pub first_recorded : {rules : List Rule} {text : List ℕ} {first : Form} {rest : Forms} {position : ℕ} {x : Recognition}
    → DerivesFirst rules text first rest position x → (terminal : ℕ)
    → Recorded (records_of_first rules text first rest terminal position) x
first_recorded {rules} {text} ds terminal = to_first rules text ds terminal

pub times_recorded : {rules : List Rule} {text : List ℕ} {part : Form} {min max position : ℕ} {x : Recognition}
    → DerivesTimes rules text part min max position x → (terminal : ℕ)
    → Recorded (records_of_times rules text part min max terminal position) x
times_recorded {rules} {text} ds terminal = to_times rules text ds terminal

-- every record of an expression, for any terminal number, has the derived result
pub one_record : {rules : List Rule} {text : List ℕ} {e : Form} {position : ℕ} {x : Recognition} {r : Record}
    → Derives rules text e position x → (terminal : ℕ) → IsRecord rules text e terminal position r → r.result ≡ x
one_record {rules} {text} {e} {position} {x} {r} d terminal known =
    let a = recorded d terminal in
    ap (λ (r : Record). r.result) (record_lemmas.one_record rules text e terminal position r a.found known (a.depth, a.is))
    ∙ a.result_is

-- derived results are unique
pub one_result : {rules : List Rule} {text : List ℕ} {e : Form} {position : ℕ} {x y : Recognition}
    → Derives rules text e position x → Derives rules text e position y → x ≡ y
one_result d other =
    let a = recorded d 0 in
    sym a.result_is ∙ one_record other 0 (a.depth, a.is)

-- ---- derivations from records

-- If the results of a recognizer are derived, so are those of the table over it.
module _ (rules : List Rule) (text : List ℕ) (take : Recognizer) (taken : (e : Form) (terminal position : ℕ) (r : Record)
    → take e terminal position ≡ Some r → Derives rules text e position r.result) where
  -- a part with a known result
  part_taken : (e : Form) (terminal position : ℕ) (r : Record) {x : Recognition} → take e terminal position ≡ Some r
      → r.result ≡ x → Derives rules text e position x
  part_taken e terminal position r is known = subst (Derives rules text e position) known (taken e terminal position r is)

  items_derived : (items : Forms) (terminal position : ℕ) (r : Record) → recognize_seq take items terminal position ≡ Some r
      → DerivesItems rules text items position r.result
  items_derived End terminal position r is =
      some_case (DerivesItems rules text End position) (matched_at position) r items_none is
  items_derived (Then item rest) terminal position r is =
      then_cases (DerivesItems rules text (Then item rest) position) (take item terminal position)
      (λ end. recognize_seq take rest (terminal + terminals item) end) r
      (λ part e f. items_failed (part_taken item terminal position part e f))
      (λ part more end trees e f g.
      items_then (part_taken item terminal position part e f)
      (items_derived rest (terminal + terminals item) end more g) refl) is

  first_derived : (first : Form) (rest : Forms) (terminal position : ℕ) (r : Record)
      → recognize_choice take first rest terminal position ≡ Some r → DerivesFirst rules text first rest position r.result
  first_derived first End terminal position r is = alternative_last (taken first terminal position r is)
  first_derived first (Then next rest) terminal position r is =
      or_cases (DerivesFirst rules text first (Then next rest) position) (take first terminal position)
      (recognize_choice take next rest (terminal + terminals first) position) r
      (λ part end trees e f. alternative_matched (part_taken first terminal position part e f))
      (λ part more e f g.
      alternative_failed (part_taken first terminal position part e f)
      (first_derived next rest (terminal + terminals first) position more g)) is

  times_derived : (part : Form) (terminal min max position : ℕ) (r : Record)
      → recognize_repeat (λ at. take part terminal at) min max position ≡ Some r
      → DerivesTimes rules text part min max position r.result
  times_derived part terminal min zero position r is =
      some_case (DerivesTimes rules text part min zero position) (matched_at position) r times_none is
  times_derived part terminal zero (suc max) position r is =
      rounds_cases (DerivesTimes rules text part zero (suc max) position) (take part terminal position) position
      (λ end. recognize_repeat (λ at. take part terminal at) zero max end) r
      (λ p e f. times_stopped (part_taken part terminal position p e f))
      (λ p more end trees e f g.
      times_then (part_taken part terminal position p e f) (times_derived part terminal zero max end more g) refl) is
  times_derived part terminal (suc min) (suc max) position r is =
      then_cases (DerivesTimes rules text part (suc min) (suc max) position) (take part terminal position)
      (λ end. recognize_repeat (λ at. take part terminal at) min max end) r
      (λ p e f. times_failed (part_taken part terminal position p e f))
      (λ p more end trees e f g.
      times_then (part_taken part terminal position p e f) (times_derived part terminal min max end more g) refl) is

  -- each form of expression
  literal_derived : (bytes : List ℕ) (span : Extent) (terminal position : ℕ)
      → Derives rules text (Literal bytes span) position (literal_at terminal position bytes (drop position text)).result
  literal_derived bytes span terminal position = by (starts_with nat_eq (drop position text) bytes) refl
    where
      by : (b : Bool) → starts_with nat_eq (drop position text) bytes ≡ b
          → Derives rules text (Literal bytes span) position (literal_at terminal position bytes (drop position text)).result
      by true is =
          subst (Derives rules text (Literal bytes span) position)
          (sym (literal_at-matched terminal position (position + length bytes) bytes (drop position text) is refl))
          (literal_matched is refl)
      by false is =
          subst (Derives rules text (Literal bytes span) position)
          (sym (literal_at-failed terminal position bytes (drop position text) is)) (literal_failed is)

  byte_derived : (e : Form) (test : ℕ → Bool) (terminal position : ℕ)
      → (begins_with test (drop position text) ≡ true → Derives rules text e position (Matched (position + 1) NoTrees))
      → (begins_with test (drop position text) ≡ false → Derives rules text e position Failed)
      → Derives rules text e position (byte_at test terminal position (drop position text)).result
  byte_derived e test terminal position matched failed = by (begins_with test (drop position text)) refl
    where
      by : (b : Bool) → begins_with test (drop position text) ≡ b
          → Derives rules text e position (byte_at test terminal position (drop position text)).result
      by true is =
          subst (Derives rules text e position)
          (sym (byte_at-matched test terminal position (position + 1) (drop position text) is refl)) (matched is)
      by false is =
          subst (Derives rules text e position) (sym (byte_at-failed test terminal position (drop position text) is)) (failed is)

  name_derived : (name : List ℕ) (span : Extent) (m : Meaning) (position : ℕ) (x : Recognition)
      → meaning_of rules name ≡ Some m → Derives rules text m.body position x
      → Derives rules text (Name name span) position (as_tree m.rule position x)
  name_derived name span m position Failed known d = name_failed known d
  name_derived name span m position (Matched end trees) known d = name_matched known d refl

  and_derived : (part : Form) (span : Extent) (position : ℕ) (x : Recognition) → Derives rules text part position x
      → Derives rules text (And part span) position (if_matched x position)
  and_derived part span position Failed d = and_failed d
  and_derived part span position (Matched end trees) d = and_matched d

  not_derived : (part : Form) (span : Extent) (position : ℕ) (x : Recognition) → Derives rules text part position x
      → Derives rules text (Not part span) position (if_failed x position)
  not_derived part span position Failed d = not_matched d
  not_derived part span position (Matched end trees) d = not_failed d

  star_derived : (part : Form) (span : Extent) (position middle : ℕ) (trees : Trees) (x : Recognition)
      → Derives rules text part position (Matched middle trees) → Derives rules text (Star part span) middle x
      → Derives rules text (Star part span) position (prepend_trees trees x)
  star_derived part span position middle trees Failed d ds = absurd (star_never_fails ds)
  star_derived part span position middle trees (Matched end more) d ds = star_more d ds refl

  plus_derived : (part : Form) (span : Extent) (position middle : ℕ) (trees : Trees) (x : Recognition)
      → Derives rules text part position (Matched middle trees) → Derives rules text (Star part span) middle x
      → Derives rules text (Plus part span) position (prepend_trees trees x)
  plus_derived part span position middle trees Failed d ds = absurd (star_never_fails ds)
  plus_derived part span position middle trees (Matched end more) d ds = plus_matched d ds refl

  table_derived : (e : Form) (terminal position : ℕ) (r : Record) → table rules text take e terminal position ≡ Some r
      → Derives rules text e position r.result
  table_derived (Literal bytes span) terminal position r is =
      some_case (Derives rules text (Literal bytes span) position) (literal_at terminal position bytes (drop position text)) r
      (literal_derived bytes span terminal position) is
  table_derived (Class set span) terminal position r is =
      some_case (Derives rules text (Class set span) position) (byte_at (has set) terminal position (drop position text)) r
      (byte_derived (Class set span) (has set) terminal position (λ h. class_matched h refl) (λ h. class_failed h)) is
  table_derived (Any span) terminal position r is =
      some_case (Derives rules text (Any span) position) (byte_at passes_any terminal position (drop position text)) r
      (byte_derived (Any span) passes_any terminal position (λ h. any_matched h refl) (λ h. any_failed h)) is
  table_derived (Name name span) terminal position r is = by (meaning_of rules name) refl is
    where
      by : (meaning : Option Meaning) → meaning_of rules name ≡ meaning
          → option_and_then (λ (m : Meaning). option_map (as_call m.rule position) (take m.body m.terminal position)) meaning
          ≡ Some r → Derives rules text (Name name span) position r.result
      by None known f = cc
      by (Some m) known f =
          map_cases (Derives rules text (Name name span) position) (take m.body m.terminal position) (as_call m.rule position) r
          (λ part e. name_derived name span m position part.result known (taken m.body m.terminal position part e)) f
  table_derived (Seq items span) terminal position r is = sequence (items_derived items terminal position r is)
  table_derived (Choice first rest span) terminal position r is = choice (first_derived first rest terminal position r is)
  table_derived (Optional part span) terminal position r is =
      or_cases (Derives rules text (Optional part span) position) (take part terminal position) (Some (matched_at position)) r
      (λ p end trees e f. optional_some (part_taken part terminal position p e f))
      (λ p more e f g.
      some_case (Derives rules text (Optional part span) position) (matched_at position) more
      (optional_none (part_taken part terminal position p e f)) g) is
  table_derived (Star part span) terminal position r is =
      rounds_cases (Derives rules text (Star part span) position) (take part terminal position) position
      (λ end. take (Star part span) terminal end) r
      (λ p e f. star_none (part_taken part terminal position p e f))
      (λ p more end trees e f g.
      star_derived part span position end trees more.result (part_taken part terminal position p e f)
      (taken (Star part span) terminal end more g)) is
  table_derived (Plus part span) terminal position r is =
      then_cases (Derives rules text (Plus part span) position) (take part terminal position)
      (λ end. take (Star part span) terminal end) r
      (λ p e f. plus_failed (part_taken part terminal position p e f))
      (λ p more end trees e f g.
      plus_derived part span position end trees more.result (part_taken part terminal position p e f)
      (taken (Star part span) terminal end more g)) is
  table_derived (Counted part min max span) terminal position r is =
      counted (times_derived part terminal min max position r is)
  table_derived (And part span) terminal position r is =
      map_cases (Derives rules text (And part span) position) (take part terminal position)
      (λ (r : Record). with_result r (if_matched r.result position)) r
      (λ p e. and_derived part span position p.result (taken part terminal position p e)) is
  table_derived (Not part span) terminal position r is =
      map_cases (Derives rules text (Not part span) position) (take part terminal position)
      (λ (r : Record). with_result r (if_failed r.result position)) r
      (λ p e. not_derived part span position p.result (taken part terminal position p e)) is

-- the result of a record in depth n is derived
pub derived : (rules : List Rule) (text : List ℕ) (n : ℕ) (e : Form) (terminal position : ℕ) (r : Record)
    → record_in rules text n e terminal position ≡ Some r → Derives rules text e position r.result
unfolding record_in
derived rules text zero e terminal position r is = cc
derived rules text (suc n) e terminal position r is =
    table_derived rules text (record_in rules text n) (derived rules text n) e terminal position r is
