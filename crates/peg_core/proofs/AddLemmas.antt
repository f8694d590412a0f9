-- The forms of a whole expression, from the forms of its parts.
use Rattle.std.proofs.Common.{◌≡◌, ℕ, zero, suc, ◌+◌, ◌-◌, ◌*◌, ◌<◌, ◌≤◌, Bool, true, false, ◌&&◌, List, [], ◌∷◌, ◌++◌, All, length, map, get_or, nat_lt, slice_get, position, bytes_eq, cond, not, ◌||◌, None, Some, option_map, refl, sym, ap, ◌∙◌, subst, arith, length-append, append_assoc, append-nil}
use Rattle.std.proofs.lemmas.Bool.{lt-ltb}
use Rattle.std.proofs.lemmas.Bool.Decides.{nat_tests}
use Rattle.std.specs.List.{list_any, position_or_len}
use Rattle.std.proofs.lemmas.List.{length-map, map-append}
use Rattle.std.proofs.lemmas.List.Elements.{All-nil, All-push}
use Rattle.std.proofs.lemmas.List.Folds.{list_all-append}
use Rattle.peg_bytes.specs.ByteSet.{all_bytes, bytes_of, has, only}
use Rattle.peg_bytes.specs.Extent.{Extent}
use Rattle.peg_bytes.specs.declared.byte_set.ByteSet.{ByteSet}
use Rattle.peg_semantics.specs.Form.{Form, Forms, Literal, Class, Any, Name, Optional, Plus, Counted, And, End, Then, Reference, Count, terminals, counts_written, counts_written_by_all, form_weight, forms_weight, names_used, names_used_by_all}
use Rattle.peg_semantics.specs.Form as written
use Rattle.peg_semantics.specs.Grammar.{greatest_count, is_in_range}
use Rattle.peg_semantics.specs.Rules.{is_defined, names, meaning_of}
use Rattle.peg_semantics.specs.Rules as grammar
use Rattle.peg_semantics.specs.Terminals.{terminal_extents, terminal_extents_of_all}
use Rattle.peg_semantics.specs.Numbers.{first_from}
use Rattle.peg_semantics.proofs.RulesLemmas.{terminals-weight, position-within, meant-position, meaning}
use Rattle.peg_semantics.proofs.TerminalLemmas.{length-terminal_extents}
use Rattle.peg_core.specs.CoreForm.{CoreForm, Test, Seq, Choice, Star, Not, all_in_order, one_of, tests_of, unfolded, left_out, core_form, core_forms, number_of}
use Rattle.peg_core.specs.CoreParts.{sequences_of, choices_of, optional_forms, plus_forms, rounds_of, count_forms, and_forms, core_parts, core_parts_of_all, are_defined, are_in_range}
use Rattle.peg_core.specs.Appending.{Appends, AppendsAll, AppendsForm, AppendsForms}
use Rattle.peg_core.specs.Layout.{Layout, form_at, max_forms_each}
use Rattle.peg_core.proofs.LaidLemmas.{Appends-then, form_at-kept, forms-kept, all_within-grown, length-sequences_of}
use Rattle.peg_core.proofs.Meanings.{number_of-meaning_of}
use Rattle.peg_core.proofs.Sets.{bytes_of-all}

-- ---- the number of core forms: at most `max_forms_each` for each part of the weight

length-tests_of : (terminal : ℕ) (bytes : List ℕ) → length (tests_of terminal bytes) ≡ length bytes
length-tests_of terminal bytes = length-map bytes (λ byte. Test (only byte) terminal)

length-choices_of : (first : CoreForm) (rest : List CoreForm) → length (choices_of first rest) ≡ length rest
length-choices_of first [] = refl
length-choices_of first (next ∷ rest) =
    omega (arith, length-append (choices_of next rest) (Choice first (one_of next rest) ∷ []), length-choices_of next rest)

length-rounds_of : (part : CoreForm) (min max : ℕ) → length (rounds_of part min max) ≤ 2 * max
length-rounds_of part min zero = omega arith
length-rounds_of part zero (suc max) =
    omega (arith, length-append (rounds_of part zero max) (Seq part (unfolded part zero max) ∷ unfolded part zero (suc max) ∷ []), length-rounds_of part zero max)
length-rounds_of part (suc min) (suc max) =
    omega (arith, length-append (rounds_of part min max) (unfolded part (suc min) (suc max) ∷ []), length-rounds_of part min max)

length-count_forms : (part : CoreForm) (min max : ℕ) → max ≤ greatest_count
    → length (count_forms part min max) ≤ max_forms_each
length-count_forms part min zero few = omega arith
length-count_forms part min (suc max) few =
    omega (arith, few, length-rounds_of part (min - left_out part min) (suc (max - left_out part min)))

and_left : (a b : Bool) → (a && b) ≡ true → a ≡ true
and_left true b e = refl
and_left false b e = cc

and_right : (a b : Bool) → (a && b) ≡ true → b ≡ true
and_right true b e = e
and_right false b e = cc

-- counts in range
pub are_in_range-left : (some more : List Count) → are_in_range (some ++ more) ≡ true → are_in_range some ≡ true
are_in_range-left some more e =
    and_left (are_in_range some) (are_in_range more) (sym (list_all-append is_in_range some more) ∙ e)

pub are_in_range-right : (some more : List Count) → are_in_range (some ++ more) ≡ true → are_in_range more ≡ true
are_in_range-right some more e =
    and_right (are_in_range some) (are_in_range more) (sym (list_all-append is_in_range some more) ∙ e)

in_range-max : (count : Count) → is_in_range count ≡ true → count.max ≤ greatest_count
in_range-max count e = grind (arith, nat_tests)

module _ (rules : List grammar.Rule) where
  mutual
    pub length-core_parts : (e : Form) (terminal : ℕ) → are_in_range (counts_written e) ≡ true
        → length (core_parts rules terminal e) + 1 ≤ max_forms_each * form_weight e
    length-core_parts (Literal bytes span) terminal ranged =
        omega (arith, length-append (tests_of terminal bytes) (sequences_of (tests_of terminal bytes)), length-sequences_of (tests_of terminal bytes), length-tests_of terminal bytes)
    length-core_parts (Class set span) terminal ranged = omega arith
    length-core_parts (Any span) terminal ranged = omega arith
    length-core_parts (Name name span) terminal ranged = omega arith
    length-core_parts (written.Seq items span) terminal ranged =
        omega (arith, length-core_parts_of_all items terminal ranged, length-sequences_of (core_forms rules terminal items), length-append (core_parts_of_all rules terminal items) (sequences_of (core_forms rules terminal items)))
    length-core_parts (written.Choice first rest span) terminal ranged =
        let later = terminal + terminals first in
        let parts = core_parts rules terminal first in
        let more = core_parts_of_all rules later rest in
        let choices = choices_of (core_form rules terminal first) (core_forms rules later rest) in
        omega (arith, length-core_parts first terminal (are_in_range-left (counts_written first) (counts_written_by_all rest) ranged), length-core_parts_of_all rest later (are_in_range-right (counts_written first) (counts_written_by_all rest) ranged), length-choices_of (core_form rules terminal first) (core_forms rules later rest), length-append (parts ++ more) choices, length-append parts more)
    length-core_parts (Optional part span) terminal ranged =
        omega (arith, length-core_parts part terminal ranged, length-append (core_parts rules terminal part) (optional_forms (core_form rules terminal part)))
    length-core_parts (written.Star part span) terminal ranged =
        omega (arith, length-core_parts part terminal ranged, length-append (core_parts rules terminal part) (Star (core_form rules terminal part) span ∷ []))
    length-core_parts (Plus part span) terminal ranged =
        omega (arith, length-core_parts part terminal ranged, length-append (core_parts rules terminal part) (plus_forms (core_form rules terminal part) span))
    length-core_parts (Counted part min max span) terminal ranged =
        let count : Count = record { min = min; max = max; span = span } in
        let few = in_range-max count (and_left (is_in_range count) (are_in_range (counts_written part)) ranged) in
        let following = and_right (is_in_range count) (are_in_range (counts_written part)) ranged in
        let form = core_form rules terminal part in
        omega (arith, length-core_parts part terminal following, length-count_forms form min max few, length-append (core_parts rules terminal part) (count_forms form min max))
    length-core_parts (And part span) terminal ranged =
        omega (arith, length-core_parts part terminal ranged, length-append (core_parts rules terminal part) (and_forms (core_form rules terminal part)))
    length-core_parts (written.Not part span) terminal ranged =
        omega (arith, length-core_parts part terminal ranged, length-append (core_parts rules terminal part) (Not (core_form rules terminal part) ∷ []))

    pub length-core_parts_of_all : (items : Forms) (terminal : ℕ) → are_in_range (counts_written_by_all items) ≡ true
        → length (core_parts_of_all rules terminal items) + length (core_forms rules terminal items) ≤ max_forms_each * forms_weight items
    length-core_parts_of_all End terminal ranged = omega arith
    length-core_parts_of_all (Then e rest) terminal ranged =
        let later = terminal + terminals e in
        omega (arith, length-core_parts e terminal (are_in_range-left (counts_written e) (counts_written_by_all rest) ranged), length-core_parts_of_all rest later (are_in_range-right (counts_written e) (counts_written_by_all rest) ranged), length-append (core_parts rules terminal e) (core_parts_of_all rules later rest))

  -- ---- the limit leaves enough for more forms

  pub AppendsForm-room : (e : Form) (old new : Layout) (number : ℕ) → AppendsForm rules e old number new
      → are_in_range (counts_written e) ≡ true
      → length new.forms + 1 ≤ length old.forms + max_forms_each * form_weight e
  AppendsForm-room e old new number lays ranged =
      omega (arith, ap length lays.forms, length-append old.forms (core_parts rules (length old.spans) e), length-core_parts e (length old.spans) ranged)

  pub AppendsForm-spans : (e : Form) (old new : Layout) (number : ℕ) → AppendsForm rules e old number new
      → length new.spans ≡ length old.spans + terminals e
  AppendsForm-spans e old new number lays =
      ap length lays.spans
      ∙ (length-append old.spans (terminal_extents e) ∙ ap (λ n. length old.spans + n) (length-terminal_extents e))

  pub AppendsForm-few : (e : Form) (old new : Layout) (number : ℕ) → AppendsForm rules e old number new
      → length new.spans ≤ length old.spans + form_weight e
  AppendsForm-few e old new number lays = omega (arith, AppendsForm-spans e old new number lays, terminals-weight e)

  pub AppendsForms-room : (items : Forms) (old new : Layout) (numbers : List ℕ) → AppendsForms rules items old numbers new
      → are_in_range (counts_written_by_all items) ≡ true
      → length new.forms + length numbers ≤ length old.forms + max_forms_each * forms_weight items
  AppendsForms-room items old new numbers lays ranged =
      let t = length old.spans in
      let many : length numbers ≡ length (core_forms rules t items) = sym (length-map numbers (form_at new.forms)) ∙ ap length lays.each in
      omega (arith, many, ap length lays.forms, length-append old.forms (core_parts_of_all rules t items), length-core_parts_of_all items t ranged)

  -- ---- the whole from its parts

  -- an operator on a part
  pub Appends-sign : (part : Form) (old mid new : Layout) (number last : ℕ) (more : CoreForm → List CoreForm)
      (whole : CoreForm → CoreForm) → AppendsForm rules part old number mid
      → Appends mid (more (form_at mid.forms number)) [] (whole (form_at mid.forms number)) last new
      → Appends old (core_parts rules (length old.spans) part ++ more (core_form rules (length old.spans) part)) (terminal_extents part) (whole (core_form rules (length old.spans) part)) last new
  Appends-sign part old mid new number last more whole first then =
      let t = length old.spans in
      Appends-then old mid new (core_parts rules t part) (more (core_form rules t part)) (terminal_extents part)
      (core_form rules t part) (whole (core_form rules t part)) number last first
      (subst (λ form. Appends mid (more form) [] (whole form) last new) first.last then)

  -- a sequence of items
  pub Appends-sequence : (items : Forms) (span : Extent) (old mid new : Layout) (numbers : List ℕ) (last : ℕ)
      → AppendsForms rules items old numbers mid
      → Appends mid (sequences_of (map (form_at mid.forms) numbers)) [] (all_in_order (map (form_at mid.forms) numbers)) last new
      → AppendsForm rules (written.Seq items span) old last new
  Appends-sequence items span old mid new numbers last all then =
      let t = length old.spans in
      let forms = core_forms rules t items in
      let seq = subst (λ forms. Appends mid (sequences_of forms) [] (all_in_order forms) last new) all.each then in
      record {
        forms = seq.forms ∙ (ap (λ f. f ++ sequences_of forms) all.forms ∙ append_assoc old.forms (core_parts_of_all rules t items) (sequences_of forms));
        spans = seq.spans ∙ (append-nil mid.spans ∙ all.spans);
        rules = seq.rules ∙ all.rules;
        within = seq.within;
        last = seq.last;
      }

  -- a choice of a first expression and others
  pub Appends-choice : (first : Form) (rest : Forms) (span : Extent) (old mid later new : Layout) (number last : ℕ)
      (numbers : List ℕ) → AppendsForm rules first old number mid → AppendsForms rules rest mid numbers later
      → Appends later (choices_of (form_at later.forms number) (map (form_at later.forms) numbers)) []
      (one_of (form_at later.forms number) (map (form_at later.forms) numbers)) last new
      → AppendsForm rules (written.Choice first rest span) old last new
  Appends-choice first rest span old mid later new number last numbers one all then =
      let t = length old.spans in
      let next = t + terminals first in
      let counted : length mid.spans ≡ next = AppendsForm-spans first old mid number one in
      let others = subst (λ n. AppendsAll mid (core_parts_of_all rules n rest) (terminal_extents_of_all rest) (core_forms rules n rest) numbers later) counted all in
      let kept : form_at later.forms number ≡ core_form rules t first = form_at-kept mid later (core_parts_of_all rules next rest) number others.forms one.within ∙ one.last in
      let choice = subst (λ form. Appends later (choices_of form (core_forms rules next rest)) [] (one_of form (core_forms rules next rest)) last new) kept (subst (λ forms. Appends later (choices_of (form_at later.forms number) forms) [] (one_of (form_at later.forms number) forms) last new) others.each then) in
      let parts = core_parts rules t first in
      let more = core_parts_of_all rules next rest in
      let choices = choices_of (core_form rules t first) (core_forms rules next rest) in
      record {
        forms =
            choice.forms
            ∙ (ap (λ f. f ++ choices) (others.forms ∙ (ap (λ f. f ++ more) one.forms ∙ append_assoc old.forms parts more))
            ∙ append_assoc old.forms (parts ++ more) choices);
        spans =
            choice.spans
            ∙ (append-nil later.spans
            ∙ (others.spans
            ∙ (ap (λ s. s ++ terminal_extents_of_all rest) one.spans
            ∙ append_assoc old.spans (terminal_extents first) (terminal_extents_of_all rest))));
        rules = choice.rules ∙ (others.rules ∙ one.rules);
        within = choice.within;
        last = choice.last;
      }

  -- ---- items one after the other

  -- the forms of the items so far, before the rest
  pub record SoFar (all : Forms) (old : Layout) (rest : Forms) (numbers : List ℕ) (now : Layout) : Type 0 where
    pub forms : now.forms ++ core_parts_of_all rules (length now.spans) rest ≡ old.forms ++ core_parts_of_all rules (length old.spans) all
    pub spans : now.spans ++ terminal_extents_of_all rest ≡ old.spans ++ terminal_extents_of_all all
    pub same_rules : now.rules ≡ old.rules
    pub within : All (λ number. number < length now.forms) numbers
    pub each : map (form_at now.forms) numbers ++ core_forms rules (length now.spans) rest ≡ core_forms rules (length old.spans) all

  pub SoFar-start : (all : Forms) (old : Layout) → SoFar all old all [] old
  SoFar-start all old =
      record {
        forms = refl;
        spans = refl;
        same_rules = refl;
        within = All-nil (λ number. number < length old.forms);
        each = refl;
      }

  pub SoFar-more : (all : Forms) (old : Layout) (e : Form) (rest : Forms) (numbers : List ℕ) (now new : Layout) (number : ℕ)
      → SoFar all old (Then e rest) numbers now → AppendsForm rules e now number new
      → SoFar all old rest (numbers ++ number ∷ []) new
  SoFar-more all old e rest numbers now new number so_far lays =
      let t = length now.spans in
      let next = t + terminals e in
      let counted : length new.spans ≡ next = AppendsForm-spans e now new number lays in
      record {
        forms =
            ap (λ n. new.forms ++ core_parts_of_all rules n rest) counted
            ∙ (ap (λ f. f ++ core_parts_of_all rules next rest) lays.forms
            ∙ (append_assoc now.forms (core_parts rules t e) (core_parts_of_all rules next rest) ∙ so_far.forms));
        spans =
            ap (λ s. s ++ terminal_extents_of_all rest) lays.spans
            ∙ (append_assoc now.spans (terminal_extents e) (terminal_extents_of_all rest) ∙ so_far.spans);
        same_rules = lays.rules ∙ so_far.same_rules;
        within = All-push (λ n. n < length new.forms) numbers number
            (all_within-grown now new (core_parts rules t e) lays.forms numbers so_far.within) lays.within;
        each =
            ap (λ n. map (form_at new.forms) (numbers ++ number ∷ []) ++ core_forms rules n rest) counted
            ∙ (ap (λ f. f ++ core_forms rules next rest)
            (map-append (form_at new.forms) numbers (number ∷ [])
            ∙ (λ i. forms-kept now new (core_parts rules t e) lays.forms numbers so_far.within i ++ lays.last i ∷ []))
            ∙ (append_assoc (map (form_at now.forms) numbers) (core_form rules t e ∷ []) (core_forms rules next rest)
            ∙ so_far.each));
      }

  pub SoFar-end : (all : Forms) (old now : Layout) (numbers : List ℕ) → SoFar all old End numbers now
      → AppendsForms rules all old numbers now
  SoFar-end all old now numbers so_far =
      record {
        forms = sym (append-nil now.forms) ∙ so_far.forms;
        spans = sym (append-nil now.spans) ∙ so_far.spans;
        rules = so_far.same_rules;
        within = so_far.within;
        each = sym (append-nil (map (form_at now.forms) numbers)) ∙ so_far.each;
      }

  -- ---- names

  abbrev here : Reference → Bool
  here reference = is_defined rules reference.name

  pub are_defined-left : (some more : List Reference) → are_defined rules (some ++ more) ≡ true → are_defined rules some ≡ true
  are_defined-left some more e =
      and_left (are_defined rules some) (are_defined rules more) (sym (list_all-append here some more) ∙ e)

  pub are_defined-right : (some more : List Reference) → are_defined rules (some ++ more) ≡ true → are_defined rules more ≡ true
  are_defined-right some more e =
      and_right (are_defined rules some) (are_defined rules more) (sym (list_all-append here some more) ∙ e)

-- if some element passes, one is found
any-position : {X : Type 0} (p : X → Bool) (xs : List X) → list_any p xs ≡ true → position_or_len p xs < length xs
any-position p [] e = cc
any-position p (x ∷ xs) e = by (p x) e (any-position p xs)
  where
    by : (b : Bool) → (b || list_any p xs) ≡ true → (list_any p xs ≡ true → position_or_len p xs < length xs)
        → cond (not b) (1 + position_or_len p xs) 0 < suc (length xs)
    by true e later = omega arith
    by false e later = omega (arith, later e)

position-none : (within : Bool) (at : ℕ) → within ≡ true → cond within (Some at) None ≡ None → ⊥
position-none true at e none = cc
position-none false at e none = cc

-- a defined name has a position
pub defined-position : (rules : List grammar.Rule) (name : List ℕ) → is_defined rules name ≡ true
    → position (bytes_eq name) (names rules) ≡ None → ⊥
defined-position rules name defined none =
    let at = position_or_len (bytes_eq name) (names rules) in
    let within : nat_lt at (length (names rules)) ≡ true = lt-ltb at (length (names rules)) (any-position (bytes_eq name) (names rules) defined) in
    position-none (nat_lt at (length (names rules))) at within none

some-at : (rules : List grammar.Rule) (i : ℕ) → i < length rules → (rule : grammar.Rule) × (slice_get rules i ≡ Some rule)
some-at [] i within = absurd (omega arith)
some-at (r ∷ rs) zero within = (r, refl)
some-at (r ∷ rs) (suc i) within = some-at rs i (omega arith)

-- the position is the number of the rule that the name denotes
pub number_of-position : (rules : List grammar.Rule) (name : List ℕ) (rule : ℕ)
    → position (bytes_eq name) (names rules) ≡ Some rule → number_of rules name ≡ rule
number_of-position rules name rule found =
    let some = some-at rules rule (position-within rules name rule found) in
    let first = get_or (first_from 0 rules) rule 0 in
    let is : meaning_of rules name ≡ Some (meaning (0 + rule) first some.0) = meant-position rules name rule found ∙ ap (option_map (meaning (0 + rule) first)) some.1 in
    number_of-meaning_of rules name (meaning (0 + rule) first some.0) is ∙ omega arith

-- the set of all bytes
pub full-is : (set : ByteSet) → ((other : ℕ) → has (bytes_of set) other ≡ nat_lt other 256) → bytes_of set ≡ all_bytes
full-is set has_all = bytes_of-all set (λ byte within. has_all byte ∙ below byte within)
  where
    below : (byte : ℕ) → byte < 256 → nat_lt byte 256 ≡ true
    below byte within = lt-ltb byte 256 within
