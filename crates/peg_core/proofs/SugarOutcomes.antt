-- A written expression and its core form have the same abstract outcomes.
use Rattle.std.proofs.Common.{◌≡◌, ℕ, zero, suc, ◌+◌, ◌-◌, Bool, true, false, List, [], ◌∷◌, Option, None, Some, refl, sym, ap, ◌∙◌, subst, slice_get, zero-add, suc-add, add_comm}
use Rattle.peg_bytes.specs.ByteSet.{only, all_bytes}
use Rattle.peg_bytes.specs.Extent.{Extent}
use Rattle.peg_semantics.specs.AbstractOutcomes.{Can, CanAll, no_outcome, always_empty, consumes_or_fails, can_of_set, seq_outcome, choice_outcome, optional_outcome, star_outcome, plus_outcome, repeat_outcome, and_outcome, not_outcome, outcome_of_items, outcome_of_choice, outcome_of_meaning, can_table, can_in, GivesNothing, GivesSomething, CanFail}
use Rattle.peg_semantics.specs.Form.{Form, Forms, Literal, Class, Any, Name, Optional, Plus, Counted, And, End, Then, terminals}
use Rattle.peg_semantics.specs.Form as written_form
use Rattle.peg_semantics.specs.Rules.{Meaning, meaning_of}
use Rattle.peg_semantics.specs.Rules as grammar
use Rattle.peg_semantics.proofs.RoundsLemmas.{CanAll-refl, CanAll-trans, CanAll-no_outcome, CanAll-seq_outcome, CanAll-choice_outcome, CanAll-star_outcome, CanAll-repeat_outcome, CanAll-not_outcome, CanAll-items, CanAll-first, can_in-more}
use Rattle.peg_core.specs.CoreForm.{CoreForm, Empty, Test, Rule, Seq, Choice, Star, Not, in_order, all_in_order, one_of, tests_of, unfolded, is_all_empty, left_out, count_form, number_of, core_form, core_forms, core_bodies}
use Rattle.peg_core.specs.CoreOutcomes.{outcome_of_body, core_can_table, core_can_in, CoreGivesNothing, CoreGivesSomething, CoreCanFail}
use Rattle.peg_core.proofs.CoreRounds.{core_can_in-more}
use Rattle.peg_core.proofs.EmptyParts.{first-all_empty, rest-all_empty, left_out-same}
use Rattle.peg_core.proofs.Meanings.{body-meaning_of, body-unmeant}
use Rattle.peg_core.proofs.Sets.{has_some-only, has_some-all_bytes}

-- ---- desugaring and outcomes

-- the eight sets of outcomes
abbrev can : (nothing something fails : Bool) → Can
can nothing something fails = record { nothing = nothing; something = something; fails = fails }

seq_outcome-nothing_of : (x y z : Bool) → seq_outcome (can x y z) always_empty ≡ can x y z
seq_outcome-nothing_of true true true = refl
seq_outcome-nothing_of true true false = refl
seq_outcome-nothing_of true false true = refl
seq_outcome-nothing_of true false false = refl
seq_outcome-nothing_of false true true = refl
seq_outcome-nothing_of false true false = refl
seq_outcome-nothing_of false false true = refl
seq_outcome-nothing_of false false false = refl

optional_outcome-either_of : (x y z : Bool) → optional_outcome (can x y z) ≡ choice_outcome (can x y z) always_empty
optional_outcome-either_of true true true = refl
optional_outcome-either_of true true false = refl
optional_outcome-either_of true false true = refl
optional_outcome-either_of true false false = refl
optional_outcome-either_of false true true = refl
optional_outcome-either_of false true false = refl
optional_outcome-either_of false false true = refl
optional_outcome-either_of false false false = refl

plus_outcome-both_of : (x y z : Bool) → plus_outcome (can x y z) ≡ seq_outcome (can x y z) (star_outcome (can x y z))
plus_outcome-both_of true true true = refl
plus_outcome-both_of true true false = refl
plus_outcome-both_of true false true = refl
plus_outcome-both_of true false false = refl
plus_outcome-both_of false true true = refl
plus_outcome-both_of false true false = refl
plus_outcome-both_of false false true = refl
plus_outcome-both_of false false false = refl

and_outcome-not_of : (x y z : Bool) → and_outcome (can x y z) ≡ not_outcome (not_outcome (can x y z))
and_outcome-not_of true true true = refl
and_outcome-not_of true true false = refl
and_outcome-not_of true false true = refl
and_outcome-not_of true false false = refl
and_outcome-not_of false true true = refl
and_outcome-not_of false true false = refl
and_outcome-not_of false false true = refl
and_outcome-not_of false false false = refl

-- a part and then nothing is the part
seq_outcome-nothing : (a : Can) → seq_outcome a always_empty ≡ a
seq_outcome-nothing a = seq_outcome-nothing_of a.nothing a.something a.fails

-- `e?` is `e / ''`, `e+` is `e e*`, `&e` is `!(!e)`
optional_outcome-choice_outcome : (a : Can) → optional_outcome a ≡ choice_outcome a always_empty
optional_outcome-choice_outcome a = optional_outcome-either_of a.nothing a.something a.fails

plus_outcome-seq_outcome : (a : Can) → plus_outcome a ≡ seq_outcome a (star_outcome a)
plus_outcome-seq_outcome a = plus_outcome-both_of a.nothing a.something a.fails

and_outcome-not : (a : Can) → and_outcome a ≡ not_outcome (not_outcome a)
and_outcome-not a = and_outcome-not_of a.nothing a.something a.fails

-- a set with some byte is a terminal that may match
can_of_some : (some : Bool) → some ≡ true → consumes_or_fails ≡ can false some true
can_of_some some is = ap (λ b. can false b true) (sym is)

-- ---- parts that are built of empty expressions alone

-- a part that neither consumes nor fails, and again the part, is the part once
abbrev IsQuiet : Can → Type 0
IsQuiet a = (a.something ≡ false) × (a.fails ≡ false)

seq_outcome-again_of : (n x y z : Bool)
    → seq_outcome (can n false false) (seq_outcome (can n false false) (can x y z)) ≡ seq_outcome (can n false false) (can x y z)
seq_outcome-again_of false x y z = refl
seq_outcome-again_of true true true true = refl
seq_outcome-again_of true true true false = refl
seq_outcome-again_of true true false true = refl
seq_outcome-again_of true true false false = refl
seq_outcome-again_of true false true true = refl
seq_outcome-again_of true false true false = refl
seq_outcome-again_of true false false true = refl
seq_outcome-again_of true false false false = refl

seq_outcome-again : (a b : Can) → IsQuiet a → seq_outcome a (seq_outcome a b) ≡ seq_outcome a b
seq_outcome-again a b quiet =
    let is : can a.nothing false false ≡ a = λ i. can a.nothing (sym quiet.0 i) (sym quiet.1 i) in
    subst (λ c. seq_outcome c (seq_outcome c b) ≡ seq_outcome c b) is
    (seq_outcome-again_of a.nothing b.nothing b.something b.fails)

seq_outcome-quiet : (a b : Can) → IsQuiet a → IsQuiet b → IsQuiet (seq_outcome a b)
seq_outcome-quiet a b quiet also =
    let is : can a.nothing false false ≡ a = λ i. can a.nothing (sym quiet.0 i) (sym quiet.1 i) in
    let as_well : can b.nothing false false ≡ b = λ i. can b.nothing (sym also.0 i) (sym also.1 i) in
    subst (λ c. IsQuiet (seq_outcome c b)) is
    (subst (λ d. IsQuiet (seq_outcome (can a.nothing false false) d)) as_well (by a.nothing b.nothing))
  where
    by : (x y : Bool) → IsQuiet (seq_outcome (can x false false) (can y false false))
    by true true = (refl, refl)
    by true false = (refl, refl)
    by false y = (refl, refl)

unset : (b c : Bool) → (b ≡ true → c ≡ true) → c ≡ false → b ≡ false
unset true c to is = sym (to refl) ∙ is
unset false c to is = refl

CanAll-quiet : (a b : Can) → CanAll a b → IsQuiet b → IsQuiet a
CanAll-quiet a b all quiet = (unset a.something b.something all.something quiet.0, unset a.fails b.fails all.fails quiet.1)

-- the outcomes of a count without the iterations that are left out
repeat_outcome-left_out : (part : CoreForm) (a : Can) → (is_all_empty part ≡ true → IsQuiet a) → (min max : ℕ)
    → repeat_outcome a min (suc max) ≡ repeat_outcome a (min - left_out part min) (suc (max - left_out part min))
repeat_outcome-left_out part a quiet min max =
    left_out-same (repeat_outcome a) part (λ empty min. refl)
    (λ empty min max. seq_outcome-again a (repeat_outcome a min max) (quiet empty)) min max

-- ---- outcomes in some round

-- outcomes by rounds, which stay in later rounds
abbrev Grows : (ℕ → Can) → Type 0
Grows f = (n : ℕ) → CanAll (f n) (f (suc n))

-- all these outcomes are reached in some round
abbrev Shows : Can → (ℕ → Can) → Type 0
Shows a f = (n : ℕ) × CanAll a (f n)

grown : (f : ℕ → Can) → Grows f → (more n : ℕ) → CanAll (f n) (f (more + n))
grown f grows zero n = rw zero-add (CanAll-refl (f n))
grown f grows (suc more) n =
    rw suc-add (CanAll-trans (f n) (f (more + n)) (f (suc (more + n))) (grown f grows more n) (grows (more + n)))

Shows-shift : (a : Can) (f : ℕ → Can) → Shows a (λ n. f (suc n)) → Shows a f
Shows-shift a f h = (suc h.0, h.1)

Shows-unshift : (a : Can) (f : ℕ → Can) → Grows f → Shows a f → Shows a (λ n. f (suc n))
Shows-unshift a f grows h = (h.0, CanAll-trans a (f h.0) (f (suc h.0)) h.1 (grows h.0))

Shows-from : (a b : Can) (f : ℕ → Can) → a ≡ b → Shows b f → Shows a f
Shows-from a b f same h = subst (λ c. Shows c f) (sym same) h

Shows-same : (a : Can) (f g : ℕ → Can) → ((n : ℕ) → f n ≡ g n) → Shows a f → Shows a g
Shows-same a f g same h = (h.0, subst (CanAll a) (same h.0) h.1)

Shows-constant : (a : Can) → Shows a (λ n. a)
Shows-constant a = (0, CanAll-refl a)

Shows-no_outcome : (f : ℕ → Can) → Shows no_outcome f
Shows-no_outcome f = (0, CanAll-no_outcome (f 0))

-- one rule with two parts
module _ (a b : Can) (f g : ℕ → Can) (grows : Grows f) (also : Grows g) (h : Shows a f) (k : Shows b g) where
  first_later : CanAll a (f (k.0 + h.0))
  first_later = CanAll-trans a (f h.0) (f (k.0 + h.0)) h.1 (grown f grows k.0 h.0)

  second_later : CanAll b (g (k.0 + h.0))
  second_later =
      subst (λ n. CanAll b (g n)) (add_comm h.0 k.0)
      (CanAll-trans b (g k.0) (g (h.0 + k.0)) k.1 (grown g also h.0 k.0))

  Shows-seq_outcome : Shows (seq_outcome a b) (λ n. seq_outcome (f n) (g n))
  Shows-seq_outcome = (k.0 + h.0, CanAll-seq_outcome a b (f (k.0 + h.0)) (g (k.0 + h.0)) first_later second_later)

  Shows-choice_outcome : Shows (choice_outcome a b) (λ n. choice_outcome (f n) (g n))
  Shows-choice_outcome = (k.0 + h.0, CanAll-choice_outcome a b (f (k.0 + h.0)) (g (k.0 + h.0)) first_later second_later)

module _ (rules : List grammar.Rule) where
  abbrev bodies : List CoreForm
  bodies = core_bodies rules

  -- the outcomes of a core form, and of a written expression, by rounds
  abbrev core : CoreForm → ℕ → Can
  core form n = core_can_in bodies n form

  abbrev written : Form → ℕ → Can
  written e n = can_in rules n e

  core-grows : (form : CoreForm) → Grows (core form)
  core-grows form n = core_can_in-more bodies n form

  written-grows : (e : Form) → Grows (written e)
  written-grows e n = can_in-more rules n e

  -- ---- the outcomes of core forms, from those of their parts

  core-Empty : Shows always_empty (core Empty)
  unfolding core_can_in
  core-Empty = Shows-shift always_empty (core Empty) (Shows-constant always_empty)

  core-Test : (set : List Bool) (terminal : ℕ) → Shows (can_of_set set) (core (Test set terminal))
  unfolding core_can_in
  core-Test set terminal = Shows-shift (can_of_set set) (core (Test set terminal)) (Shows-constant (can_of_set set))

  core-Rule : (rule : ℕ) (body : CoreForm) (a : Can) → slice_get bodies rule ≡ Some body → Shows a (core body)
      → Shows a (core (Rule rule))
  unfolding core_can_in
  core-Rule rule body a is h =
      Shows-shift a (core (Rule rule))
      (Shows-same a (core body) (λ n. outcome_of_body (core_can_in bodies n) (slice_get bodies rule))
      (λ n. sym (ap (outcome_of_body (core_can_in bodies n)) is)) h)

  core-Seq : (first rest : CoreForm) (a b : Can) → Shows a (core first) → Shows b (core rest)
      → Shows (seq_outcome a b) (core (Seq first rest))
  unfolding core_can_in
  core-Seq first rest a b h k =
      Shows-shift (seq_outcome a b) (core (Seq first rest))
      (Shows-seq_outcome a b (core first) (core rest) (core-grows first) (core-grows rest) h k)

  core-Choice : (first rest : CoreForm) (a b : Can) → Shows a (core first) → Shows b (core rest)
      → Shows (choice_outcome a b) (core (Choice first rest))
  unfolding core_can_in
  core-Choice first rest a b h k =
      Shows-shift (choice_outcome a b) (core (Choice first rest))
      (Shows-choice_outcome a b (core first) (core rest) (core-grows first) (core-grows rest) h k)

  core-Star : (part : CoreForm) (origin : Extent) (a : Can) → Shows a (core part)
      → Shows (star_outcome a) (core (Star part origin))
  unfolding core_can_in
  core-Star part origin a h =
      Shows-shift (star_outcome a) (core (Star part origin)) (h.0, CanAll-star_outcome a (core part h.0) h.1)

  core-Not : (part : CoreForm) (a : Can) → Shows a (core part) → Shows (not_outcome a) (core (Not part))
  unfolding core_can_in
  core-Not part a h = Shows-shift (not_outcome a) (core (Not part)) (h.0, CanAll-not_outcome a (core part h.0) h.1)

  -- a count, iteration by iteration
  core-unfolded : (part : CoreForm) (a : Can) → Shows a (core part) → (min max : ℕ)
      → Shows (repeat_outcome a min max) (core (unfolded part min max))
  core-unfolded part a h min zero = core-Empty
  core-unfolded part a h zero (suc max) =
      let inner = unfolded part zero max in
      let round = seq_outcome a (repeat_outcome a zero max) in
      Shows-from (optional_outcome round) (choice_outcome round always_empty) (core (Choice (Seq part inner) Empty)) (optional_outcome-choice_outcome round)
      (core-Choice (Seq part inner) Empty round always_empty
      (core-Seq part inner a (repeat_outcome a zero max) h (core-unfolded part a h zero max)) core-Empty)
  core-unfolded part a h (suc min) (suc max) =
      core-Seq part (unfolded part min max) a (repeat_outcome a min max) h (core-unfolded part a h min max)

  -- a form of empty expressions alone neither consumes nor fails
  core-quiet : (form : CoreForm) → is_all_empty form ≡ true → (n : ℕ) → IsQuiet (core form n)
  unfolding core_can_in
  core-quiet form empty zero = (refl, refl)
  core-quiet Empty empty (suc n) = (refl, refl)
  core-quiet (Test set terminal) empty (suc n) = cc
  core-quiet (Rule rule) empty (suc n) = cc
  core-quiet (Seq first rest) empty (suc n) =
      seq_outcome-quiet (core first n) (core rest n) (core-quiet first (first-all_empty first rest empty) n)
      (core-quiet rest (rest-all_empty first rest empty) n)
  core-quiet (Choice first rest) empty (suc n) = cc
  core-quiet (Star part origin) empty (suc n) = cc
  core-quiet (Not part) empty (suc n) = cc

  shown-quiet : (part : CoreForm) (a : Can) → Shows a (core part) → is_all_empty part ≡ true → IsQuiet a
  shown-quiet part a h empty = CanAll-quiet a (core part h.0) h.1 (core-quiet part empty h.0)

  core-count : (part : CoreForm) (a : Can) → Shows a (core part) → (min max : ℕ)
      → Shows (repeat_outcome a min max) (core (count_form part min max))
  core-count part a h min zero = core-Choice Empty part always_empty a core-Empty h
  core-count part a h min (suc max) =
      let least = min - left_out part min in
      let most = suc (max - left_out part min) in
      Shows-from (repeat_outcome a min (suc max)) (repeat_outcome a least most) (core (unfolded part least most))
      (repeat_outcome-left_out part a (shown-quiet part a h) min max) (core-unfolded part a h least most)

  -- the tests of a literal
  to_tests : (b : ℕ) (bs : List ℕ) (terminal : ℕ)
      → Shows consumes_or_fails (core (in_order (Test (only b) terminal) (tests_of terminal bs)))
  to_tests b [] terminal =
      Shows-from consumes_or_fails (can_of_set (only b)) (core (Test (only b) terminal))
      (can_of_some _ (has_some-only b)) (core-Test (only b) terminal)
  to_tests b (c ∷ bs) terminal =
      core-Seq (Test (only b) terminal) (in_order (Test (only c) terminal) (tests_of terminal bs)) consumes_or_fails
      consumes_or_fails
      (Shows-from consumes_or_fails (can_of_set (only b)) (core (Test (only b) terminal))
      (can_of_some _ (has_some-only b)) (core-Test (only b) terminal))
      (to_tests c bs terminal)

  -- ---- from a written expression to its core form

  abbrev ToCore : ℕ → Type 0
  ToCore n = (e : Form) (terminal : ℕ) → Shows (can_in rules n e) (core (core_form rules terminal e))

  module _ (n : ℕ) (h : ToCore n) where
    to_items : (items : Forms) (terminal : ℕ)
        → Shows (outcome_of_items (can_in rules n) items) (core (all_in_order (core_forms rules terminal items)))
    to_items End terminal = core-Empty
    to_items (Then e End) terminal =
        Shows-from (seq_outcome (can_in rules n e) always_empty) (can_in rules n e) (core (core_form rules terminal e))
        (seq_outcome-nothing (can_in rules n e)) (h e terminal)
    to_items (Then e (Then f rest)) terminal =
        core-Seq (core_form rules terminal e) (all_in_order (core_forms rules (terminal + terminals e) (Then f rest)))
        (can_in rules n e) (outcome_of_items (can_in rules n) (Then f rest)) (h e terminal)
        (to_items (Then f rest) (terminal + terminals e))

    to_first : (e : Form) (rest : Forms) (terminal : ℕ)
        → Shows (outcome_of_choice (can_in rules n) e rest)
        (core (one_of (core_form rules terminal e) (core_forms rules (terminal + terminals e) rest)))
    to_first e End terminal = h e terminal
    to_first e (Then next rest) terminal =
        let later = terminal + terminals e in
        core-Choice (core_form rules terminal e)
        (one_of (core_form rules later next) (core_forms rules (later + terminals next) rest)) (can_in rules n e)
        (outcome_of_choice (can_in rules n) next rest) (h e terminal) (to_first next rest later)

    to_meaning : (name : List ℕ) (meaning : Option Meaning) → meaning_of rules name ≡ meaning
        → Shows (outcome_of_meaning (can_in rules n) meaning) (core (Rule (number_of rules name)))
    to_meaning name None is = Shows-no_outcome (core (Rule (number_of rules name)))
    to_meaning name (Some m) is =
        core-Rule (number_of rules name) (core_form rules m.terminal m.body) (can_in rules n m.body)
        (body-meaning_of rules name m is) (h m.body m.terminal)

    to_core-table : (e : Form) (terminal : ℕ)
        → Shows (can_table rules (can_in rules n) e) (core (core_form rules terminal e))
    to_core-table (Literal [] span) terminal = core-Empty
    to_core-table (Literal (b ∷ bs) span) terminal = to_tests b bs terminal
    to_core-table (Class set span) terminal = core-Test set terminal
    to_core-table (Any span) terminal =
        Shows-from consumes_or_fails (can_of_set all_bytes) (core (Test all_bytes terminal))
        (can_of_some _ has_some-all_bytes) (core-Test all_bytes terminal)
    to_core-table (Name name span) terminal = to_meaning name (meaning_of rules name) refl
    to_core-table (written_form.Seq items span) terminal = to_items items terminal
    to_core-table (written_form.Choice first rest span) terminal = to_first first rest terminal
    to_core-table (Optional part span) terminal =
        let a = can_in rules n part in
        Shows-from (optional_outcome a) (choice_outcome a always_empty) (core (Choice (core_form rules terminal part) Empty))
        (optional_outcome-choice_outcome a)
        (core-Choice (core_form rules terminal part) Empty a always_empty (h part terminal) core-Empty)
    to_core-table (written_form.Star part span) terminal =
        core-Star (core_form rules terminal part) span (can_in rules n part) (h part terminal)
    to_core-table (Plus part span) terminal =
        let a = can_in rules n part in
        let form = core_form rules terminal part in
        Shows-from (plus_outcome a) (seq_outcome a (star_outcome a)) (core (Seq form (Star form span))) (plus_outcome-seq_outcome a)
        (core-Seq form (Star form span) a (star_outcome a) (h part terminal) (core-Star form span a (h part terminal)))
    to_core-table (Counted part min max span) terminal =
        core-count (core_form rules terminal part) (can_in rules n part) (h part terminal) min max
    to_core-table (And part span) terminal =
        let a = can_in rules n part in
        let form = core_form rules terminal part in
        Shows-from (and_outcome a) (not_outcome (not_outcome a)) (core (Not (Not form))) (and_outcome-not a)
        (core-Not (Not form) (not_outcome a) (core-Not form a (h part terminal)))
    to_core-table (written_form.Not part span) terminal =
        core-Not (core_form rules terminal part) (can_in rules n part) (h part terminal)

  pub to_core : (n : ℕ) → ToCore n
  unfolding can_in
  to_core zero = λ e terminal. Shows-no_outcome (core (core_form rules terminal e))
  to_core (suc n) = λ e terminal. to_core-table n (to_core n) e terminal

  -- ---- from a core form to the written expression

  abbrev FromCore : ℕ → Type 0
  FromCore n = (e : Form) (terminal : ℕ) → Shows (core (core_form rules terminal e) n) (written e)

  -- outcomes of a written form, from its line of the table
  shown : (e : Form) (a : Can) → Shows a (λ n. can_table rules (can_in rules n) e) → Shows a (written e)
  unfolding can_in
  shown e a h = Shows-shift a (written e) h

  -- and the other way
  unshown : (e : Form) (a : Can) → Shows a (written e) → Shows a (λ n. can_table rules (can_in rules n) e)
  unfolding can_in
  unshown e a h = Shows-unshift a (written e) (written-grows e) h

  abbrev tabled : ℕ → CoreForm → Can
  tabled n form = core_can_table bodies (core_can_in bodies n) form

  from_empty : (n : ℕ) → Shows (core Empty n) (λ m. always_empty)
  unfolding core_can_in
  from_empty zero = Shows-no_outcome (λ m. always_empty)
  from_empty (suc n) = Shows-constant always_empty

  from_test : (n : ℕ) (set : List Bool) (terminal : ℕ) → Shows (core (Test set terminal) n) (λ m. can_of_set set)
  unfolding core_can_in
  from_test zero set terminal = Shows-no_outcome (λ m. can_of_set set)
  from_test (suc n) set terminal = Shows-constant (can_of_set set)

  one_test : (n b terminal : ℕ) → Shows (core (Test (only b) terminal) n) (λ m. consumes_or_fails)
  one_test n b terminal =
      Shows-same (core (Test (only b) terminal) n) (λ m. can_of_set (only b)) (λ m. consumes_or_fails)
      (λ m. sym (can_of_some _ (has_some-only b))) (from_test n (only b) terminal)

  -- all tests of a literal, in any number of rounds
  from_tests : (n b : ℕ) (bs : List ℕ) (terminal : ℕ)
      → Shows (core (in_order (Test (only b) terminal) (tests_of terminal bs)) n) (λ m. consumes_or_fails)
  unfolding core_can_in
  from_tests zero b bs terminal = Shows-no_outcome (λ m. consumes_or_fails)
  from_tests (suc n) b [] terminal = one_test (suc n) b terminal
  from_tests (suc n) b (c ∷ bs) terminal =
      let rest = in_order (Test (only c) terminal) (tests_of terminal bs) in
      Shows-seq_outcome (core (Test (only b) terminal) n) (core rest n) (λ m. consumes_or_fails) (λ m. consumes_or_fails)
      (λ m. CanAll-refl consumes_or_fails) (λ m. CanAll-refl consumes_or_fails) (one_test n b terminal)
      (from_tests n c bs terminal)

  -- what one round of a part shows, its outcomes in fewer rounds show too
  sooner : (part : CoreForm) (f : ℕ → Can) (n : ℕ) → Shows (core part (suc n)) f → Shows (core part n) f
  sooner part f n h = (h.0, CanAll-trans (core part n) (core part (suc n)) (f h.0) (core-grows part n) h.1)

  -- a count, iteration by iteration, in any number of rounds
  from_unfolded : (part : CoreForm) (f : ℕ → Can) → Grows f → (min max n : ℕ) → Shows (core part n) f
      → Shows (core (unfolded part min max) n) (λ m. repeat_outcome (f m) min max)
  unfolding core_can_in
  from_unfolded part f grows min zero n h = from_empty n
  from_unfolded part f grows zero (suc max) zero h = Shows-no_outcome (λ m. repeat_outcome (f m) zero (suc max))
  from_unfolded part f grows zero (suc max) (suc zero) h = Shows-no_outcome (λ m. repeat_outcome (f m) zero (suc max))
  from_unfolded part f grows zero (suc max) (suc (suc n)) h =
      let a = core part n in
      let b = core (unfolded part zero max) n in
      let k = sooner part f n (sooner part f (suc n) h) in
      let round = λ (m : ℕ). seq_outcome (f m) (repeat_outcome (f m) zero max) in
      let inner = from_unfolded part f grows zero max n k in
      Shows-same (choice_outcome (seq_outcome a b) always_empty) (λ m. choice_outcome (round m) always_empty) (λ m. optional_outcome (round m))
      (λ m. sym (optional_outcome-choice_outcome (round m)))
      (Shows-choice_outcome (seq_outcome a b) always_empty round (λ m. always_empty)
      (λ m. CanAll-seq_outcome (f m) (repeat_outcome (f m) zero max) (f (suc m)) (repeat_outcome (f (suc m)) zero max) (grows m)
      (CanAll-repeat_outcome (f m) (f (suc m)) (grows m) zero max)) (λ m. CanAll-refl always_empty)
      (Shows-seq_outcome a b f (λ m. repeat_outcome (f m) zero max) grows (λ m. CanAll-repeat_outcome (f m) (f (suc m)) (grows m) zero max) k inner)
      (Shows-constant always_empty))
  from_unfolded part f grows (suc min) (suc max) zero h = Shows-no_outcome (λ m. repeat_outcome (f m) (suc min) (suc max))
  from_unfolded part f grows (suc min) (suc max) (suc n) h =
      let k = sooner part f n h in
      Shows-seq_outcome (core part n) (core (unfolded part min max) n) f (λ m. repeat_outcome (f m) min max) grows
      (λ m. CanAll-repeat_outcome (f m) (f (suc m)) (grows m) min max) k (from_unfolded part f grows min max n k)

  from_count : (part : CoreForm) (f : ℕ → Can) → Grows f → (is_all_empty part ≡ true → (m : ℕ) → IsQuiet (f m))
      → (min max n : ℕ) → Shows (tabled n part) f
      → Shows (tabled n (count_form part min max)) (λ m. repeat_outcome (f m) min max)
  unfolding core_can_in
  from_count part f grows quiet min zero zero h = Shows-no_outcome (λ m. always_empty)
  from_count part f grows quiet min zero (suc n) h = Shows-constant always_empty
  from_count part f grows quiet min (suc max) n h =
      let least = min - left_out part min in
      let most = suc (max - left_out part min) in
      Shows-same (tabled n (unfolded part least most)) (λ m. repeat_outcome (f m) least most)
      (λ m. repeat_outcome (f m) min (suc max))
      (λ m. sym (repeat_outcome-left_out part (f m) (λ empty. quiet empty m) min max))
      (from_unfolded part f grows least most (suc n) h)

  -- items and alternatives of written expressions, by rounds
  abbrev items_in : Forms → ℕ → Can
  items_in items n = outcome_of_items (can_in rules n) items

  abbrev first_in : Form → Forms → ℕ → Can
  first_in e rest n = outcome_of_choice (can_in rules n) e rest

  items-grow : (items : Forms) → Grows (items_in items)
  items-grow items n = CanAll-items (can_in rules n) (can_in rules (suc n)) (can_in-more rules n) items

  first-grows : (e : Form) (rest : Forms) → Grows (first_in e rest)
  first-grows e rest n = CanAll-first (can_in rules n) (can_in rules (suc n)) (can_in-more rules n) e rest

  module _ (n : ℕ) (h : FromCore n) where
    from_first : (e next : Form) (rest : Forms) (span : Extent) (terminal : ℕ)
        → Shows (tabled n (core_form rules terminal (written_form.Choice e (Then next rest) span)))
        (first_in e (Then next rest))
    from_first e next rest span terminal =
        let later = terminal + terminals e in
        let others : Form = written_form.Choice next rest span in
        Shows-choice_outcome (core (core_form rules terminal e) n) (core (core_form rules later others) n) (written e)
        (first_in next rest) (written-grows e) (first-grows next rest) (h e terminal)
        (unshown others (core (core_form rules later others) n) (h others later))

    from_meaning : (name : List ℕ) (span : Extent) (terminal : ℕ) (meaning : Option Meaning) → meaning_of rules name ≡ meaning
        → Shows (tabled n (Rule (number_of rules name))) (written (Name name span))
    from_meaning name span terminal None is =
        Shows-from (tabled n (Rule (number_of rules name))) no_outcome (written (Name name span))
        (ap (outcome_of_body (core_can_in bodies n)) (body-unmeant rules name is)) (Shows-no_outcome (written (Name name span)))
    from_meaning name span terminal (Some m) is =
        let form = core_form rules m.terminal m.body in
        Shows-from (tabled n (Rule (number_of rules name))) (core form n) (written (Name name span))
        (ap (outcome_of_body (core_can_in bodies n)) (body-meaning_of rules name m is))
        (shown (Name name span) (core form n)
        (Shows-same (core form n) (written m.body) (λ k. outcome_of_meaning (can_in rules k) (meaning_of rules name))
        (λ k. sym (ap (outcome_of_meaning (can_in rules k)) is)) (h m.body m.terminal)))

    from_literal : (bs : List ℕ) (span : Extent) (terminal : ℕ)
        → Shows (tabled n (all_in_order (tests_of terminal bs))) (written (Literal bs span))
    unfolding core_can_in
    from_literal [] span terminal = shown (Literal [] span) always_empty (Shows-constant always_empty)
    from_literal (b ∷ bs) span terminal =
        shown (Literal (b ∷ bs) span) (tabled n (all_in_order (tests_of terminal (b ∷ bs))))
        (from_tests (suc n) b bs terminal)

    mutual
      from_core-table : (e : Form) (terminal : ℕ) → Shows (tabled n (core_form rules terminal e)) (written e)
      from_core-table (Literal bs span) terminal = from_literal bs span terminal
      from_core-table (Class set span) terminal =
          shown (Class set span) (can_of_set set) (Shows-constant (can_of_set set))
      from_core-table (Any span) terminal =
          shown (Any span) (can_of_set all_bytes)
          (Shows-same (can_of_set all_bytes) (λ m. can_of_set all_bytes) (λ m. consumes_or_fails)
          (λ m. sym (can_of_some _ has_some-all_bytes)) (Shows-constant (can_of_set all_bytes)))
      from_core-table (Name name span) terminal = from_meaning name span terminal (meaning_of rules name) refl
      from_core-table (written_form.Seq items span) terminal =
          shown (written_form.Seq items span) (tabled n (all_in_order (core_forms rules terminal items)))
          (from_items items span terminal)
      from_core-table (written_form.Choice first End span) terminal =
          shown (written_form.Choice first End span) (tabled n (core_form rules terminal first))
          (from_core-table first terminal)
      from_core-table (written_form.Choice first (Then next rest) span) terminal =
          let e : Form = written_form.Choice first (Then next rest) span in
          shown e (tabled n (core_form rules terminal e)) (from_first first next rest span terminal)
      from_core-table (Optional part span) terminal =
          let a = core (core_form rules terminal part) n in
          shown (Optional part span) (choice_outcome a (core Empty n))
          (Shows-same (choice_outcome a (core Empty n)) (λ m. choice_outcome (written part m) always_empty) (λ m. optional_outcome (written part m))
          (λ m. sym (optional_outcome-choice_outcome (written part m)))
          (Shows-choice_outcome a (core Empty n) (written part) (λ m. always_empty) (written-grows part)
          (λ m. CanAll-refl always_empty) (h part terminal) (from_empty n)))
      from_core-table (written_form.Star part span) terminal =
          let a = core (core_form rules terminal part) n in
          let k = h part terminal in
          shown (written_form.Star part span) (star_outcome a) (k.0, CanAll-star_outcome a (written part k.0) k.1)
      from_core-table (Plus part span) terminal =
          let star : Form = written_form.Star part span in
          let a = core (core_form rules terminal part) n in
          let b = core (core_form rules terminal star) n in
          shown (Plus part span) (seq_outcome a b)
          (Shows-same (seq_outcome a b) (λ m. seq_outcome (written part m) (star_outcome (written part m))) (λ m. plus_outcome (written part m))
          (λ m. sym (plus_outcome-seq_outcome (written part m)))
          (Shows-seq_outcome a b (written part) (λ m. star_outcome (written part m)) (written-grows part)
          (λ m. CanAll-star_outcome (written part m) (written part (suc m)) (written-grows part m)) (h part terminal)
          (unshown star b (h star terminal))))
      from_core-table (Counted part min max span) terminal =
          let form = core_form rules terminal part in
          shown (Counted part min max span) (tabled n (count_form form min max))
          (from_count form (written part) (written-grows part)
          (λ empty m. shown-quiet form (written part m) (to_core m part terminal) empty) min max n (from_core-table part terminal))
      from_core-table (And part span) terminal =
          let not : Form = written_form.Not part span in
          let b = core (core_form rules terminal not) n in
          let k = unshown not b (h not terminal) in
          shown (And part span) (not_outcome b)
          (Shows-same (not_outcome b) (λ m. not_outcome (not_outcome (written part m))) (λ m. and_outcome (written part m))
          (λ m. sym (and_outcome-not (written part m))) (k.0, CanAll-not_outcome b (not_outcome (written part k.0)) k.1))
      from_core-table (written_form.Not part span) terminal =
          let a = core (core_form rules terminal part) n in
          let k = h part terminal in
          shown (written_form.Not part span) (not_outcome a) (k.0, CanAll-not_outcome a (written part k.0) k.1)

      from_items : (items : Forms) (span : Extent) (terminal : ℕ)
          → Shows (tabled n (all_in_order (core_forms rules terminal items))) (items_in items)
      from_items End span terminal = Shows-constant always_empty
      from_items (Then e End) span terminal =
          let a = tabled n (core_form rules terminal e) in
          Shows-same a (written e) (items_in (Then e End)) (λ m. sym (seq_outcome-nothing (written e m)))
          (from_core-table e terminal)
      from_items (Then e (Then f rest)) span terminal =
          let later = terminal + terminals e in
          let items : Form = written_form.Seq (Then f rest) span in
          Shows-seq_outcome (core (core_form rules terminal e) n) (core (core_form rules later items) n) (written e)
          (items_in (Then f rest)) (written-grows e) (items-grow (Then f rest)) (h e terminal)
          (unshown items (core (core_form rules later items) n) (h items later))

  pub from_core : (n : ℕ) → FromCore n
  unfolding core_can_in
  from_core zero = λ e terminal. Shows-no_outcome (written e)
  from_core (suc n) = λ e terminal. from_core-table n (from_core n) e terminal

-- the outcomes of a written expression are those of its core form
module _ (rules : List grammar.Rule) (e : Form) (terminal : ℕ) where
  pub GivesNothing-to_core : GivesNothing rules e → CoreGivesNothing (core_bodies rules) (core_form rules terminal e)
  GivesNothing-to_core gives =
      let shows = to_core rules gives.0 e terminal in (shows.0, shows.1.nothing gives.1)

  pub GivesNothing-from_core : CoreGivesNothing (core_bodies rules) (core_form rules terminal e) → GivesNothing rules e
  GivesNothing-from_core gives =
      let shows = from_core rules gives.0 e terminal in (shows.0, shows.1.nothing gives.1)

  pub GivesSomething-to_core : GivesSomething rules e → CoreGivesSomething (core_bodies rules) (core_form rules terminal e)
  GivesSomething-to_core gives =
      let shows = to_core rules gives.0 e terminal in (shows.0, shows.1.something gives.1)

  pub GivesSomething-from_core : CoreGivesSomething (core_bodies rules) (core_form rules terminal e) → GivesSomething rules e
  GivesSomething-from_core gives =
      let shows = from_core rules gives.0 e terminal in (shows.0, shows.1.something gives.1)

  pub CanFail-to_core : CanFail rules e → CoreCanFail (core_bodies rules) (core_form rules terminal e)
  CanFail-to_core gives = let shows = to_core rules gives.0 e terminal in (shows.0, shows.1.fails gives.1)

  pub CanFail-from_core : CoreCanFail (core_bodies rules) (core_form rules terminal e) → CanFail rules e
  CanFail-from_core gives = let shows = from_core rules gives.0 e terminal in (shows.0, shows.1.fails gives.1)
