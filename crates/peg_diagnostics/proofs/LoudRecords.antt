-- The record of a loud expression in the diagnostic grammar has the result, the failed items and the calls of the
-- blame.
use Rattle.std.proofs.Common.{◌≡◌, ℕ, zero, suc, ◌+◌, Bool, true, false, if◌then◌else◌, List, [], ◌∷◌, ◌++◌, drop}
use Rattle.std.proofs.Common.{Option, None, Some, IfSome, refl, sym, ap, ap₂, ◌∙◌, subst, arith, option_map}
use Rattle.std.proofs.Common.{option_and_then}
use Rattle.std.proofs.Common.{filter_map, ◌==◌, ◌<◌, ◌≤◌, nat_lt}
use Rattle.std.specs.List.{cons_option}
use Rattle.std.proofs.lemmas.Bool.{lt-ltb, le-ltb}
use Rattle.std.proofs.lemmas.List.Elements.{filter-append, filter_map-append}
use Rattle.peg_bytes.specs.ByteSet.{has}
use Rattle.peg_bytes.specs.Extent.{Extent}
use Rattle.peg_tree.specs.Trees.{NoTrees, Tree, followed_by}
use Rattle.peg_semantics.specs.Form.{Form, Forms, Literal, Class, Any, Name, Seq, Choice, Optional, Star, Plus, Counted}
use Rattle.peg_semantics.specs.Form.{And, Not, End, Then, terminals}
use Rattle.peg_semantics.specs.Record.{Recognition, Failed, Matched, Record, Recognizer, Test, test_of, matched_at}
use Rattle.peg_semantics.specs.Record.{failed_at, RuleCall}
use Rattle.peg_semantics.specs.Record.{or_else, choice_result, as_call, literal_at, byte_at}
use Rattle.peg_semantics.specs.Record.{if_matched, if_failed, with_result, recognize_seq, recognize_choice, table}
use Rattle.peg_semantics.specs.Record.{record_in}
use Rattle.peg_semantics.specs.Rules.{Rule, Meaning, meaning_of}
use Rattle.peg_semantics.specs.TestsAmong.{renumbered}
use Rattle.peg_semantics.proofs.RecordLemmas.{record_in-more, record_in-later}
use Rattle.peg_diagnostics.specs.Blame.{item_blame, blame_item, blame_seq, blame_choice, blame_table, blame_in}
use Rattle.peg_diagnostics.specs.Diagnostic.{quiet, quiet_name, no_bytes, or_fail, loud, loud_all}
use Rattle.peg_diagnostics.specs.Items.{items, item_meaning_of}
use Rattle.peg_diagnostics.specs.LoudCalls.{calls_of_first}
use Rattle.peg_diagnostics.specs.Placed.{IsItemAt, IsPlaced, AreAllPlaced}
use Rattle.peg_diagnostics.proofs.EmptySet.{has-no_bytes}
use Rattle.peg_diagnostics.proofs.Renaming.{EachFrom, HasCopy, Simulates-rename, terminals-rename}
use Rattle.peg_diagnostics.proofs.Simulation.{Likeness, SameResult, IsLike, Follows, Simulates, Simulates-extends}
use Rattle.peg_diagnostics.proofs.Simulation.{call_of, SameCall}
use Rattle.peg_diagnostics.proofs.Simulation.{Simulates-map, Simulates-matched_at, Simulates-then_at, Simulates-or_else}
use Rattle.peg_diagnostics.proofs.Simulation.{Simulates-rounds, Simulates-recognize_repeat, IsLike-as_call}

-- the failed tests of added empty classes as failed tests of items, given the item of each terminal that has one
abbrev pub tests_by : (ℕ → Option ℕ) → List Test → List Test
tests_by item tests = filter_map (renumbered item) tests

-- whether a call is of one of a grammar's first rules, given the number of these rules
abbrev is_of_first : (count : ℕ) → RuleCall → Bool
is_of_first count call = nat_lt call.rule count

-- Results of the same kind and end. The second has no failed test of an added empty class, and no call of a loud rule.
abbrev pub no_items : (ℕ → Option ℕ) → (count : ℕ) → Likeness
no_items item count = record {
  Same = λ a b. Unit {0};
  Fit = λ a b. tests_by item b ≡ [];
  Calls = λ a b. calls_of_first count b ≡ [];
  no_trees = tt;
  more_trees = λ a b c d same more. tt;
  no_tests = refl;
  more_tests = λ a b c d first second. filter_map-append (renumbered item) b d ∙ ap₂ ◌++◌ first second;
  no_calls = refl;
  more_calls = λ a b c d first second. filter-append (is_of_first count) b d ∙ ap₂ ◌++◌ first second;
}

-- The same result. As failed tests of items, the second has the failed tests of the first. Its calls of loud rules are
-- the calls of the first.
abbrev pub same_items : (ℕ → Option ℕ) → (count : ℕ) → Likeness
same_items item count = record {
  Same = λ a b. a ≡ b;
  Fit = λ a b. tests_by item b ≡ a;
  Calls = λ a b. calls_of_first count b ≡ a;
  no_trees = refl;
  more_trees = λ a b c d same more. ap₂ followed_by same more;
  no_tests = refl;
  more_tests = λ a b c d first second. filter_map-append (renumbered item) b d ∙ ap₂ ◌++◌ first second;
  no_calls = refl;
  more_calls = λ a b c d first second. filter-append (is_of_first count) b d ∙ ap₂ ◌++◌ first second;
}

-- A rule after the first rules is no loud rule. No call of it is kept.
pub SameCall-quiet : (item : ℕ → Option ℕ) (count rule other : ℕ) → count ≤ other
    → SameCall (no_items item count) rule other
SameCall-quiet item count rule other above position =
    ap (λ b. if b then call_of other position ∷ [] else []) (le-ltb other count above)

-- each call of a loud rule is kept
SameCall-loud : (item : ℕ → Option ℕ) (count rule other : ℕ) → rule ≡ other → rule < count
    → SameCall (same_items item count) rule other
SameCall-loud item count rule other same below =
    subst (SameCall (same_items item count) rule) same
    (λ position. ap (λ b. if b then call_of rule position ∷ [] else []) (lt-ltb rule count below))

-- a terminal that is no added empty class
abbrev pub IsOwn : (ℕ → Option ℕ) → ℕ → Type 0
IsOwn item terminal = item terminal ≡ None

-- ---- items

-- a match without trees, or a failure
abbrev IsBare : Recognition → Type 0
IsBare Failed = Unit {0}
IsBare (Matched end trees) = trees ≡ NoTrees

-- the result, if there is one, has no trees
abbrev HasNoTrees : Option Record → Type 0
HasNoTrees tried = IfSome tried (λ r. IsBare r.result)

IsBare-literal_at : (terminal position : ℕ) (bytes rest : List ℕ)
    → IsBare (literal_at terminal position bytes rest).result
IsBare-literal_at terminal position [] rest = refl
IsBare-literal_at terminal position (b ∷ bs) [] = tt
IsBare-literal_at terminal position (b ∷ bs) (c ∷ rest) =
    by (b == c) (IsBare-literal_at terminal (position + 1) bs rest)
  where
    by : (same : Bool) → IsBare (literal_at terminal (position + 1) bs rest).result
        → IsBare (if same then literal_at terminal (position + 1) bs rest else failed_at terminal position).result
    by true later = later
    by false later = tt

IsBare-byte_at : (test : ℕ → Bool) (terminal position : ℕ) (rest : List ℕ)
    → IsBare (byte_at test terminal position rest).result
IsBare-byte_at test terminal position [] = tt
IsBare-byte_at test terminal position (c ∷ rest) = by (test c)
  where
    by : (is : Bool) → IsBare (if is then matched_at (position + 1) else failed_at terminal position).result
    by true = refl
    by false = tt

HasNoTrees-and : (position : ℕ) (tried : Option Record)
    → HasNoTrees (option_map (λ (r : Record). with_result r (if_matched r.result position)) tried)
HasNoTrees-and position None = tt
HasNoTrees-and position (Some r) = by r.result
  where
    by : (result : Recognition) → IsBare (if_matched result position)
    by Failed = tt
    by (Matched end trees) = refl

HasNoTrees-not : (position : ℕ) (tried : Option Record)
    → HasNoTrees (option_map (λ (r : Record). with_result r (if_failed r.result position)) tried)
HasNoTrees-not position None = tt
HasNoTrees-not position (Some r) = by r.result
  where
    by : (result : Recognition) → IsBare (if_failed result position)
    by Failed = refl
    by (Matched end trees) = tt

module _ (item : ℕ → Option ℕ) (count : ℕ) where
  -- a failure of the item's terminals, and then of its empty class
  item_tests-fail : (tests : List Test) (terminal number position : ℕ) → tests_by item tests ≡ []
      → item terminal ≡ Some number
      → tests_by item (tests ++ test_of terminal position ∷ []) ≡ test_of number position ∷ []
  item_tests-fail tests terminal number position none is =
      filter_map-append (renumbered item) tests (test_of terminal position ∷ [])
      ∙ ap₂ ◌++◌ none (ap (λ o. cons_option (option_map (λ k. test_of k position) o) []) is)

  IsLike-item : (terminal number position : ℕ) → item terminal ≡ Some number → (x y : Record) → IsBare x.result
      → IsBare y.result → IsLike (no_items item count) x y
      → Follows (same_items item count) (or_else (Some y) (Some (failed_at terminal position)))
      (item_blame number position x.result)
  IsLike-item terminal number position is x y bare' bare'' like =
      by x.result y.result refl bare' bare'' like.results
    where
      by : (result other : Recognition) → y.result ≡ other → IsBare result → IsBare other
          → SameResult (no_items item count) result other
          → Follows (same_items item count) (choice_result other y (Some (failed_at terminal position)))
          (item_blame number position result)
      by Failed Failed at bare also results = (
        record { result = Failed; tests = y.tests ++ test_of terminal position ∷ []; calls = y.calls ++ [] },
        refl,
        record {
          results = tt;
          tests = item_tests-fail y.tests terminal number position like.tests is;
          calls = filter-append (is_of_first count) y.calls [] ∙ ap₂ ◌++◌ like.calls refl;
        },
      )
      by Failed (Matched end trees) at bare also results = absurd results
      by (Matched end trees) Failed at bare also results = absurd results
      by (Matched end trees) (Matched end' trees') at bare also results = (
        y,
        refl,
        record {
          results = subst (λ (r : Recognition). SameResult (same_items item count) (Matched end trees) r) (sym at)
              (results.0, bare ∙ sym also);
          tests = like.tests;
          calls = like.calls;
        },
      )

  -- an item's expression and then its empty class, against the blame of the item
  Simulates-item : (terminal number position : ℕ) → item terminal ≡ Some number → (first second : Option Record)
      → HasNoTrees first → HasNoTrees second → Simulates (no_items item count) first second
      → Simulates (same_items item count) (option_map (λ (r : Record). item_blame number position r.result) first)
      (or_else second (Some (failed_at terminal position)))
  Simulates-item terminal number position is None second bare also h = tt
  Simulates-item terminal number position is (Some x) second bare also h =
      subst (λ o. Follows (same_items item count) (or_else o (Some (failed_at terminal position)))
      (item_blame number position x.result)) (sym h.1)
      (IsLike-item terminal number position is x h.0 bare (subst HasNoTrees h.1 also) h.2)

-- an empty class fails everywhere
empty_class-fails : (terminal position : ℕ) (rest : List ℕ) → byte_at (has no_bytes) terminal position rest
    ≡ failed_at terminal position
empty_class-fails terminal position [] = refl
empty_class-fails terminal position (c ∷ rest) =
    ap (λ b. if b then matched_at (position + 1) else failed_at terminal position) (has-no_bytes c)

-- What a name refers to has a loud copy under the same name, with the same number, placed as its items are. The copy is
-- one of the first rules.
pub record HasLoud (item : ℕ → Option ℕ) (count : ℕ) (other : List Rule) (name : List ℕ) (m : Meaning) : Type 0 where
  pub copy : Meaning
  pub found : meaning_of other name ≡ Some copy
  pub numbered : m.rule ≡ copy.rule
  pub below : m.rule < count
  pub loudened : copy.body ≡ loud m.body
  pub placed : IsPlaced item m.body copy.terminal m.terminal

module _ (item : ℕ → Option ℕ) (count : ℕ) (rules other : List Rule) (text : List ℕ)
    (louder : (name : List ℕ) (m : Meaning) → item_meaning_of rules name ≡ Some m
    → HasLoud item count other name m) where
  abbrev SimulatesLoud : (take more : Recognizer) → Type 0
  SimulatesLoud take more = (e : Form) (terminal number position : ℕ) → IsPlaced item e terminal number
      → Simulates (same_items item count) (take e number position) (more (loud e) terminal position)

  module _ (take more : Recognizer) (h : SimulatesLoud take more) where
    Simulates-seq : (parts : Forms) (terminal number position : ℕ) → AreAllPlaced item parts terminal number
        → Simulates (same_items item count) (blame_seq take parts number position)
        (recognize_seq more (loud_all parts) terminal position)
    Simulates-seq End terminal number position placed = Simulates-matched_at (same_items item count) position
    Simulates-seq (Then e rest) terminal number position placed =
        Simulates-then_at (same_items item count) (take e number position) (more (loud e) terminal position)
        (λ end. blame_seq take rest (number + items e) end)
        (λ end. recognize_seq more (loud_all rest) (terminal + terminals (loud e)) end)
        (h e terminal number position placed.0)
        (λ end. Simulates-seq rest (terminal + terminals (loud e)) (number + items e) end placed.1)

    Simulates-choice : (e : Form) (rest : Forms) (terminal number position : ℕ) → IsPlaced item e terminal number
        → AreAllPlaced item rest (terminal + terminals (loud e)) (number + items e)
        → Simulates (same_items item count) (blame_choice take e rest number position)
        (recognize_choice more (loud e) (loud_all rest) terminal position)
    Simulates-choice e End terminal number position placed more_placed = h e terminal number position placed
    Simulates-choice e (Then next rest) terminal number position placed more_placed =
        Simulates-or_else (same_items item count) (take e number position) (more (loud e) terminal position)
        (blame_choice take next rest (number + items e) position)
        (recognize_choice more (loud next) (loud_all rest) (terminal + terminals (loud e)) position)
        (h e terminal number position placed)
        (Simulates-choice next rest (terminal + terminals (loud e)) (number + items e) position more_placed.0
        more_placed.1)

    abbrev Call : Recognizer → ℕ → Meaning → Option Record
    Call by position m = option_map (as_call m.rule position) (by m.body m.terminal position)

    Simulates-call : (name : List ℕ) (position : ℕ) (meaning : Option Meaning) → item_meaning_of rules name ≡ meaning
        → Simulates (same_items item count) (option_and_then (Call take position) meaning)
        (option_and_then (Call more position) (meaning_of other name))
    Simulates-call name position None is = tt
    Simulates-call name position (Some m) is =
        let c = louder name m is in
        subst (λ o. Simulates (same_items item count) (Call take position m) (option_and_then (Call more position) o))
        (sym c.found)
        (Simulates-map (same_items item count) (as_call m.rule position) (as_call c.copy.rule position)
        (IsLike-as_call (same_items item count) m.rule c.copy.rule position
        (λ start end a b same. ap₂ (λ rule trees. Tree rule start end trees NoTrees) c.numbered same)
        (SameCall-loud item count m.rule c.copy.rule c.numbered c.below))
        (take m.body m.terminal position) (more c.copy.body c.copy.terminal position)
        (subst (λ body. Simulates (same_items item count) (take m.body m.terminal position)
        (more body c.copy.terminal position))
        (sym c.loudened) (h m.body c.copy.terminal m.terminal position c.placed)))

    module _ (low mid : Recognizer)
        (q : (e : Form) (t T position : ℕ) → EachFrom (IsOwn item) (terminals e) T
        → Simulates (no_items item count) (table rules text low e t position)
        (table other text mid (quiet e) T position))
        (is : (e : Form) (terminal position : ℕ)
        → more e terminal position ≡ table other text mid e terminal position) where
      -- one item: its quiet expression, or else the empty class
      item_case : (e : Form) (span : Extent) (terminal number position : ℕ)
          → IsItemAt item (terminals e) terminal number → HasNoTrees (table rules text low e 0 position)
          → HasNoTrees (table other text mid (quiet e) terminal position)
          → Simulates (same_items item count) (blame_item (table rules text low) e number position)
          (table other text more (or_fail (quiet e) span) terminal position)
      item_case e span terminal number position placed bare also =
          let at : terminal + terminals e ≡ terminal + terminals (quiet e) =
          ap (λ n. terminal + n) (sym (terminals-rename quiet_name e)) in
          let place = terminal + terminals (quiet e) in
          let fails = is (Class no_bytes span) place position
          ∙ ap Some (empty_class-fails place position (drop position text)) in
          let there = is (quiet e) terminal position in
          subst (λ o. Simulates (same_items item count) (blame_item (table rules text low) e number position)
          (or_else (more (quiet e) terminal position) o)) (sym fails)
          (subst (λ o. Simulates (same_items item count) (blame_item (table rules text low) e number position)
          (or_else o (Some (failed_at place position)))) (sym there)
          (Simulates-item item count place number position (subst (λ n. item n ≡ Some number) at placed.1)
          (table rules text low e 0 position) (table other text mid (quiet e) terminal position) bare also
          (q e 0 terminal position placed.0)))

      Simulates-table : SimulatesLoud (blame_table rules (table rules text low) take) (table other text more)
      Simulates-table (Literal bytes span) terminal number position placed =
          item_case (Literal bytes span) span terminal number position placed
          (IsBare-literal_at 0 position bytes (drop position text))
          (IsBare-literal_at terminal position bytes (drop position text))
      Simulates-table (Class set span) terminal number position placed =
          item_case (Class set span) span terminal number position placed
          (IsBare-byte_at (has set) 0 position (drop position text))
          (IsBare-byte_at (has set) terminal position (drop position text))
      Simulates-table (Any span) terminal number position placed =
          item_case (Any span) span terminal number position placed
          (IsBare-byte_at (λ byte. true) 0 position (drop position text))
          (IsBare-byte_at (λ byte. true) terminal position (drop position text))
      Simulates-table (Name name span) terminal number position placed =
          Simulates-call name position (item_meaning_of rules name) refl
      Simulates-table (Seq parts span) terminal number position placed =
          Simulates-seq parts terminal number position placed
      Simulates-table (Choice first rest span) terminal number position placed =
          Simulates-choice first rest terminal number position placed.0 placed.1
      Simulates-table (Optional part span) terminal number position placed =
          Simulates-or_else (same_items item count) (take part number position) (more (loud part) terminal position)
          (Some (matched_at position)) (Some (matched_at position)) (h part terminal number position placed)
          (Simulates-matched_at (same_items item count) position)
      Simulates-table (Star part span) terminal number position placed =
          Simulates-rounds (same_items item count) (take part number position) (more (loud part) terminal position)
          position (λ end. take (Star part span) number end) (λ end. more (loud (Star part span)) terminal end)
          (h part terminal number position placed) (λ end. h (Star part span) terminal number end placed)
      Simulates-table (Plus part span) terminal number position placed =
          Simulates-then_at (same_items item count) (take part number position) (more (loud part) terminal position)
          (λ end. take (Star part span) number end) (λ end. more (loud (Star part span)) terminal end)
          (h part terminal number position placed) (λ end. h (Star part span) terminal number end placed)
      Simulates-table (Counted part min max span) terminal number position placed =
          Simulates-recognize_repeat (same_items item count) (λ at. take part number at)
          (λ at. more (loud part) terminal at) (λ at. h part terminal number at placed) min max position
      Simulates-table (And part span) terminal number position placed =
          item_case (And part span) span terminal number position placed
          (HasNoTrees-and position (low part 0 position)) (HasNoTrees-and position (mid (quiet part) terminal position))
      Simulates-table (Not part span) terminal number position placed =
          item_case (Not part span) span terminal number position placed
          (HasNoTrees-not position (low part 0 position)) (HasNoTrees-not position (mid (quiet part) terminal position))

-- twice a number
abbrev pub twice : ℕ → ℕ
twice zero = zero
twice (suc n) = suc (suc (twice n))

pub twice-more : (n : ℕ) → twice n ≡ n + n
twice-more zero = refl
twice-more (suc n) = omega (arith, twice-more n)

module _ (item : ℕ → Option ℕ) (count : ℕ) (rules other : List Rule) (text : List ℕ)
    (louder : (name : List ℕ) (m : Meaning) → item_meaning_of rules name ≡ Some m → HasLoud item count other name m)
    (copied : (name : List ℕ) (m : Meaning) → meaning_of rules name ≡ Some m
    → HasCopy (no_items item count) (IsOwn item) quiet_name other name m) where
  own_fits : (t T position : ℕ) → IsOwn item T → tests_by item (test_of T position ∷ []) ≡ []
  own_fits t T position own = ap (λ o. cons_option (option_map (λ k. test_of k position) o) []) own

  -- the quiet copy at a greater depth
  quiet_later : (n : ℕ) (e : Form) (t T position : ℕ) → EachFrom (IsOwn item) (terminals e) T
      → Simulates (no_items item count) (record_in rules text (suc n) e t position)
      (record_in other text (suc (twice n)) (quiet e) T position)
  quiet_later n e t T position own =
      let deep : n + suc n ≡ suc (twice n) = omega (arith, twice-more n) in
      subst (λ d. Simulates (no_items item count) (record_in rules text (suc n) e t position)
      (record_in other text d (quiet e) T position)) deep
      (Simulates-extends (no_items item count) (record_in rules text (suc n) e t position)
      (record_in other text (suc n) (quiet e) T position) (record_in other text (n + suc n) (quiet e) T position)
      (record_in-later other text n (suc n) (quiet e) T position)
      (Simulates-rename (no_items item count) (IsOwn item) own_fits quiet_name rules other text copied (suc n) e t T
      position own))

  -- the blame in depth n, and the record of the loud expression in depth 2 * n
  pub Simulates-loud : (n : ℕ) (e : Form) (terminal number position : ℕ) → IsPlaced item e terminal number
      → Simulates (same_items item count) (blame_in rules text n e number position)
      (record_in other text (twice n) (loud e) terminal position)
  unfolding record_in blame_in
  Simulates-loud zero e terminal number position placed = tt
  Simulates-loud (suc n) e terminal number position placed =
      Simulates-table item count rules other text louder (blame_in rules text n) (record_in other text (suc (twice n)))
      (λ part T k at there. Simulates-extends (same_items item count) (blame_in rules text n part k at)
      (record_in other text (twice n) (loud part) T at) (record_in other text (suc (twice n)) (loud part) T at)
      (record_in-more other text (twice n) (loud part) T at) (Simulates-loud n part T k at there))
      (record_in rules text n) (record_in other text (twice n)) (quiet_later n) (λ e t at. refl)
      e terminal number position placed
