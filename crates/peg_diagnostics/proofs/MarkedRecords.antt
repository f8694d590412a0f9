-- The record of a marked expression in the marked rules has the result of the expression, apart from nodes of markers,
-- and its calls show the attempts of the expression.
use Rattle.std.proofs.Common.{◌≡◌, ℕ, zero, suc, ◌+◌, ◌*◌, ◌<◌, ◌≤◌, Bool, true, false, ◌==◌, if◌then◌else◌}
use Rattle.std.proofs.Common.{List, [], ◌∷◌, ◌++◌, All, drop, map, append-nil}
use Rattle.std.proofs.Common.{Option, None, Some, IfSome, refl, sym, ap, ap₂, ◌∙◌, subst, arith, option_map, option_and_then, nat_lt}
use Rattle.std.proofs.lemmas.Bool.{lt-ltb, le-ltb}
use Rattle.std.proofs.lemmas.List.{map-append}
use Rattle.std.proofs.lemmas.List.Elements.{All-nil, All-cons, All-append}
use Rattle.peg_bytes.specs.ByteSet.{has}
use Rattle.peg_bytes.specs.Extent.{Extent}
use Rattle.peg_tree.specs.Trees.{Trees, NoTrees, Tree, followed_by}
use Rattle.peg_semantics.specs.Form.{Form, Forms, Literal, Class, Any, Name, Seq, Choice, Optional, Star, Plus, Counted}
use Rattle.peg_semantics.specs.Form.{And, Not, End, Then, terminals}
use Rattle.peg_semantics.specs.Record.{Recognition, Failed, Matched, RuleCall, Record, Recognizer, matched_at, failed_at}
use Rattle.peg_semantics.specs.Record.{as_call, if_matched, if_failed, with_result, literal_at, byte_at, then_at, then_result}
use Rattle.peg_semantics.specs.Record.{prepend_trees, after_both, choice_result, or_else, star_result, recognize_seq}
use Rattle.peg_semantics.specs.Record.{recognize_choice, recognize_repeat, table, record_in}
use Rattle.peg_semantics.specs.Rules.{Rule, Meaning, meaning_of}
use Rattle.peg_semantics.proofs.RecordLemmas.{record_in-more}
use Rattle.peg_diagnostics.specs.Attempts.{Attempt, TriedRule, MatchedRule, TriedAlternative, MatchedAlternative}
use Rattle.peg_diagnostics.specs.Attempts.{AttemptsOf, after_matching, after_match, after_failing, after_failure}
use Rattle.peg_diagnostics.specs.Attempts.{attempts_of_alternative, attempts_of_call, attempts_of_items, attempts_of_choice}
use Rattle.peg_diagnostics.specs.Attempts.{attempts_of_repeat, attempts_of_meaning, first_alternative_from}
use Rattle.peg_diagnostics.specs.Attempts.{attempts_table, attempts_in, shown_by, IsWithin}
use Rattle.peg_diagnostics.specs.Diagnostic.{form_extent}
use Rattle.peg_diagnostics.proofs.MarkedLookups.{HasMarked, HasMarker}
use Rattle.peg_diagnostics.proofs.Simulation.{Likeness, SameResult, IsLike, IsLike-if_matched, IsLike-if_failed, IsLike-as_call}
use Rattle.peg_diagnostics.proofs.Simulation.{SameNode}
use Rattle.peg_diagnostics.specs.Marked.{alternatives, alternatives_of_all, alternatives_of_each, before_marker, marker_name}
use Rattle.peg_diagnostics.specs.Marked.{mark, mark_all, mark_each, unmarked, with_end, with_markers}

-- ---- trees without the nodes of markers

pub unmarked-followed_by : (count : ℕ) (trees more : Trees)
    → unmarked count (followed_by trees more) ≡ followed_by (unmarked count trees) (unmarked count more)
unmarked-followed_by count NoTrees more = refl
unmarked-followed_by count (Tree rule start end children rest) more =
    by (nat_lt rule count) (unmarked-followed_by count rest more)
  where
    by : (b : Bool) → unmarked count (followed_by rest more) ≡ followed_by (unmarked count rest) (unmarked count more)
        → (if b then Tree rule start end (unmarked count children) (unmarked count (followed_by rest more))
        else unmarked count (followed_by rest more))
        ≡ followed_by (if b then Tree rule start end (unmarked count children) (unmarked count rest)
        else unmarked count rest) (unmarked count more)
    by true later = ap (λ t. Tree rule start end (unmarked count children) t) later
    by false later = later

followed_by-none : (trees : Trees) → followed_by trees NoTrees ≡ trees
followed_by-none NoTrees = refl
followed_by-none (Tree rule start end children rest) =
    ap (λ t. Tree rule start end children t) (followed_by-none rest)

-- the second without its markers is the first
abbrev pub same_unmarked : (count : ℕ) → Likeness
same_unmarked count = record {
  Same = λ a b. unmarked count b ≡ a;
  Fit = λ a b. Unit {0};
  Calls = λ a b. Unit {0};
  no_trees = refl;
  more_trees = λ a b c d same more. unmarked-followed_by count b d ∙ ap₂ followed_by same more;
  no_tests = tt;
  more_tests = λ a b c d first second. tt;
  no_calls = tt;
  more_calls = λ a b c d first second. tt;
}

-- a node of a rule that is no marker stays
SameNode-rule : (count rule other : ℕ) → rule ≡ other → rule < count → SameNode (same_unmarked count) rule other
SameNode-rule count rule other same below start end a b trees =
    subst (λ (r : ℕ). unmarked count (Tree r start end b NoTrees) ≡ Tree rule start end a NoTrees) same
    (ap (λ (keeps : Bool). if keeps then Tree rule start end (unmarked count b) NoTrees else NoTrees)
    (lt-ltb rule count below) ∙ ap (λ t. Tree rule start end t NoTrees) trees)

-- the node of a marker is left out
marker_node : (count rule position : ℕ) → count ≤ rule → unmarked count (Tree rule position position NoTrees NoTrees) ≡ NoTrees
marker_node count rule position above =
    ap (λ (keeps : Bool). if keeps then Tree rule position position NoTrees NoTrees else NoTrees) (le-ltb rule count above)

-- ---- the records

-- the numbers of the rules that calls are of, in order
abbrev pub called : List RuleCall → List ℕ
called calls = map (λ (call : RuleCall). call.rule) calls

-- the rules of the marked grammar whose calls show attempts, in order
abbrev pub shown : (count total : ℕ) → List Attempt → List ℕ
shown count total attempts = map (shown_by count total) attempts

-- A record of a marked expression: it has the same result as the first one, and its calls show these attempts.
pub record IsMarkedRecord (count total : ℕ) (x : Record) (attempts : List Attempt) (y : Record) : Type 0 where
  pub results : SameResult (same_unmarked count) x.result y.result
  pub calls : called y.calls ≡ shown count total attempts
  pub within : All (IsWithin count total) attempts

-- if there is a first record, there is a second one of a marked expression
abbrev pub Shows : (count total : ℕ) → (first : Option Record) → List Attempt → (second : Option Record) → Type 0
Shows count total first attempts second =
    IfSome first (λ x. (y : Record) × (second ≡ Some y) × IsMarkedRecord count total x attempts y)

-- three times a number
abbrev pub thrice : ℕ → ℕ
thrice zero = zero
thrice (suc n) = suc (suc (suc (thrice n)))

module _ (count total : ℕ) where
  abbrev Fits : List Attempt → Type 0
  Fits attempts = All (IsWithin count total) attempts

  called-append : (a b : List RuleCall) (c d : List Attempt) → called a ≡ shown count total c
      → called b ≡ shown count total d → called (a ++ b) ≡ shown count total (c ++ d)
  called-append a b c d first second =
      map-append (λ (call : RuleCall). call.rule) a b
      ∙ ap₂ ◌++◌ first second
      ∙ sym (map-append (shown_by count total) c d)

  Shows-some : (x : Record) (attempts : List Attempt) (y : Record) → IsMarkedRecord count total x attempts y
      → Shows count total (Some x) attempts (Some y)
  Shows-some x attempts y is = (y, refl, is)

  -- a record without calls
  quiet : (x y : Record) → SameResult (same_unmarked count) x.result y.result → y.calls ≡ []
      → IsMarkedRecord count total x [] y
  quiet x y results none =
      record { results = results; calls = ap called none; within = All-nil (IsWithin count total) }

  matched : (position : ℕ) → IsMarkedRecord count total (matched_at position) [] (matched_at position)
  matched position = quiet (matched_at position) (matched_at position) (refl, refl) refl

  Shows-matched_at : (position : ℕ) → Shows count total (Some (matched_at position)) [] (Some (matched_at position))
  Shows-matched_at position = Shows-some (matched_at position) [] (matched_at position) (matched position)

  -- one more record after a record
  both : (x u : Record) (a b : List Attempt) (y v : Record) (result other : Recognition)
      → IsMarkedRecord count total x a y → IsMarkedRecord count total u b v
      → SameResult (same_unmarked count) result other
      → IsMarkedRecord count total (after_both x u result) (a ++ b) (after_both y v other)
  both x u a b y v result other first second results = record {
    results = results;
    calls = called-append y.calls v.calls a b first.calls second.calls;
    within = All-append (IsWithin count total) a b first.within second.within;
  }

  prepended : (trees more : Trees) (result other : Recognition) → unmarked count more ≡ trees
      → SameResult (same_unmarked count) result other
      → SameResult (same_unmarked count) (prepend_trees trees result) (prepend_trees more other)
  prepended trees more Failed Failed same results = tt
  prepended trees more Failed (Matched end other) same results = absurd results
  prepended trees more (Matched end other) Failed same results = absurd results
  prepended trees more (Matched end a) (Matched other b) same results =
      (results.0, unmarked-followed_by count more b ∙ ap₂ followed_by same results.1)

  -- the same attempts, with none after them
  none_after : (x y : Record) (a : List Attempt) → IsMarkedRecord count total x a y
      → IsMarkedRecord count total x (a ++ []) y
  none_after x y a is = subst (λ l. IsMarkedRecord count total x l y) (sym (append-nil a)) is

  Shows-after : (x y : Record) (a b : List Attempt) (f g : Record → Recognition) (next later : Option Record)
      → IsMarkedRecord count total x a y
      → ((u v : Record) → IsMarkedRecord count total u b v → SameResult (same_unmarked count) (f u) (g v))
      → Shows count total next b later
      → Shows count total (option_map (λ u. after_both x u (f u)) next) (a ++ b)
      (option_map (λ v. after_both y v (g v)) later)
  Shows-after x y a b f g None later is same h = tt
  Shows-after x y a b f g (Some u) later is same h = (
    after_both y h.0 (g h.0),
    ap (option_map (λ v. after_both y v (g v))) h.1,
    both x u a b y h.0 (f u) (g h.0) is h.2 (same u h.0 h.2),
  )

  -- what follows each end
  abbrev ShowsNext : (next : ℕ → Option Record) → (ℕ → List Attempt) → (later : ℕ → Option Record) → Type 0
  ShowsNext next attempts later = (end : ℕ) → Shows count total (next end) (attempts end) (later end)

  Shows-then_result : (result other : Recognition) (x y : Record) (a : List Attempt) (b : ℕ → List Attempt)
      (next later : ℕ → Option Record) → SameResult (same_unmarked count) result other
      → IsMarkedRecord count total x a y → ShowsNext next b later
      → Shows count total (then_result result x next) (a ++ after_matching result b) (then_result other y later)
  Shows-then_result Failed Failed x y a b next later results is h =
      Shows-some x (a ++ []) y (none_after x y a is)
  Shows-then_result Failed (Matched end trees) x y a b next later results is h = absurd results
  Shows-then_result (Matched end trees) Failed x y a b next later results is h = absurd results
  Shows-then_result (Matched end trees) (Matched other more) x y a b next later results is h =
      Shows-after x y a (b end) (λ r. prepend_trees trees r.result) (λ r. prepend_trees more r.result) (next end)
      (later other) is (λ u v uv. prepended trees more u.result v.result results.1 uv.results)
      (subst (λ at. Shows count total (next end) (b end) (later at)) results.0 (h end))

  Shows-then_at : (first second : Option Record) (a : List Attempt) (b : ℕ → List Attempt)
      (next later : ℕ → Option Record) → Shows count total first a second → ShowsNext next b later
      → Shows count total (then_at first next) (a ++ after_match first b) (then_at second later)
  Shows-then_at None second a b next later h k = tt
  Shows-then_at (Some x) second a b next later h k =
      subst (λ o. Shows count total (then_result x.result x next) (a ++ after_matching x.result b) (then_at o later))
      (sym h.1) (Shows-then_result x.result (h.0).result x h.0 a b next later h.2.results h.2 k)

  Shows-choice_result : (result other : Recognition) (x y : Record) (a b : List Attempt) (next later : Option Record)
      → SameResult (same_unmarked count) result other → IsMarkedRecord count total x a y
      → Shows count total next b later
      → Shows count total (choice_result result x next) (a ++ after_failing result b) (choice_result other y later)
  Shows-choice_result Failed Failed x y a b next later results is h =
      Shows-after x y a b (λ r. r.result) (λ r. r.result) next later is (λ u v uv. uv.results) h
  Shows-choice_result Failed (Matched end trees) x y a b next later results is h = absurd results
  Shows-choice_result (Matched end trees) Failed x y a b next later results is h = absurd results
  Shows-choice_result (Matched end trees) (Matched other more) x y a b next later results is h =
      Shows-some x (a ++ []) y (none_after x y a is)

  Shows-or_else : (first second next later : Option Record) (a b : List Attempt) → Shows count total first a second
      → Shows count total next b later
      → Shows count total (or_else first next) (a ++ after_failure first b) (or_else second later)
  Shows-or_else None second next later a b h k = tt
  Shows-or_else (Some x) second next later a b h k =
      subst (λ o. Shows count total (choice_result x.result x next) (a ++ after_failing x.result b) (or_else o later))
      (sym h.1) (Shows-choice_result x.result (h.0).result x h.0 a b next later h.2.results h.2 k)

  -- an option: nothing is attempted after its part
  nothing_after : (result : Recognition) → after_failing result [] ≡ []
  nothing_after Failed = refl
  nothing_after (Matched end trees) = refl

  Shows-option : (first second : Option Record) (a : List Attempt) (position : ℕ) → Shows count total first a second
      → Shows count total (or_else first (Some (matched_at position))) a (or_else second (Some (matched_at position)))
  Shows-option None second a position h = tt
  Shows-option (Some x) second a position h =
      subst (λ l. Shows count total (or_else (Some x) (Some (matched_at position))) l
      (or_else second (Some (matched_at position))))
      (ap (λ l. a ++ l) (nothing_after x.result) ∙ append-nil a)
      (Shows-or_else (Some x) second (Some (matched_at position)) (Some (matched_at position)) a [] h
      (Shows-matched_at position))

  Shows-star_result : (result other : Recognition) (position : ℕ) (x y : Record) (a : List Attempt)
      (b : ℕ → List Attempt) (next later : ℕ → Option Record) → SameResult (same_unmarked count) result other
      → IsMarkedRecord count total x a y → ShowsNext next b later
      → Shows count total (star_result result position x next) (a ++ after_matching result b)
      (star_result other position y later)
  Shows-star_result Failed Failed position x y a b next later results is h =
      Shows-choice_result Failed Failed x y a [] (Some (matched_at position)) (Some (matched_at position)) results is
      (Shows-matched_at position)
  Shows-star_result Failed (Matched end trees) position x y a b next later results is h = absurd results
  Shows-star_result (Matched end trees) Failed position x y a b next later results is h = absurd results
  Shows-star_result (Matched end trees) (Matched other more) position x y a b next later results is h =
      Shows-then_result (Matched end trees) (Matched other more) x y a b next later results is h

  -- a star's first iteration, and then the others
  Shows-rounds : (first second : Option Record) (position : ℕ) (a : List Attempt) (b : ℕ → List Attempt)
      (next later : ℕ → Option Record) → Shows count total first a second → ShowsNext next b later
      → Shows count total
      (option_and_then (λ (round : Record). star_result round.result position round next) first)
      (a ++ after_match first b)
      (option_and_then (λ (round : Record). star_result round.result position round later) second)
  Shows-rounds None second position a b next later h k = tt
  Shows-rounds (Some x) second position a b next later h k =
      subst (λ o. Shows count total (star_result x.result position x next) (a ++ after_matching x.result b)
      (option_and_then (λ (round : Record). star_result round.result position round later) o)) (sym h.1)
      (Shows-star_result x.result (h.0).result position x h.0 a b next later h.2.results h.2 k)

  Shows-repeat : (one other : ℕ → Option Record) (parts : ℕ → List Attempt) → ShowsNext one parts other
      → (min max position : ℕ)
      → Shows count total (recognize_repeat one min max position) (attempts_of_repeat one parts max position)
      (recognize_repeat other min max position)
  Shows-repeat one other parts h min zero position = Shows-matched_at position
  Shows-repeat one other parts h zero (suc max) position =
      Shows-rounds (one position) (other position) position (parts position)
      (λ end. attempts_of_repeat one parts max end) (λ end. recognize_repeat one zero max end)
      (λ end. recognize_repeat other zero max end) (h position)
      (λ end. Shows-repeat one other parts h zero max end)
  Shows-repeat one other parts h (suc min) (suc max) position =
      Shows-then_at (one position) (other position) (parts position)
      (λ end. attempts_of_repeat one parts max end) (λ end. recognize_repeat one min max end)
      (λ end. recognize_repeat other min max end) (h position)
      (λ end. Shows-repeat one other parts h min max end)

  -- a change of the result alone
  Shows-map : (f g : Record → Record)
      → ((x y : Record) (a : List Attempt) → IsMarkedRecord count total x a y → IsMarkedRecord count total (f x) a (g y))
      → (first second : Option Record) (a : List Attempt) → Shows count total first a second
      → Shows count total (option_map f first) a (option_map g second)
  Shows-map f g keeps None second a h = tt
  Shows-map f g keeps (Some x) second a h = (g h.0, ap (option_map g) h.1, keeps x h.0 a h.2)

  -- the results alone
  alike : (x y : Record) (a : List Attempt) → IsMarkedRecord count total x a y → IsLike (same_unmarked count) x y
  alike x y a is = record { results = is.results; tests = tt; calls = tt }

  matched_is : (position : ℕ) (x y : Record) (a : List Attempt) → IsMarkedRecord count total x a y
      → IsMarkedRecord count total (with_result x (if_matched x.result position)) a
      (with_result y (if_matched y.result position))
  matched_is position x y a is = record {
    results = (IsLike-if_matched (same_unmarked count) position x y (alike x y a is)).results;
    calls = is.calls;
    within = is.within;
  }

  failed_is : (position : ℕ) (x y : Record) (a : List Attempt) → IsMarkedRecord count total x a y
      → IsMarkedRecord count total (with_result x (if_failed x.result position)) a
      (with_result y (if_failed y.result position))
  failed_is position x y a is = record {
    results = (IsLike-if_failed (same_unmarked count) position x y (alike x y a is)).results;
    calls = is.calls;
    within = is.within;
  }

  -- ---- markers

  -- the record of the call of a marker
  abbrev marker_call : (rule position : ℕ) → Record
  marker_call rule position = as_call rule position (matched_at position)

  -- the call of a marker before an expression
  Shows-first : (rule position : ℕ) (tried : Attempt) → count ≤ rule → rule ≡ shown_by count total tried
      → IsWithin count total tried → (first : Option Record) (a : List Attempt) (next : ℕ → Option Record)
      → Shows count total first a (next position)
      → Shows count total first (tried ∷ a) (then_at (Some (marker_call rule position)) next)
  Shows-first rule position tried above is fits None a next h = tt
  Shows-first rule position tried above is fits (Some x) a next h = (
    after_both (marker_call rule position) h.0 (prepend_trees node (h.0).result),
    ap (option_map (λ more. after_both (marker_call rule position) more (prepend_trees node more.result))) h.1,
    record {
      results = merged x.result (h.0).result h.2.results;
      calls = ap₂ ◌∷◌ is h.2.calls;
      within = All-cons (IsWithin count total) tried a fits h.2.within;
    },
  )
    where
      node : Trees
      node = Tree rule position position NoTrees NoTrees

      merged : (a b : Recognition) → SameResult (same_unmarked count) a b
          → SameResult (same_unmarked count) a (prepend_trees node b)
      merged Failed Failed results = tt
      merged Failed (Matched end trees) results = absurd results
      merged (Matched end trees) Failed results = absurd results
      merged (Matched end trees) (Matched other more) results = (
        results.0,
        unmarked-followed_by count node more
            ∙ ap (λ t. followed_by t (unmarked count more)) (marker_node count rule position above)
            ∙ results.1,
      )

  -- the node of a marker after trees is left out
  node_after : (rule position : ℕ) → count ≤ rule → (trees : Trees)
      → unmarked count (followed_by trees (Tree rule position position NoTrees NoTrees)) ≡ unmarked count trees
  node_after rule position above trees =
      unmarked-followed_by count trees (Tree rule position position NoTrees NoTrees)
      ∙ ap (followed_by (unmarked count trees)) (marker_node count rule position above)
      ∙ followed_by-none (unmarked count trees)

  -- the call of a marker after an expression, which is made if the expression matched
  Shows-last : (rule : ℕ) (done : Attempt) → count ≤ rule → rule ≡ shown_by count total done
      → IsWithin count total done → (call : ℕ → Option Record)
      → ((position : ℕ) → call position ≡ Some (marker_call rule position))
      → (first : Option Record) (a : List Attempt) (second : Option Record) → Shows count total first a second
      → Shows count total first (a ++ after_match first (λ end. done ∷ []))
      (then_at second (λ end. then_at (call end) (λ at. Some (matched_at at))))
  Shows-last rule done above is fits call made None a second h = tt
  Shows-last rule done above is fits call made (Some x) a second h =
      subst (λ o. Shows count total (Some x) (a ++ after_matching x.result (λ end. done ∷ []))
      (then_at o (λ end. then_at (call end) (λ at. Some (matched_at at))))) (sym h.1)
      (by x.result (h.0).result h.2.results refl)
    where
      ended : (other : Recognition) → Option Record
      ended other = then_result other h.0 (λ end. then_at (call end) (λ at. Some (matched_at at)))

      node : (position : ℕ) → Trees
      node position = Tree rule position position NoTrees NoTrees

      by : (result other : Recognition) → SameResult (same_unmarked count) result other → x.result ≡ result
          → Shows count total (Some x) (a ++ after_matching result (λ end. done ∷ [])) (ended other)
      by Failed Failed results at = Shows-some x (a ++ []) h.0 (none_after x h.0 a h.2)
      by Failed (Matched end trees) results at = absurd results
      by (Matched end trees) Failed results at = absurd results
      by (Matched end trees) (Matched other more) results at = (
        after_both h.0 (marker_call rule other) (Matched other (followed_by more (node other))),
        ap (λ o. option_map (λ r. after_both h.0 r (prepend_trees more r.result))
            (then_at o (λ position. Some (matched_at position)))) (made other),
        record {
          results = subst (λ result. SameResult (same_unmarked count) result
              (Matched other (followed_by more (node other)))) (sym at)
              (results.0, node_after rule other above more ∙ results.1);
          calls = called-append (h.0).calls (marker_call rule other).calls a (done ∷ []) h.2.calls (ap (λ n. n ∷ []) is);
          within = All-append (IsWithin count total) a (done ∷ []) h.2.within
              (All-cons (IsWithin count total) done [] fits (All-nil (IsWithin count total)));
        },
      )

  -- the call of a rule that is no marker
  Shows-call : (rule other position : ℕ) → rule ≡ other → rule < count → (first second : Option Record)
      → (a : List Attempt) → Shows count total first a second
      → Shows count total (option_map (as_call rule position) first) (TriedRule rule ∷ a)
      (option_map (as_call other position) second)
  Shows-call rule other position same below None second a h = tt
  Shows-call rule other position same below (Some x) second a h = (
    as_call other position h.0,
    ap (option_map (as_call other position)) h.1,
    record {
      results = (IsLike-as_call (same_unmarked count) rule other position (SameNode-rule count rule other same below)
          (λ at. tt) x h.0 (alike x h.0 a h.2)).results;
      calls = ap₂ ◌∷◌ (sym same) h.2.calls;
      within = All-cons (IsWithin count total) (TriedRule rule) a below h.2.within;
    },
  )

  -- ---- terminals

  failed : (t T position : ℕ) → IsMarkedRecord count total (failed_at t position) [] (failed_at T position)
  failed t T position = quiet (failed_at t position) (failed_at T position) tt refl

  literal_is : (t T position : ℕ) (bytes rest : List ℕ)
      → IsMarkedRecord count total (literal_at t position bytes rest) [] (literal_at T position bytes rest)
  literal_is t T position [] rest = matched position
  literal_is t T position (b ∷ bs) [] = failed t T position
  literal_is t T position (b ∷ bs) (c ∷ rest) = by (b == c) (literal_is t T (position + 1) bs rest)
    where
      by : (same : Bool)
          → IsMarkedRecord count total (literal_at t (position + 1) bs rest) [] (literal_at T (position + 1) bs rest)
          → IsMarkedRecord count total (if same then literal_at t (position + 1) bs rest else failed_at t position) []
          (if same then literal_at T (position + 1) bs rest else failed_at T position)
      by true later = later
      by false later = failed t T position

  byte_is : (test : ℕ → Bool) (t T position : ℕ) (rest : List ℕ)
      → IsMarkedRecord count total (byte_at test t position rest) [] (byte_at test T position rest)
  byte_is test t T position [] = failed t T position
  byte_is test t T position (c ∷ rest) = by (test c)
    where
      by : (is : Bool)
          → IsMarkedRecord count total (if is then matched_at (position + 1) else failed_at t position) []
          (if is then matched_at (position + 1) else failed_at T position)
      by true = matched (position + 1)
      by false = failed t T position

-- ---- the simulation

module _ (count total : ℕ) (rules other : List Rule) (text : List ℕ)
    (copied : (name : List ℕ) (m : Meaning) → meaning_of rules name ≡ Some m → HasMarked count total rules other name m)
    (markers : (marker : ℕ) → marker < 2 * total + count → HasMarker count other marker) where
  -- the record of the call of a marker
  marker_record : (n marker : ℕ) (span : Extent) (T position : ℕ) → marker < 2 * total + count
      → record_in other text (suc (suc n)) (Name (marker_name marker) span) T position
      ≡ Some (marker_call count total (count + marker) position)
  unfolding record_in
  marker_record n marker span T position below =
      let m = markers marker below in
      ap (option_and_then (λ (k : Meaning). option_map (as_call k.rule position)
      (record_in other text (suc n) k.body k.terminal position))) m.found
      ∙ ap (λ body. option_map (as_call m.marker.rule position)
      (record_in other text (suc n) body m.marker.terminal position)) m.empty
      ∙ ap (λ rule. Some (as_call rule position (matched_at position))) m.numbered

  -- the records of marked expressions show their attempts
  abbrev ShowsMarked : (take more : Recognizer) → AttemptsOf → Type 0
  ShowsMarked take more parts = (e : Form) (number t T position : ℕ) → number + alternatives e ≤ total
      → Shows count total (take e t position) (parts e number t position) (more (mark number e) T position)

  -- a record of an alternative between its markers
  abbrev ShowsAlternative : (take more : Recognizer) → AttemptsOf → Type 0
  ShowsAlternative take more parts = (e : Form) (number t T position : ℕ) → number + 1 + alternatives e ≤ total
      → Shows count total (take e t position)
      (attempts_of_alternative number (take e t position) (parts e (number + 1) t position))
      (more (with_markers number (form_extent e) (mark (number + 1) e)) T position)

  -- a record of the expression of a rule before its marker
  abbrev ShowsRule : (take more : Recognizer) → AttemptsOf → Type 0
  ShowsRule take more parts = (e : Form) (number rule marker : ℕ) (span : Extent) (t T position : ℕ)
      → number + alternatives e ≤ total → rule < count → marker ≡ 2 * total + rule
      → Shows count total (take e t position)
      (parts e number t position ++ after_match (take e t position) (λ end. MatchedRule rule ∷ []))
      (more (with_end marker span (mark number e)) T position)

  module _ (take more : Recognizer) (parts : AttemptsOf) (h : ShowsMarked take more parts)
      (g : ShowsAlternative take more parts) (k : ShowsRule take more parts) where
    items-show : (items : Forms) (number t T position : ℕ) → number + alternatives_of_all items ≤ total
        → Shows count total (recognize_seq take items t position) (attempts_of_items take parts items number t position)
        (recognize_seq more (mark_all number items) T position)
    items-show End number t T position within = Shows-matched_at count total position
    items-show (Then e rest) number t T position within =
        Shows-then_at count total (take e t position) (more (mark number e) T position) (parts e number t position)
        (λ end. attempts_of_items take parts rest (number + alternatives e) (t + terminals e) end)
        (λ end. recognize_seq take rest (t + terminals e) end)
        (λ end. recognize_seq more (mark_all (number + alternatives e) rest) (T + terminals (mark number e)) end)
        (h e number t T position (omega (arith, within)))
        (λ end. items-show rest (number + alternatives e) (t + terminals e) (T + terminals (mark number e)) end
        (omega (arith, within)))

    choice-shows : (e : Form) (rest : Forms) (number t T position : ℕ)
        → number + (1 + alternatives e + alternatives_of_each rest) ≤ total
        → Shows count total (recognize_choice take e rest t position)
        (attempts_of_choice take parts e rest number t position)
        (recognize_choice more (with_markers number (form_extent e) (mark (number + 1) e))
        (mark_each (number + 1 + alternatives e) rest) T position)
    choice-shows e End number t T position within = g e number t T position (omega (arith, within))
    choice-shows e (Then next rest) number t T position within =
        let marked = with_markers number (form_extent e) (mark (number + 1) e) in
        let later = number + 1 + alternatives e in
        Shows-or_else count total (take e t position) (more marked T position)
        (recognize_choice take next rest (t + terminals e) position)
        (recognize_choice more (with_markers later (form_extent next) (mark (later + 1) next))
        (mark_each (later + 1 + alternatives next) rest) (T + terminals marked) position)
        (attempts_of_alternative number (take e t position) (parts e (number + 1) t position))
        (attempts_of_choice take parts next rest later (t + terminals e) position)
        (g e number t T position (omega (arith, within)))
        (choice-shows next rest later (t + terminals e) (T + terminals marked) position (omega (arith, within)))

    -- the call of the rule that a name refers to
    abbrev Call : Recognizer → ℕ → Meaning → Option Record
    Call by position m = option_map (as_call m.rule position) (by m.body m.terminal position)

    name-shows : (name : List ℕ) (position : ℕ) (meaning : Option Meaning) → meaning_of rules name ≡ meaning
        → Shows count total (option_and_then (Call take position) meaning)
        (attempts_of_meaning take parts (first_alternative_from 0 rules name) position meaning)
        (option_and_then (Call more position) (meaning_of other name))
    name-shows name position None is = tt
    name-shows name position (Some m) is =
        let c = copied name m is in
        let number = first_alternative_from 0 rules name in
        let attempts = attempts_of_call m.rule (take m.body m.terminal position)
        (parts m.body number m.terminal position) in
        subst (λ o. Shows count total (Call take position m) attempts (option_and_then (Call more position) o))
        (sym c.found)
        (Shows-call count total m.rule c.copy.rule position c.numbered c.below (take m.body m.terminal position)
        (more c.copy.body c.copy.terminal position)
        (parts m.body number m.terminal position
        ++ after_match (take m.body m.terminal position) (λ end. MatchedRule m.rule ∷ []))
        (subst (λ body. Shows count total (take m.body m.terminal position)
        (parts m.body number m.terminal position
        ++ after_match (take m.body m.terminal position) (λ end. MatchedRule m.rule ∷ []))
        (more body c.copy.terminal position))
        (sym c.is_marked)
        (k m.body number m.rule c.marker c.span m.terminal c.copy.terminal position c.within c.below c.ends)))

    table-shows : ShowsMarked (table rules text take) (table other text more) (attempts_table rules take parts)
    table-shows (Literal bytes span) number t T position within =
        Shows-some count total (literal_at t position bytes (drop position text)) []
        (literal_at T position bytes (drop position text))
        (literal_is count total t T position bytes (drop position text))
    table-shows (Class set span) number t T position within =
        Shows-some count total (byte_at (has set) t position (drop position text)) []
        (byte_at (has set) T position (drop position text))
        (byte_is count total (has set) t T position (drop position text))
    table-shows (Any span) number t T position within =
        Shows-some count total (byte_at (λ byte. true) t position (drop position text)) []
        (byte_at (λ byte. true) T position (drop position text))
        (byte_is count total (λ byte. true) t T position (drop position text))
    table-shows (Name name span) number t T position within =
        name-shows name position (meaning_of rules name) refl
    table-shows (Seq items span) number t T position within = items-show items number t T position within
    table-shows (Choice first rest span) number t T position within =
        choice-shows first rest number t T position within
    table-shows (Optional part span) number t T position within =
        Shows-option count total (take part t position) (more (mark number part) T position)
        (parts part number t position) position (h part number t T position within)
    table-shows (Star part span) number t T position within =
        Shows-rounds count total (take part t position) (more (mark number part) T position) position
        (parts part number t position) (λ end. parts (Star part span) number t end)
        (λ end. take (Star part span) t end) (λ end. more (mark number (Star part span)) T end)
        (h part number t T position within) (λ end. h (Star part span) number t T end within)
    table-shows (Plus part span) number t T position within =
        Shows-then_at count total (take part t position) (more (mark number part) T position)
        (parts part number t position) (λ end. parts (Star part span) number t end)
        (λ end. take (Star part span) t end) (λ end. more (mark number (Star part span)) T end)
        (h part number t T position within) (λ end. h (Star part span) number t T end within)
    table-shows (Counted part min max span) number t T position within =
        Shows-repeat count total (λ at. take part t at) (λ at. more (mark number part) T at)
        (λ at. parts part number t at) (λ at. h part number t T at within) min max position
    table-shows (And part span) number t T position within =
        Shows-map count total (λ (r : Record). with_result r (if_matched r.result position))
        (λ (r : Record). with_result r (if_matched r.result position)) (matched_is count total position)
        (take part t position) (more (mark number part) T position) (parts part number t position)
        (h part number t T position within)
    table-shows (Not part span) number t T position within =
        Shows-map count total (λ (r : Record). with_result r (if_failed r.result position))
        (λ (r : Record). with_result r (if_failed r.result position)) (failed_is count total position)
        (take part t position) (more (mark number part) T position) (parts part number t position)
        (h part number t T position within)

  -- ---- markers around an expression, a level deeper

  -- the call of the marker after an expression
  ended_shows : (n : ℕ) (done : Attempt) (marker : ℕ) (span : Extent) (e : Form) (first : Option Record)
      (a : List Attempt) (T position : ℕ) → marker < 2 * total + count → count + marker ≡ shown_by count total done
      → IsWithin count total done
      → Shows count total first a (record_in other text (suc (suc n)) e T position)
      → Shows count total first (a ++ after_match first (λ end. done ∷ []))
      (recognize_seq (record_in other text (suc (suc n))) (before_marker marker span e) T position)
  ended_shows n done marker span e first a T position below is fits h =
      Shows-last count total (count + marker) done (omega arith) is fits
      (λ at. record_in other text (suc (suc n)) (Name (marker_name marker) span) (T + terminals e) at)
      (λ at. marker_record n marker span (T + terminals e) at below) first a
      (record_in other text (suc (suc n)) e T position) h

  -- the expression of a rule
  rule_shows : (n : ℕ) (take : Recognizer) (parts : AttemptsOf)
      → ShowsMarked take (record_in other text (suc (suc n))) parts
      → ShowsRule take (record_in other text (suc (suc (suc n)))) parts
  unfolding record_in
  rule_shows n take parts h e number rule marker span t T position within below is =
      ended_shows n (MatchedRule rule) marker span (mark number e) (take e t position) (parts e number t position) T
      position (omega (arith, below, is)) (ap (λ m. count + m) is) below (h e number t T position within)

  -- an alternative
  alternative_shows : (n : ℕ) (take : Recognizer) (parts : AttemptsOf)
      → ShowsMarked take (record_in other text (suc (suc n))) parts
      → ShowsAlternative take (record_in other text (suc (suc (suc n)))) parts
  unfolding record_in
  alternative_shows n take parts h e number t T position within =
      let span = form_extent e in
      let inside = parts e (number + 1) t position in
      let first = take e t position in
      let items = before_marker (2 * number + 1) span (mark (number + 1) e) in
      subst (λ o. Shows count total first (attempts_of_alternative number first inside)
      (then_at o (λ end. recognize_seq (record_in other text (suc (suc n))) items (T + 0) end)))
      (sym (marker_record n (2 * number) span T position (omega (arith, within))))
      (Shows-first count total (count + 2 * number) position (TriedAlternative number) (omega arith) refl
      (omega (arith, within)) first (inside ++ after_match first (λ end. MatchedAlternative number ∷ []))
      (λ end. recognize_seq (record_in other text (suc (suc n))) items (T + 0) end)
      (ended_shows n (MatchedAlternative number) (2 * number + 1) span (mark (number + 1) e) first inside (T + 0)
      position (omega (arith, within)) refl (omega (arith, within))
      (h e (number + 1) t (T + 0) position (omega (arith, within)))))

  -- the same record one level deeper
  one_more : (first : Option Record) (a : List Attempt) (n : ℕ) (e : Form) (T position : ℕ)
      → Shows count total first a (record_in other text n e T position)
      → Shows count total first a (record_in other text (suc n) e T position)
  one_more None a n e T position h = tt
  one_more (Some x) a n e T position h = (h.0, record_in-more other text n e T position h.0 h.1, h.2)

  -- the same one level deeper
  marked_later : (n : ℕ)
      → ShowsMarked (record_in rules text n) (record_in other text (suc (thrice n))) (attempts_in rules text n)
      → ShowsMarked (record_in rules text n) (record_in other text (suc (suc (thrice n)))) (attempts_in rules text n)
  marked_later n h e number t T position within =
      one_more (record_in rules text n e t position) (attempts_in rules text n e number t position) (suc (thrice n))
      (mark number e) T position (h e number t T position within)

  -- In depth n an expression has a record; in about three times this depth its marked form has one that shows its
  -- attempts.
  pub Shows-mark : (n : ℕ)
      → ShowsMarked (record_in rules text n) (record_in other text (suc (thrice n))) (attempts_in rules text n)
  unfolding record_in attempts_in
  Shows-mark zero e number t T position within = tt
  Shows-mark (suc n) e number t T position within =
      let later = marked_later n (Shows-mark n) in
      table-shows (record_in rules text n) (record_in other text (suc (suc (suc (thrice n)))))
      (attempts_in rules text n)
      (λ part at u U place fits. one_more (record_in rules text n part u place)
      (attempts_in rules text n part at u place) (suc (suc (thrice n))) (mark at part) U place
      (later part at u U place fits))
      (alternative_shows (thrice n) (record_in rules text n) (attempts_in rules text n) later)
      (rule_shows (thrice n) (record_in rules text n) (attempts_in rules text n) later)
      e number t T position within
