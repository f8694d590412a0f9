-- The evaluator's loops over the items of a sequence and the alternatives of a choice.
use Rattle.std.proofs.Common.{◌≡◌, ℕ, zero, suc, ◌+◌, ◌<◌, ◌≤◌, List, [], ◌∷◌, ◌++◌, map, length, get_or, drop, fold, Option, None, Some, Ok, Err, option_map, refl, sym, ap, ◌∙◌, append_assoc, append-nil, suc-add, arith}
use Rattle.std.proofs.Math.ListN.{drop_of_length-le}
use Rattle.std.proofs.lemmas.List.{length-map}
use Rattle.std.proofs.lemmas.List.Sums.{fold-append}
use Rattle.peg_tree.specs.Rows.{rows_of}
use Rattle.peg_tree.specs.Trees.{Trees, NoTrees, followed_by}
use Rattle.peg_semantics.specs.Form.{Form, Forms, End, Then, forms, terminals}
use Rattle.peg_semantics.specs.FurthestPass.{note_test}
use Rattle.peg_semantics.specs.Record.{Recognition, Record, Test, RuleCall, Recognizer, matched_at, after_both, prepend_trees, then_result, then_at, choice_result, or_else, recognize_seq, recognize_choice}
use Rattle.peg_semantics.specs.Record as recognition
use Rattle.peg_grammar.specs.Seen.{Evaluation, trees_left, Evaluates}
use Rattle.peg_grammar.specs.declared.found.Abort.{Abort}
use Rattle.peg_grammar.specs.declared.found.Abort.TheVariants.{AtDepth, OutOfMemory}
use Rattle.peg_grammar.specs.declared.found.MatchResult.TheVariants.{EndsAt, Fails}
use Rattle.peg_grammar.proofs.SeenLemmas.{prefixed, prefixed-prefixed, prefixed-none, result_of_failed, result_of_matched, rows_of-followed_by, seen}

-- the expressions from index i on are that expression and those after it
pub forms-drop : {X : Type 0} (f : X → Form) (xs : List X) (i : ℕ) (x : X) → i < length xs → x ≡ get_or xs i x → forms (drop i (map f xs)) ≡ Then (f x) (forms (drop (i + 1) (map f xs)))
forms-drop f [] i x h e = absurd (omega arith)
forms-drop f (y ∷ ys) zero x h e = ap (λ z. Then (f z) (forms (map f ys))) (sym e)
forms-drop f (y ∷ ys) (suc i) x h e = rw suc-add (forms-drop f ys i x (omega arith) e)

pub forms-drop_all : {X : Type 0} (f : X → Form) (xs : List X) (i : ℕ) → length xs ≤ i → forms (drop i (map f xs)) ≡ End
forms-drop_all f xs i h = ap forms (drop_of_length-le (map f xs) (rw length-map h))

-- the progress of a sequence: the result of the items so far, before the remaining ones
pub record ItemsSoFar (take : Recognizer) (all : Forms) (terminal position : ℕ) (start : Evaluation) (rest : Forms) (next at : ℕ) (now : Evaluation) : Type 0 where
  pub tests : List Test
  pub calls : List RuleCall
  pub trees : Trees
  pub same : recognize_seq take all terminal position ≡ prefixed tests calls trees (recognize_seq take rest next at)
  pub noted_now : now ≡ seen (fold note_test start.furthest tests) (start.rows ++ rows_of trees)

pub items-start : (take : Recognizer) (all : Forms) (terminal position : ℕ) (start : Evaluation) → ItemsSoFar take all terminal position start all terminal position start
items-start take all terminal position start = record {
  tests = [];
  calls = [];
  trees = NoTrees;
  same = sym (prefixed-none (recognize_seq take all terminal position));
  noted_now = ap (seen start.furthest) (sym (append-nil start.rows));
}

module _ (take : Recognizer) (all : Forms) (terminal position : ℕ) (start : Evaluation) (e : Form) (rest : Forms) (next at : ℕ) (now then : Evaluation) (so_far : ItemsSoFar take all terminal position start (Then e rest) next at now) where
  pub items-matched : (end : ℕ) → Evaluates (take e next at) now (Ok (EndsAt end)) then → ItemsSoFar take all terminal position start rest (next + terminals e) end then
  items-matched end h =
      let m = result_of_matched h.0.result end h.2 in
      record {
        tests = so_far.tests ++ h.0.tests;
        calls = so_far.calls ++ h.0.calls;
        trees = followed_by so_far.trees m.0;
        same = so_far.same ∙ (ap (λ o. prefixed so_far.tests so_far.calls so_far.trees (then_at o (λ there. recognize_seq take rest (next + terminals e) there))) h.1 ∙ (ap (λ x. prefixed so_far.tests so_far.calls so_far.trees (then_result x h.0 (λ there. recognize_seq take rest (next + terminals e) there))) m.1 ∙ prefixed-prefixed so_far.tests h.0.tests so_far.calls h.0.calls so_far.trees m.0 (recognize_seq take rest (next + terminals e) end)));
        noted_now = h.3 ∙ ((λ i. seen (fold note_test ((so_far.noted_now i).furthest) h.0.tests) ((so_far.noted_now i).rows ++ rows_of (trees_left (m.1 i)))) ∙ (λ i. seen (sym (fold-append note_test start.furthest so_far.tests h.0.tests) i) ((append_assoc start.rows (rows_of so_far.trees) (rows_of m.0) ∙ ap (λ l. start.rows ++ l) (sym (rows_of-followed_by so_far.trees m.0))) i)));
      }

  pub items-failed : (cut : Evaluation) → cut ≡ seen then.furthest start.rows → Evaluates (take e next at) now (Ok Fails) then → Evaluates (recognize_seq take all terminal position) start (Ok Fails) cut
  items-failed cut is h =
      let f = result_of_failed h.0.result h.2 in (
        record { result = recognition.Failed; tests = so_far.tests ++ h.0.tests; calls = so_far.calls ++ h.0.calls },
        so_far.same ∙ (ap (λ o. prefixed so_far.tests so_far.calls so_far.trees (then_at o (λ there. recognize_seq take rest (next + terminals e) there))) h.1 ∙ (ap (λ x. prefixed so_far.tests so_far.calls so_far.trees (then_result x h.0 (λ there. recognize_seq take rest (next + terminals e) there))) f ∙ ap (λ x. Some (record { result = prepend_trees so_far.trees x; tests = so_far.tests ++ h.0.tests; calls = so_far.calls ++ h.0.calls })) f)),
        refl,
        is ∙ ((λ i. seen ((h.3 i).furthest) (sym (append-nil start.rows) i)) ∙ ((λ i. seen (fold note_test ((so_far.noted_now i).furthest) h.0.tests) (start.rows ++ [])) ∙ (λ i. seen (sym (fold-append note_test start.furthest so_far.tests h.0.tests) i) (start.rows ++ [])))),
      )

  pub items-stopped : (stop : Abort) → Evaluates (take e next at) now (Err stop) then → Evaluates (recognize_seq take all terminal position) start (Err stop) then
  items-stopped AtDepth h =
      so_far.same ∙ ap (λ o. prefixed so_far.tests so_far.calls so_far.trees (then_at o (λ there. recognize_seq take rest (next + terminals e) there))) h
  items-stopped OutOfMemory h = tt

pub items-end : (take : Recognizer) (all : Forms) (terminal position : ℕ) (start : Evaluation) (next at : ℕ) (now : Evaluation) → ItemsSoFar take all terminal position start End next at now → Evaluates (recognize_seq take all terminal position) start (Ok (EndsAt at)) now
items-end take all terminal position start next at now so_far = (
  record { result = recognition.Matched at (followed_by so_far.trees NoTrees); tests = so_far.tests ++ []; calls = so_far.calls ++ [] },
  so_far.same,
  refl,
  so_far.noted_now ∙ (λ i. seen (ap (λ l. fold note_test start.furthest l) (sym (append-nil so_far.tests)) i) (ap (λ l. start.rows ++ l) (sym (append-nil (rows_of so_far.trees)) ∙ sym (rows_of-followed_by so_far.trees NoTrees)) i)),
)

-- the alternatives after the first; a failure if there is none
abbrev pub take_any : Recognizer → Forms → (terminal position : ℕ) → Option Record
take_any take End terminal position = Some (record { result = recognition.Failed; tests = []; calls = [] })
take_any take (Then e rest) terminal position = or_else (take e terminal position) (take_any take rest (terminal + terminals e) position)

or_else-none : (tried : Option Record) → or_else tried (Some (record { result = recognition.Failed; tests = []; calls = [] })) ≡ tried
or_else-none None = refl
or_else-none (Some r) = by r.result refl
  where
    by : (x : Recognition) → x ≡ r.result → choice_result x r (Some (record { result = recognition.Failed; tests = []; calls = [] })) ≡ Some r
    by recognition.Failed e = λ i. Some (record { result = e i; tests = append-nil r.tests i; calls = append-nil r.calls i })
    by (recognition.Matched end trees) e = refl

recognize_choice-any : (take : Recognizer) (e : Form) (rest : Forms) (terminal position : ℕ) → recognize_choice take e rest terminal position ≡ or_else (take e terminal position) (take_any take rest (terminal + terminals e) position)
recognize_choice-any take e End terminal position = sym (or_else-none (take e terminal position))
recognize_choice-any take e (Then next rest) terminal position =
    ap (or_else (take e terminal position)) (recognize_choice-any take next rest (terminal + terminals e) position)

-- a record after the tests and calls of failed alternatives
abbrev pub failing : List Test → List RuleCall → Option Record → Option Record
failing tests calls tried =
    option_map (λ (more : Record). record { result = more.result; tests = tests ++ more.tests; calls = calls ++ more.calls }) tried

failing-failing : (tests more_tests : List Test) (calls more_uses : List RuleCall) (tried : Option Record) → failing tests calls (failing more_tests more_uses tried) ≡ failing (tests ++ more_tests) (calls ++ more_uses) tried
failing-failing tests more_tests calls more_uses None = refl
failing-failing tests more_tests calls more_uses (Some r) =
    λ i. Some (record { result = r.result; tests = sym (append_assoc tests more_tests r.tests) i; calls = sym (append_assoc calls more_uses r.calls) i })

-- the progress of a choice: the alternatives so far failed, and the remaining ones
pub record FailedSoFar (whole : Option Record) (take : Recognizer) (position : ℕ) (start : Evaluation) (rest : Forms) (next : ℕ) (now : Evaluation) : Type 0 where
  pub tests : List Test
  pub calls : List RuleCall
  pub same : whole ≡ failing tests calls (take_any take rest next position)
  pub noted_now : now ≡ seen (fold note_test start.furthest tests) start.rows

module _ (take : Recognizer) (e : Form) (rest : Forms) (terminal position : ℕ) (start then : Evaluation) where
  pub choice-first_failed : Evaluates (take e terminal position) start (Ok Fails) then → FailedSoFar (recognize_choice take e rest terminal position) take position start rest (terminal + terminals e) then
  choice-first_failed h =
      let f = result_of_failed h.0.result h.2 in
      record {
        tests = h.0.tests;
        calls = h.0.calls;
        same = recognize_choice-any take e rest terminal position ∙ (ap (λ o. or_else o (take_any take rest (terminal + terminals e) position)) h.1 ∙ ap (λ x. choice_result x h.0 (take_any take rest (terminal + terminals e) position)) f);
        noted_now = h.3 ∙ (λ i. seen (fold note_test start.furthest h.0.tests) ((ap (λ x. start.rows ++ rows_of (trees_left x)) f ∙ append-nil start.rows) i));
      }

  pub choice-first_matched : (end : ℕ) → Evaluates (take e terminal position) start (Ok (EndsAt end)) then → Evaluates (recognize_choice take e rest terminal position) start (Ok (EndsAt end)) then
  choice-first_matched end h =
      let m = result_of_matched h.0.result end h.2 in
      (h.0, recognize_choice-any take e rest terminal position ∙ (ap (λ o. or_else o (take_any take rest (terminal + terminals e) position)) h.1 ∙ ap (λ x. choice_result x h.0 (take_any take rest (terminal + terminals e) position)) m.1), h.2, h.3)

  pub choice-first_stopped : (stop : Abort) → Evaluates (take e terminal position) start (Err stop) then → Evaluates (recognize_choice take e rest terminal position) start (Err stop) then
  choice-first_stopped AtDepth h =
      recognize_choice-any take e rest terminal position ∙ ap (λ o. or_else o (take_any take rest (terminal + terminals e) position)) h
  choice-first_stopped OutOfMemory h = tt

module _ (whole : Option Record) (take : Recognizer) (e : Form) (rest : Forms) (next position : ℕ) (start now then : Evaluation) (so_far : FailedSoFar whole take position start (Then e rest) next now) where
  pub choice-next_failed : Evaluates (take e next position) now (Ok Fails) then → FailedSoFar whole take position start rest (next + terminals e) then
  choice-next_failed h =
      let f = result_of_failed h.0.result h.2 in
      record {
        tests = so_far.tests ++ h.0.tests;
        calls = so_far.calls ++ h.0.calls;
        same = so_far.same ∙ (ap (λ o. failing so_far.tests so_far.calls (or_else o (take_any take rest (next + terminals e) position))) h.1 ∙ (ap (λ x. failing so_far.tests so_far.calls (choice_result x h.0 (take_any take rest (next + terminals e) position))) f ∙ failing-failing so_far.tests h.0.tests so_far.calls h.0.calls (take_any take rest (next + terminals e) position)));
        noted_now = h.3 ∙ ((λ i. seen (fold note_test ((so_far.noted_now i).furthest) h.0.tests) ((so_far.noted_now i).rows ++ rows_of (trees_left (f i)))) ∙ (λ i. seen (sym (fold-append note_test start.furthest so_far.tests h.0.tests) i) (append-nil start.rows i)));
      }

  pub choice-next_matched : (end : ℕ) → Evaluates (take e next position) now (Ok (EndsAt end)) then → Evaluates whole start (Ok (EndsAt end)) then
  choice-next_matched end h =
      let m = result_of_matched h.0.result end h.2 in (
        record { result = h.0.result; tests = so_far.tests ++ h.0.tests; calls = so_far.calls ++ h.0.calls },
        so_far.same ∙ (ap (λ o. failing so_far.tests so_far.calls (or_else o (take_any take rest (next + terminals e) position))) h.1 ∙ ap (λ x. failing so_far.tests so_far.calls (choice_result x h.0 (take_any take rest (next + terminals e) position))) m.1),
        h.2,
        h.3 ∙ ((λ i. seen (fold note_test ((so_far.noted_now i).furthest) h.0.tests) ((so_far.noted_now i).rows ++ rows_of (trees_left h.0.result))) ∙ (λ i. seen (sym (fold-append note_test start.furthest so_far.tests h.0.tests) i) (start.rows ++ rows_of (trees_left h.0.result)))),
      )

  pub choice-next_stopped : (stop : Abort) → Evaluates (take e next position) now (Err stop) then → Evaluates whole start (Err stop) then
  choice-next_stopped AtDepth h =
      so_far.same ∙ ap (λ o. failing so_far.tests so_far.calls (or_else o (take_any take rest (next + terminals e) position))) h
  choice-next_stopped OutOfMemory h = tt

pub choice-end : (whole : Option Record) (take : Recognizer) (next position : ℕ) (start now : Evaluation) → FailedSoFar whole take position start End next now → Evaluates whole start (Ok Fails) now
choice-end whole take next position start now so_far = (
  record { result = recognition.Failed; tests = so_far.tests ++ []; calls = so_far.calls ++ [] },
  so_far.same,
  refl,
  so_far.noted_now ∙ (λ i. seen (ap (λ l. fold note_test start.furthest l) (sym (append-nil so_far.tests)) i) (sym (append-nil start.rows) i)),
)
