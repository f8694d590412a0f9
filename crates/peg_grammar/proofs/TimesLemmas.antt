-- The evaluator's loop over the repetitions of a count.
use Rattle.std.proofs.Common.{◌≡◌, ℕ, zero, suc, ◌+◌, ◌-◌, ◌<◌, ◌≤◌, List, [], ◌++◌, fold, Option, Some, Ok, Err, refl, sym, ap, ◌∙◌, append_assoc, append-nil, arith}
use Rattle.std.proofs.lemmas.List.Sums.{fold-append}
use Rattle.peg_tree.specs.Rows.{rows_of}
use Rattle.peg_tree.specs.Trees.{Trees, NoTrees, followed_by}
use Rattle.peg_semantics.specs.FurthestPass.{note_test}
use Rattle.peg_semantics.specs.Record.{Record, Test, RuleCall, prepend_trees, then_result, star_result, then_at, recognize_repeat}
use Rattle.peg_semantics.specs.Record as recognition
use Rattle.peg_grammar.specs.Seen.{Evaluation, trees_left, Evaluates}
use Rattle.peg_grammar.specs.declared.found.Abort.{Abort}
use Rattle.peg_grammar.specs.declared.found.Abort.TheVariants.{AtDepth, OutOfMemory}
use Rattle.peg_grammar.specs.declared.found.MatchResult.TheVariants.{EndsAt, Fails}
use Rattle.peg_grammar.proofs.SeenLemmas.{prefixed, prefixed-prefixed, prefixed-none, result_of_failed, result_of_matched, rows_of-followed_by, seen}
use Rattle.peg_grammar.proofs.StepLemmas.{round_at}

-- the progress of a count: the result of the repetitions so far, before the remaining ones
pub record TimesSoFar (take : ℕ → Option Record) (least most position : ℕ) (start : Evaluation) (min max at : ℕ) (now : Evaluation) : Type 0 where
  pub tests : List Test
  pub calls : List RuleCall
  pub trees : Trees
  pub same : recognize_repeat take least most position ≡ prefixed tests calls trees (recognize_repeat take min max at)
  pub noted_now : now ≡ seen (fold note_test start.furthest tests) (start.rows ++ rows_of trees)

pub times-start : (take : ℕ → Option Record) (least most position : ℕ) (start : Evaluation) (min max : ℕ) → least ≡ min → most ≡ max
    → TimesSoFar take least most position start min max position start
times-start take least most position start min max all_min all_max = record {
  tests = [];
  calls = [];
  trees = NoTrees;
  same = sym (prefixed-none (recognize_repeat take least most position)) ∙ (λ i. prefixed [] [] NoTrees (recognize_repeat take (all_min i) (all_max i) position));
  noted_now = ap (seen start.furthest) (sym (append-nil start.rows));
}

-- the predecessor of a number; 0 for 0
abbrev pub one_less : ℕ → ℕ
one_less zero = zero
one_less (suc n) = n

-- the remaining repetitions after one more repetition
pub one_less-left : (most round : ℕ) → one_less (most - round) ≡ most - (round + 1)
one_less-left most round = by (most - round) refl
  where
    by : (left : ℕ) → most - round ≡ left → one_less left ≡ most - (round + 1)
    by zero is = omega (arith, is)
    by (suc left) is = omega (arith, is)

pub some-left : (most round : ℕ) → round < most → most - round ≡ suc (most - (round + 1))
some-left most round more = omega (arith, more)

pub none-left : (most round : ℕ) → most ≤ round → most - round ≡ 0
none-left most round enough = omega (arith, enough)

module _ (take : ℕ → Option Record) (least most position : ℕ) (start : Evaluation) where
  -- a repetition that matched, followed by the remaining ones
  after_match : (min max at end : ℕ) (r : Record) (trees : Trees) → take at ≡ Some r → r.result ≡ recognition.Matched end trees
      → recognize_repeat take min (suc max) at ≡ prefixed r.tests r.calls trees (recognize_repeat take (one_less min) max end)
  after_match zero max at end r trees is matched =
      ap (λ o. round_at o at (λ there. recognize_repeat take 0 max there)) is
      ∙ ap (λ x. star_result x at r (λ there. recognize_repeat take 0 max there)) matched
  after_match (suc min) max at end r trees is matched =
      ap (λ o. then_at o (λ there. recognize_repeat take min max there)) is
      ∙ ap (λ x. then_result x r (λ there. recognize_repeat take min max there)) matched

  module _ (at : ℕ) (now then : Evaluation) where
    pub times-matched : (min max end : ℕ) → TimesSoFar take least most position start min (suc max) at now
        → Evaluates (take at) now (Ok (EndsAt end)) then
        → TimesSoFar take least most position start (one_less min) max end then
    times-matched min max end so_far h =
        let m = result_of_matched h.0.result end h.2 in
        record {
          tests = so_far.tests ++ h.0.tests;
          calls = so_far.calls ++ h.0.calls;
          trees = followed_by so_far.trees m.0;
          same = so_far.same ∙ (ap (prefixed so_far.tests so_far.calls so_far.trees) (after_match min max at end h.0 m.0 h.1 m.1) ∙ prefixed-prefixed so_far.tests h.0.tests so_far.calls h.0.calls so_far.trees m.0 (recognize_repeat take (one_less min) max end));
          noted_now = h.3 ∙ ((λ i. seen (fold note_test ((so_far.noted_now i).furthest) h.0.tests) ((so_far.noted_now i).rows ++ rows_of (trees_left (m.1 i)))) ∙ (λ i. seen (sym (fold-append note_test start.furthest so_far.tests h.0.tests) i) ((append_assoc start.rows (rows_of so_far.trees) (rows_of m.0) ∙ ap (λ l. start.rows ++ l) (sym (rows_of-followed_by so_far.trees m.0))) i)));
        }

    -- a repetition fails after the minimum is reached
    pub times-enough : (max : ℕ) → TimesSoFar take least most position start 0 (suc max) at now
        → Evaluates (take at) now (Ok Fails) then → Evaluates (recognize_repeat take least most position) start (Ok (EndsAt at)) then
    times-enough max so_far h =
        let f = result_of_failed h.0.result h.2 in
        let next = λ (there : ℕ). recognize_repeat take 0 max there in (
          record { result = recognition.Matched at (followed_by so_far.trees NoTrees); tests = so_far.tests ++ (h.0.tests ++ []); calls = so_far.calls ++ (h.0.calls ++ []) },
          so_far.same ∙ ap (prefixed so_far.tests so_far.calls so_far.trees) (ap (λ o. round_at o at next) h.1 ∙ ap (λ x. star_result x at h.0 next) f),
          refl,
          h.3 ∙ ((λ i. seen (fold note_test ((so_far.noted_now i).furthest) h.0.tests) ((so_far.noted_now i).rows ++ rows_of (trees_left (f i)))) ∙ (λ i. seen ((sym (fold-append note_test start.furthest so_far.tests h.0.tests) ∙ ap (λ l. fold note_test start.furthest (so_far.tests ++ l)) (sym (append-nil h.0.tests))) i) ((append-nil (start.rows ++ rows_of so_far.trees) ∙ ap (λ l. start.rows ++ l) (sym (append-nil (rows_of so_far.trees)) ∙ sym (rows_of-followed_by so_far.trees NoTrees))) i))),
        )

    -- a repetition fails before the minimum is reached: the nodes of the repetitions are dropped
    pub times-failed : (min max : ℕ) (cut : Evaluation) → TimesSoFar take least most position start (suc min) (suc max) at now
        → cut ≡ seen then.furthest start.rows → Evaluates (take at) now (Ok Fails) then
        → Evaluates (recognize_repeat take least most position) start (Ok Fails) cut
    times-failed min max cut so_far is h =
        let f = result_of_failed h.0.result h.2 in
        let next = λ (there : ℕ). recognize_repeat take min max there in (
          record { result = recognition.Failed; tests = so_far.tests ++ h.0.tests; calls = so_far.calls ++ h.0.calls },
          so_far.same ∙ (ap (λ o. prefixed so_far.tests so_far.calls so_far.trees (then_at o next)) h.1 ∙ (ap (λ x. prefixed so_far.tests so_far.calls so_far.trees (then_result x h.0 next)) f ∙ ap (λ x. Some (record { result = prepend_trees so_far.trees x; tests = so_far.tests ++ h.0.tests; calls = so_far.calls ++ h.0.calls })) f)),
          refl,
          is ∙ ((λ i. seen ((h.3 i).furthest) (sym (append-nil start.rows) i)) ∙ ((λ i. seen (fold note_test ((so_far.noted_now i).furthest) h.0.tests) (start.rows ++ [])) ∙ (λ i. seen (sym (fold-append note_test start.furthest so_far.tests h.0.tests) i) (start.rows ++ [])))),
        )

    pub times-stopped : (min max : ℕ) (stop : Abort) → TimesSoFar take least most position start min (suc max) at now
        → Evaluates (take at) now (Err stop) then → Evaluates (recognize_repeat take least most position) start (Err stop) then
    times-stopped zero max AtDepth so_far h =
        so_far.same ∙ ap (λ o. prefixed so_far.tests so_far.calls so_far.trees (round_at o at (λ there. recognize_repeat take 0 max there))) h
    times-stopped (suc min) max AtDepth so_far h =
        so_far.same ∙ ap (λ o. prefixed so_far.tests so_far.calls so_far.trees (then_at o (λ there. recognize_repeat take min max there))) h
    times-stopped min max OutOfMemory so_far h = tt

  -- the maximum of repetitions is reached
  pub times-end : (min at : ℕ) (now : Evaluation) → TimesSoFar take least most position start min 0 at now
      → Evaluates (recognize_repeat take least most position) start (Ok (EndsAt at)) now
  times-end min at now so_far = (
    record { result = recognition.Matched at (followed_by so_far.trees NoTrees); tests = so_far.tests ++ []; calls = so_far.calls ++ [] },
    so_far.same,
    refl,
    so_far.noted_now ∙ (λ i. seen (ap (λ l. fold note_test start.furthest l) (sym (append-nil so_far.tests)) i) (ap (λ l. start.rows ++ l) (sym (append-nil (rows_of so_far.trees)) ∙ sym (rows_of-followed_by so_far.trees NoTrees)) i)),
  )
