-- What the machine computes with the code of each form, from the results of its parts: one rule for each outcome of a
-- form. Proofs about runs are composed of these rules.
use Rattle.std.proofs.Common.{◌≡◌, ℕ, suc, ◌+◌, List, [], ◌∷◌, ◌++◌, Option, Some, option_and_then, drop, slice_get}
use Rattle.std.proofs.Common.{refl, sym, ◌∙◌, ap, arith, append-nil, zero-add, add-zero, suc-add, add_assoc}
use Rattle.peg_bytes.specs.ByteSet.{Bytes, has}
use Rattle.peg_tree.specs.Rows.{Row}
use Rattle.peg_tree.specs.Trees.{Trees}
use Rattle.peg_semantics.specs.Record.{Recognition, Failed, Matched, Record, matched_at, after_both, byte_at, prepend_trees}
use Rattle.peg_semantics.specs.Record.{with_result}
use Rattle.peg_code.specs.Instructions.{Instruction, Test, Call, Ret, Choice, Commit, FailTwice}
use Rattle.peg_runs.specs.ShownRows.{shown_rows}
use Rattle.peg_runs.specs.Local.{BodyContext, SavedChoice, saved_choice, Effects, only_steps, effects_of, then_effects, BodyFailed, Returned, body_result}
use Rattle.peg_runs.specs.Local.{with_effects, Continuation, backtrack, continue_after, after_answer, step_of, run_local}
use Rattle.peg_runs.specs.Runs.{RunsAsRecord, EndsAsRecord, ending_of}
use Rattle.peg_runs.proofs.WorkLemmas.{same_work, with_effects-nothing, with_effects-then_effects, then_effects-steps, continue_after-prepend_trees}

one-more : (n : ℕ) → 1 + n ≡ suc n
one-more n = omega arith

module _ (body_context : BodyContext) where
  -- ---- single instructions

  -- one round executes the current instruction
  round : (instruction : Instruction) (left pc position : ℕ) (rows : List Row) (choice_points : List SavedChoice)
      → slice_get body_context.code pc ≡ Some instruction
      → run_local body_context (suc left) pc position rows choice_points
      ≡ step_of body_context (run_local body_context left) (Some instruction) pc position rows choice_points
  unfolding run_local
  round instruction left pc position rows choice_points is =
      ap (λ (i : Option Instruction). step_of body_context (run_local body_context left) i pc position rows choice_points) is

  -- the result of a part, if that is known
  answer : (r : Record) (result : Recognition) (steps : ℕ) (next : Continuation) (pc : ℕ) (rows : List Row) (choice_points : List SavedChoice)
      → r.result ≡ result
      → after_answer body_context.shown r steps next pc rows choice_points ≡ with_effects (effects_of r steps) (continue_after body_context.shown next result pc rows choice_points)
  answer r result steps next pc rows choice_points is =
      ap (λ (x : Recognition). with_effects (effects_of r steps) (continue_after body_context.shown next x pc rows choice_points)) is

  -- ---- the rules

  -- no code does nothing
  pub nothing_runs : (pc position : ℕ) → RunsAsRecord body_context pc pc position (matched_at position) 0
  nothing_runs pc position = record {
    rounds = 0;
    runs = λ left rows choice_points.
        ap (λ (k : ℕ). run_local body_context k pc position rows choice_points) (zero-add left)
        ∙ ap (λ (all : List Row). run_local body_context left pc position all choice_points) (sym (append-nil rows))
        ∙ sym (with_effects-nothing (run_local body_context left pc position (rows ++ []) choice_points));
  }

  -- a terminal test
  pub test_runs : (pc position terminal : ℕ) (set : Bytes) → slice_get body_context.code pc ≡ Some (Test set terminal)
      → RunsAsRecord body_context pc (pc + 1) position (byte_at (has set) terminal position (drop position body_context.text)) 1
  test_runs pc position terminal set is = record {
    rounds = 1;
    runs = λ left rows choice_points.
        ap (λ (k : ℕ). run_local body_context k pc position rows choice_points) (one-more left)
        ∙ round (Test set terminal) left pc position rows choice_points is;
  }

  -- a call whose record is known
  pub call_runs : (pc position rule : ℕ) (r : Record) → slice_get body_context.code pc ≡ Some (Call rule)
      → body_context.calls rule position ≡ Some r → RunsAsRecord body_context pc (pc + 1) position r (body_context.costs rule position)
  call_runs pc position rule r is known = record {
    rounds = 1;
    runs = λ left rows choice_points.
        ap (λ (k : ℕ). run_local body_context k pc position rows choice_points) (one-more left)
        ∙ round (Call rule) left pc position rows choice_points is
        ∙ ap (option_and_then (λ (r : Record). after_answer body_context.shown r (body_context.costs rule position) (run_local body_context left) (pc + 1) rows choice_points)) known;
  }

  -- a failed run fails wherever it would have continued
  pub failing_runs : {from to position steps : ℕ} {r : Record} (elsewhere : ℕ) → RunsAsRecord body_context from to position r steps
      → r.result ≡ Failed → RunsAsRecord body_context from elsewhere position r steps
  failing_runs {from} {to} {position} {steps} {r} elsewhere part failed = record {
    rounds = part.rounds;
    runs = λ left rows choice_points.
        part.runs left rows choice_points
        ∙ answer r Failed steps (run_local body_context left) to rows choice_points failed
        ∙ sym (answer r Failed steps (run_local body_context left) elsewhere rows choice_points failed);
  }

  -- a part that matched, followed by the code after it
  pub runs_then : {from middle to position end steps more_steps : ℕ} {r more : Record} {trees : Trees}
      → RunsAsRecord body_context from middle position r steps → r.result ≡ Matched end trees → RunsAsRecord body_context middle to end more more_steps
      → RunsAsRecord body_context from to position (after_both r more (prepend_trees trees more.result)) (steps + more_steps)
  runs_then {from} {middle} {to} {position} {end} {steps} {more_steps} {r} {more} {trees} part matched rest = record {
    rounds = part.rounds + rest.rounds;
    runs = λ left rows choice_points.
        ap (λ (k : ℕ). run_local body_context k from position rows choice_points) (add_assoc part.rounds rest.rounds left)
        ∙ part.runs (rest.rounds + left) rows choice_points
        ∙ answer r (Matched end trees) steps (run_local body_context (rest.rounds + left)) middle rows choice_points matched
        ∙ ap (with_effects (effects_of r steps)) (rest.runs left (rows ++ shown_rows body_context.shown trees) choice_points)
        ∙ with_effects-then_effects (effects_of r steps) (effects_of more more_steps) (continue_after body_context.shown (run_local body_context left) more.result to (rows ++ shown_rows body_context.shown trees) choice_points)
        ∙ ap (with_effects (then_effects (effects_of r steps) (effects_of more more_steps)))
        (continue_after-prepend_trees body_context.shown (run_local body_context left) trees more.result to rows choice_points);
  }

  -- a part with a choice point, followed by the instruction at `middle`
  module _ (pc : ℕ) {middle target position steps : ℕ} {r : Record} (leaves : slice_get body_context.code pc ≡ Some (Choice target))
      (part : RunsAsRecord body_context (pc + 1) middle position r steps) where
    -- the choice point is pushed, and the part runs
    tried : (left : ℕ) (rows : List Row) (choice_points : List SavedChoice)
        → run_local body_context (suc part.rounds + left) pc position rows choice_points
        ≡ with_effects (only_steps 1) (after_answer body_context.shown r steps (run_local body_context left) middle rows (saved_choice target position rows ∷ choice_points))
    tried left rows choice_points =
        ap (λ (k : ℕ). run_local body_context k pc position rows choice_points) (suc-add part.rounds left)
        ∙ round (Choice target) (part.rounds + left) pc position rows choice_points leaves
        ∙ ap (with_effects (only_steps 1)) (part.runs left rows (saved_choice target position rows ∷ choice_points))

    -- the part failed: the run resumes at the choice point's target
    pub falls_back : {to more_steps : ℕ} {more : Record} → r.result ≡ Failed → RunsAsRecord body_context target to position more more_steps
        → RunsAsRecord body_context pc to position (after_both r more more.result) (1 + (steps + more_steps))
    falls_back {to} {more_steps} {more} failed other = record {
      rounds = suc part.rounds + other.rounds;
      runs = λ left rows choice_points.
          ap (λ (k : ℕ). run_local body_context k pc position rows choice_points) (add_assoc (suc part.rounds) other.rounds left)
          ∙ tried (other.rounds + left) rows choice_points
          ∙ ap (with_effects (only_steps 1))
          (answer r Failed steps (run_local body_context (other.rounds + left)) middle rows (saved_choice target position rows ∷ choice_points) failed
          ∙ ap (with_effects (effects_of r steps)) (other.runs left rows choice_points)
          ∙ with_effects-then_effects (effects_of r steps) (effects_of more more_steps) (continue_after body_context.shown (run_local body_context left) more.result to rows choice_points))
          ∙ with_effects-then_effects (only_steps 1) (then_effects (effects_of r steps) (effects_of more more_steps))
          (continue_after body_context.shown (run_local body_context left) more.result to rows choice_points);
    }

    -- the part matched: the choice point is popped, and the run continues at the target of the commit
    pub commits : {end to : ℕ} {trees : Trees} → r.result ≡ Matched end trees
        → slice_get body_context.code middle ≡ Some (Commit to) → RunsAsRecord body_context pc to position r (1 + (steps + 1))
    commits {end} {to} {trees} matched commit = record {
      rounds = suc part.rounds + 1;
      runs = λ left rows choice_points.
          ap (λ (k : ℕ). run_local body_context k pc position rows choice_points) (add_assoc (suc part.rounds) 1 left)
          ∙ ap (λ (k : ℕ). run_local body_context (suc part.rounds + k) pc position rows choice_points) (one-more left)
          ∙ tried (suc left) rows choice_points
          ∙ ap (with_effects (only_steps 1))
          (answer r (Matched end trees) steps (run_local body_context (suc left)) middle rows (saved_choice target position rows ∷ choice_points) matched
          ∙ ap (with_effects (effects_of r steps))
          (round (Commit to) left middle end (rows ++ shown_rows body_context.shown trees) (saved_choice target position rows ∷ choice_points) commit)
          ∙ with_effects-then_effects (effects_of r steps) (only_steps 1) (run_local body_context left to end (rows ++ shown_rows body_context.shown trees) choice_points)
          ∙ ap (λ (w : Effects). with_effects w (run_local body_context left to end (rows ++ shown_rows body_context.shown trees) choice_points)) (then_effects-steps (effects_of r steps) 1))
          ∙ with_effects-then_effects (only_steps 1) (effects_of r (steps + 1)) (run_local body_context left to end (rows ++ shown_rows body_context.shown trees) choice_points)
          ∙ sym (answer r (Matched end trees) (1 + (steps + 1)) (run_local body_context left) to rows choice_points matched);
    }

    -- the part of a not-predicate matched: the choice point is popped, and the run fails
    pub fails_twice : {end : ℕ} {trees : Trees} (to : ℕ) → r.result ≡ Matched end trees
        → slice_get body_context.code middle ≡ Some FailTwice
        → RunsAsRecord body_context pc to position (with_result r Failed) (1 + (steps + 1))
    fails_twice {end} {trees} to matched twice = record {
      rounds = suc part.rounds + 1;
      runs = λ left rows choice_points.
          ap (λ (k : ℕ). run_local body_context k pc position rows choice_points) (add_assoc (suc part.rounds) 1 left)
          ∙ ap (λ (k : ℕ). run_local body_context (suc part.rounds + k) pc position rows choice_points) (one-more left)
          ∙ tried (suc left) rows choice_points
          ∙ ap (with_effects (only_steps 1))
          (answer r (Matched end trees) steps (run_local body_context (suc left)) middle rows (saved_choice target position rows ∷ choice_points) matched
          ∙ ap (with_effects (effects_of r steps))
          (round FailTwice left middle end (rows ++ shown_rows body_context.shown trees) (saved_choice target position rows ∷ choice_points) twice)
          ∙ with_effects-then_effects (effects_of r steps) (only_steps 1) (backtrack (run_local body_context left) choice_points)
          ∙ ap (λ (w : Effects). with_effects w (backtrack (run_local body_context left) choice_points)) (then_effects-steps (effects_of r steps) 1))
          ∙ with_effects-then_effects (only_steps 1) (effects_of r (steps + 1)) (backtrack (run_local body_context left) choice_points);
    }

  -- ---- a body

  -- a body that failed
  pub body_gives_up : {entry to position steps : ℕ} {r : Record} → RunsAsRecord body_context entry to position r steps
      → r.result ≡ Failed → EndsAsRecord body_context entry position r steps
  body_gives_up {entry} {to} {position} {steps} {r} part failed = record {
    rounds = part.rounds;
    ends = λ left before.
        part.runs left before []
        ∙ answer r Failed steps (run_local body_context left) to before [] failed
        ∙ ap (λ (w : Effects). Some (body_result BodyFailed w))
        (then_effects-steps (effects_of r steps) 0 ∙ same_work {tests = r.tests} {calls = r.calls} refl refl (add-zero steps))
        ∙ ap (λ (x : Recognition). Some (body_result (ending_of body_context.shown before x) (effects_of r steps))) (sym failed);
  }

  -- a body that matched, followed by `Ret`
  pub body_returns : {entry to position end steps : ℕ} {r : Record} {trees : Trees} → RunsAsRecord body_context entry to position r steps
      → r.result ≡ Matched end trees → slice_get body_context.code to ≡ Some Ret → EndsAsRecord body_context entry position r (steps + 1)
  body_returns {entry} {to} {position} {end} {steps} {r} {trees} part matched returns = record {
    rounds = part.rounds + 1;
    ends = λ left before.
        ap (λ (k : ℕ). run_local body_context k entry position before []) (add_assoc part.rounds 1 left)
        ∙ ap (λ (k : ℕ). run_local body_context (part.rounds + k) entry position before []) (one-more left)
        ∙ part.runs (suc left) before []
        ∙ answer r (Matched end trees) steps (run_local body_context (suc left)) to before [] matched
        ∙ ap (with_effects (effects_of r steps)) (round Ret left to end (before ++ shown_rows body_context.shown trees) [] returns)
        ∙ ap (λ (w : Effects). Some (body_result (Returned end (before ++ shown_rows body_context.shown trees)) w)) (then_effects-steps (effects_of r steps) 1)
        ∙ ap (λ (x : Recognition). Some (body_result (ending_of body_context.shown before x) (effects_of r (steps + 1)))) (sym matched);
  }
