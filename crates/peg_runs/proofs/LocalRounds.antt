-- The result of a body in n rounds is its result in n + 1 rounds.
use Rattle.std.proofs.Common.{ℕ, zero, suc, ◌+◌, List, [], ◌∷◌, ◌++◌, Option, None, Some, slice_get, drop, zero-add}
use Rattle.std.proofs.Common.{suc-add}
use Rattle.peg_bytes.specs.ByteSet.{has}
use Rattle.peg_tree.specs.Rows.{Row}
use Rattle.peg_semantics.specs.Record.{Recognition, Failed, Matched, Record, byte_at}
use Rattle.peg_semantics.proofs.RecordLemmas.{Extends, Extends-refl, Extends-none, Extends-map, Extends-and_then}
use Rattle.peg_code.specs.Instructions.{Instruction, Test, Call, Ret, Choice, Commit, FailTwice, End}
use Rattle.peg_runs.specs.ShownRows.{shown_rows}
use Rattle.peg_runs.specs.Local.{BodyContext, SavedChoice, saved_choice, Effects, only_steps, effects_of, then_effects, BodyResult, body_result, BodyFailed}
use Rattle.peg_runs.specs.Local.{Returned, with_effects, Continuation, backtrack, continue_after, after_answer, step_of, run_local}

-- a result that extends another one does so with work added before both
Extends-with_effects : (work : Effects) (later more : Option BodyResult) → Extends later more
    → Extends (with_effects work later) (with_effects work more)
Extends-with_effects work later more h =
    Extends-map (λ (finish : BodyResult). body_result finish.ending (then_effects work finish.work)) later more h

module _ (body_context : BodyContext) (next more : Continuation)
    (h : (pc position : ℕ) (rows : List Row) (choice_points : List SavedChoice) → Extends (next pc position rows choice_points) (more pc position rows choice_points)) where
  Extends-backtrack : (choice_points : List SavedChoice) → Extends (backtrack next choice_points) (backtrack more choice_points)
  Extends-backtrack [] = Extends-refl (Some (body_result BodyFailed (only_steps 0)))
  Extends-backtrack (choice_point ∷ choice_points) = h choice_point.pc choice_point.position choice_point.rows choice_points

  Extends-continue_after : (result : Recognition) (pc : ℕ) (rows : List Row) (choice_points : List SavedChoice)
      → Extends (continue_after body_context.shown next result pc rows choice_points) (continue_after body_context.shown more result pc rows choice_points)
  Extends-continue_after Failed pc rows choice_points = Extends-backtrack choice_points
  Extends-continue_after (Matched end trees) pc rows choice_points = h pc end (rows ++ shown_rows body_context.shown trees) choice_points

  Extends-after_answer : (r : Record) (steps pc : ℕ) (rows : List Row) (choice_points : List SavedChoice)
      → Extends (after_answer body_context.shown r steps next pc rows choice_points) (after_answer body_context.shown r steps more pc rows choice_points)
  Extends-after_answer r steps pc rows choice_points =
      Extends-with_effects (effects_of r steps) (continue_after body_context.shown next r.result pc rows choice_points) (continue_after body_context.shown more r.result pc rows choice_points)
      (Extends-continue_after r.result pc rows choice_points)

  Extends-step_of : (instruction : Option Instruction) (pc position : ℕ) (rows : List Row) (choice_points : List SavedChoice)
      → Extends (step_of body_context next instruction pc position rows choice_points) (step_of body_context more instruction pc position rows choice_points)
  Extends-step_of None pc position rows choice_points = Extends-none None
  Extends-step_of (Some (Test set terminal)) pc position rows choice_points =
      Extends-after_answer (byte_at (has set) terminal position (drop position body_context.text)) 1 (pc + 1) rows choice_points
  Extends-step_of (Some (Call rule)) pc position rows choice_points =
      Extends-and_then
      (λ (r : Record). after_answer body_context.shown r (body_context.costs rule position) next (pc + 1) rows choice_points)
      (λ (r : Record). after_answer body_context.shown r (body_context.costs rule position) more (pc + 1) rows choice_points)
      (body_context.calls rule position) (body_context.calls rule position)
      (λ r. Extends-after_answer r (body_context.costs rule position) (pc + 1) rows choice_points)
      (Extends-refl (body_context.calls rule position))
  Extends-step_of (Some Ret) pc position rows [] = Extends-refl (Some (body_result (Returned position rows) (only_steps 1)))
  Extends-step_of (Some Ret) pc position rows (choice_point ∷ choice_points) = Extends-none None
  Extends-step_of (Some (Choice target)) pc position rows choice_points =
      Extends-with_effects (only_steps 1) (next (pc + 1) position rows (saved_choice target position rows ∷ choice_points))
      (more (pc + 1) position rows (saved_choice target position rows ∷ choice_points))
      (h (pc + 1) position rows (saved_choice target position rows ∷ choice_points))
  Extends-step_of (Some (Commit target)) pc position rows [] = Extends-none None
  Extends-step_of (Some (Commit target)) pc position rows (choice_point ∷ choice_points) =
      Extends-with_effects (only_steps 1) (next target position rows choice_points) (more target position rows choice_points) (h target position rows choice_points)
  Extends-step_of (Some FailTwice) pc position rows [] = Extends-none None
  Extends-step_of (Some FailTwice) pc position rows (choice_point ∷ choice_points) =
      Extends-with_effects (only_steps 1) (backtrack next choice_points) (backtrack more choice_points) (Extends-backtrack choice_points)
  Extends-step_of (Some End) pc position rows choice_points = Extends-none None

-- the result of a body in n rounds is its result in n + 1 rounds
pub run_local-more : (body_context : BodyContext) (n pc position : ℕ) (rows : List Row) (choice_points : List SavedChoice)
    → Extends (run_local body_context n pc position rows choice_points) (run_local body_context (suc n) pc position rows choice_points)
unfolding run_local
run_local-more body_context zero pc position rows choice_points = Extends-none (run_local body_context (suc zero) pc position rows choice_points)
run_local-more body_context (suc n) pc position rows choice_points =
    Extends-step_of body_context (run_local body_context n) (run_local body_context (suc n)) (run_local-more body_context n) (slice_get body_context.code pc)
    pc position rows choice_points

-- and in each greater number of rounds
pub run_local-later : (body_context : BodyContext) (more n pc position : ℕ) (rows : List Row) (choice_points : List SavedChoice)
    → Extends (run_local body_context n pc position rows choice_points) (run_local body_context (more + n) pc position rows choice_points)
run_local-later body_context zero n pc position rows choice_points finish h = rw zero-add h
run_local-later body_context (suc more) n pc position rows choice_points finish h =
    rw suc-add
    (run_local-more body_context (more + n) pc position rows choice_points finish (run_local-later body_context more n pc position rows choice_points finish h))
