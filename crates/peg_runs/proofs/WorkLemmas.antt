-- Concatenation of work, and continuing after a part whose trees come before others.
use Rattle.std.proofs.Common.{◌≡◌, ℕ, ◌+◌, List, ◌++◌, Option, None, Some, refl, sym, ◌∙◌, ap, append_assoc}
use Rattle.std.proofs.Common.{append-nil, arith, zero-add, add_assoc}
use Rattle.peg_tree.specs.Rows.{Row}
use Rattle.peg_tree.specs.Trees.{Trees}
use Rattle.peg_semantics.specs.Record.{Recognition, Failed, Matched, RuleCall, prepend_trees}
use Rattle.peg_semantics.specs.Record as ford
use Rattle.peg_runs.specs.Local.{SavedChoice, Effects, only_steps, then_effects, BodyResult, body_result, with_effects, Continuation, continue_after}
use Rattle.peg_runs.specs.ShownRows.{shown_rows, Shown}
use Rattle.peg_runs.proofs.ShownLemmas.{shown_rows-followed_by}

-- ---- work

-- equal components give equal work
pub same_work : {tests more_tests : List ford.Test} {calls more_uses : List RuleCall} {steps more_steps : ℕ}
    → tests ≡ more_tests → calls ≡ more_uses → steps ≡ more_steps
    → ◌≡◌ {A = Effects} (record { tests = tests; calls = calls; steps = steps })
    (record { tests = more_tests; calls = more_uses; steps = more_steps })
same_work same_tests same_uses same_steps = cc

pub both_assoc : (a b c : Effects) → then_effects (then_effects a b) c ≡ then_effects a (then_effects b c)
both_assoc a b c =
    same_work (append_assoc a.tests b.tests c.tests) (append_assoc a.calls b.calls c.calls) (add_assoc a.steps b.steps c.steps)

pub then_effects-nothing : (work : Effects) → then_effects work (only_steps 0) ≡ work
then_effects-nothing work =
    let same : work.steps + 0 ≡ work.steps = omega arith in
    same_work (append-nil work.tests) (append-nil work.calls) same

pub nothing-then_effects : (work : Effects) → then_effects (only_steps 0) work ≡ work
nothing-then_effects work = same_work {tests = work.tests} {calls = work.calls} refl refl (zero-add work.steps)

-- empty work before or after some work changes nothing
pub with_effects-nothing : (later : Option BodyResult) → with_effects (only_steps 0) later ≡ later
with_effects-nothing None = refl
with_effects-nothing (Some finish) =
    ap (λ (work : Effects). Some (body_result finish.ending work))
    (same_work {tests = finish.work.tests} {calls = finish.work.calls} refl refl (zero-add finish.work.steps))

pub then_effects-steps : (work : Effects) (steps : ℕ)
    → then_effects work (only_steps steps) ≡ record { tests = work.tests; calls = work.calls; steps = work.steps + steps }
then_effects-steps work steps = same_work (append-nil work.tests) (append-nil work.calls) refl

-- adding work twice is adding the concatenation
pub with_effects-then_effects : (first second : Effects) (later : Option BodyResult)
    → with_effects first (with_effects second later) ≡ with_effects (then_effects first second) later
with_effects-then_effects first second None = refl
with_effects-then_effects first second (Some finish) =
    ap (λ (work : Effects). Some (body_result finish.ending work)) (sym (both_assoc first second finish.work))

-- ---- continuing

-- continuing after the nodes of some trees is continuing with these trees before the result's
pub continue_after-prepend_trees : (shown : Shown) (next : Continuation) (trees : Trees) (result : Recognition) (pc : ℕ) (rows : List Row)
    (choice_points : List SavedChoice)
    → continue_after shown next result pc (rows ++ shown_rows shown trees) choice_points
    ≡ continue_after shown next (prepend_trees trees result) pc rows choice_points
continue_after-prepend_trees shown next trees Failed pc rows choice_points = refl
continue_after-prepend_trees shown next trees (Matched end more) pc rows choice_points =
    ap (λ all. next pc end all choice_points)
    (append_assoc rows (shown_rows shown trees) (shown_rows shown more)
    ∙ ap (λ all. rows ++ all) (sym (shown_rows-followed_by shown trees more)))
