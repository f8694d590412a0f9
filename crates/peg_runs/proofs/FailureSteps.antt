-- A form that fails takes at least one step, and so does each body of a rule.
use Rattle.std.proofs.Common.{◌≡◌, ℕ, zero, suc, ◌+◌, ◌<◌, List, Option, None, Some, option_and_then, slice_get, refl, ◌∙◌, ap, arith}
use Rattle.peg_tree.specs.Trees.{Trees}
use Rattle.peg_semantics.specs.Record.{Recognition, Failed, Matched, Record, after_both, prepend_trees, then_at, then_result}
use Rattle.peg_core.specs.CoreForm.{CoreForm, Empty, Test, Rule, Seq, Choice, Star, Not}
use Rattle.peg_core.specs.CoreRecord.{core_record_in}
use Rattle.peg_runs.specs.Steps.{CallCounting, Own, Plain, body_steps_in, commit_or_else, if_matched_then, steps_if_matched, steps_in}
use Rattle.peg_runs.specs.Steps.{steps_of_body, steps_of_part, steps_of_rule_call, steps_then}
use Rattle.peg_runs.proofs.RecordRuns.{counted_parts}
use Rattle.peg_runs.proofs.StepsOfRecords.{mapped}

-- an attempt that fails takes a step
abbrev FailsInSteps : Option Record → Option ℕ → Type 0
FailsInSteps tried count =
    (r : Record) (steps : ℕ) → tried ≡ Some r → r.result ≡ Failed → count ≡ Some steps → 0 < steps

-- one step and others
one-more : (count : Option ℕ) (steps : ℕ) → steps_then 1 count ≡ Some steps → 0 < steps
one-more count steps is =
    let more = mapped (λ (n : ℕ). 1 + n) count steps is in
    let all : 1 + more.0 ≡ steps = more.2 in
    omega arith

call-takes : (counted : CallCounting) (body : Option ℕ) (steps : ℕ) → steps_of_rule_call counted body ≡ Some steps
    → 0 < steps
call-takes Own body steps is = let one : 1 ≡ steps = cc in omega arith
call-takes Plain body steps is = one-more body steps is

-- trees before a failure
failed-after : (trees : Trees) (result : Recognition) → prepend_trees trees result ≡ Failed → result ≡ Failed
failed-after trees Failed is = refl
failed-after trees (Matched end more) is = cc

FailsInSteps-seq : (tried : Option Record) (count : Option ℕ) (next : ℕ → Option Record) (count_next : ℕ → Option ℕ)
    → FailsInSteps tried count → ((end : ℕ) → FailsInSteps (next end) (count_next end))
    → FailsInSteps (then_at tried next) (steps_of_part tried count (if_matched_then count_next))
FailsInSteps-seq None count next count_next first rest r steps is failed counted = cc
FailsInSteps-seq (Some part) count next count_next first rest r steps is failed counted =
    let parts = counted_parts part count (if_matched_then count_next) steps counted in
    by parts.0 parts.1 parts.4 parts.2 part.result refl is parts.3
  where
    by : (k m : ℕ) → k + m ≡ steps → count ≡ Some k → (x : Recognition) → part.result ≡ x
        → then_result x part next ≡ Some r → if_matched_then count_next x ≡ Some m → 0 < steps
    by k m all first_count Failed failed_part is none =
        let some : 0 < k = first part k refl failed_part first_count in omega arith
    by k m all first_count (Matched end trees) matched is more_count =
        let more = mapped (λ (more : Record). after_both part more (prepend_trees trees more.result)) (next end) r is in
        let later : more.0.result ≡ Failed =
        failed-after trees more.0.result (ap (λ (s : Record). s.result) more.2 ∙ failed) in
        let some : 0 < m = rest end more.0 m more.1 later more_count in
        omega arith

-- a form that fails takes a step
fails-in-steps : (counted : CallCounting) (bodies : List CoreForm) (text : List ℕ) (n : ℕ) (form : CoreForm) (position : ℕ)
    → FailsInSteps (core_record_in bodies text n form position) (steps_in counted bodies text n form position)
unfolding core_record_in steps_in
fails-in-steps counted bodies text zero form position r steps is failed count = cc
fails-in-steps counted bodies text (suc n) Empty position r steps is failed count = cc
fails-in-steps counted bodies text (suc n) (Test set terminal) position r steps is failed count =
    let one : 1 ≡ steps = cc in omega arith
fails-in-steps counted bodies text (suc n) (Rule rule) position r steps is failed count =
    call-takes counted
    (option_and_then
    (λ (body : CoreForm).
    steps_of_body (core_record_in bodies text n body position) (steps_in counted bodies text n body position))
    (slice_get bodies rule)) steps count
fails-in-steps counted bodies text (suc n) (Seq first rest) position r steps is failed count =
    FailsInSteps-seq (core_record_in bodies text n first position) (steps_in counted bodies text n first position)
    (λ end. core_record_in bodies text n rest end) (λ end. steps_in counted bodies text n rest end)
    (fails-in-steps counted bodies text n first position) (λ end. fails-in-steps counted bodies text n rest end)
    r steps is failed count
fails-in-steps counted bodies text (suc n) (Choice first rest) position r steps is failed count =
    one-more
    (steps_of_part (core_record_in bodies text n first position) (steps_in counted bodies text n first position)
    (commit_or_else (steps_in counted bodies text n rest position))) steps count
fails-in-steps counted bodies text (suc n) (Star part origin) position r steps is failed count =
    one-more
    (steps_of_part (core_record_in bodies text n part position) (steps_in counted bodies text n part position)
    (if_matched_then (λ end. steps_then 1 (steps_in counted bodies text n (Star part origin) end)))) steps count
fails-in-steps counted bodies text (suc n) (Not part) position r steps is failed count =
    one-more
    (steps_of_part (core_record_in bodies text n part position) (steps_in counted bodies text n part position)
    (steps_if_matched 1)) steps count

-- A body takes a step: its `Ret` if it matched, or one of a form that fails.
pub body-takes-steps : (counted : CallCounting) (bodies : List CoreForm) (text : List ℕ) (n rule position steps : ℕ)
    → body_steps_in counted 1 bodies text n rule position ≡ Some steps → 0 < steps
body-takes-steps counted bodies text n rule position steps = by (slice_get bodies rule)
  where
    part_of : CoreForm → Option ℕ
    part_of body =
        steps_of_part (core_record_in bodies text n body position) (steps_in counted bodies text n body position)
        (steps_if_matched 1)

    ends : (body : CoreForm) (r : Record) (k m : ℕ) → core_record_in bodies text n body position ≡ Some r
        → steps_in counted bodies text n body position ≡ Some k → k + m ≡ steps → (x : Recognition) → r.result ≡ x
        → steps_if_matched 1 x ≡ Some m → 0 < steps
    ends body r k m is count all Failed failed none =
        let some : 0 < k = fails-in-steps counted bodies text n body position r k is failed count in omega arith
    ends body r k m is count all (Matched end trees) matched one = let last : 1 ≡ m = cc in omega arith

    of_record : (body : CoreForm) (tried : Option Record) → core_record_in bodies text n body position ≡ tried
        → steps_of_part tried (steps_in counted bodies text n body position) (steps_if_matched 1) ≡ Some steps → 0 < steps
    of_record body None none is = cc
    of_record body (Some r) some is =
        let parts = counted_parts r (steps_in counted bodies text n body position) (steps_if_matched 1) steps is in
        ends body r parts.0 parts.1 some parts.2 parts.4 r.result refl parts.3

    by : (body : Option CoreForm) → option_and_then part_of body ≡ Some steps → 0 < steps
    by None is = cc
    by (Some body) is = of_record body (core_record_in bodies text n body position) refl is
