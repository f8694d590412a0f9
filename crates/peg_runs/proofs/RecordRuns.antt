-- The machine computes the record of a form, by rules for each form and induction on the depth of the record.
use Rattle.std.proofs.Common.{◌≡◌, ℕ, zero, suc, ◌+◌, List, Option, None, Some, option_map, option_and_then, drop}
use Rattle.std.proofs.Common.{slice_get, refl, sym, ◌∙◌, ap, subst, arith, append-nil}
use Rattle.peg_bytes.specs.ByteSet.{has}
use Rattle.peg_tree.specs.Trees.{NoTrees}
use Rattle.peg_semantics.specs.Record.{Recognition, Failed, Matched, Record, matched_at, after_both, byte_at, prepend_trees}
use Rattle.peg_semantics.specs.Record.{with_result, if_failed, then_result, then_at, choice_result, or_else, star_result}
use Rattle.peg_semantics.proofs.RecordLemmas.{Extends}
use Rattle.peg_core.specs.CoreForm.{CoreForm, Empty, Test, Rule, Seq, Choice, Star, Not}
use Rattle.peg_core.specs.CoreRecord.{CoreRecognizer, core_table, core_record_in}
use Rattle.peg_code.specs.Code.{size}
use Rattle.peg_code.specs.Instructions as code
use Rattle.peg_runs.specs.CodeLayout.{CodeAt, IsEntry}
use Rattle.peg_runs.specs.Steps.{CallCounting, Counting, steps_then, steps_of_part, if_matched_then, commit_or_else}
use Rattle.peg_runs.specs.Steps.{steps_if_matched, steps_of_body, steps_table, steps_in}
use Rattle.peg_runs.specs.Local.{BodyContext}
use Rattle.peg_runs.specs.Runs.{RunsAsRecord, EndsAsRecord, AnswersCalls}
use Rattle.peg_runs.proofs.StepRounds.{AnswersCalls-less}
use Rattle.peg_runs.proofs.StepsOfRecords.{mapped}
use Rattle.peg_runs.proofs.RunRules.{nothing_runs, test_runs, call_runs, failing_runs, runs_then, falls_back}
use Rattle.peg_runs.proofs.RunRules.{commits, fails_twice, body_gives_up, body_returns}

-- ---- parts that have a result

-- the steps of a part, and of what comes next
pub counted_parts : (r : Record) (steps : Option ℕ) (next : Recognition → Option ℕ) (n : ℕ)
    → steps_of_part (Some r) steps next ≡ Some n
    → (k : ℕ) × (m : ℕ) × (steps ≡ Some k) × (next r.result ≡ Some m) × (k + m ≡ n)
counted_parts r None next n is = cc
counted_parts r (Some k) next n is =
    let rest = mapped (λ (m : ℕ). k + m) (next r.result) n is in (k, rest.0, refl, rest.1, rest.2)

module _ (body_context : BodyContext) where
  -- The machine runs as the record of an attempt says, in its steps, if there are both.
  abbrev pub RunsAs : (from to position : ℕ) → Option Record → Option ℕ → Type 0
  RunsAs from to position tried count =
      (r : Record) (steps : ℕ) → tried ≡ Some r → count ≡ Some steps → RunsAsRecord body_context from to position r steps

  -- equal records and steps describe the same run
  same_runs : {from to position steps other_steps : ℕ} {r other : Record} → r ≡ other → steps ≡ other_steps
      → RunsAsRecord body_context from to position r steps → RunsAsRecord body_context from to position other other_steps
  same_runs {from} {to} {position} {steps} {other_steps} {r} {other} same_record same_steps runs =
      subst (λ (n : ℕ). RunsAsRecord body_context from to position other n) same_steps
      (subst (λ (r : Record). RunsAsRecord body_context from to position r steps) same_record runs)

  ends_at : {from to there position steps : ℕ} {r : Record} → to ≡ there
      → RunsAsRecord body_context from to position r steps → RunsAsRecord body_context from there position r steps
  ends_at {from} {to} {there} {position} {steps} {r} same runs =
      subst (λ (k : ℕ). RunsAsRecord body_context from k position r steps) same runs

  -- ---- a sequence

  seq_runs : (from middle to position : ℕ) (tried : Option Record) (count : Option ℕ) (next : ℕ → Option Record)
      (count_next : ℕ → Option ℕ) → RunsAs from middle position tried count
      → ((end : ℕ) → RunsAs middle to end (next end) (count_next end))
      → RunsAs from to position (then_at tried next) (steps_of_part tried count (if_matched_then count_next))
  seq_runs from middle to position None count next count_next first rest r steps is counted = cc
  seq_runs from middle to position (Some part) count next count_next first rest r steps is counted =
      let parts = counted_parts part count (if_matched_then count_next) steps counted in
      by parts.0 parts.1 parts.4 (first part parts.0 refl parts.2) part.result refl is parts.3
    where
      by : (k m : ℕ) → k + m ≡ steps → RunsAsRecord body_context from middle position part k → (x : Recognition) → part.result ≡ x
          → then_result x part next ≡ Some r → if_matched_then count_next x ≡ Some m → RunsAsRecord body_context from to position r steps
      by k m all part_runs Failed failed is none =
          let same : part ≡ r = cc in
          let no_more : 0 ≡ m = cc in
          let same_steps : k ≡ steps = omega arith in
          same_runs same same_steps (failing_runs body_context to part_runs failed)
      by k m all part_runs (Matched end trees) matched is more_counted =
          let more = mapped (λ (more : Record). after_both part more (prepend_trees trees more.result)) (next end) r is in
          same_runs more.2 all (runs_then body_context part_runs matched (rest end more.0 m more.1 more_counted))

  -- ---- a part with a choice point

  module _ (pc middle target position : ℕ) (tried : Option Record) (count : Option ℕ)
      (leaves : slice_get body_context.code pc ≡ Some (code.Choice target)) (first : RunsAs (pc + 1) middle position tried count) where
    -- the part runs, and then what its result leads to
    tried_runs : (to : ℕ) (made : Record → Option Record) (count_next : Recognition → Option ℕ)
        → ((part r : Record) (k m : ℕ) (x : Recognition) → RunsAsRecord body_context (pc + 1) middle position part k → part.result ≡ x
        → made part ≡ Some r → count_next x ≡ Some m → RunsAsRecord body_context pc to position r (1 + (k + m)))
        → RunsAs pc to position (option_and_then made tried) (steps_then 1 (steps_of_part tried count count_next))
    tried_runs to made count_next next = by tried first
      where
        by : (tried : Option Record) → RunsAs (pc + 1) middle position tried count
            → RunsAs pc to position (option_and_then made tried) (steps_then 1 (steps_of_part tried count count_next))
        by None first r steps is counted = cc
        by (Some part) first r steps is counted =
            let inside = mapped (λ (more : ℕ). 1 + more) (steps_of_part (Some part) count count_next) steps counted in
            let parts = counted_parts part count count_next inside.0 inside.1 in
            same_runs refl (ap (λ (more : ℕ). 1 + more) parts.4 ∙ inside.2)
            (next part r parts.0 parts.1 part.result (first part parts.0 refl parts.2) refl is parts.3)

    choice_runs : (to : ℕ) (other : Option Record) (count_other : Option ℕ)
        → slice_get body_context.code middle ≡ Some (code.Commit to) → RunsAs target to position other count_other
        → RunsAs pc to position (or_else tried other) (steps_then 1 (steps_of_part tried count (commit_or_else count_other)))
    choice_runs to other count_other commit second =
        tried_runs to (λ (part : Record). choice_result part.result part other) (commit_or_else count_other) by
      where
        chosen : (part r : Record) (k m : ℕ) (x : Recognition) → RunsAsRecord body_context (pc + 1) middle position part k → part.result ≡ x
            → choice_result x part other ≡ Some r → commit_or_else count_other x ≡ Some m
            → RunsAsRecord body_context pc to position r (1 + (k + m))
        chosen part r k m Failed part_runs failed is counted =
            let more = mapped (λ (more : Record). after_both part more more.result) other r is in
            same_runs more.2 refl (falls_back body_context pc leaves part_runs failed (second more.0 m more.1 counted))
        chosen part r k m (Matched end trees) part_runs matched is counted =
            let same : part ≡ r = cc in
            let one : 1 ≡ m = cc in
            same_runs same (ap (λ (m : ℕ). 1 + (k + m)) one) (commits body_context pc leaves part_runs matched commit)

        by : (part r : Record) (k m : ℕ) (x : Recognition) → RunsAsRecord body_context (pc + 1) middle position part k → part.result ≡ x
            → choice_result part.result part other ≡ Some r → commit_or_else count_other x ≡ Some m
            → RunsAsRecord body_context pc to position r (1 + (k + m))
        by part r k m x part_runs same is counted =
            chosen part r k m x part_runs same
            (subst (λ (x : Recognition). choice_result x part other ≡ Some r) same is) counted

    star_runs : (next : ℕ → Option Record) (count_next : ℕ → Option ℕ)
        → slice_get body_context.code middle ≡ Some (code.Commit pc)
        → ((end : ℕ) → RunsAs pc target end (next end) (count_next end))
        → RunsAs pc target position
        (option_and_then (λ (round : Record). star_result round.result position round next) tried)
        (steps_then 1 (steps_of_part tried count (if_matched_then (λ end. steps_then 1 (count_next end)))))
    star_runs next count_next commit again =
        tried_runs target (λ (round : Record). star_result round.result position round next)
        (if_matched_then (λ end. steps_then 1 (count_next end))) by
      where
        chosen : (part r : Record) (k m : ℕ) (x : Recognition) → RunsAsRecord body_context (pc + 1) middle position part k → part.result ≡ x
            → star_result x position part next ≡ Some r → if_matched_then (λ end. steps_then 1 (count_next end)) x ≡ Some m
            → RunsAsRecord body_context pc target position r (1 + (k + m))
        chosen part r k m Failed part_runs failed is counted =
            let same : after_both part (matched_at position) (Matched position NoTrees) ≡ r = cc in
            let none : 0 ≡ m = cc in
            same_runs same (ap (λ (m : ℕ). 1 + (k + m)) none)
            (falls_back body_context pc leaves part_runs failed (nothing_runs body_context target position))
        chosen part r k m (Matched end trees) part_runs matched is counted =
            let more = mapped (λ (more : Record). after_both part more (prepend_trees trees more.result)) (next end) r is in
            let more_steps = mapped (λ (more : ℕ). 1 + more) (count_next end) m counted in
            let same : 1 + more_steps.0 ≡ m = more_steps.2 in
            let steps : 1 + (k + 1) + more_steps.0 ≡ 1 + (k + m) = omega arith in
            same_runs more.2 steps
            (runs_then body_context (commits body_context pc leaves part_runs matched commit) matched
            (again end more.0 more_steps.0 more.1 more_steps.1))

        by : (part r : Record) (k m : ℕ) (x : Recognition) → RunsAsRecord body_context (pc + 1) middle position part k → part.result ≡ x
            → star_result part.result position part next ≡ Some r
            → if_matched_then (λ end. steps_then 1 (count_next end)) x ≡ Some m
            → RunsAsRecord body_context pc target position r (1 + (k + m))
        by part r k m x part_runs same is counted =
            chosen part r k m x part_runs same
            (subst (λ (x : Recognition). star_result x position part next ≡ Some r) same is) counted

    not_runs : slice_get body_context.code middle ≡ Some code.FailTwice
        → RunsAs pc target position (option_map (λ (r : Record). with_result r (if_failed r.result position)) tried)
        (steps_then 1 (steps_of_part tried count (steps_if_matched 1)))
    not_runs twice r steps is counted =
        tried_runs target (λ (part : Record). Some (with_result part (if_failed part.result position)))
        (steps_if_matched 1) by r steps (sym (as_map tried) ∙ is) counted
      where
        as_map : (tried : Option Record)
            → option_map (λ (r : Record). with_result r (if_failed r.result position)) tried
            ≡ option_and_then (λ (part : Record). Some (with_result part (if_failed part.result position))) tried
        as_map None = refl
        as_map (Some part) = refl

        chosen : (part r : Record) (k m : ℕ) (x : Recognition) → RunsAsRecord body_context (pc + 1) middle position part k → part.result ≡ x
            → with_result part (if_failed x position) ≡ r → steps_if_matched 1 x ≡ Some m
            → RunsAsRecord body_context pc target position r (1 + (k + m))
        chosen part r k m Failed part_runs failed is counted =
            let none : 0 ≡ m = cc in
            let tests = append-nil part.tests in
            let calls = append-nil part.calls in
            let same : after_both part (matched_at position) (Matched position NoTrees) ≡ r = cc in
            same_runs same (ap (λ (m : ℕ). 1 + (k + m)) none)
            (falls_back body_context pc leaves part_runs failed (nothing_runs body_context target position))
        chosen part r k m (Matched end trees) part_runs matched is counted =
            let one : 1 ≡ m = cc in
            same_runs is (ap (λ (m : ℕ). 1 + (k + m)) one) (fails_twice body_context pc leaves part_runs target matched twice)

        by : (part r : Record) (k m : ℕ) (x : Recognition) → RunsAsRecord body_context (pc + 1) middle position part k → part.result ≡ x
            → Some (with_result part (if_failed part.result position)) ≡ Some r → steps_if_matched 1 x ≡ Some m
            → RunsAsRecord body_context pc target position r (1 + (k + m))
        by part r k m x part_runs same is counted =
            let made : with_result part (if_failed part.result position) ≡ r = cc in
            chosen part r k m x part_runs same
            (subst (λ (x : Recognition). with_result part (if_failed x position) ≡ r) same made) counted

  -- ---- each form

  module _ (counted : CallCounting) (bodies : List CoreForm) (take : CoreRecognizer) (count : Counting)
      (parts : (form : CoreForm) (position pc : ℕ) → CodeAt body_context.code pc form
      → RunsAs pc (pc + size form) position (take form position) (count form position))
      (calls : (rule position : ℕ) → Extends (core_table bodies body_context.text take (Rule rule) position) (body_context.calls rule position))
      (costs : (rule position steps : ℕ) → steps_table counted bodies take count (Rule rule) position ≡ Some steps
      → body_context.costs rule position ≡ steps) where
    table_runs : (form : CoreForm) (position pc : ℕ) → CodeAt body_context.code pc form
        → RunsAs pc (pc + size form) position (core_table bodies body_context.text take form position)
        (steps_table counted bodies take count form position)
    table_runs Empty position pc code_at r steps is counted =
        let same : matched_at position ≡ r = cc in
        let none : 0 ≡ steps = cc in
        let there : pc ≡ pc + 0 = omega arith in
        ends_at there (same_runs same none (nothing_runs body_context pc position))
    table_runs (Test set terminal) position pc code_at r steps is counted =
        let same : byte_at (has set) terminal position (drop position body_context.text) ≡ r = cc in
        let one : 1 ≡ steps = cc in
        same_runs same one (test_runs body_context pc position terminal set code_at)
    table_runs (Rule rule) position pc code_at r steps is counted =
        same_runs refl (costs rule position steps counted) (call_runs body_context pc position rule r code_at (calls rule position r is))
    table_runs (Seq first rest) position pc code_at r steps is counted =
        let there : pc + size first + size rest ≡ pc + (size first + size rest) = omega arith in
        ends_at there
        (seq_runs pc (pc + size first) (pc + size first + size rest) position (take first position) (count first position)
        (λ end. take rest end) (λ end. count rest end) (parts first position pc code_at.0)
        (λ end. parts rest end (pc + size first) code_at.1) r steps is counted)
    table_runs (Choice first rest) position pc code_at r steps is counted =
        let rest_ends : pc + size first + 2 + size rest ≡ pc + size first + size rest + 2 = omega arith in
        let there : pc + size first + size rest + 2 ≡ pc + (size first + size rest + 2) = omega arith in
        ends_at there
        (choice_runs pc (pc + 1 + size first) (pc + size first + 2) position (take first position) (count first position) code_at.0
        (parts first position (pc + 1) code_at.1) (pc + size first + size rest + 2) (take rest position) (count rest position) code_at.2
        (λ r steps is counted. ends_at rest_ends (parts rest position (pc + size first + 2) code_at.3 r steps is counted))
        r steps is counted)
    table_runs (Star part origin) position pc code_at r steps is counted =
        let there : pc + size part + 2 ≡ pc + (size part + 2) = omega arith in
        ends_at there
        (star_runs pc (pc + 1 + size part) (pc + size part + 2) position (take part position) (count part position) code_at.0
        (parts part position (pc + 1) code_at.1) (λ end. take (Star part origin) end) (λ end. count (Star part origin) end) code_at.2
        (λ end r steps is counted. ends_at (sym there) (parts (Star part origin) end pc code_at r steps is counted))
        r steps is counted)
    table_runs (Not part) position pc code_at r steps is counted =
        let there : pc + size part + 2 ≡ pc + (size part + 2) = omega arith in
        ends_at there
        (not_runs pc (pc + 1 + size part) (pc + size part + 2) position (take part position) (count part position) code_at.0
        (parts part position (pc + 1) code_at.1) code_at.2 r steps is counted)

  -- ---- by depth

  -- if calls are answered at depth n, the machine runs as the form's record at depth n says
  pub record_runs : (counted : CallCounting) (bodies : List CoreForm) (n : ℕ) → AnswersCalls counted bodies n body_context
      → (form : CoreForm) (position pc : ℕ) → CodeAt body_context.code pc form
      → RunsAs pc (pc + size form) position (core_record_in bodies body_context.text n form position)
      (steps_in counted bodies body_context.text n form position)
  unfolding core_record_in steps_in
  record_runs counted bodies zero answers form position pc code_at r steps is count = cc
  record_runs counted bodies (suc n) answers form position pc code_at r steps is count =
      table_runs counted bodies (core_record_in bodies body_context.text n) (steps_in counted bodies body_context.text n)
      (record_runs counted bodies n (AnswersCalls-less counted bodies n body_context answers)) answers.calls answers.costs form position pc code_at
      r steps is count

  -- a rule's body ends as its record at depth n says, in its steps and one more if it matched
  pub body_ends : (counted : CallCounting) (bodies : List CoreForm) (n : ℕ) → AnswersCalls counted bodies n body_context
      → (body : CoreForm) (position entry : ℕ) → IsEntry body_context.code entry body → (r : Record) (steps : ℕ)
      → core_record_in bodies body_context.text n body position ≡ Some r
      → steps_of_body (Some r) (steps_in counted bodies body_context.text n body position) ≡ Some steps
      → EndsAsRecord body_context entry position r steps
  body_ends counted bodies n answers body position entry at r steps is count =
      let parts = counted_parts r (steps_in counted bodies body_context.text n body position) (steps_if_matched 1) steps count in
      by parts.0 parts.1 parts.4 (record_runs counted bodies n answers body position entry at.code_at r parts.0 is parts.2)
      r.result refl parts.3
    where
      by : (k m : ℕ) → k + m ≡ steps → RunsAsRecord body_context entry (entry + size body) position r k → (x : Recognition) → r.result ≡ x
          → steps_if_matched 1 x ≡ Some m → EndsAsRecord body_context entry position r steps
      by k m all runs Failed failed none =
          let no_more : 0 ≡ m = cc in
          let same : k ≡ steps = omega arith in
          subst (λ (n : ℕ). EndsAsRecord body_context entry position r n) same (body_gives_up body_context runs failed)
      by k m all runs (Matched end trees) matched one =
          let one_more : 1 ≡ m = cc in
          let same : k + 1 ≡ steps = omega arith in
          subst (λ (n : ℕ). EndsAsRecord body_context entry position r n) same (body_returns body_context runs matched at.returns)
