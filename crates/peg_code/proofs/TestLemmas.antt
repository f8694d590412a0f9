-- The terminals of tests.
use Rattle.std.proofs.Common.{◌≡◌, ℕ, ◌+◌, ◌<◌, ◌≤◌, ◌⊎◌, inl, inr, All, List, [], ◌∷◌, ◌++◌, length, get_or, slice_get, Some, sym, subst, below_more}
use Rattle.std.proofs.lemmas.Bool.{cases_lt}
use Rattle.std.proofs.lemmas.List.{get_or_past}
use Rattle.std.proofs.lemmas.List.Elements.{All-append, All-cons, All-head, All-map, All-nil, All-tail}
use Rattle.std.proofs.lemmas.Option.{get_or_from_slice_get, slice_get_within}
use Rattle.peg_core.specs.CoreForm.{CoreForm, Empty, Rule, Seq, Star, Not}
use Rattle.peg_core.specs.CoreForm as core
use Rattle.peg_core.specs.Layout.{bodies_of, Desugared, form_at}
use Rattle.peg_code.specs.Code.{code_of, program_code, rules_code, size}
use Rattle.peg_code.specs.Instructions.{Instruction, Test, Call, Ret, Choice, Commit, FailTwice, End, TestFits}
use Rattle.peg_code.specs.Sizes.{TestsFit, TestsFitSoFar}

-- an instruction of the code
pub at-fits : (P : Instruction → Type 0) (code : List Instruction) (pc : ℕ) (i : Instruction) → All P code
    → slice_get code pc ≡ Some i → P i
at-fits P code pc i fit there =
    subst P (get_or_from_slice_get code pc i i there) (fit pc i (slice_get_within code pc i there))

-- the code of a part between the instruction that pushes a choice point and another one
fit-round : (P : Instruction → Type 0) (before last : Instruction) (code : List Instruction) → P before → P last → All P code
    → All P (before ∷ (code ++ last ∷ []))
fit-round P before last code first second fit =
    All-cons P before (code ++ last ∷ []) first (All-append P code (last ∷ []) fit (All-cons P last [] second (All-nil P)))

-- the code of a form, of rules and of a grammar
fit-code_of : (terminals : ℕ) (form : CoreForm) (pc : ℕ) → TestsFit terminals form
    → All (TestFits terminals) (code_of form pc)
fit-code_of terminals Empty pc fit = All-nil (TestFits terminals)
fit-code_of terminals (core.Test set terminal) pc fit =
    All-cons (TestFits terminals) (Test set terminal) [] fit (All-nil (TestFits terminals))
fit-code_of terminals (Rule rule) pc fit =
    All-cons (TestFits terminals) (Call rule) [] tt (All-nil (TestFits terminals))
fit-code_of terminals (Seq first rest) pc fit =
    All-append (TestFits terminals) (code_of first pc) (code_of rest (pc + size first)) (fit-code_of terminals first pc fit.0) (fit-code_of terminals rest (pc + size first) fit.1)
fit-code_of terminals (core.Choice first rest) pc fit =
    let P : Instruction → Type 0 = TestFits terminals in
    let second = code_of rest (pc + size first + 2) in
    let end = Commit (pc + size first + size rest + 2) in
    All-cons P (Choice (pc + size first + 2)) (code_of first (pc + 1) ++ end ∷ second) tt (All-append P (code_of first (pc + 1)) (end ∷ second) (fit-code_of terminals first (pc + 1) fit.0) (All-cons P end second tt (fit-code_of terminals rest (pc + size first + 2) fit.1)))
fit-code_of terminals (Star part origin) pc fit =
    fit-round (TestFits terminals) (Choice (pc + size part + 2)) (Commit pc) (code_of part (pc + 1)) tt tt (fit-code_of terminals part (pc + 1) fit)
fit-code_of terminals (Not part) pc fit =
    fit-round (TestFits terminals) (Choice (pc + size part + 2)) FailTwice (code_of part (pc + 1)) tt tt (fit-code_of terminals part (pc + 1) fit)

fit-rules_code : (terminals : ℕ) (bodies : List CoreForm) (pc : ℕ) → All (TestsFit terminals) bodies
    → All (TestFits terminals) (rules_code bodies pc)
fit-rules_code terminals [] pc fit = All-nil (TestFits terminals)
fit-rules_code terminals (body ∷ more) pc fit =
    let P : Instruction → Type 0 = TestFits terminals in
    let later = rules_code more (pc + size body + 1) in
    All-append P (code_of body pc) (Ret ∷ later) (fit-code_of terminals body pc (All-head (TestsFit terminals) body more fit)) (All-cons P Ret later tt (fit-rules_code terminals more (pc + size body + 1) (All-tail (TestsFit terminals) body more fit)))

-- there is no form after the last one
fit-form_at : (terminals : ℕ) (forms : List CoreForm) → TestsFitSoFar terminals forms (length forms) → (number : ℕ)
    → TestsFit terminals (form_at forms number)
fit-form_at terminals forms fit number =
    by (cases_lt number (length forms))
  where
    by : (number < length forms) ⊎ (length forms ≤ number) → TestsFit terminals (form_at forms number)
    by (inl within) = fit number within
    by (inr past) = subst (TestsFit terminals) (sym (get_or_past forms number Empty past)) tt

pub fit-program_code : (terminals : ℕ) (core : Desugared) → TestsFitSoFar terminals core.forms (length core.forms)
    → All (TestFits terminals) (program_code (bodies_of core))
fit-program_code terminals core fit =
    let bodies = bodies_of core in
    All-cons (TestFits terminals) End (rules_code bodies 1) tt (fit-rules_code terminals bodies 1 (All-map (TestsFit terminals) (form_at core.forms) core.bodies (λ k d within. fit-form_at terminals core.forms fit (get_or core.bodies k d))))

-- ---- the tests of one more form

pub TestsFitSoFar-push : (terminals : ℕ) (forms : List CoreForm) (count : ℕ) → TestsFitSoFar terminals forms count
    → TestsFit terminals (form_at forms count) → TestsFitSoFar terminals forms (count + 1)
TestsFitSoFar-push terminals forms count fit here =
    below_more (λ k. TestsFit terminals (form_at forms k)) count fit here
