-- The code of core forms: its length, and forms with the same code.
use Rattle.std.proofs.Common.{◌≡◌, ℕ, ◌+◌, List, [], ◌∷◌, ◌++◌, length, refl, sym, ap, ◌∙◌, arith, append-nil, length-append}
use Rattle.peg_core.specs.CoreForm.{CoreForm, Empty, Test, Rule, Seq, Choice, Star, Not}
use Rattle.peg_code.specs.Code.{code_of, size}
use Rattle.peg_code.specs.Instructions.{Instruction, Commit, FailTwice}
use Rattle.peg_code.specs.Sizes.{HaveSameCode}

-- the length of a form's code is its size, wherever it starts
pub length-code_of : (form : CoreForm) (pc : ℕ) → length (code_of form pc) ≡ size form
length-code_of Empty pc = refl
length-code_of (Test set terminal) pc = refl
length-code_of (Rule rule) pc = refl
length-code_of (Seq first rest) pc =
    omega (arith, length-append (code_of first pc) (code_of rest (pc + size first)), length-code_of first pc, length-code_of rest (pc + size first))
length-code_of (Choice first rest) pc =
    omega (arith, length-append (code_of first (pc + 1)) (Commit (pc + size first + size rest + 2) ∷ code_of rest (pc + size first + 2)), length-code_of first (pc + 1), length-code_of rest (pc + size first + 2))
length-code_of (Star part origin) pc =
    omega (arith, length-append (code_of part (pc + 1)) (Commit pc ∷ []), length-code_of part (pc + 1))
length-code_of (Not part) pc =
    omega (arith, length-append (code_of part (pc + 1)) (FailTwice ∷ []), length-code_of part (pc + 1))

no-items : (code : List Instruction) → length code ≡ 0 → code ≡ []
no-items [] none = refl
no-items (i ∷ more) none = absurd (omega arith)

-- a form of size 0 has no code
no-code : (form : CoreForm) (pc : ℕ) → size form ≡ 0 → code_of form pc ≡ []
no-code form pc none = no-items (code_of form pc) (length-code_of form pc ∙ none)

-- a sequence with an empty part has the code of its other part
pub same-rest : (first rest : CoreForm) → size first ≡ 0 → HaveSameCode rest (Seq first rest)
same-rest first rest none = record {
  same = λ pc. let there : pc ≡ pc + size first = omega arith in ap (code_of rest) there ∙ ap (λ (code : List Instruction). code ++ code_of rest (pc + size first)) (sym (no-code first pc none));
}

pub same-first : (first rest : CoreForm) → size rest ≡ 0 → HaveSameCode first (Seq first rest)
same-first first rest none = record {
  same = λ pc. sym (append-nil (code_of first pc)) ∙ ap (λ (code : List Instruction). code_of first pc ++ code) (sym (no-code rest (pc + size first) none));
}

-- forms with the same code have the same size
pub size-same : (form other : CoreForm) → HaveSameCode form other → size form ≡ size other
size-same form other alike = sym (length-code_of form 0) ∙ (ap length (alike.same 0) ∙ length-code_of other 0)

pub same-itself : (form : CoreForm) → HaveSameCode form form
same-itself form = record { same = λ pc. refl }

pub same-through : (a b c : CoreForm) → HaveSameCode a b → HaveSameCode b c → HaveSameCode a c
same-through a b c p q = record { same = λ pc. p.same pc ∙ q.same pc }
