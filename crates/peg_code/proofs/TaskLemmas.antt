-- The code that tasks lead to.
use Rattle.std.proofs.Common.{◌≡◌, ℕ, zero, suc, ◌+◌, ◌*◌, ◌-◌, ◌<◌, ◌≤◌, All, List, [], ◌∷◌, ◌++◌, length, get_or, refl, sym, ap, ◌∙◌, subst, arith, append_assoc, append-nil, length-append}
use Rattle.std.proofs.lemmas.List.{get_or_append_left, get_or_at}
use Rattle.std.proofs.lemmas.List.Elements.{All-append, All-cons}
use Rattle.peg_bytes.specs.Extent.{Extent}
use Rattle.peg_core.specs.CoreForm.{CoreForm, Empty, Seq, Choice, Star, Not}
use Rattle.peg_core.specs.Layout.{form_at}
use Rattle.peg_code.specs.Code.{code_of, size}
use Rattle.peg_code.specs.Instructions.{Instruction, Commit, FailTwice}
use Rattle.peg_code.specs.Instructions as machine
use Rattle.peg_code.specs.Instrs.{instruction_of}
use Rattle.peg_code.specs.Compiled.{max_instructions}
use Rattle.peg_code.specs.Sizes.{capped, HaveSameCode}
use Rattle.peg_code.specs.Tasks.{AddsTasks, code_after, code_after_all, DoesTask, TaskFits, weight, weight_of_all}
use Rattle.peg_code.specs.declared.instr.Instr.{Instr}
use Rattle.peg_code.specs.declared.instr.Instr.TheVariants as instr
use Rattle.peg_code.specs.declared.tasks.Task.{Task}
use Rattle.peg_code.specs.declared.tasks.Task.TheVariants.{Form, Emit}
use Rattle.peg_code.proofs.CodeLemmas.{length-code_of, size-same}

-- ---- tasks one after the other

pub code_after_all-append : (forms : List CoreForm) (code : List Instruction) (below more : List Task)
    → code_after_all forms code (below ++ more) ≡ code_after_all forms (code_after_all forms code more) below
code_after_all-append forms code [] more = refl
code_after_all-append forms code (task ∷ below) more =
    ap (λ (c : List Instruction). code_after forms c task) (code_after_all-append forms code below more)

pub weight_of_all-append : (forms : List CoreForm) (below more : List Task)
    → weight_of_all forms (below ++ more) ≡ weight_of_all forms below + weight_of_all forms more
weight_of_all-append forms [] more = omega arith
weight_of_all-append forms (task ∷ below) more = omega (arith, weight_of_all-append forms below more)

-- no task removes code
longer : (forms : List CoreForm) (code : List Instruction) (task : Task) → length code ≤ length (code_after forms code task)
longer forms code (Form number) = omega (arith, length-append code (code_of (form_at forms number) (length code)))
longer forms code (Emit i) = omega (arith, length-append code (instruction_of i ∷ []))

pub longer-all : (forms : List CoreForm) (code : List Instruction) (tasks : List Task)
    → length code ≤ length (code_after_all forms code tasks)
longer-all forms code [] = omega arith
longer-all forms code (task ∷ later) =
    omega (arith, longer-all forms code later, longer forms (code_after_all forms code later) task)

pub length-code_after : (forms : List CoreForm) (code : List Instruction) (number : ℕ)
    → length (code_after forms code (Form number)) ≡ length code + size (form_at forms number)
length-code_after forms code number =
    omega (arith, length-append code (code_of (form_at forms number) (length code)), length-code_of (form_at forms number) (length code))

-- a form with the same code may be emitted instead
pub code_after-same : (forms : List CoreForm) (code : List Instruction) (number other : ℕ)
    → HaveSameCode (form_at forms other) (form_at forms number)
    → code_after forms code (Form other) ≡ code_after forms code (Form number)
code_after-same forms code number other alike =
    ap (λ (more : List Instruction). code ++ more) (alike.same (length code))

-- ---- the tasks of a form

length-one : (code : List Instruction) (i : Instruction) → length (code ++ i ∷ []) ≡ length code + 1
length-one code i = length-append code (i ∷ [])

length-more : (code : List Instruction) (form : CoreForm) (pc : ℕ) → length (code ++ code_of form pc) ≡ length code + size form
length-more code form pc = omega (arith, length-append code (code_of form pc), length-code_of form pc)

emitted-seq : (forms : List CoreForm) (code : List Instruction) (first rest : ℕ)
    → code_after_all forms code (Form rest ∷ Form first ∷ [])
    ≡ code ++ code_of (Seq (form_at forms first) (form_at forms rest)) (length code)
emitted-seq forms code first rest =
    let A = code_of (form_at forms first) (length code) in
    append_assoc code A (code_of (form_at forms rest) (length (code ++ A)))
    ∙ ap (λ n. code ++ (A ++ code_of (form_at forms rest) n)) (length-more code (form_at forms first) (length code))

emitted-round : (forms : List CoreForm) (code : List Instruction) (part end : ℕ) (last : Instr)
    → code_after_all forms code (Emit last ∷ Form part ∷ Emit (instr.Choice end) ∷ [])
    ≡ code ++ (machine.Choice end ∷ (code_of (form_at forms part) (length code + 1) ++ instruction_of last ∷ []))
emitted-round forms code part end last =
    let P = form_at forms part in
    let c = machine.Choice end in
    ap (λ n. ((code ++ c ∷ []) ++ code_of P n) ++ instruction_of last ∷ []) (length-one code c)
    ∙ (append_assoc (code ++ c ∷ []) (code_of P (length code + 1)) (instruction_of last ∷ [])
    ∙ append_assoc code (c ∷ []) (code_of P (length code + 1) ++ instruction_of last ∷ []))

emitted-choice : (forms : List CoreForm) (code : List Instruction) (first rest second end : ℕ)
    → code_after_all forms code (Form rest ∷ Emit (instr.Commit end) ∷ Form first ∷ Emit (instr.Choice second) ∷ [])
    ≡ code ++ (machine.Choice second ∷ (code_of (form_at forms first) (length code + 1)
    ++ Commit end ∷ code_of (form_at forms rest) (length code + size (form_at forms first) + 2)))
emitted-choice forms code first rest second end =
    let F = form_at forms first in
    let R = form_at forms rest in
    let X = code_after_all forms code (Emit (instr.Commit end) ∷ Form first ∷ Emit (instr.Choice second) ∷ []) in
    let A = code_of F (length code + 1) in
    let till = emitted-round forms code first second (instr.Commit end) in
    let many : length (code ++ (machine.Choice second ∷ (A ++ Commit end ∷ []))) ≡ length code + size F + 2 = omega (arith, length-append code (machine.Choice second ∷ (A ++ Commit end ∷ [])), length-append A (Commit end ∷ []), length-code_of F (length code + 1)) in
    ap (λ (x : List Instruction). x ++ code_of R (length x)) till
    ∙ (ap (λ n. (code ++ (machine.Choice second ∷ (A ++ Commit end ∷ []))) ++ code_of R n) many
    ∙ (append_assoc code (machine.Choice second ∷ (A ++ Commit end ∷ [])) (code_of R (length code + size F + 2))
    ∙ ap (λ (x : List Instruction). code ++ (machine.Choice second ∷ x)) (append_assoc A (Commit end ∷ []) (code_of R (length code + size F + 2)))))

-- the code of a form that equals another one
as-form : (forms : List CoreForm) (code : List Instruction) (number : ℕ) (form : CoreForm) → form_at forms number ≡ form
    → code ++ code_of form (length code) ≡ code_after forms code (Form number)
as-form forms code number form is = ap (λ (f : CoreForm). code ++ code_of f (length code)) (sym is)

-- a choice, a star and a not-predicate, with their targets where their code starts after other code
choice-at : (code : List Instruction) (F R : CoreForm) (second end : ℕ) → second ≡ length code + size F + 2
    → end ≡ length code + size F + size R + 2
    → code ++ (machine.Choice second ∷ (code_of F (length code + 1) ++ Commit end ∷ code_of R (length code + size F + 2)))
    ≡ code ++ code_of (Choice F R) (length code)
choice-at code F R second end at_second at_end =
    λ i. code ++ (machine.Choice (at_second i) ∷ (code_of F (length code + 1) ++ Commit (at_end i) ∷ code_of R (length code + size F + 2)))

star-at : (code : List Instruction) (P : CoreForm) (origin : Extent) (begin end : ℕ) → begin ≡ length code
    → end ≡ length code + size P + 2
    → code ++ (machine.Choice end ∷ (code_of P (length code + 1) ++ Commit begin ∷ []))
    ≡ code ++ code_of (Star P origin) (length code)
star-at code P origin begin end at_begin at_end =
    λ i. code ++ (machine.Choice (at_end i) ∷ (code_of P (length code + 1) ++ Commit (at_begin i) ∷ []))

not-at : (code : List Instruction) (P : CoreForm) (end : ℕ) → end ≡ length code + size P + 2
    → code ++ (machine.Choice end ∷ (code_of P (length code + 1) ++ FailTwice ∷ []))
    ≡ code ++ code_of (Not P) (length code)
not-at code P end at_end =
    λ i. code ++ (machine.Choice (at_end i) ∷ (code_of P (length code + 1) ++ FailTwice ∷ []))

pub AddsTasks-empty : (forms : List CoreForm) (pc number : ℕ) (old : List Task) → form_at forms number ≡ Empty
    → AddsTasks forms pc (Form number) old old
AddsTasks-empty forms pc number old is =
    record {
      more = [];
      added = sym (append-nil old);
      emitted = λ code long. sym (append-nil code) ∙ as-form forms code number Empty is;
      fit = λ k d none. absurd (omega arith);
      lighter = omega arith;
    }

pub AddsTasks-put : (forms : List CoreForm) (pc number : ℕ) (i : Instr) (old new : List Task) → new ≡ old ++ Emit i ∷ []
    → ((at : ℕ) → code_of (form_at forms number) at ≡ instruction_of i ∷ []) → AddsTasks forms pc (Form number) old new
AddsTasks-put forms pc number i old new is only =
    record {
      more = Emit i ∷ [];
      added = is;
      emitted = λ code long. ap (λ (x : List Instruction). code ++ x) (sym (only (length code)));
      fit = λ k d one. elim k as (λ n. n < 1 → TaskFits (length forms) (get_or (Emit i ∷ []) n d)) [ zero ↦ λ _. tt | suc m ↦ λ h. absurd (omega arith) ] one;
      lighter = omega (arith, length-code_of (form_at forms number) 0, ap length (only 0));
    }

-- a property of each of some tasks
all-none : (P : Task → Type 0) → All P []
all-none P k d none = absurd (omega arith)

pub AddsTasks-seq : (forms : List CoreForm) (pc number first rest : ℕ) (old new : List Task)
    → new ≡ old ++ (Form rest ∷ Form first ∷ [])
    → form_at forms number ≡ Seq (form_at forms first) (form_at forms rest)
    → 0 < size (form_at forms first) → 0 < size (form_at forms rest)
    → first < length forms → rest < length forms → AddsTasks forms pc (Form number) old new
AddsTasks-seq forms pc number first rest old new is form some_first some_rest below_first below_rest =
    let P : Task → Type 0 = TaskFits (length forms) in
    record {
      more = Form rest ∷ Form first ∷ [];
      added = is;
      emitted = λ code long. emitted-seq forms code first rest ∙ as-form forms code number (Seq (form_at forms first) (form_at forms rest)) form;
      fit = All-cons P (Form rest) (Form first ∷ []) below_rest (All-cons P (Form first) [] below_first (all-none P));
      lighter = omega (arith, ap size form);
    }

pub AddsTasks-choice : (forms : List CoreForm) (pc number first rest a b : ℕ) (old new : List Task)
    → new ≡ old ++ (Form rest ∷ Emit (instr.Commit (pc + a + 2 + b)) ∷ Form first ∷ Emit (instr.Choice (pc + a + 2)) ∷ [])
    → form_at forms number ≡ Choice (form_at forms first) (form_at forms rest)
    → a ≡ capped (size (form_at forms first)) → b ≡ capped (size (form_at forms rest))
    → pc + size (form_at forms number) ≤ max_instructions
    → first < length forms → rest < length forms → AddsTasks forms pc (Form number) old new
AddsTasks-choice forms pc number first rest a b old new is form counts_first counts_rest room below_first below_rest =
    let P : Task → Type 0 = TaskFits (length forms) in
    let F = form_at forms first in
    let R = form_at forms rest in
    let first_is : a ≡ size (form_at forms first) = omega (arith, counts_first, room, ap size form) in
    let rest_is : b ≡ size (form_at forms rest) = omega (arith, counts_rest, room, ap size form) in
    let to_end = Emit (instr.Commit (pc + a + 2 + b)) in
    let to_second = Emit (instr.Choice (pc + a + 2)) in
    record {
      more = Form rest ∷ to_end ∷ Form first ∷ to_second ∷ [];
      added = is;
      emitted = λ code long. emitted-choice forms code first rest (pc + a + 2) (pc + a + 2 + b) ∙ (choice-at code F R (pc + a + 2) (pc + a + 2 + b) (omega (arith, first_is, long)) (omega (arith, first_is, rest_is, long)) ∙ as-form forms code number (Choice F R) form);
      fit = All-cons P (Form rest) (to_end ∷ Form first ∷ to_second ∷ []) below_rest (All-cons P to_end (Form first ∷ to_second ∷ []) tt (All-cons P (Form first) (to_second ∷ []) below_first (All-cons P to_second [] tt (all-none P))));
      lighter = omega (arith, ap size form);
    }

round-fits : (forms : List CoreForm) (part end : ℕ) (last : Instr) → part < length forms
    → All (TaskFits (length forms)) (Emit last ∷ Form part ∷ Emit (instr.Choice end) ∷ [])
round-fits forms part end last below =
    let P : Task → Type 0 = TaskFits (length forms) in
    let to_end = Emit (instr.Choice end) in
    All-cons P (Emit last) (Form part ∷ to_end ∷ []) tt (All-cons P (Form part) (to_end ∷ []) below (All-cons P to_end [] tt (all-none P)))

pub AddsTasks-star : (forms : List CoreForm) (pc number part a : ℕ) (origin : Extent) (old new : List Task)
    → new ≡ old ++ (Emit (instr.Commit pc) ∷ Form part ∷ Emit (instr.Choice (pc + a + 2)) ∷ [])
    → form_at forms number ≡ Star (form_at forms part) origin
    → a ≡ capped (size (form_at forms part)) → pc + size (form_at forms number) ≤ max_instructions
    → part < length forms → AddsTasks forms pc (Form number) old new
AddsTasks-star forms pc number part a origin old new is form counts room below =
    let P = form_at forms part in
    let part_is : a ≡ size (form_at forms part) = omega (arith, counts, room, ap size form) in
    record {
      more = Emit (instr.Commit pc) ∷ Form part ∷ Emit (instr.Choice (pc + a + 2)) ∷ [];
      added = is;
      emitted = λ code long. emitted-round forms code part (pc + a + 2) (instr.Commit pc) ∙ (star-at code P origin pc (pc + a + 2) (sym long) (omega (arith, part_is, long)) ∙ as-form forms code number (Star P origin) form);
      fit = round-fits forms part (pc + a + 2) (instr.Commit pc) below;
      lighter = omega (arith, ap size form);
    }

pub AddsTasks-not : (forms : List CoreForm) (pc number part a : ℕ) (old new : List Task)
    → new ≡ old ++ (Emit instr.FailTwice ∷ Form part ∷ Emit (instr.Choice (pc + a + 2)) ∷ [])
    → form_at forms number ≡ Not (form_at forms part)
    → a ≡ capped (size (form_at forms part)) → pc + size (form_at forms number) ≤ max_instructions
    → part < length forms → AddsTasks forms pc (Form number) old new
AddsTasks-not forms pc number part a old new is form counts room below =
    let P = form_at forms part in
    let part_is : a ≡ size (form_at forms part) = omega (arith, counts, room, ap size form) in
    record {
      more = Emit instr.FailTwice ∷ Form part ∷ Emit (instr.Choice (pc + a + 2)) ∷ [];
      added = is;
      emitted = λ code long. emitted-round forms code part (pc + a + 2) instr.FailTwice ∙ (not-at code P (pc + a + 2) (omega (arith, part_is, long)) ∙ as-form forms code number (Not P) form);
      fit = round-fits forms part (pc + a + 2) instr.FailTwice below;
      lighter = omega (arith, ap size form);
    }

-- ---- a task is done

pub DoesTask-put : (forms : List CoreForm) (old new : List Instruction) (tasks : List Task) (i : Instr)
    → new ≡ old ++ instruction_of i ∷ [] → DoesTask forms (Emit i) old tasks new tasks
DoesTask-put forms old new tasks i put =
    record {
      emitted = ap (λ (code : List Instruction). code_after_all forms code tasks) put;
      fit = λ fit. fit;
      lighter = omega arith;
    }

-- a form is emitted by the tasks of a form with the same code
pub DoesTask-form : (forms : List CoreForm) (code : List Instruction) (old new : List Task) (number form : ℕ)
    → HaveSameCode (form_at forms form) (form_at forms number) → AddsTasks forms (length code) (Form form) old new
    → DoesTask forms (Form number) code old code new
DoesTask-form forms code old new number form alike adds =
    let same : weight forms (Form form) ≡ weight forms (Form number) = ap (λ n. 1 + (3 * n - 2)) (size-same (form_at forms form) (form_at forms number) alike) in
    let sum = ap (weight_of_all forms) adds.added ∙ weight_of_all-append forms old adds.more in
    let less = adds.lighter in
    record {
      emitted = ap (code_after_all forms code) adds.added ∙ (code_after_all-append forms code old adds.more ∙ ap (λ (c : List Instruction). code_after_all forms c old) (adds.emitted code refl ∙ code_after-same forms code number form alike));
      fit = λ fit. subst (All (TaskFits (length forms))) (sym adds.added) (All-append (TaskFits (length forms)) old adds.more fit adds.fit);
      lighter = omega (arith, sum, less, same);
    }

-- ---- the last task, and the others

module _ (forms : List CoreForm) (tasks rest : List Task) (task : Task) (taken : tasks ≡ rest ++ task ∷ []) where
  longer-by-one : length tasks ≡ length rest + 1
  longer-by-one = ap length taken ∙ length-append rest (task ∷ [])

  pub last-emitted : (code : List Instruction) → code_after_all forms (code_after forms code task) rest ≡ code_after_all forms code tasks
  last-emitted code = sym (code_after_all-append forms code rest (task ∷ [])) ∙ ap (code_after_all forms code) (sym taken)

  -- if the code of all tasks is within the limit, so is the code of the last one
  pub last-room : (code : List Instruction) → length (code_after forms code task) ≤ length (code_after_all forms code tasks)
  last-room code = omega (arith, longer-all forms (code_after forms code task) rest, ap length (last-emitted code))

  pub last-weight : weight_of_all forms tasks ≡ weight_of_all forms rest + weight forms task
  last-weight = omega (arith, ap (weight_of_all forms) taken, weight_of_all-append forms rest (task ∷ []))

  pub last-fits : All (TaskFits (length forms)) tasks → TaskFits (length forms) task
  last-fits fit =
      subst (TaskFits (length forms)) (ap (λ (l : List Task). get_or l (length rest) task) taken ∙ get_or_at rest task [] task (length rest) refl)
      (fit (length rest) task (omega (arith, longer-by-one)))

  pub others-fit : All (TaskFits (length forms)) tasks → All (TaskFits (length forms)) rest
  others-fit fit k d below =
      subst (TaskFits (length forms)) (ap (λ (l : List Task). get_or l k d) taken ∙ get_or_append_left rest (task ∷ []) d k below)
      (fit k d (omega (arith, longer-by-one)))
