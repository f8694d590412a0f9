-- Describes code: the tasks of the emitter.
use Rattle.std.specs.Prelude.{◌≡◌, ℕ, ◌+◌, ◌*◌, ◌-◌, ◌<◌, All, List, [], ◌∷◌, ◌++◌, length}
use Rattle.peg_core.specs.CoreForm.{CoreForm}
use Rattle.peg_core.specs.Layout.{form_at}
use Rattle.peg_code.specs.Code.{code_of, size}
use Rattle.peg_code.specs.Instructions.{Instruction}
use Rattle.peg_code.specs.Instrs.{instruction_of}
use Rattle.peg_code.specs.declared.tasks.Task.{Task}
use Rattle.peg_code.specs.declared.tasks.Task.TheVariants.{Form, Emit}

-- the code after a task is done
abbrev pub code_after : List CoreForm → (code : List Instruction) → Task → List Instruction
code_after forms code (Form number) = code ++ code_of (form_at forms number) (length code)
code_after forms code (Emit instr) = code ++ instruction_of instr ∷ []

-- the code after all these tasks are done, the last one first
abbrev pub code_after_all : List CoreForm → (code : List Instruction) → List Task → List Instruction
code_after_all forms code [] = code
code_after_all forms code (task ∷ later) = code_after forms (code_after_all forms code later) task

-- the form of a task is one of the first `count`
abbrev pub TaskFits : (count : ℕ) → Task → Type 0
TaskFits count (Form number) = number < count
TaskFits count (Emit instr) = Unit {0}

-- a bound on the number of tasks that a task leads to, itself included
abbrev pub weight : List CoreForm → Task → ℕ
weight forms (Form number) = 1 + (3 * size (form_at forms number) - 2)
weight forms (Emit instr) = 1

abbrev pub weight_of_all : List CoreForm → List Task → ℕ
weight_of_all forms [] = 0
weight_of_all forms (task ∷ later) = weight forms task + weight_of_all forms later

-- the tasks of a form whose code starts at `pc` were pushed
pub record AddsTasks (forms : List CoreForm) (pc : ℕ) (task : Task) (old new : List Task) : Type 0 where
  pub more : List Task
  pub added : new ≡ old ++ more
  pub emitted : (code : List Instruction) → length code ≡ pc
      → code_after_all forms code more ≡ code_after forms code task
  pub fit : All (TaskFits (length forms)) more
  pub lighter : weight_of_all forms more < weight forms task

-- One step of the emitter on a task. The code and the tasks after the step lead to the same code as those before it,
-- and less work is left.
pub record DoesTask (forms : List CoreForm) (task : Task) (old_code : List Instruction) (old : List Task)
    (new_code : List Instruction) (new : List Task) : Type 0 where
  pub emitted : code_after_all forms new_code new ≡ code_after_all forms (code_after forms old_code task) old
  pub fit : All (TaskFits (length forms)) old → All (TaskFits (length forms)) new
  pub lighter : weight_of_all forms new < weight_of_all forms old + weight forms task
