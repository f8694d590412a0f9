-- The results of tasks on files.
use Rattle.std.proofs.Common.{◌≡◌, ℕ, List, Option, None, Some, Result, IfSome}
use Rattle.peg_tool.specs.CommandOutcome.{WritesOrFails}
use Rattle.peg_replies.specs.Replies.{IsPrinted}
use Rattle.peg_replies.specs.Task.{ToolTask, TableTask, CheckTask, CodeTask, LintTask, ProfileTask, CoverTask, ParseTask, HasText, IsTextOf}
use Rattle.peg_tool.specs.declared.program.ProgramFault.{ProgramFault}

-- a task without a text takes any text
pub takes_any : (task : ToolTask) (file : List ℕ) (left : Option (List ℕ)) (bytes : List ℕ) → ¬ HasText task
    → IsTextOf task file left bytes
takes_any TableTask file left bytes other = tt
takes_any CheckTask file left bytes other = tt
takes_any CodeTask file left bytes other = tt
takes_any (LintTask start selection) file left bytes other = tt
takes_any (ProfileTask start memo steps) file left bytes other = absurd (other tt)
takes_any (CoverTask files start memo steps needed) file left bytes other = tt
takes_any (ParseTask start memo steps all form nodes with_bytes) file left bytes other = absurd (other tt)

pub takes_left : (task : ToolTask) (file : List ℕ) (left : Option (List ℕ)) (bytes : List ℕ) → left ≡ Some bytes
    → IsTextOf task file left bytes
takes_left TableTask file left bytes is = tt
takes_left CheckTask file left bytes is = tt
takes_left CodeTask file left bytes is = tt
takes_left (LintTask start selection) file left bytes is = tt
takes_left (ProfileTask start memo steps) file left bytes is = λ rules accepts. is
takes_left (CoverTask files start memo steps needed) file left bytes is = tt
takes_left (ParseTask start memo steps all form nodes with_bytes) file left bytes is = λ rules accepts. is

-- a task on a file alone, for any text
pub alone-outcome : (task : ToolTask) (held text old new : Option (List ℕ)) (result : Result ℕ ProgramFault)
    → ¬ HasText task
    → IfSome held (λ file. (bytes : List ℕ) → IsTextOf task file text bytes
    → WritesOrFails (IsPrinted task file bytes) old new result)
    → IfSome held (λ file. (bytes : List ℕ) → WritesOrFails (IsPrinted task file bytes) old new result)
alone-outcome task None text old new result other outcome = tt
alone-outcome task (Some file) text old new result other outcome =
    λ bytes. outcome bytes (takes_any task file text bytes other)

-- a task on a file and a text that is opened
pub both-outcome : (task : ToolTask) (held held_text text old new : Option (List ℕ)) (result : Result ℕ ProgramFault)
    → IfSome held_text (λ bytes. text ≡ Some bytes)
    → IfSome held (λ file. (bytes : List ℕ) → IsTextOf task file text bytes
    → WritesOrFails (IsPrinted task file bytes) old new result)
    → IfSome held (λ file. IfSome held_text (λ bytes. WritesOrFails (IsPrinted task file bytes) old new result))
both-outcome task None held_text text old new result opened outcome = tt
both-outcome task (Some file) None text old new result opened outcome = tt
both-outcome task (Some file) (Some bytes) text old new result opened outcome =
    outcome bytes (takes_left task file text bytes opened)
