use Rattle.std.proofs.Common.{◌≡◌, All, length}
use Rattle.peg_code.specs.Tasks.{code_after, code_after_all, TaskFits, weight_of_all}
use Rattle.peg_code.specs.declared.tasks.Task.TheVariants.{Form}
use Rattle.peg_code.proofs.tasks.emit.Given as goal

-- the emitted code and that of the pending tasks make the old code and that of the form
abbrev pub invariant-lays : goal.invariant-lays
invariant-lays l = record {
  emitted : code_after_all l.core.forms l.code l.tasks.items ≡ code_after l.core.forms l.fn.code (Form l.fn.number);
  fit : All (TaskFits (length l.core.forms)) l.tasks.items;
}

-- so there are at most three iterations for each instruction, and one more
abbrev pub decreases-lays : goal.decreases-lays
decreases-lays l = weight_of_all l.core.forms l.tasks.items
