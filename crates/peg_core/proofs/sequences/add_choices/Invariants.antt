use Rattle.std.proofs.Common.{◌+◌, ◌≤◌, ◌<◌, [], length}
use Rattle.peg_core.specs.Appending.{Appends}
use Rattle.peg_core.specs.Layout.{max_forms}
use Rattle.peg_core.proofs.LaidLemmas.{forms_from, choices_in, any_of}
use Rattle.peg_core.proofs.sequences.add_choices.Given as goal

-- the forms from here on are one choice
abbrev pub invariant-loop-at : goal.invariant-loop-at
invariant-loop-at l = record {
  within : l.at < length l.others;
  room : length l.builder.forms + l.at + 1 ≤ max_forms;
  so_far : Appends l.fn.builder (choices_in (forms_from l.fn.builder l.at l.others)) [] (any_of (forms_from l.fn.builder l.at l.others)) l.rest l.builder;
}

abbrev pub decreases-loop-at : goal.decreases-loop-at
decreases-loop-at l = l.at
