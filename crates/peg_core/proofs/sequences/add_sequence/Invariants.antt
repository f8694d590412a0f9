use Rattle.std.proofs.Common.{◌+◌, ◌≤◌, ◌<◌, [], length}
use Rattle.peg_core.specs.CoreForm.{all_in_order}
use Rattle.peg_core.specs.CoreParts.{sequences_of}
use Rattle.peg_core.specs.Appending.{Appends}
use Rattle.peg_core.specs.Layout.{max_forms}
use Rattle.peg_core.proofs.LaidLemmas.{forms_from}
use Rattle.peg_core.proofs.sequences.add_sequence.Given as goal

-- the forms from here on are one sequence
abbrev pub invariant-loop-at : goal.invariant-loop-at
invariant-loop-at l = record {
  within : l.at < length l.numbers;
  room : length l.builder.forms + l.at + 1 ≤ max_forms;
  so_far : Appends l.fn.builder (sequences_of (forms_from l.fn.builder l.at l.numbers)) [] (all_in_order (forms_from l.fn.builder l.at l.numbers)) l.rest l.builder;
}

abbrev pub decreases-loop-at : goal.decreases-loop-at
decreases-loop-at l = l.at
