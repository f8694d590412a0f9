use Rattle.std.proofs.Common.{◌≡◌, ◌+◌, ◌≤◌, length, drop}
use Rattle.peg_bytes.specs.Place.{ends_up_to, last_or}
use Rattle.peg_bytes.proofs.PlaceLemmas.{ends_within}
use Rattle.peg_bytes.proofs.line_column.place.Given as goal

-- the line ends counted so far and those after `next` are all line ends up to `at`
abbrev pub invariant-loop-next : goal.invariant-loop-next
invariant-loop-next l = record {
  lines : l.line + length (ends_within l.at l.next (drop l.next l.file)) ≡ 1 + length (ends_up_to l.file l.at);
  last : last_or l.start (ends_within l.at l.next (drop l.next l.file)) ≡ last_or 0 (ends_up_to l.file l.at);
  start : l.start ≤ l.next;
  few : l.line ≤ l.next + 1;
}
