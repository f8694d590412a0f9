use Rattle.std.proofs.Common.{◌≡◌, ◌+◌, ◌≤◌}
use Rattle.peg_bytes.specs.Place.{ends_up_to, last_or, line_at}
use Rattle.peg_listings.proofs.positions.advance.Given as goal

-- the line of the next offset, and where it starts
abbrev pub invariant-bytes : goal.invariant-bytes
invariant-bytes l = record {
  line : l.line ≡ line_at l.file l.next;
  start : l.start ≡ last_or 0 (ends_up_to l.file l.next);
  before : l.start ≤ l.next;
  few : l.line ≤ l.next + 1;
}
