use Rattle.std.proofs.Common.{◌≡◌, ◌+◌, drop}
use Rattle.std.specs.List.{prefix_len}
use Rattle.peg_messages.specs.Found.{is_in_word}
use Rattle.peg_messages.proofs.found.bytes_of_word.Given as goal

abbrev pub invariant-word : goal.invariant-word
invariant-word l = l.length + prefix_len is_in_word (drop l.length l.bytes) ≡ prefix_len is_in_word l.bytes
