use Rattle.std.proofs.Common.{◌≡◌, ◌+◌, drop}
use Rattle.std.specs.List.{prefix_len}
use Rattle.peg_messages.specs.SyntaxCauses.{is_name_byte}
use Rattle.peg_messages.proofs.sentences.name_from.Given as goal

abbrev pub invariant-name : goal.invariant-name
invariant-name l = l.length + prefix_len is_name_byte (drop l.length l.rest) ≡ prefix_len is_name_byte l.rest
