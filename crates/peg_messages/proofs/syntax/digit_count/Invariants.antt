use Rattle.std.proofs.Common.{◌≡◌, ◌+◌, drop}
use Rattle.std.specs.List.{prefix_len}
use Rattle.peg_messages.specs.SyntaxCauses.{is_digit}
use Rattle.peg_messages.proofs.syntax.digit_count.Given as goal

abbrev pub invariant-digits : goal.invariant-digits
invariant-digits l = l.count + prefix_len is_digit (drop l.count l.bytes) ≡ prefix_len is_digit l.bytes
