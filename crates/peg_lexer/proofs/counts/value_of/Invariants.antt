use Rattle.std.proofs.Common.{◌≡◌, ◌≤◌, take}
use Rattle.peg_metagrammar.specs.Denotation.{decimal}
use Rattle.peg_lexer.specs.LexicalCode.{saturated_number}
use Rattle.peg_lexer.proofs.counts.value_of.Given as goal

-- the number that the digits so far denote
abbrev pub invariant-loop-digit : goal.invariant-loop-digit
invariant-loop-digit l = record {
  value : l.value ≡ saturated_number (decimal (take l.digit-index l.digits));
  small : l.value ≤ 256;
}
