use Rattle.std.proofs.Common.{◌-◌, ◌≤◌, length, map}
use Rattle.peg_metagrammar.specs.Notation.{max_file_bytes}
use Rattle.peg_lexer.specs.Tokens.{lexeme_of, IsTokenized}
use Rattle.peg_lexer.proofs.lexer.lex.Given as goal

-- the tokens so far, and the end of the spacing after them
abbrev pub invariant-tokens : goal.invariant-tokens
invariant-tokens l = record {
  within : l.at ≤ length l.file;
  short : length l.file ≤ max_file_bytes;
  begins : IsTokenized l.file (map lexeme_of l.tokens.items) l.at;
}

abbrev pub decreases-tokens : goal.decreases-tokens
decreases-tokens l = length l.file - l.at
