use Rattle.std.proofs.Common.{◌-◌, ◌≤◌, length}
use Rattle.peg_grammar.specs.Written.{rules_of}
use Rattle.peg_notation.specs.ReaderCode.{lexemes}
use Rattle.peg_notation.specs.ReaderFile.{file_of}
use Rattle.peg_metagrammar.specs.Nesting.{max_open}
use Rattle.peg_notation.proofs.ManyLoops.{RulesSoFar}
use Rattle.peg_notation.proofs.reader.Reader.grammar.Given as goal

-- the rules so far
abbrev pub invariant-rules : goal.invariant-rules
invariant-rules l = record {
  so_far : RulesSoFar (file_of l.self) max_open (lexemes l.tokens) l.token_count (rules_of l.definitions.items) l.depth;
  fits : l.token_count ≤ length l.tokens;
}

abbrev pub decreases-rules : goal.decreases-rules
decreases-rules l = length l.tokens - l.token_count
