use Rattle.std.proofs.Common.{◌≡◌, ◌+◌, ◌≤◌, length, drop}
use Rattle.peg_grammar.specs.Found.{seen_in}
use Rattle.peg_grammar.specs.Evaluator.{evaluated_text}
use Rattle.peg_semantics.specs.Record.{literal_at}
use Rattle.peg_grammar.proofs.evaluator.Evaluator.literal.Given as goal

-- the bytes so far match the text, and no failed test was noted
abbrev pub invariant-loop-at : goal.invariant-loop-at
invariant-loop-at l = record {
  kept : seen_in l.found ≡ seen_in l.fn.found;
  within : l.at ≤ length l.rest;
  same : literal_at l.terminal l.position l.bytes (drop l.position (evaluated_text l.self))
      ≡ literal_at l.terminal (l.position + l.at) (drop l.at l.bytes) (drop l.at l.rest);
}
