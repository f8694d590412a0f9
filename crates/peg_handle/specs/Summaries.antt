-- The summary of an answer.
use Rattle.std.specs.Prelude.{ℕ, length}
use Rattle.peg_tree.specs.declared.outcome.Parsed.{Parsed}
use Rattle.peg_tree.specs.declared.outcome.Parsed.TheVariants.{Matched, Failed}
use Rattle.peg_handle.specs.Nodes.{match_nodes}
use Rattle.peg_handle.specs.declared.content.Match.{Match}
use Rattle.peg_handle.specs.declared.summary.Summary.{Summary}

-- 1 if a prefix of the text matched, else 0
abbrev pub matched_flag : Parsed → ℕ
matched_flag Failed = 0
matched_flag (Matched end tree) = 1

-- the length of the prefix that matched, or 0
abbrev pub consumed_bytes : Parsed → ℕ
consumed_bytes Failed = 0
consumed_bytes (Matched end tree) = end

abbrev pub match_summary : Match → Summary
match_summary found = record {
  matched = matched_flag found.answer.outcome.result;
  consumed = consumed_bytes found.answer.outcome.result;
  furthest = found.answer.outcome.far;
  nodes = length (match_nodes found);
  expected = length found.expected.items;
  steps = found.answer.steps;
}
