use Rattle.std.proofs.Common.{◌≡◌, map, take}
use Rattle.peg_json.specs.Parses.{extents_at}
use Rattle.peg_parser.specs.Parser.{parser_rules}
use Rattle.peg_handle.specs.FileSpans.{file_span}
use Rattle.peg_handle.proofs.parsing.spans_of.Given as goal

-- the spans so far are those of the first `i` terminals
abbrev pub invariant-spans : goal.invariant-spans
invariant-spans l = l.spans.items ≡ map file_span (extents_at (parser_rules l.parser) (take l.i l.terminals))
