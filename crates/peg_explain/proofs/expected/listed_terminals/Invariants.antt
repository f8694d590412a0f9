use Rattle.std.proofs.Common.{◌≡◌, map, take}
use Rattle.peg_bytes.specs.Extent.{extent}
use Rattle.peg_parser.specs.Parser.{parser_rules}
use Rattle.peg_semantics.specs.Terminals.{extents_of_terminals}
use Rattle.peg_explain.specs.Expected.{numbered_spans}
use Rattle.peg_explain.proofs.expected.listed_terminals.Given as goal

-- the spans of the first numbers
abbrev pub invariant-numbers : goal.invariant-numbers
invariant-numbers l =
    map extent l.spans.items ≡ numbered_spans (extents_of_terminals (parser_rules l.parser)) (take l.number-index l.numbers)
