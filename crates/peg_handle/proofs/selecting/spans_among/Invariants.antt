use Rattle.std.proofs.Common.{◌≡◌, List, map, take}
use Rattle.peg_json.specs.Parses.{extents_at}
use Rattle.peg_semantics.specs.Rules.{Rule}
use Rattle.peg_semantics.specs.Terminals.{extents_of_terminals}
use Rattle.peg_handle.specs.FileSpans.{file_span}
use Rattle.peg_handle.proofs.selecting.spans_among.Given as goal

-- the spans so far are those of the first `i` numbers
abbrev pub invariant-spans : goal.invariant-spans
invariant-spans l =
    (rules : List Rule) → l.terminals ≡ map file_span (extents_of_terminals rules)
    → l.spans.items ≡ map file_span (extents_at rules (take l.i l.numbers))
