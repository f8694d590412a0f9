use Rattle.std.proofs.Common.{◌≡◌, ◌++◌, drop, map}
use Rattle.peg_bytes.specs.Extent.{extent}
use Rattle.peg_diagnostics.specs.Marked.{marker_rules}
use Rattle.peg_grammar.specs.Written.{rules_of}
use Rattle.peg_diagnostics.proofs.marked.add_markers.Given as goal

-- the rules so far and the remaining markers are those at the start and all markers
abbrev pub invariant-spans : goal.invariant-spans
invariant-spans l = record {
  rules : rules_of l.definitions.items ++ marker_rules l.marker (drop l.span-index (map extent l.spans))
      ≡ rules_of l.initial.definitions.items ++ marker_rules 0 (map extent l.spans);
  counted : l.marker ≡ l.span-index;
}
