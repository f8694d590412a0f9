use Rattle.std.proofs.Common.{◌≡◌, map}
use Rattle.std.specs.List.{range_with_len}
use Rattle.peg_grammar.specs.GrammarRules.{rules_in}
use Rattle.peg_spacing.specs.Spacing.{is_inside}
use Rattle.peg_spacing.proofs.spacing.with_called.Given as goal

-- the first rules
abbrev pub invariant-rules : goal.invariant-rules
invariant-rules l = l.next.items ≡ map (is_inside (rules_in l.grammar) l.flags) (range_with_len 0 l.rule)
