use Rattle.std.proofs.Common.{◌≡◌, ◌++◌, map, take}
use Rattle.peg_diagnostics.specs.Diagnostic.{quiet_rule}
use Rattle.peg_grammar.specs.GrammarRules.{rules_in}
use Rattle.peg_grammar.specs.Written.{rules_of}
use Rattle.peg_diagnostics.proofs.diagnostic.add_quiet_rules.Given as goal

-- after those at the start come the first quiet copies
abbrev pub invariant-loop-rule : goal.invariant-loop-rule
invariant-loop-rule l =
    rules_of l.definitions.items ≡ rules_of l.initial.definitions.items
    ++ map quiet_rule (take l.rule (rules_in l.grammar))
