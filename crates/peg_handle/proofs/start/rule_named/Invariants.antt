use Rattle.std.proofs.Common.{◌≢◌, ℕ, ◌<◌}
use Rattle.peg_grammar.specs.GrammarRules.{rules_in}
use Rattle.peg_semantics.specs.Rules.{name_of}
use Rattle.peg_handle.proofs.start.rule_named.Given as goal

-- no rule so far has the name
abbrev pub invariant-rules : goal.invariant-rules
invariant-rules l = (rule : ℕ) → rule < l.rule → name_of (rules_in l.grammar) rule ≢ l.name
