use Rattle.std.proofs.Common.{◌≡◌, ◌<◌, ◌&&◌, All, filter, length}
use Rattle.std.specs.List.{range_with_len}
use Rattle.peg_grammar.specs.GrammarRules.{rules_in}
use Rattle.peg_tree.specs.Selected.{has_rule}
use Rattle.peg_explain.specs.Names.{can_be_named}
use Rattle.peg_explain.proofs.names.Naming.named_rules.Given as goal

-- the rules so far that are called and aren't the start
abbrev pub invariant-each : goal.invariant-each
invariant-each l = record {
  listed : l.list.items
      ≡ filter (λ rule. has_rule l.self.called.now rule
      && can_be_named (rules_in l.self.grammar.now) l.self.spacing.now l.self.start.now rule)
      (range_with_len 0 l.rule);
  within : All (λ rule. rule < length (rules_in l.self.grammar.now)) l.list.items;
}
