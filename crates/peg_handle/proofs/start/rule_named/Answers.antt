use Rattle.std.proofs.Common.{rules as by_rules, ◌≡◌, ◌<◌, length}
use Rattle.peg_grammar.specs.GrammarRules.{rules_in}
use Rattle.peg_semantics.specs.Rules.{name_of}
use Rattle.peg_handle.proofs.StartLemmas.{is_defined-rule}
use Rattle.peg_handle.proofs.start.rule_named.Goals as goal

pub returns-then-eq-clause-defined : goal.returns-then-eq-clause-defined
returns-then-eq-clause-defined c =
    let rules = rules_in c.args.grammar.now in
    let within : c.rules.rule < length rules = search by_rules in
    let named : name_of rules c.rules.rule ≡ c.args.name.now = search by_rules in
    is_defined-rule rules c.args.name.now c.rules.rule within named
