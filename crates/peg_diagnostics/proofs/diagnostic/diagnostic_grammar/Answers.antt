use Rattle.std.proofs.Common.{IfErr, map, ◌++◌, ap, ◌∙◌, subst}
use Rattle.peg_diagnostics.specs.Diagnostic.{loud_rule, quiet_rule}
use Rattle.peg_grammar.specs.GrammarRules.{rules_in}
use Rattle.peg_grammar.specs.Refusal.{IsRefusedBy}
use Rattle.peg_grammar.specs.Written.{rules_of}
use Rattle.peg_diagnostics.proofs.RefusalLemmas.{plain_refusal}
use Rattle.peg_diagnostics.proofs.diagnostic.diagnostic_grammar.Goals as goal

pub returns-clause-plain : goal.returns-clause-plain
returns-clause-plain c = λ unmarked.
    let rules = rules_in c.args.grammar.now in
    let both =
    c.in_ok-add_quiet_rules.ensures
    ∙ ap (λ l. l ++ map quiet_rule rules)
    (c.in_ok-add_loud_rules.ensures
    ∙ ap (λ l. rules_of l ++ map loud_rule rules) c.new-definitions.ensures.items) in
    plain_refusal c.new.result rules c.args.grammar.now.grammar unmarked
    (subst (λ l. IfErr c.new.result (IsRefusedBy l)) both c.new.ensures.refused)
