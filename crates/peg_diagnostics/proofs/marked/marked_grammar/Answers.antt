use Rattle.std.proofs.Common.{IfErr, ◌++◌, ap, ◌∙◌, subst, arith}
use Rattle.peg_diagnostics.specs.Marked.{marked_rules}
use Rattle.peg_grammar.specs.GrammarRules.{rules_in}
use Rattle.peg_grammar.specs.Refusal.{IsRefusedBy}
use Rattle.peg_grammar.specs.Written.{rules_of}
use Rattle.peg_diagnostics.proofs.MarkBounds.{markers-weight}
use Rattle.peg_diagnostics.proofs.MarkedGrammar.{IsGrammar-marked}
use Rattle.peg_diagnostics.proofs.RefusalLemmas.{other_refusal}
use Rattle.peg_diagnostics.proofs.marked.marked_grammar.Goals as goal

pub returns-clause-plain : goal.returns-clause-plain
returns-clause-plain c = λ unmarked.
    let rules = rules_in c.args.grammar.now in
    let both =
    c.in_ok-add_definitions.ensures ∙ ap (λ l. rules_of l ++ marked_rules rules) c.new-definitions.ensures.items in
    other_refusal c.new.result rules (marked_rules rules) c.args.grammar.now.grammar
    (λ is. IsGrammar-marked rules is unmarked (omega (arith, markers-weight rules, c.args.grammar.now.light)))
    (subst (λ l. IfErr c.new.result (IsRefusedBy l)) both c.new.ensures.refused)
