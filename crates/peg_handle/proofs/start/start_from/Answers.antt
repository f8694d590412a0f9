use Rattle.std.proofs.Common.{◌∙◌, sym}
use Rattle.peg_grammar.specs.GrammarRules.{rules_in}
use Rattle.peg_handle.proofs.StartLemmas.{start-defined, start-first, start_name_no_rule}
use Rattle.peg_handle.proofs.start.start_from.Goals as goal

pub returns-in-None-clause-none : goal.returns-in-None-clause-none
returns-in-None-clause-none c =
    start_name_no_rule (rules_in c.args.grammar.now) c.args.start.now (sym c.is_empty.ensures ∙ c.if-is_empty.false)
    (c.rule_named.ensures.none c.in-None.is)

pub returns-in-Some-clause-some : goal.returns-in-Some-clause-some
returns-in-Some-clause-some c =
    start-defined (rules_in c.args.grammar.now) c.args.start.now (sym c.is_empty.ensures ∙ c.if-is_empty.false)
    c.in-Some.ensures.defined

pub returns-then-is_empty-clause-some : goal.returns-then-is_empty-clause-some
returns-then-is_empty-clause-some c =
    start-first (rules_in c.args.grammar.now) c.args.start.now (sym c.is_empty.ensures ∙ c.if-is_empty.true)
