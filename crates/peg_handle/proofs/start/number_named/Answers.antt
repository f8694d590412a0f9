use Rattle.std.proofs.Common.{sym}
use Rattle.peg_grammar.specs.GrammarRules.{rules_in}
use Rattle.peg_handle.proofs.StartLemmas.{unnumbered}
use Rattle.peg_handle.proofs.start.number_named.Goals as goal

pub returns-in-None : goal.returns-in-None
returns-in-None c =
    sym (unnumbered (rules_in c.args.grammar.now) c.args.name.now (c.rule_named.ensures.none c.in-None.is))
