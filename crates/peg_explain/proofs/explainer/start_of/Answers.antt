use Rattle.std.proofs.Common.{◌∙◌, ap, option_map, sym}
use Rattle.peg_grammar.specs.GrammarRules.{rules_in}
use Rattle.peg_semantics.specs.Starts.{start_name}
use Rattle.peg_explain.proofs.NamingLemmas.{given-start}
use Rattle.peg_explain.proofs.explainer.start_of.Goals as goal

pub returns-in-Some : goal.returns-in-Some
returns-in-Some c start is =
    let rules = rules_in c.args.grammar.now in
    given-start rules c.in-Some.name.now start
    (sym (ap (λ given. start_name rules (option_map (λ name. name.now) given)) c.in-Some.is) ∙ is)
