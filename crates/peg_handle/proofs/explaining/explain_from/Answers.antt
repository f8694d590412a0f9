use Rattle.std.proofs.Common.{ℕ, List, subst}
use Rattle.peg_explain.specs.Explainers.{IsExplainerOf}
use Rattle.peg_parser.specs.Parser.{parser_rules}
use Rattle.peg_handle.proofs.explaining.explain_from.Goals as goal

pub returns-clause-limited : goal.returns-clause-limited
returns-clause-limited c =
    c.explain_with.ensures.limited
    (subst (λ (file : List ℕ). IsExplainerOf file (parser_rules c.args.grammar.now.parser) c.in_ok-explainer.explainer)
    c.deref.ensures.value c.in_ok-explainer.ensures.made)
