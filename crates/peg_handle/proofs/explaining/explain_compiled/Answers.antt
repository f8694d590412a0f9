use Rattle.std.proofs.Common.{ℕ, List, OnOk, Option, subst}
use Rattle.peg_explain.specs.Explainers.{IsExplainerOf}
use Rattle.peg_explain.specs.Explanations.{ExplainingAnswersWithin, ExplainingStaysWithin, ExplainingTakesMoreSteps}
use Rattle.peg_handle.specs.Starts.{start_of_bytes}
use Rattle.peg_parser.specs.Parser.{parser_rules}
use Rattle.peg_handle.proofs.explaining.explain_compiled.Goals as goal

pub returns-clause-limited : goal.returns-clause-limited
returns-clause-limited c compiled is =
    let rules = parser_rules c.args.compiled.now.grammar.parser in
    let text = c.args.text.now in
    let made = subst (λ (file : List ℕ). IsExplainerOf file rules c.with_blames-explainer.result) c.deref.ensures.value
    (c.with_blames-explainer.ensures.made compiled) in
    subst (λ (limit : Option ℕ). ExplainingTakesMoreSteps rules text (start_of_bytes c.args.start.now) limit)
    c.limit_from.ensures
    (subst (λ (start : Option (List ℕ)). ExplainingTakesMoreSteps rules text start c.limit_from.result)
    c.in_ok-start.ensures.named (c.explain_with.ensures.limited made is))

pub returns-clause-enough : goal.returns-clause-enough
returns-clause-enough c compiled no_memo =
    let rules = parser_rules c.args.compiled.now.grammar.parser in
    let text = c.args.text.now in
    let made = subst (λ (file : List ℕ). IsExplainerOf file rules c.with_blames-explainer.result) c.deref.ensures.value
    (c.with_blames-explainer.ensures.made compiled) in
    subst (λ (limit : Option ℕ). OnOk c.explain_with.result (ExplainingStaysWithin rules text
    (start_of_bytes c.args.start.now) limit)) c.limit_from.ensures
    (subst (λ (start : Option (List ℕ)). OnOk c.explain_with.result (ExplainingStaysWithin rules text start
    c.limit_from.result)) c.in_ok-start.ensures.named (c.explain_with.ensures.enough made no_memo))

pub returns-clause-within : goal.returns-clause-within
returns-clause-within c compiled =
    let rules = parser_rules c.args.compiled.now.grammar.parser in
    let text = c.args.text.now in
    let made = subst (λ (file : List ℕ). IsExplainerOf file rules c.with_blames-explainer.result) c.deref.ensures.value
    (c.with_blames-explainer.ensures.made compiled) in
    subst (λ (limit : Option ℕ). OnOk c.explain_with.result (ExplainingAnswersWithin rules text
    (start_of_bytes c.args.start.now) limit)) c.limit_from.ensures
    (subst (λ (start : Option (List ℕ)). OnOk c.explain_with.result (ExplainingAnswersWithin rules text start
    c.limit_from.result)) c.in_ok-start.ensures.named (c.explain_with.ensures.within made))
