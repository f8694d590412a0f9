use Rattle.std.proofs.Common.{rules as by_rules, ◌≡◌, ◌∙◌, IfSome, List, Ok, ap, inl, inr, map, refl, subst, sym}
use Rattle.std.proofs.lemmas.Simd.{map-map}
use Rattle.peg_blame.specs.BlameParser.{IsBlameParserOf}
use Rattle.peg_blame.specs.Faults.{CanBeBlamed}
use Rattle.peg_blame.proofs.InTextLemmas.{parse-in_text}
use Rattle.peg_blame.specs.declared.blame_parser.BlameParser.{BlameParser}
use Rattle.peg_bytes.specs.Extent.{extent}
use Rattle.peg_bytes.specs.declared.span.Span.{Span}
use Rattle.peg_diagnostics.specs.Diagnostic.{diagnostic_rules}
use Rattle.peg_grammar.specs.Outcomes.{IsParseOutcome}
use Rattle.peg_parser.specs.Parser.{start_named}
use Rattle.peg_parser.specs.StepLimits.{TakesMoreSteps}
use Rattle.peg_semantics.specs.Rules.{Rule}
use Rattle.peg_semantics.specs.Starts.{start_name}
use Rattle.peg_semantics.specs.Terminals.{extents_of_terminals}
use Rattle.peg_explain.specs.Expected.{expected_spans, unnamed_fact}
use Rattle.peg_explain.specs.Explainers.{IsBlameOf}
use Rattle.peg_explain.specs.Explanations.{HasMismatch, HasNoBlameParser, HasStepsWithin, expected_items, fact_of}
use Rattle.peg_explain.specs.Explanations.{facts_by_blame, facts_by_tests, left_out_spacing}
use Rattle.peg_explain.specs.Namings.{AreItemsFor}
use Rattle.peg_explain.proofs.ExpectedLemmas.{unnamed-items}
use Rattle.peg_explain.proofs.ExplanationLemmas.{blame-explains, steps-within, tests-explain}
use Rattle.peg_explain.proofs.explainer.Explainer.mismatch.Goals as goal

pub returns-in_ok-expected-in-Some-clause-mismatch : goal.returns-in_ok-expected-in-Some-clause-mismatch
returns-in_ok-expected-in-Some-clause-mismatch c file rules of_explainer =
    let text = c.args.text.now in
    let style = c.args.self.now.style in
    let outcome = c.in_ok-answer-in-Some.answer.outcome in
    let expected = c.in_ok-expected-in-Some.expected in
    let blames : IsBlameParserOf rules c.in-Some.blames = subst (IsBlameOf rules) (sym c.get.ensures ∙ c.in-Some.is) of_explainer.blames in
    blame-explains rules style text (start_name rules (start_named c.args.options.now)) outcome
    (λ facts parsed. HasMismatch facts text parsed c.mismatch_in.result)
    (c.in_ok-answer-in-Some.ensures.outcome rules blames)
    (λ start named is.
    let stated : AreItemsFor rules style text start outcome is.blame.calls (map fact_of expected.items.items)
    expected.rules.items = c.in_ok-expected-in-Some.ensures.items rules start blames of_explainer.has_parser named is in (
      stated.0,
      stated.1,
      c.mismatch_in.ensures.mismatch (facts_by_blame rules (left_out_spacing rules style outcome) stated.0) refl stated.2 stated.3,
    ))

pub returns-in_ok-items-in-None-clause-mismatch : goal.returns-in_ok-items-in-None-clause-mismatch
returns-in_ok-items-in-None-clause-mismatch c file rules of_explainer =
    let text = c.args.text.now in
    let style = c.args.self.now.style in
    let outcome = c.in_ok-answer-in-None.answer.outcome in
    let start = start_named c.args.options.now in
    let same = of_explainer.has_parser in
    let lacks : HasNoBlameParser rules = subst (IsBlameOf rules) (sym c.get.ensures ∙ c.in-None.is) of_explainer.blames in
    let spans : map extent c.in_ok-spans-in-None.spans.items ≡ expected_spans (extents_of_terminals rules) outcome =
    c.in_ok-spans-in-None.ensures.spans
    ∙ ap (λ (l : List Rule). expected_spans (extents_of_terminals l) outcome) same in
    let items : map fact_of c.in_ok-items-in-None.items.items
    ≡ expected_items (facts_by_tests rules) outcome =
    c.in_ok-items-in-None.ensures.items
    ∙ ap (map (λ (span : Span). unnamed_fact (extent span))) c.deref.ensures.value
    ∙ sym (map-map unnamed_fact extent c.in_ok-spans-in-None.spans.items)
    ∙ unnamed-items outcome rules (map extent c.in_ok-spans-in-None.spans.items) spans in
    let parsed = subst (λ (l : List Rule). IfSome (start_name l start) (λ from. IsParseOutcome l text from outcome)) same
    c.in_ok-answer-in-None.ensures.parse.outcome in
    tests-explain rules style text (start_name rules start) outcome
    (λ facts parsed. HasMismatch facts text parsed c.mismatch_in-in-None.result) lacks parsed
    (c.mismatch_in-in-None.ensures.mismatch (facts_by_tests rules) refl c.new-rules.ensures.items (λ differs. items))

pub mismatch_in-requires-in-None-clause-in_text : goal.mismatch_in-requires-in-None-clause-in_text
mismatch_in-requires-in-None-clause-in_text c =
    parse-in_text _ _ _ _ _ _ _ (Ok c.in_ok-answer-in-None.answer) c.in_ok-answer-in-None.ensures.parse

-- rules that have a parser of blame
can-blame : (rules : List Rule) (blames : BlameParser) → IsBlameParserOf rules blames → CanBeBlamed rules
can-blame rules blames is =
    record { well_formed = is.well_formed; distinct = is.distinct; light = is.light; small = is.small }

pub returns-in_err-answer-in-Some-clause-limited : goal.returns-in_err-answer-in-Some-clause-limited
returns-in_err-answer-in-Some-clause-limited c file rules of_explainer is_limit =
    let blames : IsBlameParserOf rules c.in-Some.blames = subst (IsBlameOf rules) (sym c.get.ensures ∙ c.in-Some.is) of_explainer.blames in
    inl (
      can-blame rules c.in-Some.blames blames,
      (c.in_err-answer-in-Some.ensures.limit rules blames).limited (search by_rules),
    )

pub returns-in_err-expected-in-Some-clause-limited : goal.returns-in_err-expected-in-Some-clause-limited
returns-in_err-expected-in-Some-clause-limited c file rules of_explainer is_limit =
    let blames : IsBlameParserOf rules c.in-Some.blames = subst (IsBlameOf rules) (sym c.get.ensures ∙ c.in-Some.is) of_explainer.blames in
    inl (
      can-blame rules c.in-Some.blames blames,
      c.in_err-expected-in-Some.ensures.limited rules blames of_explainer.has_parser (search by_rules),
    )

pub returns-in_ok-expected-in-Some-clause-enough : goal.returns-in_ok-expected-in-Some-clause-enough
returns-in_ok-expected-in-Some-clause-enough c file rules of_explainer no_memo =
    let blames : IsBlameParserOf rules c.in-Some.blames = subst (IsBlameOf rules) (sym c.get.ensures ∙ c.in-Some.is) of_explainer.blames in
    inl (can-blame rules c.in-Some.blames blames, (c.in_ok-answer-in-Some.ensures.limit rules blames).enough no_memo)

pub returns-in_err-answer-in-None-clause-limited : goal.returns-in_err-answer-in-None-clause-limited
returns-in_err-answer-in-None-clause-limited c file rules of_explainer is_limit =
    let lacks : HasNoBlameParser rules = subst (IsBlameOf rules) (sym c.get.ensures ∙ c.in-None.is) of_explainer.blames in
    let more = c.in_err-answer-in-None.ensures.parse.limit.limited in
    inr (
      lacks,
      subst (λ (l : List Rule). TakesMoreSteps l c.args.text.now (start_named c.args.options.now)
          c.args.options.now.steps) of_explainer.has_parser (more (search by_rules)),
    )

pub returns-in_ok-items-in-None-clause-enough : goal.returns-in_ok-items-in-None-clause-enough
returns-in_ok-items-in-None-clause-enough c file rules of_explainer no_memo =
    let lacks : HasNoBlameParser rules = subst (IsBlameOf rules) (sym c.get.ensures ∙ c.in-None.is) of_explainer.blames in
    inr (
      lacks,
      λ more. c.in_ok-answer-in-None.ensures.parse.limit.enough no_memo
          (subst (λ (l : List Rule). TakesMoreSteps l c.args.text.now (start_named c.args.options.now)
          c.args.options.now.steps) (sym of_explainer.has_parser) more),
    )

pub returns-in_ok-expected-in-Some-clause-within : goal.returns-in_ok-expected-in-Some-clause-within
returns-in_ok-expected-in-Some-clause-within c file rules of_explainer =
    let blames : IsBlameParserOf rules c.in-Some.blames = subst (IsBlameOf rules) (sym c.get.ensures ∙ c.in-Some.is) of_explainer.blames in
    let answer = c.in_ok-answer-in-Some.answer in
    let answered = c.in_ok-answer-in-Some.ensures in
    inl (
      can-blame rules c.in-Some.blames blames,
      (
        answer,
        answered.outcome rules blames,
        steps-within (diagnostic_rules rules) c.args.text.now (start_named c.args.options.now) _
            c.args.options.now.steps answer (answered.steps rules blames),
      ),
    )

pub returns-in_ok-items-in-None-clause-within : goal.returns-in_ok-items-in-None-clause-within
returns-in_ok-items-in-None-clause-within c file rules of_explainer =
    let text = c.args.text.now in
    let start = start_named c.args.options.now in
    let steps = c.args.options.now.steps in
    let answer = c.in_ok-answer-in-None.answer in
    let parse = c.in_ok-answer-in-None.ensures.parse in
    let lacks : HasNoBlameParser rules = subst (IsBlameOf rules) (sym c.get.ensures ∙ c.in-None.is) of_explainer.blames in
    inr (
      lacks,
      (
        answer,
        subst (λ (l : List Rule). IfSome (start_name l start) (λ from. IsParseOutcome l text from answer.outcome))
            of_explainer.has_parser parse.outcome,
        subst (λ (l : List Rule). HasStepsWithin l text start steps answer) of_explainer.has_parser
            (steps-within _ text start _ steps answer parse.steps),
      ),
    )
