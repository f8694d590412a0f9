use Rattle.std.proofs.Common.{rules as by_rules, ◌≡◌, ◌∙◌, ◌<◌, All, IfSome, List, None, Some, length, ℕ, subst, sym, true}
use Rattle.std.proofs.lemmas.Result.{IfOk-weaker}
use Rattle.peg_diagnostics.specs.Items.{extents_of_items}
use Rattle.peg_parser.specs.Fits.{FitsAmong}
use Rattle.peg_parser.specs.ParseContract.{HasParseSteps, HasStepLimit}
use Rattle.peg_parser.specs.Engine.{rules_shown, shown_parser_rules}
use Rattle.peg_parser.specs.Parser.{start_named}
use Rattle.peg_parser.specs.SelectedOutcomes.{IsParseOutcomeBy}
use Rattle.peg_semantics.specs.Rules.{Rule}
use Rattle.peg_semantics.specs.Starts.{start_name}
use Rattle.peg_blame.specs.BlameOutcome.{IsBlameOutcome}
use Rattle.peg_blame.specs.BlameParser.{IsBlameParserOf}
use Rattle.peg_blame.proofs.BlameParses.{items-fit, nonempty, shown-start, some-from, start-outcome}
use Rattle.peg_blame.proofs.InTextLemmas.{parse-in_text}
use Rattle.peg_blame.proofs.blame_parser.BlameParser.blame.Goals as goal
use Rattle.peg_blame.proofs.blame_parser.BlameParser.blame.Goals.{After-parse_among}

-- the start is a rule of the grammar as written
found : (c : After-parse_among) (rules : List Rule) → IsBlameParserOf rules c.args.self.now
    → (name : List ℕ) × (start_name rules (start_named c.args.options.now) ≡ Some name)
found c rules is =
    let held : c.has_start.result ≡ true = search by_rules in
    some-from (start_name rules (start_named c.args.options.now)) (sym (c.has_start.ensures rules is) ∙ held)

-- it is a start of the parser
shown : (c : After-parse_among) (rules : List Rule) → IsBlameParserOf rules c.args.self.now → (start : List ℕ)
    → start_name rules (start_named c.args.options.now) ≡ Some start
    → start_name (shown_parser_rules c.args.self.now.parser) (start_named c.args.options.now) ≡ Some start
shown c rules is start at =
    shown-start rules (shown_parser_rules c.args.self.now.parser) (start_named c.args.options.now) is.diagnostic
    (nonempty rules is.grammar) start at

pub returns-clause-faults : goal.returns-clause-faults
returns-clause-faults c rules is =
    let after = (goal.at.returns-clause-faults c).After-parse_among in
    let name = found after rules is in
    let there = shown after rules is name.0 name.1 in
    let stated = c.parse_among.ensures.parse.faults in record {
      no_start = (
        λ none. let both : None ≡ Some name.0 = sym (stated.no_start.0 none) ∙ there in cc,
        λ none. let both : None ≡ Some name.0 = sym none ∙ name.1 in cc,
      );
      long = λ start at. stated.long start (shown after rules is start at);
    }

pub returns-clause-outcome : goal.returns-clause-outcome
returns-clause-outcome c rules is =
    let all = shown_parser_rules c.args.self.now.parser in
    let named = start_named c.args.options.now in
    let text = c.args.text.now in
    let terminals = c.deref.result.now in
    let set = rules_shown c.args.self.now.parser in
    IfOk-weaker c.parse_among.result
    (λ answer. IfSome (start_name all named) (λ start. IsParseOutcomeBy set (Some terminals) all text start answer.outcome))
    (λ answer. IfSome (start_name rules named) (λ start. IsBlameOutcome rules text start answer.outcome))
    (λ answer. start-outcome rules all named is.diagnostic (nonempty rules is.grammar) set text terminals answer.outcome
    is.bare (c.deref.ensures.value ∙ is.terminals) is.distinct is.well_formed) c.parse_among.ensures.parse.outcome

pub returns-clause-fits : goal.returns-clause-fits
returns-clause-fits c rules is =
    let all = shown_parser_rules c.args.self.now.parser in
    let terminals = c.deref.result.now in
    IfOk-weaker c.parse_among.result (λ answer. FitsAmong all terminals answer.outcome)
    (λ answer. All (λ item. item < length (extents_of_items rules)) answer.outcome.expected.items)
    (λ answer fits. items-fit rules terminals answer.outcome.expected.items (c.deref.ensures.value ∙ is.terminals)
    fits.indices) c.parse_among.ensures.parse.fits

pub returns-clause-in_text : goal.returns-clause-in_text
returns-clause-in_text c = parse-in_text _ _ _ _ _ _ _ c.parse_among.result c.parse_among.ensures.parse

-- ---- the steps are those of the diagnostic grammar

pub returns-clause-limit : goal.returns-clause-limit
returns-clause-limit c rules is =
    subst (λ (all : List Rule). HasStepLimit all c.args.text.now (start_named c.args.options.now)
    (c.args.options.now.memo ≡ 0) c.args.options.now.steps c.parse_among.result) is.diagnostic
    c.parse_among.ensures.parse.limit

pub returns-clause-steps : goal.returns-clause-steps
returns-clause-steps c rules is =
    subst (λ (all : List Rule). HasParseSteps all c.args.text.now (start_named c.args.options.now)
    (c.args.options.now.memo ≡ 0) c.args.options.now.steps c.parse_among.result) is.diagnostic
    c.parse_among.ensures.parse.steps
