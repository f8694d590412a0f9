use Rattle.std.proofs.Common.{rules as by_rules, ◌≡◌, ◌∙◌, ◌∷◌, [], ℕ, Bool, List, IfSome, None, Some, subst, sym, true}
use Rattle.peg_parser.specs.Engine.{shown_parser_rules}
use Rattle.peg_parser.specs.Parser.{start_named}
use Rattle.peg_parser.specs.StepLimits.{TakesMoreSteps}
use Rattle.peg_semantics.specs.Rules.{Rule}
use Rattle.peg_semantics.specs.Starts.{start_name}
use Rattle.peg_blame.specs.BlameCalls.{HasCalledRules}
use Rattle.peg_blame.specs.BlameParser.{IsBlameParserOf}
use Rattle.peg_blame.specs.CallsAt.{HasNoted}
use Rattle.peg_blame.specs.Sought.{sought}
use Rattle.peg_blame.proofs.BlameFaults.{error-passed, passed-error}
use Rattle.peg_blame.proofs.BlameParses.{nonempty, shown-start, some-from, start-called}
use Rattle.peg_blame.proofs.blame_parser.BlameParser.called_rules.Goals as goal
use Rattle.peg_blame.proofs.blame_parser.BlameParser.called_rules.Goals.{After-trace}

-- the start is a rule of the grammar as written
found : (c : After-trace) (rules : List Rule) → IsBlameParserOf rules c.args.self.now
    → (name : List ℕ) × (start_name rules (start_named c.args.options.now) ≡ Some name)
found c rules is =
    let held : c.has_start.result ≡ true = search by_rules in
    some-from (start_name rules (start_named c.args.options.now)) (sym (c.has_start.ensures rules is) ∙ held)

-- it is a start of the parser
shown : (c : After-trace) (rules : List Rule) → IsBlameParserOf rules c.args.self.now → (start : List ℕ)
    → start_name rules (start_named c.args.options.now) ≡ Some start
    → start_name (shown_parser_rules c.args.self.now.parser) (start_named c.args.options.now) ≡ Some start
shown c rules is start at =
    shown-start rules (shown_parser_rules c.args.self.now.parser) (start_named c.args.options.now) is.diagnostic
    (nonempty rules is.grammar) start at

pub returns-in_err-_answer-clause-faults : goal.returns-in_err-_answer-clause-faults
returns-in_err-_answer-clause-faults c rules is =
    let after = (goal.at.returns-in_err-_answer-clause-faults c).After-trace in
    let name = found after rules is in
    let there = shown after rules is name.0 name.1 in
    let stated = c.in_err-_answer.ensures.parse.faults in record {
      no_start = (
        λ none. let both : None ≡ Some name.0 = sym (stated.no_start.0 (passed-error _ _ _
            c.from_residual-in_err-_answer.ensures.1 none)) ∙ there in cc,
        λ none. let both : None ≡ Some name.0 = sym none ∙ name.1 in cc,
      );
      long = λ start at.
          let long = stated.long start (shown after rules is start at) in (
            λ passed. long.0 (passed-error _ _ _ c.from_residual-in_err-_answer.ensures.1 passed),
            λ over. error-passed _ _ _ c.from_residual-in_err-_answer.ensures.1 (long.1 over),
          );
    }

pub returns-in_err-_answer-clause-limit : goal.returns-in_err-_answer-clause-limit
returns-in_err-_answer-clause-limit c rules is = record {
  limited = λ more.
      subst (λ (all : List Rule). TakesMoreSteps all c.args.text.now (start_named c.args.options.now)
      c.args.options.now.steps) is.diagnostic (c.in_err-_answer.ensures.parse.limit.limited (passed-error _ _ _
      c.from_residual-in_err-_answer.ensures.1 more));
  enough = search by_rules;
}

pub returns-clause-called : goal.returns-clause-called
returns-clause-called c rules is =
    let all = shown_parser_rules c.args.self.now.parser in
    let named = start_named c.args.options.now in
    let before = c.in_ok-calls.calls in
    let after = c.trace.new.watch in
    subst (λ (set : List Bool). IfSome (start_name rules named) (λ start. HasCalledRules rules c.args.text.now start
    c.args.at set)) (sym c.into_rules.ensures)
    (start-called rules all named is.diagnostic (nonempty rules is.grammar) c.args.text.now c.args.at
    before after c.in_ok-_answer._answer
    (subst (λ (n : ℕ). HasNoted before (sought n c.args.at ∷ [])) is.count c.in_ok-calls.ensures)
    is.distinct is.well_formed c.in_ok-_answer.ensures.traced)

pub returns-clause-limit : goal.returns-clause-limit
returns-clause-limit c rules is = record {
  limited = search by_rules;
  enough = λ none more.
      c.in_ok-_answer.ensures.parse.limit.enough none
      (subst (λ (all : List Rule). TakesMoreSteps all c.args.text.now (start_named c.args.options.now)
      c.args.options.now.steps) (sym is.diagnostic) more);
}
