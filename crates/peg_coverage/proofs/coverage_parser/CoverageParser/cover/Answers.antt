use Rattle.std.proofs.Common.{◌≡◌, ◌≢◌, ◌∙◌, List, Err, None, Some, ap, arith, rules as by_rules, subst, sym, true}
use Rattle.peg_parser.specs.Engine.{shown_parser_rules}
use Rattle.peg_parser.specs.Parser.{start_named}
use Rattle.peg_parser.specs.StepLimits.{TakesMoreSteps}
use Rattle.peg_parser.specs.declared.parser.ParseFault.TheVariants.{NoSuchStart, StepLimit, TextTooLong}
use Rattle.peg_semantics.specs.Rules.{Rule}
use Rattle.peg_semantics.specs.Starts.{start_name}
use Rattle.peg_coverage.proofs.StartLemmas.{start-marked, start-some}
use Rattle.peg_coverage.proofs.TracedLemmas.{marked-within, traced-covered}
use Rattle.peg_coverage.proofs.coverage_parser.CoverageParser.cover.Goals as goal

pub returns-in-Ok-clause-covered : goal.returns-in-Ok-clause-covered
returns-in-Ok-clause-covered c rules is =
    let named = start_named c.args.options.now in
    let held : c.has_start.result ≡ true = search by_rules in
    let from = start-some (start_name rules named) (sym (c.has_start.ensures rules is) ∙ held) in
    traced-covered rules c.args.self.now is c.args.text.now named from.0 from.1 c.in-Ok.traced c.args.used.now
    c.add_to.new.used c.in-Ok.ensures.parse.calls
    (λ calls has rule less. c.add_to.ensures.added calls has rule (omega (arith, less, c.rules.ensures.count)))

pub returns-in-Ok-clause-within : goal.returns-in-Ok-clause-within
returns-in-Ok-clause-within c rules is =
    let named = start_named c.args.options.now in
    let held : c.has_start.result ≡ true = search by_rules in
    let from = start-some (start_name rules named) (sym (c.has_start.ensures rules is) ∙ held) in
    marked-within rules c.args.self.now is c.args.text.now named from.0 c.args.options.now.steps from.1
    c.in-Ok.ensures.parse.within

pub returns-in-Ok-clause-limit : goal.returns-in-Ok-clause-limit
returns-in-Ok-clause-limit c rules is = record {
  limited = search by_rules;
  enough = λ none more.
      c.in-Ok.ensures.parse.limit.enough none
      (subst (λ (all : List Rule). TakesMoreSteps all c.args.text.now (start_named c.args.options.now)
      c.args.options.now.steps) (sym is.marked) more);
}

pub returns-in-Err-clause-faults : goal.returns-in-Err-clause-faults
returns-in-Err-clause-faults c rules is =
    let named = start_named c.args.options.now in
    let held : c.has_start.result ≡ true = search by_rules in
    let from = start-some (start_name rules named) (sym (c.has_start.ensures rules is) ∙ held) in
    let there : start_name (shown_parser_rules c.args.self.now.parser) named ≡ Some from.0 =
    ap (λ (all : List Rule). start_name all named) is.marked ∙ start-marked rules named from.0 from.1 in
    let some : start_name (shown_parser_rules c.args.self.now.parser) named ≢ None =
    λ none. let both : None ≡ Some from.0 = sym none ∙ there in cc in
    let stated = c.in-Err.ensures.parse in record {
      no_start = (
        λ bad. let same : c.in-Err.fault ≡ NoSuchStart = cc in absurd (stated.known some (ap Err same)),
        λ none. let both : None ≡ Some from.0 = sym none ∙ from.1 in cc,
      );
      long = λ start at. (
        λ bad. let same : c.in-Err.fault ≡ TextTooLong = cc in absurd (stated.short (ap Err same)),
        λ over. search by_rules,
      );
    }

pub returns-in-Err-clause-limit : goal.returns-in-Err-clause-limit
returns-in-Err-clause-limit c rules is = record {
  limited = λ limit.
      let same : c.in-Err.fault ≡ StepLimit = cc in
      subst (λ (all : List Rule). TakesMoreSteps all c.args.text.now (start_named c.args.options.now)
      c.args.options.now.steps) is.marked (c.in-Err.ensures.parse.limit.limited (ap Err same));
  enough = search by_rules;
}
