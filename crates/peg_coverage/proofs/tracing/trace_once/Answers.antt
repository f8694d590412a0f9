use Rattle.peg_parser.specs.Engine.{rules_shown, shown_parser_rules}
use Rattle.peg_parser.specs.Parser.{start_named}
use Rattle.peg_semantics.specs.Starts.{start_name}
use Rattle.peg_coverage.proofs.TracedLemmas.{run-traced, run-within}
use Rattle.peg_coverage.proofs.tracing.trace_once.Goals as goal

pub returns-in-Ok : goal.returns-in-Ok
returns-in-Ok c =
    let rules = shown_parser_rules c.args.parser.now in
    let text = c.args.text.now in
    let start = start_name rules (start_named c.args.options.now) in
    let parse = c.in-Ok.ensures.parse in
    record {
      parse = record {
        known = λ some bad. cc;
        short = λ bad. cc;
        limit = record {
          limited = λ bad. let no : ⊥ = cc in absurd no;
          enough = λ none more. parse.limit.enough none more;
        };
        calls = run-traced (rules_shown c.args.parser.now) rules text c.in-Ok.answer c.in_ok-called.called c.trace.new.watch c.match_of_result.result
            c.in_ok-called.ensures c.match_of_result.ensures start c.in-Ok.ensures.traced parse.outcome;
        within = run-within (rules_shown c.args.parser.now) rules text c.in-Ok.answer c.in_ok-called.called c.trace.new.watch c.match_of_result.result
            c.in_ok-called.ensures c.match_of_result.ensures start c.args.options.now.steps c.in-Ok.ensures.traced
            parse.steps.allowed;
      };
    }
