use Rattle.std.proofs.Common.{rules as by_rules, ◌≡◌, arith}
use Rattle.peg_parser.specs.Engine.{shown_parser_rules}
use Rattle.peg_parser.specs.Parser.{start_named}
use Rattle.peg_coverage.proofs.TracedLemmas.{first-run}
use Rattle.peg_coverage.proofs.tracing.trace_text.Goals as goal

pub returns-in_default-2 : goal.returns-in_default-2
returns-in_default-2 c = record {
  parse = first-run (shown_parser_rules c.args.parser.now) c.args.text.now (start_named c.args.options.now)
      (c.args.options.now.memo ≡ 0) (0 ≡ 0) c.plain_steps.result c.args.options.now.steps c.trace_once-2.result
      (λ none. omega (arith, none)) (λ limit. search by_rules) c.plain_steps.ensures c.trace_once-2.ensures.parse;
}
