use Rattle.std.proofs.Common.{ap, option_map}
use Rattle.peg_parser.specs.Engine.{engine_rules}
use Rattle.peg_parser.specs.Parser.{start_named}
use Rattle.peg_parser.proofs.StartLemmas.{start-missing, start-numbered}
use Rattle.peg_parser.proofs.engine.Engine.start.Goals as goal

pub returns-in-Some-clause-none : goal.returns-in-Some-clause-none
returns-in-Some-clause-none c =
    start-missing (engine_rules c.args.self.now) (start_named c.args.options.now) c.in-Some.name.now c.rule_number.result
    (ap (option_map (λ name. name.now)) c.in-Some.is) c.rule_number.ensures

pub returns-in-Some-clause-named : goal.returns-in-Some-clause-named
returns-in-Some-clause-named c =
    start-numbered (engine_rules c.args.self.now) (start_named c.args.options.now) c.in-Some.name.now c.rule_number.result
    (ap (option_map (λ name. name.now)) c.in-Some.is) c.rule_number.ensures
