use Rattle.peg_machine.specs.SelectedTests.{listed}
use Rattle.peg_parser.specs.Engine.{engine_rules, shown_in}
use Rattle.peg_parser.proofs.ParseLemmas.{parse_if_plain}
use Rattle.peg_parser.proofs.engine.Engine.answer_with_memo.Goals as goal

-- a memo with capacity may store results
pub returns-clause-parse : goal.returns-clause-parse
returns-clause-parse g c named found =
    parse_if_plain (shown_in c.args.self.now) (listed c.args.among) (engine_rules c.args.self.now) c.args.text.now named c.args.max_steps
    c.answer.result (λ never. absurd never) (c.answer.ensures.parse named found)
