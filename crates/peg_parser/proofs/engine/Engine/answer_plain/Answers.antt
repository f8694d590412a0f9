use Rattle.std.specs.FinMap.{len-empty}
use Rattle.peg_machine.specs.SelectedTests.{listed}
use Rattle.peg_memo.specs.MemoKey.{key_cmp}
use Rattle.peg_memo.specs.StoredResult.{StoredResult}
use Rattle.peg_parser.specs.Engine.{engine_rules, shown_in}
use Rattle.peg_parser.proofs.ParseLemmas.{parse_if_plain}
use Rattle.peg_parser.proofs.engine.Engine.answer_plain.Goals as goal

pub answer-requires-clause-empty : goal.answer-requires-clause-empty
answer-requires-clause-empty g c = len-empty key_cmp StoredResult

-- without a memo there is never an entry
pub returns-clause-parse : goal.returns-clause-parse
returns-clause-parse g c named found =
    parse_if_plain (shown_in c.args.self.now) (listed c.args.among) (engine_rules c.args.self.now) c.args.text.now named c.args.max_steps
    c.answer.result (λ _ any. len-empty key_cmp StoredResult) (c.answer.ensures.parse named found)

pub returns-clause-in_order : goal.returns-clause-in_order
returns-clause-in_order g c = c.answer.ensures.in_order (λ any. len-empty key_cmp StoredResult)

pub returns-clause-stopped : goal.returns-clause-stopped
returns-clause-stopped g c is = c.answer.ensures.stopped_in_order (λ any. len-empty key_cmp StoredResult) is
