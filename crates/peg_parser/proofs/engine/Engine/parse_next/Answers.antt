use Rattle.std.proofs.Common.{rules as by_rules, ◌≡◌, arith, refl}
use Rattle.peg_machine.specs.SelectedTests.{listed}
use Rattle.peg_parser.specs.Engine.{engine_rules, shown_in}
use Rattle.peg_parser.specs.Parser.{start_named}
use Rattle.peg_parser.proofs.ParseLemmas.{parse_if_plain, parse_within, parse_without_start}
use Rattle.peg_parser.proofs.engine.Engine.parse_next.Goals as goal

pub returns-in_default : goal.returns-in_default
returns-in_default c = record {
  parse = parse_without_start (shown_in c.args.self.now) (listed c.args.among) (engine_rules c.args.self.now) c.args.text.now
      (start_named c.args.options.now) (c.args.options.now.memo ≡ 0) c.args.options.now.steps (c.start.ensures.none.0 (search by_rules));
  program = refl;
}

-- without a memo there is never an entry
pub returns-then-options-eq0 : goal.returns-then-options-eq0
returns-then-options-eq0 c = record {
  parse = parse_if_plain (shown_in c.args.self.now) (listed c.args.among) (engine_rules c.args.self.now) c.args.text.now
      (start_named c.args.options.now) c.args.options.now.steps c.answer_plain.result
      (λ _. tt)
      (c.answer_plain.ensures.parse (start_named c.args.options.now) c.in-Some.ensures.named);
  program = c.answer_plain.ensures.program;
}

-- the first run is enough
pub returns-in_default-answer_plain-2 : goal.returns-in_default-answer_plain-2
returns-in_default-answer_plain-2 c = record {
  parse = parse_within (shown_in c.args.self.now) (listed c.args.among) (engine_rules c.args.self.now) c.args.text.now
      (start_named c.args.options.now) c.plain_steps-plain_steps.result
      c.args.options.now.steps c.answer_plain-2.result (λ none. absurd (omega (arith, none))) (λ limit. search by_rules) c.plain_steps-plain_steps.ensures
      (c.answer_plain-2.ensures.parse (start_named c.args.options.now) c.in-Some.ensures.named);
  program = c.answer_plain-2.ensures.program;
}

-- it is not
pub returns-in-Err-StepLimit : goal.returns-in-Err-StepLimit
returns-in-Err-StepLimit c = record {
  parse = parse_if_plain (shown_in c.args.self.now) (listed c.args.among) (engine_rules c.args.self.now) c.args.text.now
      (start_named c.args.options.now) c.args.options.now.steps
      c.answer_with_memo.result (λ none. absurd (omega (arith, none)))
      (c.answer_with_memo.ensures.parse (start_named c.args.options.now) c.in-Some.ensures.named);
  program = c.answer_plain-2.ensures.program;
}
