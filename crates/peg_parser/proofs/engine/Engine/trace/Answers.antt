use Rattle.std.proofs.Common.{◌≡◌, ℕ, IfSome, List, None, Option, arith, refl, subst, sym}
use Rattle.std.proofs.lemmas.Result.{on_ok_weaker}
use Rattle.peg_machine.specs.Traced.{GetsCalls}
use Rattle.peg_parser.specs.Calls.{TracesCallsInOrder, TracesCallsSoFar, TracesSomeCalls}
use Rattle.peg_parser.specs.Engine.{engine_rules, shown_in}
use Rattle.peg_parser.specs.Parser.{start_named}
use Rattle.peg_semantics.specs.Rules.{name_of}
use Rattle.peg_parser.proofs.ParseLemmas.{parse_if_plain, parse_of_long_text, parse_without_start}
use Rattle.peg_parser.proofs.engine.Engine.trace.Goals as goal

-- ---- before a run

pub returns-in-None-clause-parse : goal.returns-in-None-clause-parse
returns-in-None-clause-parse g c =
    parse_without_start (shown_in c.args.self.now) None (engine_rules c.args.self.now) c.args.text.now (start_named c.args.options.now)
    (c.args.options.now.memo ≡ 0) c.args.options.now.steps (c.in-None.ensures.none.0 refl)

pub returns-in-Some-clause-parse : goal.returns-in-Some-clause-parse
returns-in-Some-clause-parse g c =
    parse_of_long_text (shown_in c.args.self.now) None (engine_rules c.args.self.now) c.args.text.now (start_named c.args.options.now)
    (c.args.options.now.memo ≡ 0) c.args.options.now.steps (name_of (engine_rules c.args.self.now) c.in-Some.field-0)
    c.in-Some.ensures.named (omega arith)

-- ---- without a memo there is never an entry

pub returns-in-Some-2-clause-parse : goal.returns-in-Some-2-clause-parse
returns-in-Some-2-clause-parse g c =
    parse_if_plain (shown_in c.args.self.now) None (engine_rules c.args.self.now) c.args.text.now (start_named c.args.options.now) c.args.options.now.steps c.answer_plain.result (λ _. tt)
    (c.answer_plain.ensures.parse (start_named c.args.options.now) c.in-Some.ensures.named)

pub returns-in-Some-2-clause-in_order : goal.returns-in-Some-2-clause-in_order
returns-in-Some-2-clause-in_order g c none =
    on_ok_weaker c.answer_plain.result
    (λ in_order. subst
    (λ (named : Option (List ℕ)). IfSome named (λ start. TracesCallsInOrder (engine_rules c.args.self.now) c.args.text.now start
    (GetsCalls g.W.Watch.records g.W.Watch.traced c.args.watch.now c.answer_plain.new.watch)))
    (sym c.in-Some.ensures.named) in_order)
    c.answer_plain.ensures.in_order

pub returns-in-Some-2-clause-stopped : goal.returns-in-Some-2-clause-stopped
returns-in-Some-2-clause-stopped g c is =
    let all = c.answer_plain.ensures.stopped is in
    subst
    (λ (named : Option (List ℕ)). IfSome named (λ start. TracesCallsSoFar (engine_rules c.args.self.now) c.args.text.now start
    c.args.options.now.memo c.args.options.now.steps
    (GetsCalls g.W.Watch.records g.W.Watch.traced c.args.watch.now c.answer_plain.new.watch)))
    (sym c.in-Some.ensures.named) (all.0, all.1, all.2, λ _. all.3)

pub returns-in-Some-2-clause-out_of_memory : goal.returns-in-Some-2-clause-out_of_memory
returns-in-Some-2-clause-out_of_memory g c is =
    subst
    (λ (named : Option (List ℕ)). IfSome named (λ start. TracesSomeCalls (engine_rules c.args.self.now) c.args.text.now start
    (GetsCalls g.W.Watch.records g.W.Watch.traced c.args.watch.now c.answer_plain.new.watch)))
    (sym c.in-Some.ensures.named) (c.answer_plain.ensures.out_of_memory is)

-- ---- with a memo

pub returns-in-Some-3-clause-parse : goal.returns-in-Some-3-clause-parse
returns-in-Some-3-clause-parse g c =
    parse_if_plain (shown_in c.args.self.now) None (engine_rules c.args.self.now) c.args.text.now (start_named c.args.options.now) c.args.options.now.steps c.answer_with_memo.result
    (λ none. absurd (omega (arith, none)))
    (c.answer_with_memo.ensures.parse (start_named c.args.options.now) c.in-Some.ensures.named)

pub returns-in-Some-3-clause-stopped : goal.returns-in-Some-3-clause-stopped
returns-in-Some-3-clause-stopped g c is =
    let all = c.answer_with_memo.ensures.stopped is in
    subst
    (λ (named : Option (List ℕ)). IfSome named (λ start. TracesCallsSoFar (engine_rules c.args.self.now) c.args.text.now start
    c.args.options.now.memo c.args.options.now.steps
    (GetsCalls g.W.Watch.records g.W.Watch.traced c.args.watch.now c.answer_with_memo.new.watch)))
    (sym c.in-Some.ensures.named) (all.0, all.1, all.2, λ none. absurd (omega (arith, none)))

pub returns-in-Some-3-clause-out_of_memory : goal.returns-in-Some-3-clause-out_of_memory
returns-in-Some-3-clause-out_of_memory g c is =
    subst
    (λ (named : Option (List ℕ)). IfSome named (λ start. TracesSomeCalls (engine_rules c.args.self.now) c.args.text.now start
    (GetsCalls g.W.Watch.records g.W.Watch.traced c.args.watch.now c.answer_with_memo.new.watch)))
    (sym c.in-Some.ensures.named) (c.answer_with_memo.ensures.out_of_memory is)
