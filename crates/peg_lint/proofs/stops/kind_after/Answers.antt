use Rattle.std.proofs.Common.{suc}
use Rattle.peg_grammar.specs.GrammarRules.{rules_in}
use Rattle.peg_grammar.specs.Written.{form_of}
use Rattle.peg_lint.specs.Known.{follows, known_of, stops, takes_none}
use Rattle.peg_lint.proofs.AfterLemmas.{fails-after-by, takes-none-by}
use Rattle.peg_lint.proofs.StopLemmas.{fails-after}
use Rattle.peg_lint.proofs.stops.kind_after.Goals as goal

pub returns-then-is_stuck : goal.returns-then-is_stuck
returns-then-is_stuck c = λ n known.
    let stuck = c.is_stuck.ensures c.if-is_stuck.true in
    stops stuck.0 stuck.1
    (fails-after (rules_in c.args.grammar.now) (form_of c.args.before.now) (form_of c.args.next.now) stuck.0 stuck.1 stuck.2)

pub returns-then-later : goal.returns-then-later
returns-then-later c = λ n known.
    let rules = rules_in c.args.grammar.now in
    takes_none (takes-none-by rules (c.results_show_abstract_outcomes.ensures.onward rules) (suc n) (form_of c.args.before.now)
    (form_of c.args.next.now) (known_of c.edges_of-earlier.result) (known_of c.edges_of-later.result)
    (c.edges_of-earlier.ensures n known) (c.edges_of-later.ensures n known) (c.begins_within.ensures c.if-not-begins_within.false))

pub returns-in-Some : goal.returns-in-Some
returns-in-Some c = λ n known.
    let rules = rules_in c.args.grammar.now in
    stops (form_of c.in-Some._part.now) c.in-Some.ensures.some
    (fails-after-by rules (c.results_show_abstract_outcomes.ensures.onward rules) (suc n) (form_of c.args.before.now)
    (form_of c.args.next.now) (known_of c.edges_of-earlier.result) (known_of c.edges_of-later.result)
    (c.edges_of-earlier.ensures n known) (c.edges_of-later.ensures n known) (c.begins_within.ensures c.if-not-begins_within.false)
    c.if-later.false)

pub returns-in-None : goal.returns-in-None
returns-in-None c = λ n known.
    let rules = rules_in c.args.grammar.now in
    follows c.in-None.ensures.none
    (fails-after-by rules (c.results_show_abstract_outcomes.ensures.onward rules) (suc n) (form_of c.args.before.now)
    (form_of c.args.next.now) (known_of c.edges_of-earlier.result) (known_of c.edges_of-later.result)
    (c.edges_of-earlier.ensures n known) (c.edges_of-later.ensures n known) (c.begins_within.ensures c.if-not-begins_within.false)
    c.if-later.false)
