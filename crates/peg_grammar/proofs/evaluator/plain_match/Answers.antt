use Rattle.std.proofs.Common.{map, ap, subst, Ok, arith}
use Rattle.peg_tree.specs.Rows.{row_of}
use Rattle.peg_grammar.specs.Found.{seen_in}
use Rattle.peg_grammar.specs.GrammarRules.{rules_in}
use Rattle.peg_semantics.specs.Numbers.{terminals_of}
use Rattle.peg_semantics.specs.Record.{start_record}
use Rattle.peg_semantics.specs.Rules.{name_of}
use Rattle.peg_grammar.specs.Seen.{Evaluates}
use Rattle.peg_grammar.proofs.OutcomeLemmas.{start-leaves, start-parsed, start-furthest}
use Rattle.peg_semantics.proofs.RulesLemmas.{terminals_of-weight}
use Rattle.peg_grammar.proofs.SeenLemmas.{seen}
use Rattle.peg_grammar.proofs.evaluator.plain_match.Goals as goal

pub first_terminals-requires : goal.first_terminals-requires
first_terminals-requires c =
    let same = ap terminals_of c.definitions.ensures in
    omega (arith, same, terminals_of-weight (rules_in c.args.grammar.now), c.args.grammar.now.light)

pub outcome_of-requires : goal.outcome_of-requires
outcome_of-requires c =
    let tried = start_record (rules_in c.args.grammar.now) c.args.text.now c.args.depth (name_of (rules_in c.args.grammar.now) c.args.start) in
    let h = subst (λ s. Evaluates tried s (Ok c.in-Ok.match_result) (seen_in c.start.new.found)) (λ i. seen (record { far = 0; expected = c.new.ensures.items i }) (map row_of (c.new-2.ensures.items i))) c.in-Ok.ensures in
    start-leaves (rules_in c.args.grammar.now) c.args.text.now c.args.depth (name_of (rules_in c.args.grammar.now) c.args.start) c.in-Ok.match_result (seen_in c.start.new.found) h

pub returns-clause-outcome : goal.returns-clause-outcome
returns-clause-outcome c =
    let tried = start_record (rules_in c.args.grammar.now) c.args.text.now c.args.depth (name_of (rules_in c.args.grammar.now) c.args.start) in
    let now = seen_in c.start.new.found in
    let h = subst (λ s. Evaluates tried s (Ok c.in-Ok.match_result) now) (λ i. seen (record { far = 0; expected = c.new.ensures.items i }) (map row_of (c.new-2.ensures.items i))) c.in-Ok.ensures in
    let furthest = start-furthest tried c.in-Ok.match_result now h in
    (h.0, h.1, start-parsed tried c.in-Ok.match_result now c.outcome_of.result.result h c.outcome_of.ensures.parsed, rw (c.outcome_of.ensures.far, c.outcome_of.ensures.expected) furthest)
