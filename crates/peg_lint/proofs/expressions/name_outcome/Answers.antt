use Rattle.std.proofs.Common.{◌≡◌, ℕ, ◌<◌, List, length, map, slice_get, position, bytes_eq, Some, sym, ap, ◌∙◌, subst, option_map, slice_index_or, arith}
use Rattle.std.proofs.lemmas.List.{length-map}
use Rattle.std.proofs.lemmas.Option.{slice_get-map, slice_get-get_or}
use Rattle.peg_check.specs.Cans.{can_of, nothing_known}
use Rattle.peg_grammar.specs.GrammarRules.{rules_in}
use Rattle.peg_semantics.specs.AbstractOutcomes.{Can}
use Rattle.peg_semantics.specs.Form.{Name}
use Rattle.peg_semantics.specs.RuleOutcomes.{IsAbstractOutcome, AreAbstractOutcomes}
use Rattle.peg_semantics.specs.Rules.{Rule, names}
use Rattle.peg_semantics.proofs.RulesLemmas.{position-within}
use Rattle.peg_lint.proofs.OutcomeLemmas.{length-outcomes, of-Name, of-Name-none, rule-outcome, rule_at}
use Rattle.peg_lint.proofs.expressions.name_outcome.Goals as goal

-- a named rule has its outcomes in the table
within : (rules : List Rule) (cans : List Can) (name : List ℕ) (number : ℕ) → AreAbstractOutcomes rules cans
    → Some number ≡ position (bytes_eq name) (names rules) → number < length cans
within rules cans name number are is =
    let below = position-within rules name number (sym is) in
    let same : length cans ≡ length rules = length-outcomes rules rules cans are in omega (arith, below, same)

pub bounds-outcomes-rule : goal.bounds-outcomes-rule
bounds-outcomes-rule c =
    let rules = rules_in c.args.grammar.now in
    let below = within rules (map can_of c.args.outcomes.now) c.args.name.now c.in-Some.rule c.requires c.in-Some.ensures in
    omega (arith, below, length-map c.args.outcomes.now can_of)

pub returns-in-Some : goal.returns-in-Some
returns-in-Some c = λ span.
    let rules = rules_in c.args.grammar.now in
    let name = c.args.name.now in
    let number = c.in-Some.rule in
    let outcomes = c.args.outcomes.now in
    let there : position (bytes_eq name) (names rules) ≡ Some number = sym c.in-Some.ensures in
    let below = within rules (map can_of outcomes) name number c.requires c.in-Some.ensures in
    let inside : number < length outcomes = omega (arith, below, length-map outcomes can_of) in
    let can = slice_index_or outcomes number nothing_known in
    let at : slice_get (map can_of outcomes) number ≡ Some (can_of can) =
    slice_get-map can_of outcomes number ∙ ap (option_map can_of) (slice_get-get_or outcomes number nothing_known inside) in
    let found = rule_at rules number (position-within rules name number there) in
    of-Name rules span name number found.0 (can_of can) there found.1
    (rule-outcome rules rules (map can_of outcomes) number found.0 (can_of can) c.requires found.1 at)

pub returns-in-None : goal.returns-in-None
returns-in-None c = λ span.
    let rules = rules_in c.args.grammar.now in
    subst (λ (can : Can). IsAbstractOutcome rules (Name c.args.name.now span) can) (sym c.none.ensures)
    (of-Name-none rules span c.args.name.now (sym c.in-None.ensures))
