use Rattle.std.proofs.Common.{List, map, ap, arith, ◌++◌}
use Rattle.peg_grammar.specs.GrammarRules.{rules_in}
use Rattle.peg_lint.specs.Known.{known_in, known_of}
use Rattle.peg_lint.specs.declared.edges.Edges as code
use Rattle.peg_lint.proofs.EdgeTableLemmas.{SoFar-all, SoFar-more, known-start, length-known_in}
use Rattle.peg_lint.proofs.edge_table.unknown_table.Goals as goal

pub rules-init : goal.rules-init
rules-init c =
    ap (λ (l : List code.Edges). map known_of l ++ known_in (rules_in c.args.grammar.now) 0) c.new-table.ensures.items

pub rules-preserved : goal.rules-preserved
rules-preserved c =
    let rules = rules_in c.args.grammar.now in
    SoFar-more (known_in rules 0) c.rules.table.items c.push.new.self.items c.rules._rule c.unknown.result c.rules.invariant
    (known-start rules c.rules._rule c.unknown.result (omega (arith, c.rules-test.true, c.rules-rule-end.ensures.count))
    c.unknown.ensures)
    c.in_ok-push.ensures.items

pub returns : goal.returns
returns c =
    let rules = rules_in c.args.grammar.now in
    SoFar-all (known_in rules 0) c.rules.table.items c.rules._rule c.rules.invariant
    (omega (arith, length-known_in rules 0, c.rules-test.false, c.rules-rule-end.ensures.count))
