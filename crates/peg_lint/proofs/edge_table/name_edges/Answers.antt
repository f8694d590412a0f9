use Rattle.std.proofs.Common.{◌∙◌, sym, arith}
use Rattle.peg_grammar.specs.GrammarRules.{rules_in}
use Rattle.peg_semantics.proofs.RulesLemmas.{position-within}
use Rattle.peg_lint.proofs.EdgeTableLemmas.{known-name, unknown-name}
use Rattle.peg_lint.proofs.edge_table.name_edges.Goals as goal

pub returns-in-Some : goal.returns-in-Some
returns-in-Some c = λ n known.
    let rules = rules_in c.args.grammar.now in
    let below = position-within rules c.args.name.now c.in-Some.rule (sym c.in-Some.ensures) in
    known-name rules n c.args.table.now c.args.name.now c.in-Some.rule _ known (sym c.in-Some.ensures)
    (omega (arith, below, c.requires))

pub returns-in-None : goal.returns-in-None
returns-in-None c = λ n known.
    c.unknown.ensures ∙ unknown-name (rules_in c.args.grammar.now) n c.args.name.now (sym c.in-None.ensures)
