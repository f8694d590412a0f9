use Rattle.std.proofs.Common.{◌≡◌, suc, length, ◌+◌, List, sym, ap, ◌∙◌, subst, arith}
use Rattle.peg_grammar.specs.GrammarRules.{rules_in}
use Rattle.peg_lint.specs.Known.{AreKnown}
use Rattle.peg_lint.specs.declared.edges.Edges as code
use Rattle.peg_lint.proofs.EdgeTableLemmas.{length-known}
use Rattle.peg_lint.proofs.edge_table.edge_table.Goals as goal

pub next_table-requires : goal.next_table-requires
next_table-requires c =
    let rules = rules_in c.args.grammar.now in
    ap (λ (l : List code.Edges). length l) c.deref.ensures.value
    ∙ length-known rules c.rounds._round c.rounds.table.items c.rounds.invariant

pub rounds-preserved : goal.rounds-preserved
rounds-preserved c =
    let rules = rules_in c.args.grammar.now in
    let i = c.rounds._round in
    let next : suc i ≡ i + 1 = omega arith in
    subst (λ n. AreKnown rules n c.in_ok-table-2.table.items) next
    (c.in_ok-table-2.ensures i (subst (AreKnown rules i) (sym c.deref.ensures.value) c.rounds.invariant))

pub returns : goal.returns
returns c =
    let rules = rules_in c.args.grammar.now in
    let last : c.rounds._round ≡ 16 = omega (arith, c.rounds-test.false, c.rounds.auto) in
    subst (λ n. AreKnown rules n c.rounds.table.items) last c.rounds.invariant
