use Rattle.std.proofs.Common.{suc, Some, List, map, sym, ap, ◌∙◌, arith, ◌++◌}
use Rattle.peg_grammar.specs.GrammarRules.{rules_in}
use Rattle.peg_grammar.specs.Written.{form_of}
use Rattle.peg_lint.specs.Known.{known_in, known_of}
use Rattle.peg_lint.specs.declared.edges.Edges as code
use Rattle.peg_lint.proofs.EdgeTableLemmas.{SoFar-all, SoFar-more, known-at, length-known_in}
use Rattle.peg_lint.proofs.edge_table.next_table.Goals as goal

pub rules-init : goal.rules-init
rules-init c = λ n known.
    ap (λ (l : List code.Edges). map known_of l ++ known_in (rules_in c.args.grammar.now) (suc n)) c.new-next.ensures.items

pub rules-preserved : goal.rules-preserved
rules-preserved c = λ n known.
    let rules = rules_in c.args.grammar.now in
    let i = c.rules.rule in
    SoFar-more (known_in rules (suc n)) c.rules.next.items c.push.new.self.items i c.edges_of.result
    (c.rules.invariant n known)
    (known-at rules (suc n) i (form_of c.body.result.now) c.body.ensures ∙ ap Some (sym (c.edges_of.ensures n known)))
    c.in_ok-push.ensures.items

pub returns : goal.returns
returns c = λ n known.
    let rules = rules_in c.args.grammar.now in
    SoFar-all (known_in rules (suc n)) c.rules.next.items c.rules.rule (c.rules.invariant n known)
    (omega (arith, length-known_in rules (suc n), c.rules-test.false, c.rules-rule-end.ensures.count))
