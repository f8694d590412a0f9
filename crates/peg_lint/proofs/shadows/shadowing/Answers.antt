use Rattle.std.proofs.Common.{◌≡◌, suc, Some, sym, ◌∙◌, subst}
use Rattle.peg_grammar.specs.GrammarRules.{rules_in}
use Rattle.peg_grammar.specs.Written.{form_of}
use Rattle.peg_grammar.specs.declared.expr.Expr.{Expr}
use Rattle.peg_lint.specs.Known.{known_of}
use Rattle.peg_lint.specs.Never.{FailsWhere}
use Rattle.peg_lint.proofs.AfterLemmas.{fails-where-by}
use Rattle.peg_lint.proofs.shadows.shadowing.Goals as goal

pub returns-then-is_covered-clause-fails : goal.returns-then-is_covered-clause-fails
returns-then-is_covered-clause-fails c = λ n one other known at_one at_other.
    let rules = rules_in c.args.grammar.now in
    let earlier = c.alternative_at-one.result.now in
    let later = c.alternative_at-later.result.now in
    let first : Some earlier ≡ Some one = sym c.alternative_at-one.ensures ∙ at_one in
    let second : Some later ≡ Some other = sym c.alternative_at-later.ensures ∙ at_other in
    let is_one : earlier ≡ one = cc in
    let is_other : later ≡ other = cc in
    subst (λ (e : Expr). FailsWhere rules (form_of e) (form_of other)) is_one
    (subst (λ (e : Expr). FailsWhere rules (form_of earlier) (form_of e)) is_other
    (c.is_covered.ensures c.if-is_covered.true rules (form_of later) c.head-start.ensures))

pub returns-then-is_taken-clause-fails : goal.returns-then-is_taken-clause-fails
returns-then-is_taken-clause-fails c = λ n one other known at_one at_other.
    let rules = rules_in c.args.grammar.now in
    let earlier = c.alternative_at-one.result.now in
    let later = c.alternative_at-later.result.now in
    let first : Some earlier ≡ Some one = sym c.alternative_at-one.ensures ∙ at_one in
    let second : Some later ≡ Some other = sym c.alternative_at-later.ensures ∙ at_other in
    let is_one : earlier ≡ one = cc in
    let is_other : later ≡ other = cc in
    subst (λ (e : Expr). FailsWhere rules (form_of e) (form_of other)) is_one
    (subst (λ (e : Expr). FailsWhere rules (form_of earlier) (form_of e)) is_other
    (fails-where-by rules (c.results_show_abstract_outcomes.ensures.onward rules) (suc n) (form_of earlier) (form_of later) (known_of c.edges_of-before.result)
    (known_of c.edges_of-edges.result) (c.edges_of-before.ensures n known) (c.edges_of-edges.ensures n known)
    (c.is_taken.ensures c.if-is_taken.true)))
