use Rattle.std.proofs.Common.{List, ◌≤◌, ◌∙◌, ap, subst, sym}
use Rattle.std.proofs.Math.Logic.{∥∥₁_elim}
use Rattle.peg_semantics.specs.Grammar.{IsGrammar, max_parts}
use Rattle.peg_semantics.specs.Rules.{Rule, names as names_of, weight_of}
use Rattle.peg_semantics.proofs.CutGrammar.{IsGrammar-cut, names-cut, weight_of-cut}
use Rattle.peg_grammar.specs.Written.{rules_of}
use Rattle.peg_grammar.proofs.grammar.Grammar.with_cut_counts.Goals as goal

-- cut rules have the names of the rules, are a grammar, and have the same weight
pub invariant_of-result-clause-named : goal.invariant_of-result-clause-named
invariant_of-result-clause-named c =
    let rules = rules_of c.args.self.definitions.items in
    c.args.self.named ∙ sym (ap names_of c.cut_definitions-definitions.ensures ∙ names-cut rules)

pub invariant_of-result-clause-grammar : goal.invariant_of-result-clause-grammar
invariant_of-result-clause-grammar c =
    let rules = rules_of c.args.self.definitions.items in
    subst (λ (l : List Rule). ∥ IsGrammar l ∥₁) (sym c.cut_definitions-definitions.ensures)
    (∥∥₁_elim c.args.self.grammar (hlevel) (λ is. ∣ IsGrammar-cut rules is ∣₁))

pub invariant_of-result-clause-light : goal.invariant_of-result-clause-light
invariant_of-result-clause-light c =
    let rules = rules_of c.args.self.definitions.items in
    subst (λ n. n ≤ max_parts) (sym (ap weight_of c.cut_definitions-definitions.ensures ∙ weight_of-cut rules)) c.args.self.light
