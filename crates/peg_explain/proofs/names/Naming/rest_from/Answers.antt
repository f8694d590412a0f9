use Rattle.std.proofs.Common.{◌≡◌, ◌∙◌, ◌<◌, ℕ, IfSome, List, Option, Some, ap, length, subst, sym}
use Rattle.peg_blame.specs.BlameCalls.{HasCalledRules}
use Rattle.peg_blame.specs.BlameOutcome.{IsBlameOutcome}
use Rattle.peg_parser.specs.declared.parser.ParseFault.{ParseFault}
use Rattle.peg_parser.specs.declared.parser.ParseFault.TheVariants as fault
use Rattle.peg_semantics.specs.Rules.{Rule, name_of}
use Rattle.peg_semantics.specs.Starts.{start_name}
use Rattle.peg_explain.proofs.NamingLemmas.{memory-alone, passed-on, start-of_rule}
use Rattle.peg_explain.proofs.names.Naming.rest_from.Goals as goal

-- a name of a rule in a grammar is the start
starts-at : (rules others : List Rule) (rule : ℕ) (name : List ℕ) → others ≡ rules → rule < length others
    → name ≡ name_of others rule → start_name rules (Some name) ≡ Some (name_of rules rule)
starts-at rules others rule name same within named =
    let number : rule < length rules = subst (λ (all : List Rule). rule < length all) same within in
    let is : name ≡ name_of rules rule = named ∙ ap (λ (all : List Rule). name_of all rule) same in
    subst (λ (n : List ℕ). start_name rules (Some n) ≡ Some (name_of rules rule)) (sym is)
    (start-of_rule rules rule number)

pub returns-in_err-answer-clause-memory : goal.returns-in_err-answer-clause-memory
returns-in_err-answer-clause-memory c rules blames same within =
    let name : List ℕ = c.rule_name.result.now in
    let from = name_of rules c.args.rule in
    let start : start_name rules (Some name) ≡ Some from =
    starts-at rules _ c.args.rule name same c.requires c.rule_name.ensures in
    passed-on (λ (why : ParseFault). why ≡ fault.Memory) c.from_residual.result c.in_err-answer.field-0.0
    c.from_residual.ensures.1
    (memory-alone rules from c.args.self.now.rest.now (Some name) c.in_err-answer.field-0.0 start within
    (λ is. (c.in_err-answer.ensures.faults rules blames).no_start.0 is)
    (λ is. ((c.in_err-answer.ensures.faults rules blames).long from start).0 is)
    (λ is. (c.in_err-answer.ensures.limit rules blames).limited is))

pub returns-in_err-called-clause-memory : goal.returns-in_err-called-clause-memory
returns-in_err-called-clause-memory c rules blames same within =
    let name : List ℕ = c.rule_name.result.now in
    let from = name_of rules c.args.rule in
    let start : start_name rules (Some name) ≡ Some from =
    starts-at rules _ c.args.rule name same c.requires c.rule_name.ensures in
    passed-on (λ (why : ParseFault). why ≡ fault.Memory) c.from_residual-in_err-called.result c.in_err-called.field-0.0
    c.from_residual-in_err-called.ensures.1
    (memory-alone rules from c.args.self.now.rest.now (Some name) c.in_err-called.field-0.0 start within
    (λ is. (c.in_err-called.ensures.faults rules blames).no_start.0 is)
    (λ is. ((c.in_err-called.ensures.faults rules blames).long from start).0 is)
    (λ is. (c.in_err-called.ensures.limit rules blames).limited is))

pub returns-clause-is : goal.returns-clause-is
returns-clause-is c rules text start calls at is =
    let name : List ℕ = c.rule_name.result.now in
    let from = name_of rules c.args.rule in
    let named : start_name rules (Some name) ≡ Some from =
    starts-at rules _ c.args.rule name is.grammar c.requires c.rule_name.ensures in
    let outcome = c.in_ok-answer.answer.outcome in
    let called = c.in_ok-called.called in
    record {
      outcome = subst (λ (rest : List ℕ). IsBlameOutcome rules rest from outcome) is.rest
          (subst (λ (found : Option (List ℕ)). IfSome found
          (λ start. IsBlameOutcome rules c.args.self.now.rest.now start outcome)) named
          (c.in_ok-answer.ensures.outcome rules is.blames));
      called = subst (λ (rest : List ℕ). HasCalledRules rules rest from 0 called) is.rest
          (subst (λ (found : Option (List ℕ)). IfSome found
          (λ start. HasCalledRules rules c.args.self.now.rest.now start 0 called)) named
          (c.in_ok-called.ensures.called rules is.blames));
    }
