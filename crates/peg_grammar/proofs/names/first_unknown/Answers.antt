use Rattle.std.proofs.Common.{refl}
use Rattle.peg_semantics.specs.Form.{names_used}
use Rattle.peg_semantics.specs.Grammar.{is_unknown}
use Rattle.peg_grammar.specs.Names.{names_in, reference_of}
use Rattle.peg_semantics.specs.Rules.{references}
use Rattle.peg_grammar.specs.Written.{form_of, rules_of}
use Rattle.peg_grammar.proofs.NameLists.{found_here, found_later}
use Rattle.peg_grammar.proofs.names.first_unknown.Goals as goal

pub returns-in-Some : goal.returns-in-Some
returns-in-Some c =
    found_here (is_unknown (names_in c.args.names.now)) (λ definition. names_used (form_of definition.body))
    (λ definitions. references (rules_of definitions)) (λ _ _. refl) c.args.definitions.now c.loop-definition.definition-index
    c.definition-item.result c.loop-definition-test.true c.definition-item.is c.loop-definition.invariant
    (reference_of c.in-Some.unknown) c.in-Some.ensures

pub loop-definition-preserved : goal.loop-definition-preserved
loop-definition-preserved c =
    found_later (is_unknown (names_in c.args.names.now)) (λ definition. names_used (form_of definition.body))
    (λ definitions. references (rules_of definitions)) (λ _ _. refl) c.args.definitions.now c.loop-definition.definition-index
    c.definition-item.result c.loop-definition-test.true c.definition-item.is c.loop-definition.invariant
    c.in_default.ensures
