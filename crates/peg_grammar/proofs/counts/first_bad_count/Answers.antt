use Rattle.std.proofs.Common.{refl}
use Rattle.peg_semantics.specs.Form.{counts_written}
use Rattle.peg_semantics.specs.Rules.{counts}
use Rattle.peg_grammar.specs.Counts.{count_seen}
use Rattle.peg_grammar.specs.Written.{form_of, rules_of}
use Rattle.peg_grammar.proofs.BadCounts.{is_bad}
use Rattle.peg_grammar.proofs.NameLists.{found_here, found_later}
use Rattle.peg_grammar.proofs.counts.first_bad_count.Goals as goal

pub returns-in-Some : goal.returns-in-Some
returns-in-Some c =
    found_here is_bad (λ definition. counts_written (form_of definition.body))
    (λ definitions. counts (rules_of definitions)) (λ _ _. refl) c.args.definitions.now c.loop-definition.definition-index
    c.definition-item.result c.loop-definition-test.true c.definition-item.is c.loop-definition.invariant
    (count_seen c.in-Some.bad) c.in-Some.ensures

pub loop-definition-preserved : goal.loop-definition-preserved
loop-definition-preserved c =
    found_later is_bad (λ definition. counts_written (form_of definition.body))
    (λ definitions. counts (rules_of definitions)) (λ _ _. refl) c.args.definitions.now c.loop-definition.definition-index
    c.definition-item.result c.loop-definition-test.true c.definition-item.is c.loop-definition.invariant
    c.in_default.ensures
