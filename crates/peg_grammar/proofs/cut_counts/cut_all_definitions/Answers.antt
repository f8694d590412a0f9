use Rattle.std.proofs.Common.{◌∙◌, arith}
use Rattle.peg_semantics.specs.CutCounts.{cut_rule}
use Rattle.peg_grammar.specs.Written.{rule_of}
use Rattle.peg_grammar.proofs.CutLoops.{replaced-all, rules-cut}
use Rattle.peg_grammar.proofs.cut_counts.cut_all_definitions.Goals as goal

pub returns : goal.returns
returns c =
    replaced-all rule_of (λ definition. cut_rule (rule_of definition)) c.args.definitions.now c.loop-definition.definitions
    c.loop-definition.definition-index c.loop-definition.invariant
    (omega (arith, c.loop-definition-test.false, c.loop-definition.invariant.count))
    ∙ rules-cut c.args.definitions.now
