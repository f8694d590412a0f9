use Rattle.std.proofs.Common.{◌≡◌, ◌∙◌, ap, arith}
use Rattle.peg_grammar.specs.GrammarRules.{rules_in}
use Rattle.peg_spacing.specs.Spacing.{spacing_in, spacing_of}
use Rattle.peg_spacing.proofs.spacing.spacing_rules.Goals as goal

pub returns : goal.returns
unfolding spacing_of
returns c =
    let all : c.steps.counter ≡ 4 = omega arith in
    c.steps.invariant ∙ ap (spacing_in (rules_in c.args.grammar.now)) all
