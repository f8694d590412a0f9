use Rattle.std.proofs.Common.{◌∙◌, ◌≤◌, [], ◌∷◌, ◌++◌, ap, arith, length, map}
use Rattle.std.proofs.lemmas.List.{take_all}
use Rattle.peg_grammar.specs.GrammarRules.{rules_in}
use Rattle.peg_grammar.specs.Written.{form_of}
use Rattle.peg_semantics.specs.Form.{Form}
use Rattle.peg_semantics.specs.Rules.{Rule}
use Rattle.peg_spacing.specs.Gaps.{gap_of}
use Rattle.peg_spacing.specs.declared.gaps.Gap.{Gap}
use Rattle.peg_spacing.proofs.GapLemmas.{bodies-more}
use Rattle.peg_spacing.proofs.spacing.next_gaps.Goals as goal

pub rules-preserved : goal.rules-preserved
rules-preserved c =
    let rules = rules_in c.args.grammar.now in
    let f : Form → Gap = gap_of rules c.args.gaps.now in
    c.in_ok-push.ensures.items
    ∙ (λ i. c.rules.invariant i ++ c.gap_of.ensures i ∷ [])
    ∙ bodies-more f rules c.rules.rule (form_of c.body.result.now) c.body.ensures

pub returns : goal.returns
returns c =
    let rules = rules_in c.args.grammar.now in
    let f : Form → Gap = gap_of rules c.args.gaps.now in
    let all : length rules ≤ c.rules.rule = omega (arith, c.rules-rule-end.ensures.count) in
    c.rules.invariant ∙ ap (map (λ (r : Rule). f r.body)) (take_all c.rules.rule rules all)
