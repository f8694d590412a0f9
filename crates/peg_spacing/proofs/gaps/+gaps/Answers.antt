use Rattle.std.proofs.Common.{◌∙◌, ◌+◌, ◌<◌, ap, arith, drop, length, map, sym}
use Rattle.peg_grammar.proofs.LoopLemmas.{forms-drop, forms-drop_all}
use Rattle.peg_grammar.specs.GrammarRules.{rules_in}
use Rattle.peg_grammar.specs.Written.{form_of}
use Rattle.peg_semantics.specs.Form.{Forms, forms}
use Rattle.peg_spacing.specs.Gaps.{either_gap, gap_of, gap_of_alternatives}
use Rattle.peg_spacing.specs.declared.gaps.Gap.{Gap}
use Rattle.peg_spacing.proofs.GapLemmas.{either-assoc, either-comment, either-none}
use Rattle.peg_spacing.proofs.gaps.+gaps.Goals as goal

pub gap_of_alternatives-loop-item-init : goal.gap_of_alternatives-loop-item-init
gap_of_alternatives-loop-item-init t c = either-comment _

pub gap_of_alternatives-loop-item-preserved : goal.gap_of_alternatives-loop-item-preserved
gap_of_alternatives-loop-item-preserved t c =
    let rules = rules_in c.args.grammar.now in
    let gaps = c.args.gaps.now in
    let items = c.args.items.now in
    let i = c.loop-item.item-index in
    let item = c.item-item.result in
    let within : i < length items = omega (arith, c.loop-item-test.true) in
    let rest = gap_of_alternatives rules gaps (forms (drop (i + 1) (map form_of items))) in
    let step = ap (gap_of_alternatives rules gaps) (forms-drop form_of items i item within c.item-item.is) in
    ap (λ (gap : Gap). either_gap gap rest)
    (c.either_gap-all.ensures ∙ ap (either_gap c.loop-item.all) c.gap_of.ensures)
    ∙ either-assoc c.loop-item.all (gap_of rules gaps (form_of item)) rest
    ∙ ap (either_gap c.loop-item.all) (sym step)
    ∙ c.loop-item.invariant

pub gap_of_alternatives-returns : goal.gap_of_alternatives-returns
gap_of_alternatives-returns t c =
    let rules = rules_in c.args.grammar.now in
    let gaps = c.args.gaps.now in
    let i = c.loop-item.item-index in
    let none = forms-drop_all form_of c.args.items.now i (omega (arith, c.loop-item-test.false)) in
    sym (either-none c.loop-item.all)
    ∙ ap (λ (es : Forms). either_gap c.loop-item.all (gap_of_alternatives rules gaps es)) (sym none)
    ∙ c.loop-item.invariant
