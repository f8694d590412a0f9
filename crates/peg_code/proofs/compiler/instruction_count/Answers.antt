use Rattle.std.proofs.Common.{◌≡◌, ◌+◌, ap, sym, ◌∙◌, arith}
use Rattle.peg_core.specs.Layout.{bodies_of}
use Rattle.peg_code.specs.Sizes.{capped}
use Rattle.peg_code.specs.declared.sizes.FormSize.{FormSize}
use Rattle.peg_code.proofs.LayoutLemmas.{drop-bodies, drop-body, length-program_code, rules_size}
use Rattle.peg_code.proofs.compiler.instruction_count.Goals as goal

pub loop-rule-preserved : goal.loop-rule-preserved
loop-rule-preserved c =
    let core = c.args.core.now in
    let next = ap rules_size (drop-body core c.loop-rule.rule c.body.result c.body.ensures.number) in
    let none : FormSize = record { size = 0; form = 0 } in
    let form_size = c.requires.form_sizes.each c.body.result none (omega (arith, c.requires.form_sizes.count, c.body.ensures.within)) in
    record { all = omega (arith, c.loop-rule.invariant.all, next, form_size.counts, c.min-total.ensures); most = omega (arith, c.min-total.ensures) }

pub returns : goal.returns
returns c =
    let core = c.args.core.now in
    let none = ap rules_size (drop-bodies core c.loop-rule.rule (omega (arith, c.loop-rule-test.false, c.rules-rule-end.ensures.count))) in
    let all : c.loop-rule.total ≡ capped (1 + rules_size (bodies_of core)) = omega (arith, c.loop-rule.invariant.all, c.loop-rule.invariant.most, none) in
    all ∙ ap capped (sym (length-program_code (bodies_of core)))
