use Rattle.std.proofs.Common.{List, nat_lt, sym, ap, ◌∙◌}
use Rattle.std.proofs.lemmas.Result.{on_ok_weaker}
use Rattle.peg_bytes.specs.Extent.{extent}
use Rattle.peg_metagrammar.specs.Ranges.{range}
use Rattle.peg_lint.specs.Habits.{ends_in_bracket, goes_over_signs, text_in}
use Rattle.peg_lint.specs.Linting.{FindsIf, FindsRange}
use Rattle.peg_lint.specs.declared.warning.Warning.{Warning}
use Rattle.peg_lint.specs.declared.warning.WarningKind.TheVariants as kind
use Rattle.peg_lint.proofs.FileLemmas.{AddsIn-test, AddsIn-then, FindsIf-later, less}
use Rattle.peg_lint.proofs.classes.add_of_range.Goals as goal

pub returns : goal.returns
returns c =
    let file = c.args.file.now in
    let span = extent c.args.span in
    let number = c.args.rule in
    let low = c.args.bytes.low in
    let high = c.args.bytes.high in
    let now = text_in file span in
    let l0 = c.args.found.now.items in
    let l1 = c.add_if.new.found.items in
    let l2 = c.add_if-2.new.found.items in
    let l3 = c.add_if-3.new.found.items in
    let Reversed = FindsIf (nat_lt high low) kind.ReversedRange number span in
    let ToBracket = FindsIf (ends_in_bracket now) kind.ClassEndsInRange number span in
    let OverSigns = FindsIf (goes_over_signs now) kind.RangeOverSigns number span in
    let Two = λ (l : List Warning). Reversed l × ToBracket l in
    let bracket = c.ends_in_bracket-to_bracket.ensures ∙ ap ends_in_bracket c.in-Some.ensures.text in
    let signs = c.goes_over_signs-over_signs.ensures ∙ ap goes_over_signs c.in-Some.ensures.text in
    on_ok_weaker c.add_if-3.result
    (λ adds rules set class part within is.
    let one = c.in_ok-add_if.ensures file rules (λ h. (set, class, part, within, (low, high, is, less high low h))) in
    let two = AddsIn-test file rules c.ends_in_bracket-to_bracket.result (ends_in_bracket now) kind.ClassEndsInRange
    number span l1 l2 bracket (c.in_ok-add_if-2.ensures file rules
    (λ h. (set, class, part, within, (range low high, is, sym bracket ∙ h)))) in
    let three = AddsIn-test file rules c.goes_over_signs-over_signs.result (goes_over_signs now) kind.RangeOverSigns
    number span l2 l3 signs (adds file rules (λ h. (set, class, part, within, (range low high, is, sym signs ∙ h)))) in
    AddsIn-then file rules Two OverSigns (FindsRange file number span (range low high)) l0 l2 l3
    (AddsIn-then file rules Reversed ToBracket Two l0 l1 l2 one two
    (λ keeps a b. (FindsIf-later l1 l2 keeps (nat_lt high low) kind.ReversedRange number span a, b)))
    three (λ keeps a b. record {
      reversed = FindsIf-later l2 l3 keeps (nat_lt high low) kind.ReversedRange number span a.0;
      to_bracket = FindsIf-later l2 l3 keeps (ends_in_bracket now) kind.ClassEndsInRange number span a.1;
      over_signs = b;
    }))
    c.add_if-3.ensures
