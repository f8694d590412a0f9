use Rattle.std.proofs.Common.{refl, inr, List}
use Rattle.std.proofs.lemmas.Result.{on_ok_weaker}
use Rattle.peg_bytes.specs.Extent.{extent}
use Rattle.peg_lint.specs.Habits.{begins_with_caret, has_blanks_around, holds_high_byte, holds_line_end, text_in}
use Rattle.peg_lint.specs.Linting.{FindsIf, FindsWhole}
use Rattle.peg_lint.specs.declared.warning.Warning.{Warning}
use Rattle.peg_lint.specs.declared.warning.WarningKind.TheVariants as kind
use Rattle.peg_lint.proofs.FileLemmas.{AddsIn-test, AddsIn-then, FindsIf-later, passes}
use Rattle.peg_lint.proofs.classes.add_of_whole.Goals as goal

pub returns : goal.returns
returns c =
    let span = extent c.args.span in
    let number = c.args.rule in
    let now = c.args.text.now in
    let l0 = c.args.found.now.items in
    let l1 = c.add_if.new.found.items in
    let l2 = c.add_if-2.new.found.items in
    let l3 = c.add_if-3.new.found.items in
    let l4 = c.add_if-4.new.found.items in
    let Caret = FindsIf (begins_with_caret now) kind.ClassBeginsWithCaret number span in
    let Line = FindsIf (holds_line_end now) kind.HoldsLineEnd number span in
    let High = FindsIf (holds_high_byte now) kind.HighBytesInClass number span in
    let Blanks = FindsIf (has_blanks_around now) kind.BlanksInClass number span in
    let Two = λ (l : List Warning). Caret l × Line l in
    let Three = λ (l : List Warning). Caret l × Line l × High l in
    on_ok_weaker c.add_if-4.result
    (λ adds file rules set part within same.
    let one = AddsIn-test file rules c.begins_with_caret.result (begins_with_caret now) kind.ClassBeginsWithCaret number
    span l0 l1 c.begins_with_caret.ensures (c.in_ok-add_if.ensures file rules
    (λ h. (set, span, part, within, (refl, passes begins_with_caret c.begins_with_caret.result (text_in file span) now c.begins_with_caret.ensures same h)))) in
    let two = AddsIn-test file rules c.holds_line_end.result (holds_line_end now) kind.HoldsLineEnd number
    span l1 l2 c.holds_line_end.ensures (c.in_ok-add_if-2.ensures file rules
    (λ h. (inr (set, part), within, passes holds_line_end c.holds_line_end.result (text_in file span) now c.holds_line_end.ensures same h))) in
    let three = AddsIn-test file rules c.holds_high_byte.result (holds_high_byte now) kind.HighBytesInClass number
    span l2 l3 c.holds_high_byte.ensures (c.in_ok-add_if-3.ensures file rules
    (λ h. (set, span, part, within, (refl, passes holds_high_byte c.holds_high_byte.result (text_in file span) now c.holds_high_byte.ensures same h)))) in
    let four = AddsIn-test file rules c.has_blanks_around.result (has_blanks_around now) kind.BlanksInClass number
    span l3 l4 c.has_blanks_around.ensures (adds file rules
    (λ h. (set, span, part, within, (refl, passes has_blanks_around c.has_blanks_around.result (text_in file span) now c.has_blanks_around.ensures same h)))) in
    AddsIn-then file rules Three Blanks (FindsWhole now number span) l0 l3 l4
    (AddsIn-then file rules Two High Three l0 l2 l3
    (AddsIn-then file rules Caret Line Two l0 l1 l2 one two
    (λ keeps a b. (FindsIf-later l1 l2 keeps (begins_with_caret now) kind.ClassBeginsWithCaret number span a, b)))
    three (λ keeps a b. (
      FindsIf-later l2 l3 keeps (begins_with_caret now) kind.ClassBeginsWithCaret number span a.0,
      FindsIf-later l2 l3 keeps (holds_line_end now) kind.HoldsLineEnd number span a.1,
      b,
    )))
    four (λ keeps a b. record {
      caret = FindsIf-later l3 l4 keeps (begins_with_caret now) kind.ClassBeginsWithCaret number span a.0;
      line_end = FindsIf-later l3 l4 keeps (holds_line_end now) kind.HoldsLineEnd number span a.1;
      high = FindsIf-later l3 l4 keeps (holds_high_byte now) kind.HighBytesInClass number span a.2;
      blanks = b;
    }))
    c.add_if-4.ensures
