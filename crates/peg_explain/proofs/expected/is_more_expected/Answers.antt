use Rattle.std.proofs.Common.{◌≡◌, ◌∙◌, ◌||◌, ℕ, Bool, List, ap, not, slice_get, sym, take}
use Rattle.std.specs.List.{list_any}
use Rattle.peg_explain.specs.Explanations.{is_in_spacing, max_items}
use Rattle.peg_explain.proofs.ExpectedLemmas.{most}
use Rattle.peg_explain.proofs.expected.is_more_expected.Goals as goal

pub returns-else-is_end_expected : goal.returns-else-is_end_expected
returns-else-is_end_expected c =
    let items = c.args.outcome.now.expected.items in
    let test : ℕ → Bool = λ item. not (is_in_spacing c.args.spacing.now (slice_get c.args.rules.now item)) in
    let first : c.first_numbers.result.now ≡ take max_items items =
    c.first_numbers.ensures.first
    ∙ ap (λ (l : List ℕ). take 65536 l) c.deref.ensures.value
    ∙ ap (λ (n : ℕ). take n items) (sym most) in
    c.has_other_items.ensures
    ∙ ap (list_any test) first
    ∙ ap (λ (b : Bool). b || list_any test (take max_items items)) c.if-is_end_expected.ensures
