-- The rules from an index on: that rule, and those after it.
use Rattle.std.proofs.lemmas.List.Sums.{sum_by-cons}
use Rattle.std.proofs.Common.{◌≡◌, ℕ, zero, suc, ◌+◌, ◌*◌, ◌<◌, ◌≤◌, sum_by, append_assoc, List, [], ◌∷◌, ◌++◌, length}
use Rattle.std.proofs.Common.{drop, slice_get, Some, option_map}
use Rattle.std.proofs.Common.{refl, sym, ap, ◌∙◌, arith}
use Rattle.peg_diagnostics.specs.Items.{item_extents, extents_of_items, forms_of_items, item_forms}
use Rattle.peg_diagnostics.specs.Diagnostic.{loud}
use Rattle.peg_diagnostics.specs.ItemTests.{added_terminals, added_terminals_from}
use Rattle.peg_semantics.specs.Form.{Form, form_weight, terminals}
use Rattle.peg_semantics.specs.Rules.{Rule, weight_of}
use Rattle.peg_diagnostics.proofs.Lookups.{loud_terminals}
use Rattle.peg_diagnostics.proofs.NumberLoops.{loud-weight}

-- the rule with an index has the given expression, and the rules from there on begin with it
pub dropped : (rules : List Rule) (i : ℕ) (body : Form) → i < length rules
    → option_map (λ (r : Rule). r.body) (slice_get rules i) ≡ Some body
    → (r : Rule) × (r.body ≡ body) × (drop i rules ≡ r ∷ drop (i + 1) rules)
dropped [] i body within is = absurd (omega (arith, within))
dropped (r ∷ rs) zero body within is = (r, (let same : r.body ≡ body = cc in same), refl)
dropped (r ∷ rs) (suc i) body within is =
    let later = dropped rs i body (omega (arith, within)) is in (
      later.0,
      later.1,
      later.2
          ∙ ap (λ l. later.0 ∷ l) (ap (λ n. drop n (r ∷ rs)) (let at : suc (i + 1) ≡ suc i + 1 = omega arith in at)),
    )

-- the extents of the items of those rules
pub extents-drop : (rules : List Rule) (i : ℕ) (body : Form) → i < length rules
    → option_map (λ (r : Rule). r.body) (slice_get rules i) ≡ Some body
    → extents_of_items (drop i rules) ≡ item_extents body ++ extents_of_items (drop (i + 1) rules)
extents-drop rules i body within is =
    let next = dropped rules i body within is in
    ap extents_of_items next.2 ∙ ap (λ e. item_extents e ++ extents_of_items (drop (i + 1) rules)) next.1

-- the expressions that are the items of those rules
pub forms-of-drop : (rules : List Rule) (i : ℕ) (body : Form) → i < length rules
    → option_map (λ (r : Rule). r.body) (slice_get rules i) ≡ Some body
    → forms_of_items (drop i rules) ≡ item_forms body ++ forms_of_items (drop (i + 1) rules)
forms-of-drop rules i body within is =
    let next = dropped rules i body within is in
    ap forms_of_items next.2 ∙ ap (λ e. item_forms e ++ forms_of_items (drop (i + 1) rules)) next.1

-- the terminals of those rules made loud
pub loud_terminals-rules : (rules : List Rule) (i : ℕ) (body : Form) → i < length rules
    → option_map (λ (r : Rule). r.body) (slice_get rules i) ≡ Some body
    → loud_terminals (drop i rules) ≡ terminals (loud body) + loud_terminals (drop (i + 1) rules)
loud_terminals-rules rules i body within is =
    let next = dropped rules i body within is in
    ap loud_terminals next.2 ∙ ap (λ e. terminals (loud e) + loud_terminals (drop (i + 1) rules)) next.1

-- The numbers of one more rule: those so far, its own ones, and those of the rules after it.
pub numbers-rule : (rules : List Rule) (i : ℕ) (body : Form) (so_far more : List ℕ) (next after : ℕ) → i < length rules
    → option_map (λ (r : Rule). r.body) (slice_get rules i) ≡ Some body
    → more ≡ so_far ++ added_terminals body next → after ≡ next + terminals (loud body)
    → more ++ added_terminals_from after (drop (i + 1) rules) ≡ so_far ++ added_terminals_from next (drop i rules)
numbers-rule rules i body so_far more next after within is adds counts =
    let later = dropped rules i body within is in
    let rest = drop (i + 1) rules in
    (λ j. adds j ++ added_terminals_from (counts j) rest)
    ∙ append_assoc so_far (added_terminals body next) (added_terminals_from (next + terminals (loud body)) rest)
    ∙ ap (λ e. so_far ++ (added_terminals e next ++ added_terminals_from (next + terminals (loud e)) rest))
    (sym later.1)
    ∙ ap (λ l. so_far ++ added_terminals_from next l) (sym later.2)

abbrev weight_of_body : Rule → ℕ
weight_of_body rule = form_weight rule.body

loud_terminals-bodies : (rules : List Rule) → loud_terminals rules ≤ 2 * sum_by weight_of_body rules
loud_terminals-bodies [] = omega arith
loud_terminals-bodies (r ∷ rs) =
    let sum = sum_by-cons weight_of_body r rs in
    omega (arith, sum, loud-weight r.body, loud_terminals-bodies rs)

-- the rules made loud have at most twice as many terminals as the rules' weight
pub loud_terminals-weight : (rules : List Rule) → loud_terminals rules ≤ 2 * weight_of rules
loud_terminals-weight rules = omega (arith, loud_terminals-bodies rules)
