-- The rules of the items of an expression and of the rules after it.
use Rattle.std.proofs.Common.{◌≡◌, ℕ, ◌+◌, ◌<◌, List, ◌++◌, append_assoc, ap, ◌∙◌, drop, length, option_map}
use Rattle.std.proofs.Common.{replicate, slice_get, Some}
use Rattle.std.proofs.lemmas.List.{replicate-append-replicate}
use Rattle.peg_diagnostics.specs.Items.{items, rules_of_items_from}
use Rattle.peg_diagnostics.proofs.Drops.{dropped}
use Rattle.peg_semantics.specs.Form.{Form}
use Rattle.peg_semantics.specs.Rules.{Rule}

-- one after the other, two numbers of copies are their sum
pub copies_more : (so_far : List ℕ) (first second rule : ℕ)
    → (so_far ++ replicate first rule) ++ replicate second rule ≡ so_far ++ replicate (first + second) rule
copies_more so_far first second rule =
    append_assoc so_far (replicate first rule) (replicate second rule)
    ∙ ap (λ (l : List ℕ). so_far ++ l) (replicate-append-replicate first second rule)

-- the rules of the items from a rule on: that rule, for each of its items, and those of the rules after it
pub rules-drop : (rules : List Rule) (i : ℕ) (body : Form) → i < length rules
    → option_map (λ (r : Rule). r.body) (slice_get rules i) ≡ Some body
    → rules_of_items_from i (drop i rules) ≡ replicate (items body) i ++ rules_of_items_from (i + 1) (drop (i + 1) rules)
rules-drop rules i body within is =
    let next = dropped rules i body within is in
    ap (rules_of_items_from i) next.2
    ∙ ap (λ (e : Form). replicate (items e) i ++ rules_of_items_from (i + 1) (drop (i + 1) rules)) next.1
