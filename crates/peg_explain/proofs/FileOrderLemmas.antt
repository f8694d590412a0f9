-- Rules and items in the order of the grammar file.
use Rattle.std.proofs.Common.{◌≡◌, ◌∙◌, ℕ, ◌+◌, ◌<◌, List, [], ◌∷◌, ◌++◌, ap, arith, drop, get_or, length, map, sym, take}
use Rattle.std.proofs.lemmas.List.{append_assoc, at_drop_all, at_drop_more, length-append, length-map}
use Rattle.std.proofs.lemmas.List.{take-append-drop}
use Rattle.std.specs.List.{prefix_len}
use Rattle.std.specs.Prelude.{◌≤◌}
use Rattle.peg_semantics.specs.Rules.{Rule}
use Rattle.peg_explain.specs.Explanations.{MessageItem, in_file_order, is_before, rule_item, shown_item}
use Rattle.peg_explain.specs.declared.mismatch.ExpectedItem.{ExpectedItem}
use Rattle.peg_explain.specs.declared.style.ItemStyle.{ItemStyle}

module _ (rules : List Rule) (style : ItemStyle) where
  -- no rule and no item is lost
  pub length-in_file_order : (named : List ℕ) (items : List ExpectedItem)
      → length (in_file_order rules style named items) ≡ length named + length items
  length-in_file_order named [] =
      let count = length-map named (rule_item rules) in
      omega (arith, count)
  length-in_file_order named (item ∷ items) =
      let before = prefix_len (is_before item.rule) named in
      let first = map (rule_item rules) (take before named) in
      let others = in_file_order rules style (drop before named) items in
      let one = length-append first (shown_item rules style item ∷ others) in
      let two = length-map (take before named) (rule_item rules) in
      let three = length-in_file_order (drop before named) items in
      let four = length-append (take before named) (drop before named) in
      let five = ap length (take-append-drop before named) in
      omega (arith, one, two, three, four, five)

  -- what is shown so far, and what remains
  abbrev pub remaining : (so_far : List MessageItem) → (named : List ℕ) → (items : List ExpectedItem) → List MessageItem
  remaining so_far named items = so_far ++ in_file_order rules style named items

  -- the rules before an item are shown, and then the item
  pub one-shown : (so_far : List MessageItem) (named : List ℕ) (items : List ExpectedItem) (index : ℕ)
      (item : ExpectedItem) → index < length items → item ≡ get_or items index item
      → remaining so_far named (drop index items)
      ≡ remaining ((so_far ++ map (rule_item rules) (take (prefix_len (is_before item.rule) named) named))
      ++ shown_item rules style item ∷ []) (drop (prefix_len (is_before item.rule) named) named) (drop (index + 1) items)
  one-shown so_far named items index item within is =
      let before = prefix_len (is_before item.rule) named in
      let first = map (rule_item rules) (take before named) in
      let others = in_file_order rules style (drop before named) (drop (index + 1) items) in
      at_drop_more (λ (l : List ExpectedItem). remaining so_far named l) items index item within
      ∙ ap (λ (x : ExpectedItem). remaining so_far named (x ∷ drop (index + 1) items)) (sym is)
      ∙ sym (append_assoc so_far first (shown_item rules style item ∷ others))
      ∙ sym (append_assoc (so_far ++ first) (shown_item rules style item ∷ []) others)

  -- all items are shown
  pub all-shown : (so_far : List MessageItem) (named : List ℕ) (items : List ExpectedItem) (index : ℕ)
      → length items ≤ index
      → remaining so_far named (drop index items) ≡ so_far ++ map (rule_item rules) named
  all-shown so_far named items index over =
      at_drop_all (λ (l : List ExpectedItem). remaining so_far named l) items index over
