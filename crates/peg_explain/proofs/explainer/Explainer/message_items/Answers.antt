use Rattle.std.proofs.Common.{◌∙◌, ℕ, ◌+◌, ◌++◌, ◌∷◌, [], List, ap, drop, map, sym, take}
use Rattle.std.proofs.lemmas.List.{map-append}
use Rattle.std.specs.List.{prefix_len}
use Rattle.peg_parser.specs.Parser.{parser_rules}
use Rattle.peg_explain.specs.Explanations.{is_before, message_item_of, rule_item, shown_item}
use Rattle.peg_explain.proofs.FileOrderLemmas.{one-shown, remaining}
use Rattle.peg_explain.proofs.explainer.Explainer.message_items.Goals as goal

pub expected-preserved : goal.expected-preserved
expected-preserved c =
    let rules = parser_rules c.args.self.now.parser.now in
    let style = c.args.self.now.style in
    let items = c.args.expected.now in
    let index = c.expected.item-index in
    let item = c.item-item.result in
    let named : List ℕ = c.expected.others.now in
    let before = prefix_len (is_before item.rule) named in
    let so_far = map message_item_of c.expected.items.items in
    let shown = shown_item rules style item in
    let front = c.split_at.ensures.front ∙ ap (λ (n : ℕ). take n named) c.rules_before.ensures.count in
    let back = c.split_at.ensures.back ∙ ap (λ (n : ℕ). drop n named) c.rules_before.ensures.count in
    let added = c.in_ok-add_rules.ensures ∙ ap (λ (l : List ℕ). so_far ++ map (rule_item rules) l) front in
    (ap (λ l. remaining rules style l c.split_at.result.1.now (drop (index + 1) items))
    (ap (map message_item_of) c.in_ok-push.ensures.items
    ∙ map-append message_item_of _ (c.message_item.result ∷ [])
    ∙ (λ i. added i ++ c.message_item.ensures i ∷ []))
    ∙ ap (λ (l : List ℕ). remaining rules style ((so_far ++ map (rule_item rules) (take before named)) ++ shown ∷ []) l
    (drop (index + 1) items)) back)
    ∙ sym (one-shown rules style so_far named items index item c.expected-test.true c.item-item.is)
    ∙ c.expected.invariant
