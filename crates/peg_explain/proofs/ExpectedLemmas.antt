-- The items that are expected.
use Rattle.std.proofs.Common.{◌≡◌, ◌∙◌, ℕ, Bool, true, false, if◌then◌else◌, List, [], ◌∷◌, ap, ap₂, map, refl, sym, take}
use Rattle.peg_bytes.specs.Extent.{Extent}
use Rattle.peg_semantics.specs.Rules.{Rule}
use Rattle.peg_semantics.specs.Terminals.{extents_of_terminals}
use Rattle.peg_tree.specs.declared.outcome.Outcome.{Outcome}
use Rattle.peg_explain.specs.Expected.{expected_spans, numbered_spans, unnamed_fact}
use Rattle.peg_explain.specs.Explanations.{ItemFact, ItemFacts, expected_items, facts_by_tests, item_numbered}
use Rattle.peg_explain.specs.Explanations.{max_items}
use Rattle.peg_explain.specs.Reports.{are_items_expected}

-- the number of items that are looked at
pub most : max_items ≡ 65536
unfolding max_items
most = refl

-- the spans of the first items, if items are expected
pub listed-spans : (all : List Extent) (outcome : Outcome) (numbers : List ℕ) (spans : List Extent)
    → true ≡ are_items_expected outcome.result outcome.far
    → numbers ≡ take 65536 outcome.expected.items → spans ≡ numbered_spans all numbers
    → spans ≡ expected_spans all outcome
listed-spans all outcome numbers spans asked first are =
    are ∙ ap (numbered_spans all) (first ∙ ap (λ (n : ℕ). take n outcome.expected.items) (sym most))
    ∙ ap (λ (b : Bool). if b then numbered_spans all (take max_items outcome.expected.items) else []) asked

module _ (outcome : Outcome) where
  -- the first items, if items are expected
  pub listed-items : (known facts : ItemFacts) (items : List ItemFact)
      → true ≡ are_items_expected outcome.result outcome.far → known ≡ facts
      → items ≡ map (item_numbered known) (take 65536 outcome.expected.items) → items ≡ expected_items facts outcome
  listed-items known facts items asked same are =
      let few : 65536 ≡ max_items = sym most in
      are
      ∙ (λ i. map (item_numbered (same i)) (take (few i) outcome.expected.items))
      ∙ ap (λ (b : Bool). if b then map (item_numbered facts) (take max_items outcome.expected.items) else []) asked

  -- numbered items whose rules aren't known
  unnamed-numbered : (rules : List Rule) (numbers : List ℕ)
      → map unnamed_fact (numbered_spans (extents_of_terminals rules) numbers)
      ≡ map (item_numbered (facts_by_tests rules)) numbers
  unnamed-numbered rules [] = refl
  unnamed-numbered rules (number ∷ numbers) = ap₂ ◌∷◌ refl (unnamed-numbered rules numbers)

  -- items whose rules aren't known
  pub unnamed-items : (rules : List Rule) (spans : List Extent) → spans ≡ expected_spans (extents_of_terminals rules) outcome
      → map unnamed_fact spans ≡ expected_items (facts_by_tests rules) outcome
  unnamed-items rules spans are =
      ap (map unnamed_fact) are ∙ by (are_items_expected outcome.result outcome.far)
    where
      facts : ItemFacts
      facts = facts_by_tests rules

      numbers : List ℕ
      numbers = take max_items outcome.expected.items

      by : (b : Bool)
          → map unnamed_fact (if b then numbered_spans (extents_of_terminals rules) numbers else [])
          ≡ (if b then map (item_numbered facts) numbers else [])
      by true = unnamed-numbered rules numbers
      by false = refl
