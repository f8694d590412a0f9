-- Describes code: the spans of the terminals that are expected, and items without names.
use Rattle.std.specs.Prelude.{ℕ, if◌then◌else◌, List, [], None, map, take}
use Rattle.peg_bytes.specs.Extent.{Extent, extent}
use Rattle.peg_tree.specs.declared.outcome.Outcome.{Outcome}
use Rattle.peg_explain.specs.Explanations.{ItemFact, ItemFacts, max_items}
use Rattle.peg_explain.specs.Names.{numbered_extent}
use Rattle.peg_explain.specs.Reports.{are_items_expected}
use Rattle.peg_explain.specs.declared.expected.Items.{Items}
use Rattle.peg_explain.specs.declared.mismatch.Analysis.TheVariants as analysis
use Rattle.peg_explain.specs.declared.mismatch.Wording.TheVariants.{Spelling}
use Rattle.peg_explain.specs.declared.names.Rest.{Rest}

-- the spans with these numbers
abbrev pub numbered_spans : List Extent → (numbers : List ℕ) → List Extent
numbered_spans spans numbers = map (numbered_extent spans) numbers

-- the spans of the items that are expected, given the spans of all items
abbrev pub expected_spans : List Extent → Outcome → List Extent
expected_spans spans outcome =
    if are_items_expected outcome.result outcome.far
    then numbered_spans spans (take max_items outcome.expected.items) else []

-- what is known of items, and of the rests by which they are named
abbrev pub facts_in : Items → List Rest → ItemFacts
facts_in items rests = record {
  extents = map extent items.spans.now;
  rules = items.rules.now;
  kinds = items.kinds.now;
  spacing = items.spacing.now;
  rests = rests;
  analysis = analysis.Items;
}

-- an item of which its extent alone is known
abbrev pub unnamed_fact : Extent → ItemFact
unnamed_fact span = record { extent = span; rule = None; wording = Spelling }
