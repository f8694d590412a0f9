-- Describes code: the model of a flat list of nodes, and its invariant.
use Rattle.std.specs.Prelude.{◌≡◌, ℕ, ◌<◌, ◌≤◌, List, [], ◌∷◌, ◌++◌, fold, length, map, slice_index_or}
use Rattle.peg_bytes.specs.Extent.{extent}
use Rattle.peg_semantics.specs.Grammar.{max_parts}
use Rattle.peg_core.specs.Layout.{Layout, max_forms}
use Rattle.peg_core.specs.CoreForm.{CoreForm, is_all_empty}
use Rattle.peg_core.specs.CoreNodes.{NodeFits, shape}
use Rattle.peg_core.specs.declared.builder.CoreBuilder.TheInside.{Inside}
use Rattle.peg_core.specs.declared.node.Entry.{Entry}

-- the forms with the form of one more node
abbrev pub after_push : List CoreForm → Entry → List CoreForm
after_push forms next = forms ++ shape forms (extent next.origin) next.node ∷ []

-- the forms that nodes denote, each in terms of those before it
abbrev pub forms_of : List Entry → List CoreForm
forms_of nodes = fold after_push [] nodes

-- each node fits at its number
abbrev pub AllFit : (rules terminals : ℕ) → List Entry → Type 0
AllFit rules terminals nodes =
    (number : ℕ) (d : Entry) → number < length nodes
    → NodeFits number rules terminals (slice_index_or nodes number d).node

-- the forms, and the spans of the terminals
abbrev pub layout_of : Inside → Layout
layout_of builder = record { rules = builder.rules; forms = forms_of builder.nodes; spans = map extent builder.spans.items }

-- Each node fits at its number, and the numbers of nodes and terminals are within their limits. The marks say which
-- forms are built of empty expressions alone.
pub record IsBuilder (builder : Inside) : Type 0 where
  pub fit : AllFit builder.rules (length builder.spans.items) builder.nodes
  pub few : length builder.nodes ≤ max_forms
  pub few_terminals : length builder.spans.items ≤ max_parts
  pub marks : builder.all_empty.items ≡ map is_all_empty (forms_of builder.nodes)
