-- A list of nodes with links, as contracts see it.
use Rattle.std.specs.Prelude.{◌≡◌, ℕ, ◌+◌, ◌<◌, ◌≤◌, List, length, take}
use Rattle.peg_tree.specs.Rows.{Row}
use Rattle.peg_nodes.specs.Expansion.{range_rows, images_of, expand}
use Rattle.peg_nodes.specs.declared.item.Link.{Link}
use Rattle.peg_nodes.specs.declared.item.Item.{Item}

-- the items, and the stored items that their links refer to
pub record Linked : Type 0 where
  pub items : List Item
  pub stored : List Item

abbrev pub linked : List Item → List Item → Linked
linked items stored = record { items = items; stored = stored }

-- the nodes
abbrev pub nodes_of : Linked → List Row
nodes_of nodes = expand (images_of nodes.stored) nodes.items

-- the nodes of a link
abbrev pub link_nodes : Linked → Link → List Row
link_nodes nodes link = range_rows (images_of nodes.stored) link

-- a link's range is within the store, and its count is the number of its nodes
pub record IsLinkInto (stored : List Item) (link : Link) : Type 0 where
  pub within : link.start + link.len ≤ length stored
  pub counted : link.count ≡ length (range_rows (images_of stored) link)

abbrev pub IsLink : Linked → Link → Type 0
IsLink nodes link = IsLinkInto nodes.stored link

-- some number of items has exactly `count` nodes
pub record IsCut (nodes : Linked) (count : ℕ) : Type 0 where
  pub kept : ℕ
  pub within : kept ≤ length nodes.items
  pub counted : length (expand (images_of nodes.stored) (take kept nodes.items)) ≡ count

-- there is an item at `index`, and the items before it have exactly `at` nodes
pub record IsItemAt (nodes : Linked) (index at : ℕ) : Type 0 where
  pub within : index < length nodes.items
  pub counted : length (expand (images_of nodes.stored) (take index nodes.items)) ≡ at

-- every cut stays one
abbrev pub KeepsCuts : Linked → Linked → Type 0
KeepsCuts old new = (count : ℕ) → IsCut old count → IsCut new count

-- every cut of at most `most` nodes stays one
abbrev pub KeepsCutsUpTo : ℕ → Linked → Linked → Type 0
KeepsCutsUpTo most old new = (count : ℕ) → count ≤ most → IsCut old count → IsCut new count

-- every link stays one and keeps its nodes
abbrev pub KeepsLinks : Linked → Linked → Type 0
KeepsLinks old new = (link : Link) → IsLink old link → IsLink new link × (link_nodes new link ≡ link_nodes old link)
