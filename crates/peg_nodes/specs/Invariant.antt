-- What holds of every list of nodes with links.
use Rattle.std.specs.Prelude.{◌≡◌, ◌≢◌, ℕ, zero, suc, ◌+◌, ◌^◌, ◌≤◌, List, [], ◌∷◌, ◌++◌}
use Rattle.std.specs.List.{All}
use Rattle.peg_nodes.specs.Linked.{IsLinkInto}
use Rattle.peg_nodes.specs.declared.item.OpenNode.{OpenNode}
use Rattle.peg_nodes.specs.declared.item.Item.{Item}
use Rattle.peg_nodes.specs.declared.item.Item.TheVariants.{Node, Stored}

-- an item is a node, or a link to the first `stored` items of the store
abbrev pub RefersBelow : ℕ → Item → Type 0
RefersBelow stored (Node node) = Unit {0}
RefersBelow stored (Stored link) = link.start + link.len ≤ stored

-- each stored item refers to older ones only, where `older` items are older than all of them
abbrev pub RefersBack : ℕ → List Item → Type 0
RefersBack older [] = Unit {0}
RefersBack older (item ∷ items) = RefersBelow older item × RefersBack (older + 1) items

-- no item is an open node
abbrev pub IsClosedItem : Item → Type 0
IsClosedItem (Node node) = node.size ≢ 0
IsClosedItem (Stored link) = Unit {0}

-- an item is a node or a link with its exact number of nodes
abbrev pub IsLinkItem : List Item → Item → Type 0
IsLinkItem stored (Node node) = Unit {0}
IsLinkItem stored (Stored link) = IsLinkInto stored link

-- the number of nodes of items
abbrev pub item_count : Item → ℕ
item_count (Node node) = 1
item_count (Stored link) = link.count

abbrev pub count_of : List Item → ℕ
count_of [] = 0
count_of (item ∷ items) = item_count item + count_of items

-- the open node that an item is, if it is one
abbrev pub open_at : ℕ → ℕ → ℕ → List OpenNode
open_at item before zero = record { item = item; before = before } ∷ []
open_at item before (suc size) = []

-- the open nodes among items, the first of which has the number `item` and comes after `before` nodes
abbrev pub opened_from : ℕ → ℕ → List Item → List OpenNode
opened_from item before [] = []
opened_from item before (Node node ∷ items) =
    open_at item before node.size ++ opened_from (item + 1) (before + 1) items
opened_from item before (Stored link ∷ items) = opened_from (item + 1) (before + link.count) items

pub record IsSound (items stored : List Item) (opened : List OpenNode) (count : ℕ) : Type 0 where
  pub older : RefersBack 0 stored
  pub are_closed : All IsClosedItem stored
  pub links : All (IsLinkItem stored) items
  pub places : opened ≡ opened_from 0 0 items
  pub counted : count ≡ count_of items
  pub few : count ≤ 2 ^ 62
