-- The nodes that items denote. Each item of the store refers to older ones only.
use Rattle.std.specs.Prelude.{List, [], ◌∷◌, ◌++◌, drop, take}
use Rattle.std.specs.List.{flat_map}
use Rattle.peg_tree.specs.Rows.{Row, row_of}
use Rattle.peg_nodes.specs.declared.item.Link.{Link}
use Rattle.peg_nodes.specs.declared.item.Item.{Item}
use Rattle.peg_nodes.specs.declared.item.Item.TheVariants.{Node, Stored}

-- the nodes of a link, given the nodes of each stored item: those of the items of its range
abbrev pub range_rows : List (List Row) → Link → List Row
range_rows images link = flat_map (λ rows. rows) (take link.len (drop link.start images))

-- the nodes of an item
abbrev pub image : List (List Row) → Item → List Row
image images (Node node) = row_of node ∷ []
image images (Stored link) = range_rows images link

-- the nodes of each stored item, the older ones first, where those of the oldest are known
abbrev pub images_after : List (List Row) → List Item → List (List Row)
images_after images [] = images
images_after images (item ∷ items) = images_after (images ++ image images item ∷ []) items

-- the nodes of each stored item
abbrev pub images_of : List Item → List (List Row)
images_of stored = images_after [] stored

-- the nodes of a list of items
abbrev pub expand : List (List Row) → List Item → List Row
expand images items = flat_map (image images) items
