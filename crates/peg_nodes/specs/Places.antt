-- Describes code: changes of the places of open nodes.
use Rattle.std.specs.Prelude.{ℕ, zero, suc, ◌-◌, List, length, take}
use Rattle.peg_nodes.specs.declared.item.OpenNode.{OpenNode}

-- the places without that of the last item, a node of this size
abbrev pub places_before : ℕ → List OpenNode → List OpenNode
places_before zero opened = take (length opened - 1) opened
places_before (suc size) opened = opened

-- the place in a list without links, where each item is one node
abbrev pub flat_place : OpenNode → OpenNode
flat_place place = record { item = place.before; before = place.before }
