-- Describes code: parts of a node list, as the computation of the depth splits them. A part is adjacent whole trees and
-- the level of their roots.
use Rattle.std.specs.Prelude.{ℕ, ◌+◌, ◌-◌, ◌^◌, ◌<◌, ◌≤◌, List, [], ◌∷◌, drop, length, max, take}
use Rattle.peg_tree.specs.Rows.{Row}
use Rattle.peg_tree.specs.Trees.{Trees, NoTrees, Tree}
use Rattle.peg_tree.specs.TreesOfRows.{trees_of, IsForest}
use Rattle.peg_tree.specs.declared.part.Part.{Part}

-- the number of nodes of a part
abbrev pub part_length : Part → ℕ
part_length part = part.to - part.from

-- the nodes of a part
abbrev pub rows_in : List Row → Part → List Row
rows_in rows part = take (part.to - part.from) (drop part.from rows)

-- a part of the node list: whole trees, at a level that the length of the list allows
pub record IsPart (rows : List Row) (part : Part) : Type 0 where
  pub ordered : part.from ≤ part.to
  pub within : part.to ≤ length rows
  pub high : part.level + (part.to - part.from) ≤ length rows + 1
  pub forest : IsForest (rows_in rows part)

-- the greatest level of trees whose roots have the given level; 0 for no trees
abbrev pub greatest_level : ℕ → Trees → ℕ
greatest_level level NoTrees = 0
greatest_level level (Tree rule start end children rest) =
    max level (max (greatest_level (level + 1) children) (greatest_level level rest))

-- the greatest level of a part
abbrev pub level_in : List Row → Part → ℕ
level_in rows part = greatest_level part.level (trees_of (rows_in rows part))

-- a stack of parts in which the sizes at least halve: part number i has fewer than 2^(`room` - i) nodes
abbrev pub AreParts : List Row → ℕ → List Part → Type 0
AreParts rows room [] = Unit {0}
AreParts rows room (part ∷ parts) = IsPart rows part × (part_length part < 2 ^ room) × AreParts rows (room - 1) parts

-- the greatest level of several parts
abbrev pub level_of_parts : List Row → List Part → ℕ
level_of_parts rows [] = 0
level_of_parts rows (part ∷ parts) = max (level_in rows part) (level_of_parts rows parts)

-- the total number of nodes of several parts
abbrev pub length_of_parts : List Part → ℕ
length_of_parts [] = 0
length_of_parts (part ∷ parts) = part_length part + length_of_parts parts
