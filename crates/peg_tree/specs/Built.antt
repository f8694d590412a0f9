-- Describes code: the stack of finished JSON objects during the pass that nests them, each with its number of nodes.
use Rattle.std.specs.Prelude.{ℕ, ◌+◌, ◌-◌, List, [], ◌∷◌, map, reverse, nat_le, if◌then◌else◌}
use Rattle.serde_json.specs.Data.{Data}
use Rattle.serde_json.specs.View.{view}
use Rattle.peg_tree.specs.Json.{node_data, nested_data}
use Rattle.peg_tree.specs.Names.{name_at}
use Rattle.peg_tree.specs.Trees.{Trees, NoTrees, Tree, nodes}
use Rattle.peg_tree.specs.declared.nested.Built.{Built}

-- the JSON object of a tree, and the number of nodes of the tree
abbrev pub SizedObject : Type 0
SizedObject = Data × ℕ

-- the object and the size in a `Built`
abbrev pub object_of : Built → SizedObject
object_of built = (view built.value, built.size)

-- the objects on a stack, top first
abbrev pub objects_of : List Built → List SizedObject
objects_of stack = map object_of (reverse stack)

-- the objects of adjacent trees
abbrev pub objects_of_trees : List (List ℕ) → Trees → List SizedObject
objects_of_trees names NoTrees = []
objects_of_trees names (Tree rule start end children rest) =
    (node_data (name_at names rule) start end (nested_data names children), 1 + nodes children)
    ∷ objects_of_trees names rest

-- the leading objects that fit into `count` nodes
abbrev pub take_values : ℕ → List SizedObject → List Data
take_values count [] = []
take_values count (object ∷ objects) = if nat_le object.1 count then object.0 ∷ take_values
    (count - object.1) objects else []

-- the objects after those
abbrev pub left_after : ℕ → List SizedObject → List SizedObject
left_after count [] = []
left_after count (object ∷ objects) =
    if nat_le object.1 count then left_after (count - object.1) objects else object ∷ objects
