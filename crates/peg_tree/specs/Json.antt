-- Trees as JSON: as a list of nodes with levels, or as nested objects.
use Rattle.std.specs.Prelude.{ℕ, ◌+◌, List, [], ◌∷◌, ◌++◌, codes}
use Rattle.serde_json.specs.Data.{Data, unsigned, number, string, array, object, no_members, member, no_items, item}
use Rattle.serde_json.specs.View.{items_of}
use Rattle.peg_tree.specs.Names.{name_at}
use Rattle.peg_tree.specs.Trees.{Trees, NoTrees, Tree}

-- the maximum number of levels of a tree that is printed nested
abbrev pub max_levels : ℕ
max_levels = 60

-- a node as a list: its level, the name of its rule, its start and its end
abbrev pub row_data : (level : ℕ) → (name : List ℕ) → (start end : ℕ) → Data
row_data level name start end =
    array (item (number (unsigned level)) (item (string name)
    (item (number (unsigned start)) (item (number (unsigned end)) no_items))))

-- the preorder node list of trees whose roots have the given level
abbrev pub rows_data : List (List ℕ) → ℕ → Trees → List Data
rows_data names level NoTrees = []
rows_data names level (Tree rule start end children rest) =
    row_data level (name_at names rule) start end ∷ (rows_data names (1 + level) children ++ rows_data names level rest)

-- a node as an object that contains its children
abbrev pub node_data : (name : List ℕ) → (start end : ℕ) → (children : List Data) → Data
node_data name start end children =
    object (member (codes "children") (array (items_of children)) (member (codes "end") (number (unsigned end))
    (member (codes "rule") (string name) (member (codes "start") (number (unsigned start)) no_members))))

-- adjacent trees as such objects, in order
abbrev pub nested_data : List (List ℕ) → Trees → List Data
nested_data names NoTrees = []
nested_data names (Tree rule start end children rest) =
    node_data (name_at names rule) start end (nested_data names children) ∷ nested_data names rest
