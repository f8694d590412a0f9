-- Trees as JSON in which each node without children has the bytes of its text.
use Rattle.std.specs.Prelude.{ℕ, ◌+◌, ◌-◌, List, [], ◌∷◌, ◌++◌, codes, drop, take, if◌then◌else◌}
use Rattle.std.specs.Str.{is_utf8}
use Rattle.hex.specs.Hex.{encode_lower}
use Rattle.serde_json.specs.Data.{Data, unsigned, number, string, array, object, Members, no_members, member, no_items, item}
use Rattle.peg_tree.specs.Json.{node_data, row_data}
use Rattle.peg_tree.specs.Names.{name_at}
use Rattle.peg_tree.specs.Trees.{Trees, NoTrees, Tree}

-- The bytes of a text from `start` up to, but not including, `end`. There are none past the end of the text.
abbrev pub bytes_between : (text : List ℕ) → (start end : ℕ) → List ℕ
bytes_between text start end = take (end - start) (drop start text)

-- bytes as a string if they are UTF-8, otherwise as an object with their hexadecimal digits
abbrev pub bytes_data : List ℕ → Data
bytes_data bytes =
    if is_utf8 bytes
    then string bytes
    else object (member (codes "bytes") (string (encode_lower bytes)) no_members)

-- a node without children as a list: its level, the name of its rule, its start, its end and its bytes
abbrev pub leaf_row_data : (level : ℕ) → (name : List ℕ) → (start end : ℕ) → (bytes : List ℕ) → Data
leaf_row_data level name start end bytes =
    array (item (number (unsigned level)) (item (string name) (item (number (unsigned start))
    (item (number (unsigned end)) (item (bytes_data bytes) no_items)))))

-- a node as a list, which has its bytes if there are no children
abbrev pub text_row_data : (level : ℕ) → (name : List ℕ) → (start end : ℕ) → (bytes : List ℕ) → (children : Trees)
    → Data
text_row_data level name start end bytes NoTrees = leaf_row_data level name start end bytes
text_row_data level name start end bytes (Tree _ _ _ _ _) = row_data level name start end

-- the preorder node list of trees whose roots have the given level
abbrev pub rows_text_data : List (List ℕ) → (text : List ℕ) → (level : ℕ) → Trees → List Data
rows_text_data names text level NoTrees = []
rows_text_data names text level (Tree rule start end children rest) =
    text_row_data level (name_at names rule) start end (bytes_between text start end) children
    ∷ (rows_text_data names text (1 + level) children ++ rows_text_data names text level rest)

-- the members that every node without children has, before other members
abbrev pub leaf_members : (name : List ℕ) → (start end : ℕ) → (more : Members) → Members
leaf_members name start end more =
    member (codes "children") (array no_items) (member (codes "end") (number (unsigned end))
    (member (codes "rule") (string name) (member (codes "start") (number (unsigned start)) more)))

-- a node without children as an object, with its bytes as text if they are UTF-8; the keys are in the order of bytes
abbrev pub leaf_data : (name : List ℕ) → (start end : ℕ) → (bytes : List ℕ) → Data
leaf_data name start end bytes =
    if is_utf8 bytes
    then object (leaf_members name start end (member (codes "text") (string bytes) no_members))
    else object (member (codes "bytes") (string (encode_lower bytes)) (leaf_members name start end no_members))

-- a node as an object that contains its children, or its bytes if there are none
abbrev pub text_node_data : (name : List ℕ) → (start end : ℕ) → (bytes : List ℕ) → (children : List Data) → Data
text_node_data name start end bytes [] = leaf_data name start end bytes
text_node_data name start end bytes (first ∷ others) = node_data name start end (first ∷ others)

-- adjacent trees as such objects, in order
abbrev pub nested_text_data : List (List ℕ) → (text : List ℕ) → Trees → List Data
nested_text_data names text NoTrees = []
nested_text_data names text (Tree rule start end children rest) =
    text_node_data (name_at names rule) start end (bytes_between text start end) (nested_text_data names text children)
    ∷ nested_text_data names text rest
