-- The JSON of nodes with their text.
use Rattle.std.proofs.Common.{◌≡◌, ℕ, ◌<◌, Bool, true, false, List, ◌∷◌, codes, refl, ap, ◌∙◌, arith}
use Rattle.std.specs.Str.{IsUtf8, is_utf8}
use Rattle.std.proofs.lemmas.Bool.{cond-true, cond-false}
use Rattle.std.proofs.lemmas.Str.{IsUtf8-from_is_utf8, is_utf8-from_IsUtf8}
use Rattle.hex.specs.Hex.{encode_lower}
use Rattle.serde_json.specs.Data.{Data, string, object, no_members, member}
use Rattle.peg_tree.specs.Json.{node_data}
use Rattle.peg_tree.specs.Names.{name_at}
use Rattle.peg_tree.specs.Sending.{ObjectOf, objects_by}
use Rattle.peg_tree.specs.TextJson.{bytes_between, bytes_data, leaf_data, leaf_members, nested_text_data, text_node_data}
use Rattle.peg_tree.specs.Trees.{Trees, NoTrees, Tree, nodes}

-- bytes that are not UTF-8 fail the test
is_utf8-other : (bytes : List ℕ) → ¬ (IsUtf8 bytes) → is_utf8 bytes ≡ false
is_utf8-other bytes other = by (is_utf8 bytes) refl
  where
    by : (b : Bool) → is_utf8 bytes ≡ b → is_utf8 bytes ≡ false
    by true is = absurd (other (IsUtf8-from_is_utf8 bytes is))
    by false is = is

-- the value of bytes that are UTF-8, and of others
pub bytes_data-text : (bytes : List ℕ) → IsUtf8 bytes → bytes_data bytes ≡ string bytes
bytes_data-text bytes is = cond-true _ _ _ (is_utf8-from_IsUtf8 bytes is)

pub bytes_data-other : (bytes : List ℕ) → ¬ (IsUtf8 bytes)
    → bytes_data bytes ≡ object (member (codes "bytes") (string (encode_lower bytes)) no_members)
bytes_data-other bytes other = cond-false _ _ _ (is_utf8-other bytes other)

-- the object of a node without children whose bytes are UTF-8, and of others
pub leaf_data-text : (name : List ℕ) (start end : ℕ) (bytes : List ℕ) → IsUtf8 bytes
    → leaf_data name start end bytes
    ≡ object (leaf_members name start end (member (codes "text") (string bytes) no_members))
leaf_data-text name start end bytes is = cond-true _ _ _ (is_utf8-from_IsUtf8 bytes is)

pub leaf_data-other : (name : List ℕ) (start end : ℕ) (bytes : List ℕ) → ¬ (IsUtf8 bytes)
    → leaf_data name start end bytes
    ≡ object (member (codes "bytes") (string (encode_lower bytes)) (leaf_members name start end no_members))
leaf_data-other name start end bytes other = cond-false _ _ _ (is_utf8-other bytes other)

-- objects of nodes with the names of their rules and, without children, their text
abbrev pub text_object : List (List ℕ) → (text : List ℕ) → ObjectOf
text_object names text rule start end children =
    text_node_data (name_at names rule) start end (bytes_between text start end) children

pub objects_by-text : (names : List (List ℕ)) (text : List ℕ) (trees : Trees)
    → objects_by (text_object names text) trees ≡ nested_text_data names text trees
objects_by-text names text NoTrees = refl
objects_by-text names text (Tree rule start end children rest) =
    let node = text_object names text rule start end in
    ap (λ (l : List Data). node l ∷ objects_by (text_object names text) rest) (objects_by-text names text children)
    ∙ ap (λ (l : List Data). node (nested_text_data names text children) ∷ l) (objects_by-text names text rest)

-- the object of a node with children is the one without text
pub text_object-children : (names : List (List ℕ)) (text : List ℕ) (rule start end : ℕ) (children : Trees)
    → 0 < nodes children
    → text_object names text rule start end (objects_by (text_object names text) children)
    ≡ node_data (name_at names rule) start end (objects_by (text_object names text) children)
text_object-children names text rule start end NoTrees some = absurd (omega arith)
text_object-children names text rule start end (Tree first from to below rest) some = refl
