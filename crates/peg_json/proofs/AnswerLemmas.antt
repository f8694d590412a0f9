-- The parts of a printed answer: the spans of terminals, in order; no object contains a float.
use Rattle.std.proofs.Common.{◌≡◌, ℕ, ◌+◌, ◌<◌, Bool, true, false, ◌||◌, if◌then◌else◌, codes, List, [], ◌∷◌, ◌++◌, length, map, Some}
use Rattle.std.proofs.Common.{refl, sym, ap, ◌∙◌, arith, slice_get, slice_index_or, get_or, inl, inr}
use Rattle.std.proofs.lemmas.Bool.{cases_Bool, false≢true}
use Rattle.std.proofs.lemmas.List.{get_or-map, length-map}
use Rattle.std.proofs.lemmas.Option.{get_or_from_slice_get}
use Rattle.std.specs.Str.{is_utf8}
use Rattle.hex.specs.Hex.{encode_lower}
use Rattle.serde_json.specs.Data.{Data, string, object, member, no_members}
use Rattle.serde_json.specs.View.{items_of}
use Rattle.serde_json.specs.Written.{has_float, items_have_float, members_have_float}
use Rattle.peg_bytes.specs.Extent.{Extent, between}
use Rattle.peg_semantics.specs.Rules.{Rule}
use Rattle.peg_semantics.specs.Terminals.{extents_of_terminals}
use Rattle.peg_tree.specs.Json.{nested_data, rows_data}
use Rattle.peg_tree.specs.Names.{name_at}
use Rattle.peg_tree.specs.TextJson.{bytes_between, bytes_data, leaf_data, leaf_members, nested_text_data, rows_text_data}
use Rattle.peg_tree.specs.TextJson.{text_node_data, text_row_data}
use Rattle.peg_tree.specs.Trees.{Trees, NoTrees, Tree}
use Rattle.peg_json.specs.Parses.{extents_at}
use Rattle.peg_json.specs.Reply.{failed_data, matched_data, text_tree_member, tree_member}
use Rattle.peg_listings.specs.Extents.{extent_data}
use Rattle.peg_json.specs.declared.tree_form.TreeForm.{TreeForm}
use Rattle.peg_json.specs.declared.tree_form.TreeForm.TheVariants.{Nested, Rows, NoTree}

-- the span of a terminal
pub place_at : (rules : List Rule) (terminals : List ℕ) (i : ℕ) (place : Extent) → i < length terminals
    → slice_get (extents_of_terminals rules) (get_or terminals i 0) ≡ Some place
    → get_or (map extent_data (extents_at rules terminals)) i (extent_data place) ≡ extent_data place
place_at rules terminals i place inside reported =
    let extents = extents_of_terminals rules in
    let chosen = λ (terminal : ℕ). slice_index_or extents terminal (between 0 0) in
    get_or-map extent_data (map chosen terminals) i place (extent_data place) (omega (arith, length-map terminals chosen))
    ∙ ap extent_data (get_or-map chosen terminals i 0 place inside
    ∙ get_or_from_slice_get extents (get_or terminals i 0) place (between 0 0) reported)

-- there is one span for each terminal
pub length-places : (rules : List Rule) (terminals : List ℕ)
    → length (map extent_data (extents_at rules terminals)) ≡ length terminals
length-places rules terminals =
    length-map (extents_at rules terminals) extent_data
    ∙ length-map terminals (λ terminal. slice_index_or (extents_of_terminals rules) terminal (between 0 0))

-- ---- no floats

-- no printed list of spans contains a float
pub expected-without_floats : (expected : List Extent) → items_have_float (items_of (map extent_data expected)) ≡ false
expected-without_floats [] = refl
expected-without_floats (extent ∷ expected) = expected-without_floats expected

nested-without_floats : (names : List (List ℕ)) (trees : Trees)
    → items_have_float (items_of (nested_data names trees)) ≡ false
nested-without_floats names NoTrees = refl
nested-without_floats names (Tree rule start end children rest) =
    ap (λ (b : Bool). (b || false) || items_have_float (items_of (nested_data names rest)))
    (nested-without_floats names children) ∙ nested-without_floats names rest

-- a concatenation of lists without floats has none
append-without_floats : (front back : List Data) → items_have_float (items_of front) ≡ false
    → items_have_float (items_of back) ≡ false → items_have_float (items_of (front ++ back)) ≡ false
append-without_floats [] back none others = others
append-without_floats (first ∷ front) back none others =
    elim (cases_Bool (has_float first)) [
      | inl holds ↦ absurd (false≢true (sym none ∙ ap (λ (b : Bool). b || items_have_float (items_of front)) holds))
      | inr clear ↦
          let rest = sym (ap (λ (b : Bool). b || items_have_float (items_of front)) clear) ∙ none in
          ap (λ (b : Bool). b || items_have_float (items_of (front ++ back))) clear
          ∙ append-without_floats front back rest others
    ]

rows-without_floats : (names : List (List ℕ)) (level : ℕ) (trees : Trees)
    → items_have_float (items_of (rows_data names level trees)) ≡ false
rows-without_floats names level NoTrees = refl
rows-without_floats names level (Tree rule start end children rest) =
    append-without_floats (rows_data names (1 + level) children) (rows_data names level rest)
    (rows-without_floats names (1 + level) children) (rows-without_floats names level rest)

tree-without_floats : (form : TreeForm) (names : List (List ℕ)) (trees : Trees)
    → members_have_float (tree_member form names trees) ≡ false
tree-without_floats Rows names trees = ap (λ (b : Bool). b || false) (rows-without_floats names 1 trees)
tree-without_floats NoTree names trees = refl
tree-without_floats Nested names NoTrees = refl
tree-without_floats Nested names (Tree rule start end children rest) =
    ap (λ (b : Bool). (b || false) || false) (nested-without_floats names children)

-- the same of trees with text
bytes-without_floats : (bytes : List ℕ) → has_float (bytes_data bytes) ≡ false
bytes-without_floats bytes = by (is_utf8 bytes)
  where
    by : (is : Bool)
        → has_float (if is then string bytes else object (member (codes "bytes") (string (encode_lower bytes)) no_members))
        ≡ false
    by true = refl
    by false = refl

leaf-without_floats : (name : List ℕ) (start end : ℕ) (bytes : List ℕ) → has_float (leaf_data name start end bytes) ≡ false
leaf-without_floats name start end bytes = by (is_utf8 bytes)
  where
    by : (is : Bool)
        → has_float (if is
        then object (leaf_members name start end (member (codes "text") (string bytes) no_members))
        else object (member (codes "bytes") (string (encode_lower bytes)) (leaf_members name start end no_members)))
        ≡ false
    by true = refl
    by false = refl

text_node-without_floats : (name : List ℕ) (start end : ℕ) (bytes : List ℕ) (children : List Data)
    → items_have_float (items_of children) ≡ false → has_float (text_node_data name start end bytes children) ≡ false
text_node-without_floats name start end bytes [] none = leaf-without_floats name start end bytes
text_node-without_floats name start end bytes (first ∷ others) none = ap (λ (b : Bool). b || false) none

nested_text-without_floats : (names : List (List ℕ)) (text : List ℕ) (trees : Trees)
    → items_have_float (items_of (nested_text_data names text trees)) ≡ false
nested_text-without_floats names text NoTrees = refl
nested_text-without_floats names text (Tree rule start end children rest) =
    ap (λ (b : Bool). b || items_have_float (items_of (nested_text_data names text rest)))
    (text_node-without_floats (name_at names rule) start end (bytes_between text start end)
    (nested_text_data names text children) (nested_text-without_floats names text children))
    ∙ nested_text-without_floats names text rest

text_row-without_floats : (level : ℕ) (name : List ℕ) (start end : ℕ) (bytes : List ℕ) (children : Trees)
    → has_float (text_row_data level name start end bytes children) ≡ false
text_row-without_floats level name start end bytes NoTrees =
    ap (λ (b : Bool). b || false) (bytes-without_floats bytes)
text_row-without_floats level name start end bytes (Tree _ _ _ _ _) = refl

rows_text-without_floats : (names : List (List ℕ)) (text : List ℕ) (level : ℕ) (trees : Trees)
    → items_have_float (items_of (rows_text_data names text level trees)) ≡ false
rows_text-without_floats names text level NoTrees = refl
rows_text-without_floats names text level (Tree rule start end children rest) =
    ap (λ (b : Bool). b || items_have_float (items_of (rows_text_data names text (1 + level) children
    ++ rows_text_data names text level rest)))
    (text_row-without_floats level (name_at names rule) start end (bytes_between text start end) children)
    ∙ append-without_floats (rows_text_data names text (1 + level) children) (rows_text_data names text level rest)
    (rows_text-without_floats names text (1 + level) children) (rows_text-without_floats names text level rest)

text_tree-without_floats : (form : TreeForm) (names : List (List ℕ)) (text : List ℕ) (trees : Trees)
    → members_have_float (text_tree_member form names text trees) ≡ false
text_tree-without_floats Rows names text trees = ap (λ (b : Bool). b || false) (rows_text-without_floats names text 1 trees)
text_tree-without_floats NoTree names text trees = refl
text_tree-without_floats Nested names text NoTrees = refl
text_tree-without_floats Nested names text (Tree rule start end children rest) =
    ap (λ (b : Bool). b || false)
    (text_node-without_floats (name_at names rule) start end (bytes_between text start end)
    (nested_text_data names text children) (nested_text-without_floats names text children))

-- no printed failure contains a float
pub failed-without_floats : (far : ℕ) (expected : List Extent) → has_float (failed_data far expected) ≡ false
failed-without_floats far expected = ap (λ (b : Bool). b || false) (expected-without_floats expected)

-- no printed match contains a float
pub match-without_floats : (partial : Bool) (end far : ℕ) (expected : List Extent) (form : TreeForm)
    (names : List (List ℕ)) (tree : Trees)
    → has_float (matched_data partial end far expected (tree_member form names tree)) ≡ false
match-without_floats partial end far expected form names tree =
    ap (λ (b : Bool). b || members_have_float (tree_member form names tree)) (expected-without_floats expected)
    ∙ tree-without_floats form names tree

-- no printed match with text contains a float
pub text_match-without_floats : (partial : Bool) (end far : ℕ) (expected : List Extent) (form : TreeForm)
    (names : List (List ℕ)) (text : List ℕ) (tree : Trees)
    → has_float (matched_data partial end far expected (text_tree_member form names text tree)) ≡ false
text_match-without_floats partial end far expected form names text tree =
    ap (λ (b : Bool). b || members_have_float (text_tree_member form names text tree)) (expected-without_floats expected)
    ∙ text_tree-without_floats form names text tree
