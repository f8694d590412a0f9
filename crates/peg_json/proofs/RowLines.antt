-- The text of a match whose nodes stand between a head and a tail.
use Rattle.std.proofs.Common.{◌≡◌, ℕ, Bool, true, false, List, [], ◌∷◌, ◌++◌, refl, sym, append_assoc, codes}
use Rattle.serde_json.specs.Data.{Data, Items, array, member, no_members, number, object, string, unsigned}
use Rattle.serde_json.specs.Written.{compact_text, items_text}
use Rattle.serde_json.proofs.OnLiterals.{serde_json_on_literals}
use Rattle.peg_bytes.specs.Extent.{Extent}
use Rattle.peg_json.specs.Reply.{expected_data, match_word, matched_data}
use Rattle.peg_json.specs.RowsHead.{rows_head}

-- for any JSON of the expected terminals
between : (partial : Bool) (end far : ℕ) (expected : Data) (rows : List ℕ) (items : Items)
    → rows ++ 93 ∷ [] ≡ items_text false items
    → rows_head (match_word partial) end far (compact_text expected) ++ (rows ++ 93 ∷ 125 ∷ 10 ∷ [])
    ≡ compact_text (object (member (codes "consumed") (number (unsigned end)) (member (codes "expected") expected
    (member (codes "far") (number (unsigned far)) (member (codes "result") (string (match_word partial))
    (member (codes "rows") (array items) no_members)))))) ++ 10 ∷ []
unfolding serde_json_on_literals
between true end far expected rows items listed = simp (append_assoc, sym listed) refl
between false end far expected rows items listed = simp (append_assoc, sym listed) refl

-- the head, the text of the nodes and the tail are the text of the whole match, and the line end
pub rows-between : (partial : Bool) (end far : ℕ) (expected : List Extent) (rows : List ℕ) (items : Items)
    → rows ++ 93 ∷ [] ≡ items_text false items
    → rows_head (match_word partial) end far (compact_text (expected_data expected)) ++ (rows ++ 93 ∷ 125 ∷ 10 ∷ [])
    ≡ compact_text (matched_data partial end far expected (member (codes "rows") (array items) no_members)) ++ 10 ∷ []
rows-between partial end far expected rows items listed =
    between partial end far (expected_data expected) rows items listed
