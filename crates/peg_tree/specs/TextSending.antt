-- Describes code: the serializer events of nodes with their text.
use Rattle.std.specs.Prelude.{ℕ, List, ◌==◌, if◌then◌else◌}
use Rattle.serde.specs.Event.{Log}
use Rattle.serde_json.specs.Data.{Data, Members}
use Rattle.serde_json.specs.Events.{SendsMembers}
use Rattle.peg_tree.specs.Json.{row_data}
use Rattle.peg_tree.specs.Names.{name_at}
use Rattle.peg_tree.specs.Rows.{Row}
use Rattle.peg_tree.specs.TextJson.{bytes_between, leaf_members, leaf_row_data}

-- a node of a node list, with its bytes if its subtree is the node alone
abbrev pub text_row : List (List ℕ) → (text : List ℕ) → (level : ℕ) → Row → Data
text_row names text level row =
    if row.size == 1
    then leaf_row_data level (name_at names row.rule) row.start row.end (bytes_between text row.start row.end)
    else row_data level (name_at names row.rule) row.start row.end

-- the events of the members that every node without children has: whatever members follow complete them
abbrev pub SendsLeafMembers : (name : List ℕ) → (start end : ℕ) → Log → Log → Type 0
SendsLeafMembers name start end old new =
    (more : Members) (last : Log) → SendsMembers more new last
    → SendsMembers (leaf_members name start end more) old last
