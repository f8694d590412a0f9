-- The printed table of outcomes: what each rule's expression can do.
use Rattle.std.specs.Prelude.{ℕ, List, codes, map}
use Rattle.std.specs.List.{zip}
use Rattle.serde_json.specs.Data.{Data, boolean, string, array, object, no_members, member}
use Rattle.serde_json.specs.View.{items_of}
use Rattle.peg_semantics.specs.AbstractOutcomes.{Can}

-- the entry of a rule with this name
abbrev pub entry_data : (name : List ℕ) → Can → Data
entry_data name can =
    object (member (codes "fails") (boolean can.fails) (member (codes "nothing") (boolean can.nothing)
    (member (codes "rule") (string name) (member (codes "something") (boolean can.something) no_members))))

-- the entries of rules with these names, in order
abbrev pub entries_data : (names : List (List ℕ)) → List Can → List Data
entries_data names cans = map (λ entry. entry_data entry.0 entry.1) (zip names cans)

-- the JSON of the table
abbrev pub table_data : (names : List (List ℕ)) → List Can → Data
table_data names cans = object (member (codes "table") (array (items_of (entries_data names cans))) no_members)
