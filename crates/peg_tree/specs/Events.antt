-- The serializer events of trees and of members of objects.
use Rattle.std.specs.Prelude.{◌≡◌, ℕ, List, [], ◌∷◌}
use Rattle.serde.specs.Event.{Log, Logs}
use Rattle.serde.specs.Event as event
use Rattle.serde.specs.declared.name.Case.TheVariants.{AsIs}
use Rattle.serde_json.specs.Data.{Data}
use Rattle.serde_json.specs.Events.{SendsValue}
use Rattle.peg_tree.specs.Json.{nested_data}
use Rattle.peg_tree.specs.TextJson.{nested_text_data}
use Rattle.peg_tree.specs.Trees.{Trees}

-- a member: its key, then the events of its value
abbrev pub SendsMember : (key : List ℕ) → (Log → Log → Type 0) → Log → Log → Type 0
SendsMember key Sent old new = (named : Log) × Logs old named (event.field_key key AsIs) × Sent named new

-- the events of the tree, if `trees` is exactly one
abbrev pub SendsNested : List (List ℕ) → Trees → Log → Log → Type 0
SendsNested names trees old new = (root : Data) × (nested_data names trees ≡ root ∷ []) × SendsValue root old new

-- the same with the text of nodes without children
abbrev pub SendsNestedText : List (List ℕ) → (text : List ℕ) → Trees → Log → Log → Type 0
SendsNestedText names text trees old new =
    (root : Data) × (nested_text_data names text trees ≡ root ∷ []) × SendsValue root old new
