-- Describes code: the serializer events of one node, and the events that remain while some nodes are open.
use Rattle.std.specs.Prelude.{◌≡◌, ℕ, ◌+◌, ◌<◌, List, [], ◌∷◌, ◌++◌, ⊤, Some, codes, get_or}
use Rattle.std.specs.Coded.{Unit-prop, le_prop}
use mathlib.Core.HLevel.{×₃_prop}
use Rattle.serde.specs.Event.{Log, Logs, WritesEach}
use Rattle.serde.specs.Event as event
use Rattle.serde.specs.declared.name.Case.TheVariants.{AsIs}
use Rattle.serde_json.specs.Data.{Data, unsigned, number, string, no_members, member}
use Rattle.serde_json.specs.Events.{SendsMembers, SendsValue}
use Rattle.peg_tree.specs.Names.{name_at}
use Rattle.peg_tree.specs.Nodes.{RulesBelow}
use Rattle.peg_tree.specs.Rows.{Row, rows_of}
use Rattle.peg_tree.specs.Trees.{Trees, NoTrees, Tree, nodes}
use Rattle.peg_tree.specs.declared.nested_tree.Open.{Open}
use Rattle.peg_tree.specs.declared.row.TreeNode.{TreeNode}

-- `RulesBelow` is a proposition: any two of its proofs are equal
pub RulesBelow-prop : (bound : ℕ) (trees : Trees) → IsProp (RulesBelow bound trees)
RulesBelow-prop bound NoTrees = Unit-prop
RulesBelow-prop bound (Tree rule start end children rest) =
    ×₃_prop le_prop (RulesBelow-prop bound children) (RulesBelow-prop bound rest)

-- the events before the children of a node that has `count` children
abbrev pub BeginsNode : (count : ℕ) → Log → Log → Type 0
BeginsNode count old new =
    (begun named : Log) × Logs old begun (event.map_begins (Some 4))
    × Logs begun named (event.field_key (codes "children") AsIs) × Logs named new (event.seq_begins (Some count))

-- the events after the children of a node
abbrev pub EndsNode : (name : List ℕ) → (start end : ℕ) → Log → Log → Type 0
EndsNode name start end old new =
    (listed : Log) × Logs old listed event.seq_ends × SendsMembers (member (codes "end") (number (unsigned end))
    (member (codes "rule") (string name) (member (codes "start") (number (unsigned start)) no_members))) listed new

-- an open node, and the trees after it
abbrev pub OpenThen : Type 0
OpenThen = Open × Trees

-- how the object of a node follows from its rule, its start, its end and the objects of its children
abbrev pub ObjectOf : Type 0
ObjectOf = (rule start end : ℕ) → (children : List Data) → Data

-- the objects of adjacent trees
abbrev pub objects_by : ObjectOf → Trees → List Data
objects_by object NoTrees = []
objects_by object (Tree rule start end children rest) =
    object rule start end (objects_by object children) ∷ objects_by object rest

-- the events of trees, and then of the open nodes around them, innermost first
abbrev pub SendsRest : List (List ℕ) → ObjectOf → Trees → List OpenThen → Log → Log → Type 0
SendsRest names object trees [] old new = WritesEach SendsValue (objects_by object trees) old new
SendsRest names object trees (inner ∷ opens) old new =
    (listed ended : Log) × WritesEach SendsValue (objects_by object trees) old listed
    × EndsNode (name_at names inner.0.node.rule) inner.0.node.span.start inner.0.node.span.end listed ended
    × SendsRest names object inner.1 opens ended new

-- the node list of the trees after the open nodes
abbrev pub rows_after : List OpenThen → List Row
rows_after [] = []
rows_after (inner ∷ opens) = rows_of inner.1 ++ rows_after opens

-- each open node ends where the trees in it end, the innermost at `nth`, and every rule number is below the bound
abbrev pub EndAt : (bound nth : ℕ) → List OpenThen → Type 0
EndAt bound nth [] = ⊤
EndAt bound nth (inner ∷ opens) =
    (inner.0.node.rule < bound) × (inner.0.end ≡ nth) × EndAt bound (nth + nodes inner.1) opens

-- the innermost open node, if any, ends after node number `at`
abbrev pub IsOpenPast : (at : ℕ) → List Open → Type 0
IsOpenPast at [] = ⊤
IsOpenPast at (inner ∷ opens) = at < inner.end

-- node number `at` has been pushed as open
abbrev pub Opens : List TreeNode → (at : ℕ) → (old new : List Open) → Type 0
Opens rows at old new =
    (top : Open) × (new ≡ old ++ top ∷ []) × (top.node ≡ get_or rows at top.node) × (top.end ≡ at + top.node.size)
