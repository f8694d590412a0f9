-- The serializer events of a tree as nested objects.
use Rattle.std.proofs.Common.{◌≡◌, ℕ, suc, ◌+◌, ◌<◌, ◌≤◌, List, [], ◌∷◌, ◌++◌, length, drop, get_or, map, reverse, Some, refl, sym, subst, ◌∙◌, ap, arith, append_assoc, append-nil}
use Rattle.std.proofs.lemmas.List.{drop_all, reverse-append}
use Rattle.serde.specs.Event.{Log, Logs, WritesEach}
use Rattle.serde_json.specs.Data.{Data}
use Rattle.serde_json.specs.Events.{SendsValue, items_len}
use Rattle.serde_json.specs.View.{items_of}
use Rattle.serde.specs.Event as event
use Rattle.peg_tree.specs.declared.nested_tree.Open.{Open}
use Rattle.peg_tree.specs.declared.row.TreeNode.{TreeNode}
use Rattle.peg_tree.specs.Json.{nested_data, node_data}
use Rattle.peg_tree.specs.Names.{name_at}
use Rattle.peg_tree.specs.Nodes.{root_count, node_at}
use Rattle.peg_tree.specs.Rows.{Row, row_of, rows_of, IsOneTree}
use Rattle.peg_tree.specs.Sending.{BeginsNode, EndAt, EndsNode, IsOpenPast, ObjectOf, OpenThen, Opens, SendsRest, objects_by, rows_after}
use Rattle.peg_tree.specs.Trees.{Trees, NoTrees, Tree, nodes, followed_by}
use Rattle.peg_tree.specs.TreesCode.{first_trees-followed_by, trees_of-append, trees_of-rows_of}
use Rattle.peg_tree.specs.TreesOfRows.{first_trees, trees_of}
use Rattle.peg_tree.proofs.Forests.{IsForest-from_one_tree, map-drop, rows_from}
use Rattle.peg_tree.proofs.NodeRows.{nodes_of_tree, row_of_node, rows_below}
use Rattle.peg_tree.proofs.Sent.{SendsItems-from_each, items_len-items_of}

-- there is one object for each tree
length-objects_by : (object : ObjectOf) (trees : Trees) → length (objects_by object trees) ≡ root_count trees
length-objects_by object NoTrees = refl
length-objects_by object (Tree rule start end children rest) = omega (arith, length-objects_by object rest)

-- objects of nodes with the names of their rules
abbrev pub named_object : List (List ℕ) → ObjectOf
named_object names rule start end children = node_data (name_at names rule) start end children

pub objects_by-named : (names : List (List ℕ)) (trees : Trees) → objects_by (named_object names) trees ≡ nested_data names trees
objects_by-named names NoTrees = refl
objects_by-named names (Tree rule start end children rest) =
    ap (λ (l : List Data). node_data (name_at names rule) start end l ∷ objects_by (named_object names) rest)
    (objects_by-named names children)
    ∙ ap (λ (l : List Data). node_data (name_at names rule) start end (nested_data names children) ∷ l)
    (objects_by-named names rest)

-- trees at the start of the same node list are equal if they have the same number of nodes
front-same : (a b : Trees) (more others : List Row) → rows_of a ++ more ≡ rows_of b ++ others → nodes a ≡ nodes b → a ≡ b
front-same a b more others same count =
    sym (first_trees-followed_by a (trees_of more))
    ∙ ap (first_trees (nodes a)) (sym (trees_of-append a more) ∙ ap trees_of same ∙ trees_of-append b others)
    ∙ ap (λ n. first_trees n (followed_by b (trees_of others))) count
    ∙ first_trees-followed_by b (trees_of others)

-- the trees listed after a node, within its size, are the node's children
children_here : (rows : List TreeNode) (one : IsOneTree (map row_of rows)) (at : ℕ) (node : TreeNode) → at < length rows
    → node ≡ get_or rows at node → (children : Trees) (more : List Row)
    → map row_of (drop (at + 1) rows) ≡ rows_of children ++ more → node.size ≡ 1 + nodes children
    → (node_at (trees_of (map row_of rows)) at).children ≡ children
children_here rows one at node within is children more here size =
    let all = trees_of (map row_of rows) in
    let inside : at < nodes all = omega (arith, nodes_of_tree rows one) in
    let there = node_at all at in
    let below = rows_below all at inside in
    let same : rows_of there.children ++ rows_of below.0 ≡ rows_of children ++ more =
    sym below.1
    ∙ ap (drop (suc at)) (IsForest-from_one_tree (map row_of rows) one)
    ∙ sym (map-drop row_of (suc at) rows)
    ∙ (let e : suc at ≡ at + 1 = omega arith in ap (λ n. map row_of (drop n rows)) e)
    ∙ here in
    let row = row_of_node rows one at inside node is in
    front-same there.children children (rows_of below.0) more same (omega (arith, ap (λ (r : Row). r.size) row))

module _ (names : List (List ℕ)) (object : ObjectOf) where
  -- a node whose object has its children
  abbrev pub IsWithChildren : (rule start end : ℕ) → (children : Trees) → Type 0
  IsWithChildren rule start end children =
      object rule start end (objects_by object children)
      ≡ node_data (name_at names rule) start end (objects_by object children)

  -- the events of a node: its beginning, its children, and its end
  node-sent : (rule start end count : ℕ) (children : Trees) (old begun listed ended : Log) → count ≡ root_count children
      → IsWithChildren rule start end children
      → BeginsNode count old begun → WritesEach SendsValue (objects_by object children) begun listed
      → EndsNode (name_at names rule) start end listed ended
      → SendsValue (object rule start end (objects_by object children)) old ended
  node-sent rule start end count children old begun listed ended counted full begins each ends =
      let size : count ≡ items_len (items_of (objects_by object children)) =
      counted ∙ sym (length-objects_by object children) ∙ sym (items_len-items_of (objects_by object children)) in
      subst (λ value. SendsValue value old ended) (sym full) (
        begins.0,
        begins.2,
        (
          begins.1,
          ends.0,
          begins.3,
          (
            begun,
            subst (λ n. Logs begins.1 begun (event.seq_begins (Some n))) size begins.4,
            SendsItems-from_each (objects_by object children) begun listed ends.0 each ends.1,
          ),
          ends.2,
        ),
      )

  -- the beginning of a node opens it, and its children come next
  SendsRest-open : (rule start end count : ℕ) (children rest : Trees) (inner : Open) (opens : List OpenThen)
      (old begun new : Log) → inner.node.rule ≡ rule → inner.node.span.start ≡ start → inner.node.span.end ≡ end
      → count ≡ root_count children → IsWithChildren rule start end children → BeginsNode count old begun
      → SendsRest names object children ((inner, rest) ∷ opens) begun new
      → SendsRest names object (Tree rule start end children rest) opens old new
  SendsRest-open rule start end count children rest inner opens old begun new rules starts ends counted full begins sent =
      let closes : EndsNode (name_at names rule) start end sent.0 sent.1 =
      subst (λ r. EndsNode (name_at names r) start end sent.0 sent.1) rules
      (subst (λ s. EndsNode (name_at names inner.node.rule) s end sent.0 sent.1) starts
      (subst (λ e. EndsNode (name_at names inner.node.rule) inner.node.span.start e sent.0 sent.1) ends sent.3)) in
      let node = node-sent rule start end count children old begun sent.0 sent.1 counted full begins sent.2 closes in
      by opens sent.4 node
    where
      by : (opens : List OpenThen) → SendsRest names object rest opens sent.1 new
          → SendsValue (object rule start end (objects_by object children)) old sent.1
          → SendsRest names object (Tree rule start end children rest) opens old new
      by [] more node = (sent.1, node, more)
      by (next ∷ opens) more node = (more.0, more.1, (sent.1, node, more.2), more.3, more.4)

  -- a node without children: the trees after it come next
  SendsRest-alone : (rule start end : ℕ) (rest : Trees) (opens : List OpenThen) (old ended new : Log)
      → SendsValue (object rule start end []) old ended → SendsRest names object rest opens ended new
      → SendsRest names object (Tree rule start end NoTrees rest) opens old new
  SendsRest-alone rule start end rest [] old ended new node more = (ended, node, more)
  SendsRest-alone rule start end rest (next ∷ opens) old ended new node more =
      (more.0, more.1, (ended, node, more.2), more.3, more.4)

  -- the end of the innermost open node: the trees after it come next
  SendsRest-close : (inner : Open) (rest : Trees) (opens : List OpenThen) (old ended new : Log)
      → EndsNode (name_at names inner.node.rule) inner.node.span.start inner.node.span.end old ended
      → SendsRest names object rest opens ended new → SendsRest names object NoTrees ((inner, rest) ∷ opens) old new
  SendsRest-close inner rest opens old ended new ends more = (old, ended, refl, ends, more)

  -- the progress of serialization: the trees that come next, and the open nodes around them
  pub record IsSent (rows : List TreeNode) (bound at : ℕ) (stack : List Open) (whole : List Data) (start now : Log) : Type 0 where
    pub next : Trees
    pub opens : List OpenThen
    pub stacked : reverse stack ≡ map (λ inner. inner.0) opens
    pub left : map row_of (drop at rows) ≡ rows_of next ++ rows_after opens
    pub ends : EndAt bound (at + nodes next) opens
    pub sends : (last : Log) → SendsRest names object next opens now last → WritesEach SendsValue whole start last

  -- at the start nothing has been serialized
  pub none-sent : (rows : List TreeNode) (bound : ℕ) (tree : Trees) (start : Log) → IsOneTree (map row_of rows)
      → trees_of (map row_of rows) ≡ tree → IsSent rows bound 0 [] (objects_by object tree) start start
  none-sent rows bound tree start one same = record {
    next = tree;
    opens = [];
    stacked = refl;
    left = sym (IsForest-from_one_tree (map row_of rows) one) ∙ ap rows_of same ∙ sym (append-nil (rows_of tree));
    ends = tt;
    sends = λ last sent. sent;
  }

  -- no trees come next if the innermost open node has ended
  none-next : (next : Trees) (opens : List OpenThen) (bound at : ℕ) → EndAt bound (at + nodes next) opens
      → (inner : Open) (stack : List Open) → inner ∷ stack ≡ map (λ o. o.0) opens → inner.end ≤ at → next ≡ NoTrees
  none-next NoTrees opens bound at ends inner stack stacked ended = refl
  none-next (Tree rule start end children rest) [] bound at ends inner stack stacked ended = absurd cc
  none-next (Tree rule start end children rest) (first ∷ opens) bound at ends inner stack stacked ended =
      let top : first.0 ≡ inner = ap (λ (l : List Open). get_or l 0 inner) (sym stacked) in
      let end : inner.end ≡ at + nodes (Tree rule start end children rest) = ap (λ (o : Open). o.end) (sym top) ∙ ends.1 in
      absurd (omega arith)

  -- one step: an open node ends
  pub end-sent : (rows : List TreeNode) (bound at : ℕ) (stack less : List Open) (top : Open) (whole : List Data)
      (start now ended : Log) → reverse stack ≡ top ∷ reverse less → top.end ≤ at
      → EndsNode (name_at names top.node.rule) top.node.span.start top.node.span.end now ended
      → IsSent rows bound at stack whole start now → IsSent rows bound at less whole start ended
  end-sent rows bound at stack less top whole start now ended popped over closes is =
      let stacked : top ∷ reverse less ≡ map (λ o. o.0) is.opens = sym popped ∙ is.stacked in
      let none = none-next is.next is.opens bound at is.ends top (reverse less) stacked over in
      by is.next is.opens none stacked is.left is.ends is.sends
    where
      by : (next : Trees) (opens : List OpenThen) → next ≡ NoTrees → top ∷ reverse less ≡ map (λ o. o.0) opens
          → map row_of (drop at rows) ≡ rows_of next ++ rows_after opens → EndAt bound (at + nodes next) opens
          → ((last : Log) → SendsRest names object next opens now last → WritesEach SendsValue whole start last)
          → IsSent rows bound at less whole start ended
      by (Tree rule begin end children rest) opens none stacked left ends sends = absurd cc
      by NoTrees [] none stacked left ends sends = absurd cc
      by NoTrees (first ∷ opens) none stacked left ends sends =
          let same : first.0 ≡ top = ap (λ (l : List Open). get_or l 0 top) (sym stacked) in
          let nth : at + nodes NoTrees ≡ at = omega arith in
          record {
            next = first.1;
            opens = opens;
            stacked = ap (drop 1) stacked;
            left = left;
            ends = subst (λ n. EndAt bound (n + nodes first.1) opens) nth ends.2;
            sends = λ last more. sends last (SendsRest-close first.0 first.1 opens now ended last
                (subst (λ (o : Open). EndsNode (name_at names o.node.rule) o.node.span.start o.node.span.end now ended) (sym same) closes) more);
          }

  -- the rule of the innermost open node is below the bound
  pub top-below : (rows : List TreeNode) (bound at : ℕ) (stack less : List Open) (top : Open) (whole : List Data)
      (start now : Log) → reverse stack ≡ top ∷ reverse less → IsSent rows bound at stack whole start now → top.node.rule < bound
  top-below rows bound at stack less top whole start now popped is = by is.opens (sym popped ∙ is.stacked) is.ends
    where
      by : (opens : List OpenThen) → top ∷ reverse less ≡ map (λ o. o.0) opens → EndAt bound (at + nodes is.next) opens → top.node.rule < bound
      by [] stacked ends = absurd cc
      by (first ∷ opens) stacked ends =
          subst (λ (o : Open). o.node.rule < bound) (ap (λ (l : List Open). get_or l 0 top) (sym stacked)) ends.0

  -- if the innermost open node has not ended, more nodes come below it
  past-top : (opens : List OpenThen) (bound at : ℕ) (stack : List Open) → reverse stack ≡ map (λ o. o.0) opens
      → IsOpenPast at (reverse stack) → EndAt bound (at + nodes NoTrees) opens → opens ≡ []
  past-top [] bound at stack stacked past ends = refl
  past-top (first ∷ opens) bound at stack stacked past ends =
      let inner : at < first.0.end = subst (IsOpenPast at) stacked past in
      absurd (omega (arith, ends.1))

  -- one step: the next node begins
  pub begin-sent : (rows : List TreeNode) (one : IsOneTree (map row_of rows)) (bound at : ℕ) (stack more : List Open)
      (whole : List Data) (start now begun : Log) → at < length rows → IsOpenPast at (reverse stack)
      → Opens rows at stack more → ((node : TreeNode) → node ≡ get_or rows at node → node.rule < bound)
      → ((node : TreeNode) → node ≡ get_or rows at node → (rule start end : ℕ) (children : Trees)
      → node.size ≡ 1 + nodes children → IsWithChildren rule start end children)
      → BeginsNode (root_count (node_at (trees_of (map row_of rows)) at).children) now begun
      → IsSent rows bound at stack whole start now → IsSent rows bound (at + 1) more whole start begun
  begin-sent rows one bound at stack more whole start now begun within past pushed below full begins is =
      by is.next is.opens is.stacked is.left is.ends is.sends
    where
      top : Open
      top = pushed.0

      node : TreeNode
      node = pushed.0.node

      here : map row_of (drop at rows) ≡ row_of node ∷ map row_of (drop (at + 1) rows)
      here = rows_from rows at node within pushed.2

      by : (next : Trees) (opens : List OpenThen) → reverse stack ≡ map (λ o. o.0) opens
          → map row_of (drop at rows) ≡ rows_of next ++ rows_after opens → EndAt bound (at + nodes next) opens
          → ((last : Log) → SendsRest names object next opens now last → WritesEach SendsValue whole start last)
          → IsSent rows bound (at + 1) more whole start begun
      by NoTrees opens stacked left ends sends =
          let none = past-top opens bound at stack stacked past ends in
          let empty : row_of node ∷ map row_of (drop (at + 1) rows) ≡ [] = sym here ∙ left ∙ ap rows_after none in
          absurd cc
      by (Tree rule begin end children rest) opens stacked left ends sends =
          let row : Row = record { rule = rule; start = begin; end = end; size = 1 + nodes children } in
          let same : row_of node ∷ map row_of (drop (at + 1) rows) ≡ row ∷ ((rows_of children ++ rows_of rest) ++ rows_after opens) = sym here ∙ left in
          let head : row_of node ≡ row = ap (λ (l : List Row). get_or l 0 row) same in
          let following : map row_of (drop (at + 1) rows) ≡ rows_of children ++ (rows_of rest ++ rows_after opens) =
          ap (drop 1) same ∙ append_assoc (rows_of children) (rows_of rest) (rows_after opens) in
          let size : node.size ≡ 1 + nodes children = ap (λ (r : Row). r.size) head in
          let count = children_here rows one at node within pushed.2 children (rows_of rest ++ rows_after opens) following size in
          let nth : at + nodes (Tree rule begin end children rest) ≡ (at + 1 + nodes children) + nodes rest = omega arith in
          let ending : top.end ≡ at + 1 + nodes children = omega (arith, pushed.3) in
          record {
            next = children;
            opens = (top, rest) ∷ opens;
            stacked = ap reverse pushed.1 ∙ reverse-append stack (top ∷ []) ∙ ap (λ (l : List Open). top ∷ l) stacked;
            left = following;
            ends = (below node pushed.2, ending, subst (λ n. EndAt bound n opens) nth ends);
            sends = λ last sent. sends last (SendsRest-open rule begin end (root_count (node_at (trees_of (map row_of rows)) at).children)
                children rest top opens now begun last (ap (λ (r : Row). r.rule) head) (ap (λ (r : Row). r.start) head)
                (ap (λ (r : Row). r.end) head) (ap root_count count) (full node pushed.2 rule begin end children size) begins sent);
          }

  -- one step: the next node, which has no children
  pub alone-sent : (rows : List TreeNode) (bound at : ℕ) (stack : List Open) (whole : List Data) (start now ended : Log)
      (node : TreeNode) → at < length rows → node ≡ get_or rows at node → node.size ≡ 1 → IsOpenPast at (reverse stack)
      → SendsValue (object node.rule node.span.start node.span.end []) now ended
      → IsSent rows bound at stack whole start now → IsSent rows bound (at + 1) stack whole start ended
  alone-sent rows bound at stack whole start now ended node within node-is alone past value is =
      by is.next is.opens is.stacked is.left is.ends is.sends
    where
      here : map row_of (drop at rows) ≡ row_of node ∷ map row_of (drop (at + 1) rows)
      here = rows_from rows at node within node-is

      by : (next : Trees) (opens : List OpenThen) → reverse stack ≡ map (λ o. o.0) opens
          → map row_of (drop at rows) ≡ rows_of next ++ rows_after opens → EndAt bound (at + nodes next) opens
          → ((last : Log) → SendsRest names object next opens now last → WritesEach SendsValue whole start last)
          → IsSent rows bound (at + 1) stack whole start ended
      by NoTrees opens stacked left ends sends =
          let none = past-top opens bound at stack stacked past ends in
          let empty : row_of node ∷ map row_of (drop (at + 1) rows) ≡ [] = sym here ∙ left ∙ ap rows_after none in
          absurd cc
      by (Tree rule begin end (Tree first from to below beside) rest) opens stacked left ends sends =
          let children = Tree first from to below beside in
          let row : Row = record { rule = rule; start = begin; end = end; size = 1 + nodes children } in
          let same : row_of node ∷ map row_of (drop (at + 1) rows) ≡ row ∷ ((rows_of children ++ rows_of rest) ++ rows_after opens) = sym here ∙ left in
          let size : node.size ≡ 1 + nodes children = ap (λ (l : List Row). (get_or l 0 row).size) same in
          absurd (omega arith)
      by (Tree rule begin end NoTrees rest) opens stacked left ends sends =
          let row : Row = record { rule = rule; start = begin; end = end; size = 1 } in
          let same : row_of node ∷ map row_of (drop (at + 1) rows) ≡ row ∷ (rows_of rest ++ rows_after opens) = sym here ∙ left in
          let head : row_of node ≡ row = ap (λ (l : List Row). get_or l 0 row) same in
          let nth : at + nodes (Tree rule begin end NoTrees rest) ≡ at + 1 + nodes rest = omega arith in
          let sent : SendsValue (object rule begin end []) now ended =
          subst (λ (r : Row). SendsValue (object r.rule r.start r.end []) now ended) head value in
          record {
            next = rest;
            opens = opens;
            stacked = stacked;
            left = ap (drop 1) same;
            ends = subst (λ n. EndAt bound n opens) nth ends;
            sends = λ last more. sends last (SendsRest-alone rule begin end rest opens now ended last sent more);
          }

  -- if no node is left and no open node has ended, the whole tree has been serialized
  pub all-sent : (rows : List TreeNode) (bound at : ℕ) (stack : List Open) (tree : Trees) (start now : Log)
      → IsOneTree (map row_of rows) → trees_of (map row_of rows) ≡ tree → length rows ≤ at → IsOpenPast at (reverse stack)
      → IsSent rows bound at stack (objects_by object tree) start now
      → (root : Data) × (objects_by object tree ≡ root ∷ []) × SendsValue root start now
  all-sent rows bound at stack tree start now one same over past is =
      let none : map row_of (drop at rows) ≡ [] = ap (map row_of) (drop_all at rows over) in
      root-sent (by is.next is.opens is.stacked (sym none ∙ is.left) is.ends is.sends)
    where
      by : (next : Trees) (opens : List OpenThen) → reverse stack ≡ map (λ o. o.0) opens → [] ≡ rows_of next ++ rows_after opens
          → EndAt bound (at + nodes next) opens
          → ((last : Log) → SendsRest names object next opens now last → WritesEach SendsValue (objects_by object tree) start last)
          → WritesEach SendsValue (objects_by object tree) start now
      by (Tree rule begin end children rest) opens stacked left ends sends = absurd cc
      by NoTrees opens stacked left ends sends =
          let none = past-top opens bound at stack stacked past ends in
          sends now (subst (λ (l : List OpenThen). SendsRest names object NoTrees l now now) (sym none) refl)

      spelled : tree ≡ Tree one.rule one.start one.end one.children NoTrees
      spelled = sym same ∙ ap trees_of one.spelled ∙ trees_of-rows_of (Tree one.rule one.start one.end one.children NoTrees)

      root-sent : WritesEach SendsValue (objects_by object tree) start now
          → (root : Data) × (objects_by object tree ≡ root ∷ []) × SendsValue root start now
      root-sent each =
          let root = object one.rule one.start one.end (objects_by object one.children) in
          let single : objects_by object tree ≡ root ∷ [] = ap (objects_by object) spelled in
          let sent = subst (λ (l : List Data). WritesEach SendsValue l start now) single each in
          (root, single, subst (λ log. SendsValue root start log) (sym sent.2) sent.1)
