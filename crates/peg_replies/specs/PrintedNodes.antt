-- Which nodes of a tree are printed. The root is printed in any case.
use Rattle.std.specs.Prelude.{◌≡◌, ◌≢◌, ◌<◌, ℕ, Bool, true, not, ◌==◌, List, [], Option, None, Some, find, bytes_eq, length}
use Rattle.std.specs.List.{list_any, slice_split}
use Rattle.peg_code.specs.ShownRules.{is_shown_by}
use Rattle.peg_json.specs.declared.tree_form.TreeForm.{TreeForm}
use Rattle.peg_json.specs.declared.tree_form.TreeForm.TheVariants.{NoTree}
use Rattle.peg_semantics.specs.Rules.{Rule, is_defined, name_of}

-- which nodes are printed: all, those of the rules with the listed names, or all but these
pub data PrintedNodes : Type 0 where
  AllNodes : PrintedNodes
  NodesOf : (listed : List (List ℕ)) → PrintedNodes
  NodesExcept : (listed : List (List ℕ)) → PrintedNodes

-- the names that a text lists: its parts between commas, byte 44
abbrev pub names_listed : List ℕ → List (List ℕ)
names_listed text = slice_split (λ byte. byte == 44) text

-- the nodes that the options for lists of shown and of hidden rules ask for; `show` prevails
abbrev pub nodes_from_options : (show hide : Option (List ℕ)) → PrintedNodes
nodes_from_options (Some text) hide = NodesOf (names_listed text)
nodes_from_options None (Some text) = NodesExcept (names_listed text)
nodes_from_options None None = AllNodes

-- the names that are listed
abbrev pub listed_in : PrintedNodes → List (List ℕ)
listed_in AllNodes = []
listed_in (NodesOf listed) = listed
listed_in (NodesExcept listed) = listed

-- the first listed name, in written order, that no rule has
abbrev pub first_unknown : List Rule → PrintedNodes → Option (List ℕ)
first_unknown rules nodes = find (λ name. not (is_defined rules name)) (listed_in nodes)

-- whether the name of rule number `rule` is listed
abbrev pub is_listed : List Rule → (listed : List (List ℕ)) → (rule : ℕ) → Bool
is_listed rules listed rule = list_any (bytes_eq (name_of rules rule)) listed

-- whether the nodes of rule number `rule` are printed
abbrev pub shown_by : List Rule → PrintedNodes → (rule : ℕ) → Bool
shown_by rules AllNodes rule = true
shown_by rules (NodesOf listed) rule = is_listed rules listed rule
shown_by rules (NodesExcept listed) rule = not (is_listed rules listed rule)

-- Describes code: a set of rules that a parser shows, or all without a set, has the rules whose nodes are printed,
-- unless no tree is printed
abbrev pub ShowsPrinted : List Rule → (set : Option (List Bool)) → TreeForm → PrintedNodes → Type 0
ShowsPrinted rules set form nodes =
    form ≢ NoTree → (rule : ℕ) → rule < length rules → is_shown_by set rule ≡ shown_by rules nodes rule
