-- Items: the terminals and predicates of an expression, except those inside predicates. An item is what a message for a
-- person can report as expected. This is the project's own definition; Ford's papers have no failure positions.
use Rattle.std.specs.Prelude.{ℕ, ◌+◌, List, [], ◌∷◌, ◌++◌, flat_map, Option, None, Some, bytes_eq, if◌then◌else◌, replicate}
use Rattle.peg_bytes.specs.Extent.{Extent}
use Rattle.peg_semantics.specs.Form.{Form, Forms, Literal, Class, Any, Name, Seq, Choice, Optional, Star, Plus, Counted}
use Rattle.peg_semantics.specs.Form.{And, Not, End, Then}
use Rattle.peg_semantics.specs.Rules.{Rule, Meaning}

-- The number of items in an expression. A literal, a class and a dot are one item each, and so is a predicate with all
-- that it contains.
abbrev mutual
  pub items : Form → ℕ
  items (Literal bytes span) = 1
  items (Class set span) = 1
  items (Any span) = 1
  items (Name name span) = 0
  items (Seq parts span) = items_of_all parts
  items (Choice first rest span) = items first + items_of_all rest
  items (Optional part span) = items part
  items (Star part span) = items part
  items (Plus part span) = items part
  items (Counted part min max span) = items part
  items (And part span) = 1
  items (Not part span) = 1

  pub items_of_all : Forms → ℕ
  items_of_all End = 0
  items_of_all (Then e rest) = items e + items_of_all rest

-- The first rule of the given name, if the first rule of the list has number `rule` and first item `item`. In the
-- result `terminal` is the number of the rule's first item. Items are numbered from 0 in written order, rule by rule.
abbrev pub item_meaning_from : ℕ → ℕ → List Rule → List ℕ → Option Meaning
item_meaning_from rule item [] name = None
item_meaning_from rule item (r ∷ rs) name =
    if bytes_eq name r.name
    then Some (record { rule = rule; terminal = item; body = r.body })
    else item_meaning_from (rule + 1) (item + items r.body) rs name

-- the rule that a name refers to in a grammar, with the number of its first item
abbrev pub item_meaning_of : List Rule → List ℕ → Option Meaning
item_meaning_of rules name = item_meaning_from 0 0 rules name

-- The expressions that are an expression's items, in written order.
abbrev mutual
  pub item_forms : Form → List Form
  item_forms (Literal bytes span) = Literal bytes span ∷ []
  item_forms (Class set span) = Class set span ∷ []
  item_forms (Any span) = Any span ∷ []
  item_forms (Name name span) = []
  item_forms (Seq parts span) = item_forms_of_all parts
  item_forms (Choice first rest span) = item_forms first ++ item_forms_of_all rest
  item_forms (Optional part span) = item_forms part
  item_forms (Star part span) = item_forms part
  item_forms (Plus part span) = item_forms part
  item_forms (Counted part min max span) = item_forms part
  item_forms (And part span) = And part span ∷ []
  item_forms (Not part span) = Not part span ∷ []

  pub item_forms_of_all : Forms → List Form
  item_forms_of_all End = []
  item_forms_of_all (Then e rest) = item_forms e ++ item_forms_of_all rest

-- the expressions that are the rules' items, by item number: rule by rule, left to right
abbrev pub forms_of_items : List Rule → List Form
forms_of_items rules = flat_map (λ rule. item_forms rule.body) rules

-- The extents of an expression's items, in written order.
abbrev mutual
  pub item_extents : Form → List Extent
  item_extents (Literal bytes span) = span ∷ []
  item_extents (Class set span) = span ∷ []
  item_extents (Any span) = span ∷ []
  item_extents (Name name span) = []
  item_extents (Seq parts span) = item_extents_of_all parts
  item_extents (Choice first rest span) = item_extents first ++ item_extents_of_all rest
  item_extents (Optional part span) = item_extents part
  item_extents (Star part span) = item_extents part
  item_extents (Plus part span) = item_extents part
  item_extents (Counted part min max span) = item_extents part
  item_extents (And part span) = span ∷ []
  item_extents (Not part span) = span ∷ []

  pub item_extents_of_all : Forms → List Extent
  item_extents_of_all End = []
  item_extents_of_all (Then e rest) = item_extents e ++ item_extents_of_all rest

-- the extents of the rules' items by item number: rule by rule, left to right
abbrev pub extents_of_items : List Rule → List Extent
extents_of_items rules = flat_map (λ rule. item_extents rule.body) rules

-- the number of the rule that each item is in, by item number, if the first rule of the list has number `rule`
abbrev pub rules_of_items_from : (rule : ℕ) → List Rule → List ℕ
rules_of_items_from rule [] = []
rules_of_items_from rule (r ∷ rs) = replicate (items r.body) rule ++ rules_of_items_from (rule + 1) rs

-- the same for a grammar, whose first rule has number 0
abbrev pub rules_of_items : List Rule → List ℕ
rules_of_items rules = rules_of_items_from 0 rules
