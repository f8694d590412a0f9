-- Where the terminals and the items of an expression are numbered from, in the diagnostic grammar.
use Rattle.std.specs.Prelude.{◌≡◌, ℕ, ◌+◌, ◌<◌, Option, None, Some}
use Rattle.peg_semantics.specs.Form.{Form, Forms, Literal, Class, Any, Name, Seq, Choice, Optional, Star, Plus, Counted}
use Rattle.peg_semantics.specs.Form.{And, Not, End, Then, terminals}
use Rattle.peg_diagnostics.specs.Diagnostic.{loud}
use Rattle.peg_diagnostics.specs.Items.{items}

-- An item with some terminals from a number on: these are no added empty classes, and the one after them is the item's.
abbrev pub IsItemAt : (ℕ → Option ℕ) → (count terminal number : ℕ) → Type 0
IsItemAt item count terminal number =
    ((k : ℕ) → k < count → item (terminal + k) ≡ None) × (item (terminal + count) ≡ Some number)

-- The added empty classes of a loud expression are those of the expression's items, from the given numbers on.
abbrev mutual
  pub IsPlaced : (ℕ → Option ℕ) → Form → (terminal number : ℕ) → Type 0
  IsPlaced item (Literal bytes span) terminal number = IsItemAt item 1 terminal number
  IsPlaced item (Class set span) terminal number = IsItemAt item 1 terminal number
  IsPlaced item (Any span) terminal number = IsItemAt item 1 terminal number
  IsPlaced item (Name name span) terminal number = Unit {0}
  IsPlaced item (Seq parts span) terminal number = AreAllPlaced item parts terminal number
  IsPlaced item (Choice first rest span) terminal number =
      IsPlaced item first terminal number
      × AreAllPlaced item rest (terminal + terminals (loud first)) (number + items first)
  IsPlaced item (Optional part span) terminal number = IsPlaced item part terminal number
  IsPlaced item (Star part span) terminal number = IsPlaced item part terminal number
  IsPlaced item (Plus part span) terminal number = IsPlaced item part terminal number
  IsPlaced item (Counted part min max span) terminal number = IsPlaced item part terminal number
  IsPlaced item (And part span) terminal number = IsItemAt item (terminals part) terminal number
  IsPlaced item (Not part span) terminal number = IsItemAt item (terminals part) terminal number

  pub AreAllPlaced : (ℕ → Option ℕ) → Forms → (terminal number : ℕ) → Type 0
  AreAllPlaced item End terminal number = Unit {0}
  AreAllPlaced item (Then e rest) terminal number =
      IsPlaced item e terminal number × AreAllPlaced item rest (terminal + terminals (loud e)) (number + items e)
