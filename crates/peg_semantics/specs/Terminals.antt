-- The extents of terminals in the file, in written order. Terminals are literals, classes and dots.
use Rattle.std.specs.Prelude.{List, [], ◌∷◌, ◌++◌, flat_map}
use Rattle.peg_bytes.specs.Extent.{Extent}
use Rattle.peg_semantics.specs.Form.{Form, Forms, Literal, Class, Any, Name, Seq, Choice, Optional, Star, Plus, Counted}
use Rattle.peg_semantics.specs.Form.{And, Not, End, Then}
use Rattle.peg_semantics.specs.Rules.{Rule}

-- The extents of an expression's terminals in written order, including `''` and the empty class.
abbrev mutual
  pub terminal_extents : Form → List Extent
  terminal_extents (Literal bytes span) = span ∷ []
  terminal_extents (Class set span) = span ∷ []
  terminal_extents (Any span) = span ∷ []
  terminal_extents (Name name span) = []
  terminal_extents (Seq items span) = terminal_extents_of_all items
  terminal_extents (Choice first rest span) = terminal_extents first ++ terminal_extents_of_all rest
  terminal_extents (Optional part span) = terminal_extents part
  terminal_extents (Star part span) = terminal_extents part
  terminal_extents (Plus part span) = terminal_extents part
  terminal_extents (Counted part min max span) = terminal_extents part
  terminal_extents (And part span) = terminal_extents part
  terminal_extents (Not part span) = terminal_extents part

  pub terminal_extents_of_all : Forms → List Extent
  terminal_extents_of_all End = []
  terminal_extents_of_all (Then e rest) = terminal_extents e ++ terminal_extents_of_all rest

-- the extents of the rules' terminals by terminal number: rule by rule, left to right
abbrev pub extents_of_terminals : List Rule → List Extent
extents_of_terminals rules = flat_map (λ rule. terminal_extents rule.body) rules
