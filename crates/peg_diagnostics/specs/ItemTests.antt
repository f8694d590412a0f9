-- The failed tests of the empty classes that the diagnostic grammar adds, as failed tests of items.
use Rattle.std.specs.Prelude.{ℕ, ◌+◌, List, [], ◌∷◌, ◌++◌, Option}
use Rattle.peg_semantics.specs.Form.{Form, Forms, Literal, Class, Any, Name, Seq, Choice, Optional, Star, Plus, Counted}
use Rattle.peg_semantics.specs.Form.{And, Not, End, Then, terminals}
use Rattle.peg_semantics.specs.Record.{Test}
use Rattle.peg_semantics.specs.Rules.{Rule}
use Rattle.peg_semantics.specs.TestsAmong.{index_in, tests_among}
use Rattle.peg_diagnostics.specs.Diagnostic.{loud}

-- The terminal number of the empty class that is added for each item of an expression, in written order. `terminal` is
-- the number of the first terminal of the loud expression.
abbrev mutual
  pub added_terminals : Form → (terminal : ℕ) → List ℕ
  added_terminals (Literal bytes span) terminal = (terminal + 1) ∷ []
  added_terminals (Class set span) terminal = (terminal + 1) ∷ []
  added_terminals (Any span) terminal = (terminal + 1) ∷ []
  added_terminals (Name name span) terminal = []
  added_terminals (Seq items span) terminal = added_terminals_of_all items terminal
  added_terminals (Choice first rest span) terminal =
      added_terminals first terminal ++ added_terminals_of_all rest (terminal + terminals (loud first))
  added_terminals (Optional part span) terminal = added_terminals part terminal
  added_terminals (Star part span) terminal = added_terminals part terminal
  added_terminals (Plus part span) terminal = added_terminals part terminal
  added_terminals (Counted part min max span) terminal = added_terminals part terminal
  added_terminals (And part span) terminal = (terminal + terminals part) ∷ []
  added_terminals (Not part span) terminal = (terminal + terminals part) ∷ []

  pub added_terminals_of_all : Forms → (terminal : ℕ) → List ℕ
  added_terminals_of_all End terminal = []
  added_terminals_of_all (Then e rest) terminal =
      added_terminals e terminal ++ added_terminals_of_all rest (terminal + terminals (loud e))

-- the same for rules, given the number of the first terminal of the first loud rule
abbrev pub added_terminals_from : (terminal : ℕ) → List Rule → List ℕ
added_terminals_from terminal [] = []
added_terminals_from terminal (rule ∷ rules) =
    added_terminals rule.body terminal ++ added_terminals_from (terminal + terminals (loud rule.body)) rules

-- the terminal number, in the diagnostic grammar, of the empty class of each item of the rules; in ascending order
abbrev pub item_terminals : List Rule → List ℕ
item_terminals rules = added_terminals_from 0 rules

-- the item whose empty class has a terminal number, if there is one
abbrev pub item_of_terminal : List Rule → (terminal : ℕ) → Option ℕ
item_of_terminal rules terminal = index_in (item_terminals rules) terminal

-- the failed tests of added empty classes, in order, as failed tests of items
abbrev pub item_tests : List Rule → List Test → List Test
item_tests rules tests = tests_among (item_terminals rules) tests
