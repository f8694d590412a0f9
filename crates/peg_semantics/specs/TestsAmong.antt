-- The failed tests of some of the terminals, by their index in a list. This is the project's own definition, as the
-- furthest failure is.
use Rattle.std.specs.Prelude.{ℕ, List, Option, option_map, filter_map, ◌==◌}
use Rattle.std.specs.List.{position_from}
use Rattle.peg_semantics.specs.Record.{Test, test_of}

-- the first index of a terminal in a list of terminals, if it is there
abbrev pub index_in : (terminals : List ℕ) → (terminal : ℕ) → Option ℕ
index_in terminals terminal = position_from (λ listed. listed == terminal) 0 terminals

-- a failed test with the new number of its terminal, if the terminal has one
abbrev pub renumbered : (number : ℕ → Option ℕ) → Test → Option Test
renumbered number test = option_map (λ new. test_of new test.position) (number test.terminal)

-- the failed tests of the listed terminals, in order, each with the index of its terminal in the list
abbrev pub tests_among : (terminals : List ℕ) → List Test → List Test
tests_among terminals tests = filter_map (renumbered (index_in terminals)) tests
