-- Describes code: the rules of the metagrammar in the six parts that the code appends.
use Rattle.std.specs.Prelude.{List, take, drop}
use Rattle.peg_semantics.specs.Rules.{Rule}
use Rattle.peg_metagrammar.specs.Figure.{figure}

abbrev pub grammar_to_identifier : List Rule
grammar_to_identifier = take 8 figure

abbrev pub ident_start_to_slash : List Rule
ident_start_to_slash = take 8 (drop 8 figure)

abbrev pub and_to_star : List Rule
and_to_star = take 4 (drop 16 figure)

abbrev pub plus_to_open : List Rule
plus_to_open = take 4 (drop 20 figure)

abbrev pub close_and_dot : List Rule
close_and_dot = take 2 (drop 24 figure)

abbrev pub spacing_to_end_of_file : List Rule
spacing_to_end_of_file = drop 26 figure
