-- Describes code: the state of the reference evaluator, as definitions use it.
use Rattle.std.specs.Prelude.{map}
use Rattle.peg_tree.specs.Rows.{row_of}
use Rattle.peg_semantics.specs.FurthestPass as definition
use Rattle.peg_grammar.specs.Seen.{Evaluation}
use Rattle.peg_grammar.specs.declared.found.Found.{Found}
use Rattle.peg_grammar.specs.declared.found.Furthest.{Furthest}

-- the furthest failure in a `Furthest`
abbrev pub furthest_in : Furthest → definition.Furthest
furthest_in furthest = record { far = furthest.far; expected = furthest.expected.items }

-- the furthest failure and the nodes in a `Found`
abbrev pub seen_in : Found → Evaluation
seen_in found = record { furthest = furthest_in found.furthest; rows = map row_of found.rows.items }
