use Rattle.std.proofs.Common.{◌≡◌, ◌++◌, drop, map, take}
use Rattle.peg_nodes.specs.Places.{flat_place}
use Rattle.peg_nodes.proofs.linked_nodes.flatten_places.Given as goal

-- the places so far are set
abbrev pub invariant-loop-open : goal.invariant-loop-open
invariant-loop-open l = l.open-items ≡ map flat_place (take l.open-index l.fn.opened.items) ++ drop l.open-index
    l.fn.opened.items
