use Rattle.std.proofs.Common.{◌≡◌, map, take}
use Rattle.peg_explain.specs.Expected.{facts_in}
use Rattle.peg_explain.specs.Explanations.{fact_of, item_numbered}
use Rattle.peg_explain.proofs.expected.listed_items.Given as goal

-- the items with the first numbers
abbrev pub invariant-numbers : goal.invariant-numbers
invariant-numbers l =
    map fact_of l.list.items
    ≡ map (item_numbered (facts_in l.items l.rests)) (take l.number-index l.numbers)
