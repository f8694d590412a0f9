use Rattle.std.proofs.Common.{◌≡◌, drop, max}
use Rattle.peg_messages.specs.Found.{longest_literal}
use Rattle.peg_messages.proofs.found.longest_literal.Given as goal

-- the longest so far, or the longest of the other items
abbrev pub invariant-items : goal.invariant-items
invariant-items l =
    max l.longest (longest_literal l.grammar l.first (drop l.item-index l.items)) ≡ longest_literal l.grammar l.first l.items
