use Rattle.std.proofs.Common.{◌≡◌, ◌++◌, length, map}
use Rattle.std.specs.List.{flat_map}
use Rattle.peg_messages.specs.Sentences.{arrowed}
use Rattle.peg_messages.proofs.sentences.write_arrowed.Given as goal

abbrev pub invariant-names : goal.invariant-names
invariant-names l =
    l.out.items ++ flat_map arrowed (map (λ name. name.now) l.rest)
    ≡ l.initial.out.items ++ flat_map arrowed (map (λ name. name.now) l.names)

abbrev pub decreases-names : goal.decreases-names
decreases-names l = length l.rest
