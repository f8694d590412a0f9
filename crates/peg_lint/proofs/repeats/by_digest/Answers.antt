use Rattle.std.proofs.Common.{◌≤◌, length}
use Rattle.std.proofs.lemmas.List.Sorted.{All-permutation}
use Rattle.peg_lint.specs.declared.repeats.Alternative.{Alternative}
use Rattle.peg_lint.proofs.repeats.by_digest.Goals as goal

pub returns : goal.returns
returns c =
    All-permutation (λ (one : Alternative). one.number ≤ length c.args.rest.now) c.rest.all.items
    c.sort_by_key.new.self.items c.sort_by_key.ensures.permutation c.rest.invariant
