use Rattle.std.proofs.Common.{◌≤◌, All, length}
use Rattle.peg_lint.proofs.repeats.by_digest.Given as goal

abbrev pub invariant-rest : goal.invariant-rest
invariant-rest l = All (λ one. one.number ≤ length l.rest) l.all.items
