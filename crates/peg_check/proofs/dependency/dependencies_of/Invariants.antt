use Rattle.std.proofs.Common.{◌≡◌, length}
use Rattle.peg_check.specs.Dependencies.{AreDependencies}
use Rattle.peg_check.proofs.dependency.dependencies_of.Given as goal

-- the forms so far have their links
abbrev pub invariant-loop-number : goal.invariant-loop-number
invariant-loop-number l = record {
  count : length l.deps.items ≡ l.number;
  linked : AreDependencies l.core l.deps.items;
}
