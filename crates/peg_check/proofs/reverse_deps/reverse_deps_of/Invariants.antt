use Rattle.std.proofs.Common.{ℕ, ◌*◌, ◌<◌, ◌≤◌, length, get_or}
use Rattle.peg_check.specs.ReverseDeps.{AreChains, HasDependent}
use Rattle.peg_check.specs.Dependencies.{DependsOn}
use Rattle.peg_check.specs.declared.dependency.Dependency.{Dependency}
use Rattle.peg_check.proofs.reverse_deps.reverse_deps_of.Given as goal

-- the forms so far are among the users of their dependencies
abbrev pub invariant-loop-dependent : goal.invariant-loop-dependent
invariant-loop-dependent l = record {
  chains : AreChains (length l.deps) l.reverse_deps;
  room : length l.reverse_deps.entries.items ≤ 2 * l.dependent;
  dependents : (dependent : ℕ) (d : Dependency) (part : ℕ) → dependent < l.dependent → DependsOn (get_or l.deps dependent d) part → HasDependent l.reverse_deps part dependent;
}
