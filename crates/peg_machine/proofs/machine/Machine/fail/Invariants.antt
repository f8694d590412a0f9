use Rattle.std.proofs.Common.{◌≡◌, ◌⊎◌, [], map}
use Rattle.peg_machine.specs.RunInvariant.{Trace}
use Rattle.peg_machine.specs.Machine.{entry_of, state_of, AreCuts, IsFailing}
use Rattle.peg_machine.specs.MachineStates.{HasFailed}
use Rattle.peg_runs.specs.Running.{RunContext}
use Rattle.peg_machine.proofs.machine.Machine.fail.Given as goal

-- the machine still backtracks, or the run has failed and the stack is empty; the store may be cut at each entry
abbrev pub invariant-falls : goal.invariant-falls
invariant-falls g l =
    ((context : RunContext) (trace : Trace) → IsFailing context trace l.initial.self (g.S.NodeStore.state l.initial.store)
    → IsFailing context trace l.self (g.S.NodeStore.state l.store)
    ⊎ ((map entry_of l.self.stack.items ≡ []) × HasFailed context trace (state_of l.self (g.S.NodeStore.state l.store))))
    × AreCuts g.S.NodeStore.cuts l.store l.self × (g.S.NodeStore.lender l.store ≡ g.S.NodeStore.lender l.initial.store)

abbrev pub decreases-falls : goal.decreases-falls
decreases-falls g l = l.self.stack.len
