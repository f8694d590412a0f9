-- The positions of the calls of a rule.
use Rattle.std.specs.Prelude.{◌==◌, ℕ, if◌then◌else◌, List, [], ◌∷◌}
use Rattle.peg_semantics.specs.Record.{RuleCall}

-- the positions at which a list has calls of a rule, in order
abbrev pub positions_of : (rule : ℕ) → List RuleCall → List ℕ
positions_of rule [] = []
positions_of rule (call ∷ calls) =
    if call.rule == rule then call.position ∷ positions_of rule calls else positions_of rule calls
