-- Starts and step limits, as C code gives them.
use Rattle.std.specs.Prelude.{ℕ, ◌==◌, List, [], ◌∷◌, Option, None, Some, if◌then◌else◌}

-- the start that bytes name: none if there are no bytes
abbrev pub start_of_bytes : List ℕ → Option (List ℕ)
start_of_bytes [] = None
start_of_bytes (byte ∷ bytes) = Some (byte ∷ bytes)

-- the step limit that a number sets: none for 0
abbrev pub step_limit : ℕ → Option ℕ
step_limit steps = if steps == 0 then None else Some steps
