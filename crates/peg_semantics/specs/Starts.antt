-- The start rule of a parse, and the record of the parse (Ford 2004, section 3.3).
use Rattle.std.specs.Prelude.{◌≡◌, ℕ, List, Option, None, Some, if◌then◌else◌}
use Rattle.peg_semantics.specs.Record.{Record, start_record}
use Rattle.peg_semantics.specs.Rules.{Rule, name_of, is_defined}

-- the name of the start rule: the given name, or else that of the first rule; none if no rule has the given name
abbrev pub start_name : List Rule → Option (List ℕ) → Option (List ℕ)
start_name rules None = Some (name_of rules 0)
start_name rules (Some name) = if is_defined rules name then Some name else None

-- `r` is the record of the text from the start rule of this name
abbrev pub Recognizes : List Rule → List ℕ → (start : List ℕ) → Record → Type 0
Recognizes rules text start r = (n : ℕ) × (start_record rules text n start ≡ Some r)
