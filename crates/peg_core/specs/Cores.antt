-- The model of a grammar's core forms, and their invariant.
use Rattle.std.specs.Prelude.{◌≡◌, ℕ, ◌<◌, ◌≤◌, All, length, map, slice_index_or}
use Rattle.peg_semantics.specs.Grammar.{max_parts}
use Rattle.peg_core.specs.CoreLoops.{IsSubformOfBody}
use Rattle.peg_core.specs.Layout.{Desugared, form_at}
use Rattle.peg_core.specs.declared.core_forms.Core.TheInside.{Inside}

-- the forms, the numbers of the rules' bodies, and the spans of the terminals
abbrev pub desugared_of : Inside → Desugared
desugared_of core = record { forms = core.builder.forms; bodies = core.bodies.items; spans = core.builder.spans }

-- each rule has a body, which is one of the forms, and each form is part of one of the bodies
pub record IsCore (core : Inside) : Type 0 where
  pub rules : length core.bodies.items ≡ core.builder.rules
  pub few : core.builder.rules ≤ max_parts
  pub within : (k d : ℕ) → k < length core.bodies.items
      → slice_index_or core.bodies.items k d < length core.builder.forms
  pub owned : All (IsSubformOfBody (map (form_at core.builder.forms) core.bodies.items)) core.builder.forms
