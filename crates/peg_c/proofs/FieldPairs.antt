-- Machine values of structs with two fields.
use mathlib.Core.Bool.{Bool, true, false, ◌&&◌}
use lib.Dec.{T}
use mir.Val.{Val, vstruct, vcons, vnil}

-- the struct whose fields are these
abbrev pub field_pair : (first second : Val) → Val
field_pair first second = vstruct (vcons first (vcons second vnil))

-- what the type test of such a struct computes
pub both_typed : (first second : Bool) → T first → T second → T (first && (second && true))
both_typed true true of_first of_second = tt
both_typed true false of_first of_second = absurd of_second
both_typed false second of_first of_second = absurd of_first
