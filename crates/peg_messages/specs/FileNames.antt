-- Names of files, as messages show them.
use Rattle.std.specs.Prelude.{ℕ, List}
use Rattle.peg_messages.specs.Shown.{shown}
use Rattle.peg_messages.specs.declared.shown.Style.TheVariants.{Spelling}

-- a name is shown as a spelling is: UTF-8 and printable ASCII as they are, other bytes as escapes
abbrev pub shown_name : (name : List ℕ) → List ℕ
shown_name name = shown Spelling name
