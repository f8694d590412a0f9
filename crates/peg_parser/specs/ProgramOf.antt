-- Describes code: the program of a grammar.
use Rattle.std.specs.Prelude.{◌≡◌, List, None}
use Rattle.peg_code.specs.Code.{entries_of, program_code}
use Rattle.peg_code.specs.Compiled.{Compiled}
use Rattle.peg_core.specs.CoreForm.{core_bodies}
use Rattle.peg_core.specs.Layout.{bodies_of}
use Rattle.peg_semantics.specs.Rules.{Rule}
use Rattle.peg_semantics.specs.Terminals.{extents_of_terminals}

-- a program with the core forms, the terminals and the code of these rules, which shows all of them
pub record IsProgramOf (rules : List Rule) (program : Compiled) : Type 0 where
  pub bodies : bodies_of program.core ≡ core_bodies rules
  pub spans : program.core.spans ≡ extents_of_terminals rules
  pub code : program.code ≡ program_code (core_bodies rules)
  pub entries : program.entries ≡ entries_of (core_bodies rules)
  pub all_shown : program.shown ≡ None
