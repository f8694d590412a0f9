-- Describes code: the program that a `Program` denotes, and its invariant.
use Rattle.std.specs.Prelude.{◌≡◌, ◌≤◌, All, length}
use Rattle.peg_core.specs.Layout.{bodies_of}
use Rattle.peg_code.specs.Code.{entries_of, program_code}
use Rattle.peg_code.specs.Compiled.{Compiled, max_instructions}
use Rattle.peg_code.specs.Instructions.{TestFits}
use Rattle.peg_code.specs.declared.program.Program.TheInside.{Inside}

abbrev pub program_of : Inside → Compiled
program_of program =
    record {
      core = program.checked.core;
      code = program.code;
      entries = program.entries.items;
      shown = program.shown;
    }

-- the code is the code of the core forms, and within the limit
pub record IsProgram (program : Inside) : Type 0 where
  pub code : program.code ≡ program_code (bodies_of program.checked.core)
  pub entries : program.entries.items ≡ entries_of (bodies_of program.checked.core)
  pub few : length program.code ≤ max_instructions
  pub tests : All (TestFits (length program.checked.core.spans)) program.code
