-- What a request promises, however its end is reported.
use Rattle.std.specs.Prelude.{◌≡◌, ◌⊎◌, ◌↔◌, ℕ, Bool, true, IsSome, List, Option, Some}
use Rattle.std.specs.Io.KnownBytes.{Keeps}
use Rattle.peg_io.specs.NamedFile.{NamedFile}
use Rattle.peg_tool.specs.Requests.{ToolRequest, EndsWithInput, HasReadableFiles, IsExplainRequest, IsTestRequest, LacksGrammar, LacksText, ReadsInput, WritesEarly}
use Rattle.peg_tool.specs.declared.program.ProgramFault.{ProgramFault}
use Rattle.peg_tool.specs.declared.program.ProgramFault.TheVariants.{File, Memory}

-- How a request ends, over files by name. `fault` is the fault that it ends with, if there is one. `SameInput` and
-- `SameOutput` say that the input and the output are as before. `old` and `new` are the bytes written before and after.
pub record EndsAs (request : ToolRequest) (file_at : List ℕ → NamedFile) (fault : Option ProgramFault)
    (input_failed output_failed : Bool) (SameInput SameOutput : Type 0) (old new : Option (List ℕ)) : Type 0 where
  pub unread : ¬ ReadsInput request → SameInput
  -- a grammar that can't be opened is reported first, then a text; nothing is written then
  pub no_grammar : LacksGrammar request file_at → (fault ≡ Some File) × SameOutput
  pub no_text : LacksText request file_at → IsSome fault × SameOutput
  -- with readable files, a failed input or output is a file fault, and nothing else is
  pub device_fault : HasReadableFiles request file_at
      → ((fault ≡ Some File) ↔ ((input_failed ≡ true) ⊎ (output_failed ≡ true)))
  -- with other files, too, a failed output is reported
  pub write_fault : output_failed ≡ true → fault ≡ Some File
  -- so is a failed input, unless an explanation reports it
  pub input_fault : EndsWithInput request → input_failed ≡ true → fault ≡ Some File
  -- of an explanation, only a failed output is a file fault
  pub explain_fault : IsExplainRequest request → ((fault ≡ Some File) ↔ (output_failed ≡ true))
  -- the same of a test, and of messages about a grammar
  pub test_fault : IsTestRequest request → ((fault ≡ Some File) ↔ (output_failed ≡ true))
  -- if an allocation fails nothing is written, but by a request that writes early
  pub memory : ¬ WritesEarly request → fault ≡ Some Memory → Keeps old new
