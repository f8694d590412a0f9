-- Describes code: what is written of a reply, and how a request ends that writes it.
use Rattle.std.specs.Prelude.{◌≡◌, ℕ, List, Option, Result, Ok, Err}
use Rattle.std.specs.Io.KnownBytes.{Appends, Keeps}
use Rattle.peg_io.specs.Transfer.{AppendsProperPrefix}
use Rattle.peg_io.specs.declared.transfer.ReadFault.{ReadFault}
use Rattle.peg_io.specs.declared.transfer.ReadFault.TheVariants as read
use Rattle.peg_json.specs.Lines.{line_bytes}
use Rattle.peg_json.specs.Statuses.{status_code}
use Rattle.peg_json.specs.declared.line.Line.{Line}
use Rattle.peg_tool.specs.declared.program.ProgramFault.{ProgramFault}
use Rattle.peg_tool.specs.declared.program.ProgramFault.TheVariants.{File, Memory}

-- How a request ends with a reply. The line is written, and its exit status is returned; if a write fails a proper
-- prefix of the line is written. If a read or an allocation fails nothing is written. A failed read or write is a file
-- fault.
abbrev pub WritesRequestReply : Result Line ReadFault → (old new : Option (List ℕ)) → Result ℕ ProgramFault → Type 0
WritesRequestReply (Ok line) old new (Ok status) =
    Appends old new (line_bytes line) × (status ≡ status_code line.status)
WritesRequestReply (Ok line) old new (Err File) = AppendsProperPrefix old new (line_bytes line)
WritesRequestReply (Ok line) old new (Err Memory) = ⊥
WritesRequestReply (Err read.Device) old new result = (result ≡ Err File) × Keeps old new
WritesRequestReply (Err read.Memory) old new result = (result ≡ Err Memory) × Keeps old new
