-- Describes code: what is written of a reply, and how a public call ends that writes it.
use Rattle.std.specs.Prelude.{◌≡◌, ℕ, List, Option, Result, Ok, Err}
use Rattle.std.specs.Io.KnownBytes.{Appends, Keeps}
use Rattle.peg_io.specs.Transfer.{AppendsProperPrefix}
use Rattle.peg_io.specs.declared.transfer.ReadFault.{ReadFault}
use Rattle.peg_io.specs.declared.transfer.ReadFault.TheVariants as read
use Rattle.peg_json.specs.Lines.{line_bytes}
use Rattle.peg_json.specs.Statuses.{status_code}
use Rattle.peg_json.specs.declared.line.Line.{Line}
use Rattle.peg_replies.specs.declared.write.ToolFault.{ToolFault}
use Rattle.peg_replies.specs.declared.write.ToolFault.TheVariants as tool

-- How a public call ends with a reply. The line is written, and its exit status is returned; if a write fails a proper
-- prefix of the line is written. If a read or an allocation fails nothing is written. Out of memory is an exit status.
abbrev pub WritesToolReply : Result Line ReadFault → (old new : Option (List ℕ)) → Result ℕ ToolFault → Type 0
WritesToolReply (Ok line) old new (Ok status) = Appends old new (line_bytes line) × (status ≡ status_code line.status)
WritesToolReply (Ok line) old new (Err tool.WriteFault) = AppendsProperPrefix old new (line_bytes line)
WritesToolReply (Ok line) old new (Err tool.ReadFault) = ⊥
WritesToolReply (Err read.Device) old new result = (result ≡ Err tool.ReadFault) × Keeps old new
WritesToolReply (Err read.Memory) old new result = (result ≡ Ok 5) × Keeps old new
