-- What is written to the output.
use Rattle.std.specs.Prelude.{◌≡◌, ℕ, Bool, true, false, List, [], Option, Result, Ok, Err, string_bytes}
use Rattle.std.specs.Io.KnownBytes.{Appends, Keeps}
use Rattle.peg_io.specs.Transfer.{AppendsProperPrefix}
use Rattle.peg_explain_files.specs.declared.ended.Ended.{Ended}
use Rattle.peg_explain_files.specs.declared.ended.ExplainFault.{ExplainFault}
use Rattle.peg_explain_files.specs.declared.ended.ExplainFault.TheVariants.{Write, Memory}
use Rattle.peg_explain_files.specs.declared.ended.Verdict.{Verdict}
use Rattle.peg_explain_files.specs.declared.printing.Printing.{Printing}
use Rattle.peg_explain_files.specs.declared.printing.Printing.TheVariants.{All, Nothing}

-- what is printed, as the option for quiet says
abbrev pub printing_of : (quiet : Bool) → Printing
printing_of true = Nothing
printing_of false = All

-- what is printed of some bytes
abbrev pub printed_by : Printing → List ℕ → List ℕ
printed_by All bytes = bytes
printed_by Nothing bytes = []

-- whether the output can't be written
abbrev pub has_write_failed : {T : Type 0} → Result T ExplainFault → Bool
has_write_failed (Ok value) = false
has_write_failed (Err Write) = true
has_write_failed (Err Memory) = false

-- Bytes are written, if they are printed. If a write fails, a proper prefix of them is written; if an allocation fails,
-- nothing.
abbrev pub WritesPrinted : {T : Type 0} → Printing → List ℕ → (old new : Option (List ℕ)) → Result T ExplainFault
    → Type 0
WritesPrinted printing bytes old new (Ok value) = Appends old new (printed_by printing bytes)
WritesPrinted printing bytes old new (Err Write) = AppendsProperPrefix old new (printed_by printing bytes)
WritesPrinted printing bytes old new (Err Memory) = Keeps old new

-- a message is written alone, and the explanation ends with this verdict
abbrev pub WritesAlone : Printing → (message : List ℕ) → Verdict → (old new : Option (List ℕ))
    → Result Ended ExplainFault → Type 0
WritesAlone printing message verdict old new (Ok ended) =
    Appends old new (printed_by printing message) × (string_bytes ended.faults ≡ []) × (ended.verdict ≡ verdict)
WritesAlone printing message verdict old new (Err Write) = AppendsProperPrefix old new (printed_by printing message)
WritesAlone printing message verdict old new (Err Memory) = Keeps old new
