-- Why a grammar file gives no parser.
use Rattle.std.specs.Prelude.{ℕ, List}
use Rattle.peg_handle.specs.Rejections.{IsRejectionOf}
use Rattle.peg_handle.specs.declared.reading.ReadFault.{ReadFault}
use Rattle.peg_handle.specs.declared.reading.ReadFault.TheVariants.{Rejected, Memory}

-- the file is rejected, with its cause, or an allocation failed
abbrev pub IsRejectedBy : List ℕ → ReadFault → Type 0
IsRejectedBy file (Rejected rejection) = IsRejectionOf file rejection
IsRejectedBy file Memory = Unit {0}
