-- Why a file can't be opened.
use Rattle.peg_io.specs.declared.opener.OpenFault.{OpenFault}
use Rattle.peg_io.specs.declared.opener.OpenFault.TheVariants.{File, Memory}

-- the fault is of the file: the system could not open it
abbrev pub IsOfFile : OpenFault → Type 0
IsOfFile (File kind) = Unit {0}
IsOfFile Memory = ⊥
