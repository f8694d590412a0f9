-- Describes code: the files that a `FileSystem` opens.
use Rattle.peg_io.specs.declared.opener.FileSystem.{FileSystem}

-- the files that are opened
abbrev pub files_of : {R : Type 0} → FileSystem R → R
files_of system = system.files.now
