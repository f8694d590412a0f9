-- The files of the tests by name.
use Rattle.std.specs.Prelude.{ℕ, List, bytes_eq, codes, if◌then◌else◌}
use Rattle.std.specs.declared.io.ErrorKind.TheVariants.{NotFound}
use Rattle.peg_tool.specs.NamedFile.{NamedFile, Readable, Missing}

-- three readable files with these bytes; there is no other file
abbrev pub shelf_file : (line bcd vast : List ℕ) → (name : List ℕ) → NamedFile
shelf_file line bcd vast name =
    if bytes_eq name (codes "line") then Readable line
    else (if bytes_eq name (codes "bcd") then Readable bcd
    else (if bytes_eq name (codes "vast") then Readable vast else Missing NotFound))
