-- The texts with names.
use Rattle.std.specs.Prelude.{ℕ, List, Option, map, string_bytes}
use Rattle.std.specs.declared.alloc.Global.{Global}
use Rattle.std.specs.declared.string.String.{String}
use Rattle.peg_io.specs.NamedFile.{NamedFile, bytes_of}

-- what is specified of the files with these names
abbrev pub files_named : (file_at : List ℕ → NamedFile) → List (String Global) → List NamedFile
files_named file_at names = map file_at (map string_bytes names)

-- their bytes, where these are specified
abbrev pub texts_in : List NamedFile → List (Option (List ℕ))
texts_in files = map bytes_of files
