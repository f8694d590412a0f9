-- What is specified of the file or folder with a name.
use Rattle.std.specs.Prelude.{Bool, true, false, ℕ, List, Option, Some, None}
use Rattle.std.specs.declared.io.ErrorKind.{ErrorKind}

-- Nothing is specified, or the file can't be opened for an error of this kind, or it holds these bytes, or it is a
-- folder with files of these names. Reads of a file that holds bytes may fail; those of a readable file don't.
pub data NamedFile : Type 0 where
  Unspecified : NamedFile
  Missing : (kind : ErrorKind) → NamedFile
  Holds : (bytes : List ℕ) → NamedFile
  Readable : (bytes : List ℕ) → NamedFile
  Folder : (names : List (List ℕ)) → NamedFile

-- the kind of the error of opening a file, if it is specified that it can't be opened
abbrev pub open_error : NamedFile → Option ErrorKind
open_error Unspecified = None
open_error (Missing kind) = Some kind
open_error (Holds bytes) = None
open_error (Readable bytes) = None
open_error (Folder names) = None

-- it is specified that the file can't be opened
abbrev pub IsMissing : NamedFile → Type 0
IsMissing Unspecified = ⊥
IsMissing (Missing kind) = Unit {0}
IsMissing (Holds bytes) = ⊥
IsMissing (Readable bytes) = ⊥
IsMissing (Folder names) = ⊥

-- the bytes of a file, if they are specified
abbrev pub bytes_of : NamedFile → Option (List ℕ)
bytes_of Unspecified = None
bytes_of (Missing kind) = None
bytes_of (Holds bytes) = Some bytes
bytes_of (Readable bytes) = Some bytes
bytes_of (Folder names) = None

-- whether it is specified that reads of a file don't fail
abbrev pub is_readable : NamedFile → Bool
is_readable Unspecified = false
is_readable (Missing kind) = false
is_readable (Holds bytes) = false
is_readable (Readable bytes) = true
is_readable (Folder names) = false

-- the names of the files in a folder, if they are specified
abbrev pub names_in : NamedFile → Option (List (List ℕ))
names_in Unspecified = None
names_in (Missing kind) = None
names_in (Holds bytes) = None
names_in (Readable bytes) = None
names_in (Folder names) = Some names

-- it is specified that there is no such folder
abbrev pub IsNoFolder : NamedFile → Type 0
IsNoFolder Unspecified = ⊥
IsNoFolder (Missing kind) = Unit {0}
IsNoFolder (Holds bytes) = Unit {0}
IsNoFolder (Readable bytes) = Unit {0}
IsNoFolder (Folder names) = ⊥
