-- What is listed of the entries of a folder.
use Rattle.std.specs.Prelude.{◌≡◌, ℕ, List, Option, Some, None, Result, Ok, Err, IsPermutation, map, string_bytes}
use Rattle.std.specs.Fs.{dir_entry_name}
use Rattle.std.specs.IoError.{error_kind}
use Rattle.std.specs.Iterator.{Drains, YieldsThen}
use Rattle.std.specs.declared.alloc.Global.{Global}
use Rattle.std.specs.declared.fs.dir.DirEntry.{DirEntry}
use Rattle.std.specs.declared.io.Error.{Error}
use Rattle.std.specs.declared.string.String.{String}
use Rattle.peg_io.specs.declared.opener.OpenFault.{OpenFault}
use Rattle.peg_io.specs.declared.opener.OpenFault.TheVariants.{File}

-- an entry that was read, or why it could not be read
abbrev pub EntryOf : (R A F D : Type 0) → Type 0
EntryOf R A F D = Result (DirEntry R A F D) Error

-- the name of an entry that was read
abbrev pub name_of : {R A F D : Type 0} → EntryOf R A F D → Option (List ℕ)
name_of (Ok entry) = Some (dir_entry_name entry)
name_of (Err error) = None

-- all entries were read, and these are their names, in the same order
abbrev pub AreNamesOf : {R A F D : Type 0} → List (EntryOf R A F D) → List (String Global) → Type 0
AreNamesOf entries names = map name_of entries ≡ map Some (map string_bytes names)

-- the iterator gave entries up to its end, all were read, and these are their names, in the same order
pub record ReadsAll {S R A F D : Type 0} (steps : S → Option (EntryOf R A F D) → S → Type 0) (start : S)
    (names : List (String Global)) : Type 0 where
  pub entries : List (EntryOf R A F D)
  pub all : Drains steps start entries
  pub read : AreNamesOf entries names

-- the same, in some order
abbrev pub ListsAll : {S R A F D : Type 0} → (steps : S → Option (EntryOf R A F D) → S → Type 0) → (start : S)
    → (listed : List (String Global)) → Type 0
ListsAll steps start listed = (names : List (String Global)) × ReadsAll steps start names × IsPermutation names listed

-- the iterator gave entries that were read, and then an error, of which the fault has the kind
pub record FailsAtFirst {S R A F D : Type 0} (steps : S → Option (EntryOf R A F D) → S → Type 0) (start : S)
    (fault : OpenFault) : Type 0 where
  pub entries : List (EntryOf R A F D)
  pub names : List (String Global)
  pub error : Error
  pub left : S
  pub before : AreNamesOf entries names
  pub first : YieldsThen steps start entries (Some (Err error)) left
  pub kind : fault ≡ File (error_kind error)
