-- The names of the texts.
use Rattle.std.specs.Prelude.{◌≡◌, ℕ, ◌-◌, Bool, true, false, ◌==◌, if◌then◌else◌, List, [], ◌∷◌, ◌++◌, Option, None, Some, bytes_eq, codes}
use Rattle.std.specs.Prelude.{length, take}
use Rattle.std.specs.List.{filter, slice_split}
use Rattle.peg_io.specs.NamedFile.{NamedFile, Unspecified, Missing, Holds, Readable, Folder}
use Rattle.peg_explain_files.specs.Questions.{Question}
use Rattle.peg_explain_files.specs.declared.query.NameEnd.{NameEnd}
use Rattle.peg_explain_files.specs.declared.query.NameEnd.TheVariants.{LineEnd, ZeroByte}
use Rattle.peg_explain_files.specs.declared.reports.TextReport.{TextReport}
use Rattle.peg_explain_files.specs.declared.reports.TextReport.TheVariants as report

-- the byte that ends a name in a list: LF or zero
abbrev pub end_byte : NameEnd → ℕ
end_byte LineEnd = 10
end_byte ZeroByte = 0

-- which byte ends a name, as the option for zero bytes says
abbrev pub name_end : (null : Bool) → NameEnd
name_end true = ZeroByte
name_end false = LineEnd

-- some bytes
abbrev pub is_nonempty : List ℕ → Bool
is_nonempty [] = false
is_nonempty (byte ∷ rest) = true

-- whether a byte ends a name
abbrev pub is_end : NameEnd → ℕ → Bool
is_end end byte = byte == end_byte end

-- the parts of a list between ends; the last part needs no end
abbrev pub parts_in : NameEnd → (list : List ℕ) → List (List ℕ)
parts_in end list = slice_split (is_end end) list

-- the names in a list: its nonempty parts
abbrev pub names_in : NameEnd → (list : List ℕ) → List (List ℕ)
names_in end list = filter is_nonempty (parts_in end list)

-- the names with an end: the nonempty parts but the last part
abbrev pub ended_names_in : NameEnd → (list : List ℕ) → List (List ℕ)
ended_names_in end list = filter is_nonempty (take (length (parts_in end list) - 1) (parts_in end list))

-- ---- lists

-- What is read of a list: it can't be opened; or it is read to its end; or a read fails after these bytes.
pub data Listing : Type 0 where
  Unopened : Listing
  Whole : (bytes : List ℕ) → Listing
  Broken : (bytes : List ℕ) → Listing

-- the names that a list gives; if a read fails, those with an end before that
abbrev pub listed_names : NameEnd → Listing → List (List ℕ)
listed_names end Unopened = []
listed_names end (Whole bytes) = names_in end bytes
listed_names end (Broken bytes) = ended_names_in end bytes

-- what is reported of the list itself
abbrev pub list_fault : Listing → Option TextReport
list_fault Unopened = Some report.Unopened
list_fault (Whole bytes) = None
list_fault (Broken bytes) = Some report.Unreadable

-- the names of all texts: the given ones, and then those in the list
abbrev pub names_asked : Question → Listing → List (List ℕ)
names_asked question listing = question.texts ++ listed_names question.end listing

-- the maximum number of bytes that are read of a list: no file has more
abbrev pub max_list_bytes : ℕ
max_list_bytes = 9223372036854775807

-- this is read of a list that holds these bytes
abbrev pub IsListed : (bytes : List ℕ) → Listing → Type 0
IsListed bytes Unopened = ⊥
IsListed bytes (Whole read) = read ≡ take max_list_bytes bytes
IsListed bytes (Broken read) = (rest : List ℕ) × (bytes ≡ read ++ rest)

-- no read of a list fails
abbrev pub IsUnbroken : Listing → Type 0
IsUnbroken Unopened = Unit {0}
IsUnbroken (Whole bytes) = Unit {0}
IsUnbroken (Broken bytes) = ⊥

-- this is read of a list in a file, by what is specified of it
abbrev pub IsListingOf : NamedFile → Listing → Type 0
IsListingOf Unspecified listing = Unit {0}
IsListingOf (Missing kind) listing = listing ≡ Unopened
IsListingOf (Holds bytes) listing = IsListed bytes listing
IsListingOf (Readable bytes) listing = IsListed bytes listing × IsUnbroken listing
IsListingOf (Folder names) listing = Unit {0}

-- ---- the input

-- the input as a file: reads of it may fail
abbrev pub input_file : Option (List ℕ) → NamedFile
input_file None = Unspecified
input_file (Some bytes) = Holds bytes

-- whether a name is `-`, which is the input
abbrev pub is_input : List ℕ → Bool
is_input name = bytes_eq name (codes "-")

-- the file that lists names; without one it is as if it were empty
abbrev pub list_file : (file_at : List ℕ → NamedFile) → (input : Option (List ℕ)) → Option (List ℕ) → NamedFile
list_file file_at input None = Readable []
list_file file_at input (Some name) = if is_input name then input_file input else file_at name

-- the list is the input
abbrev pub IsInput : Option (List ℕ) → Type 0
IsInput None = ⊥
IsInput (Some name) = is_input name ≡ true
