-- Why it isn't known what the records of texts use.
use Rattle.std.specs.Prelude.{◌≡◌, ℕ, All, Bool, false, IfSome, List, [], ◌∷◌, None, Option}
use Rattle.peg_io.specs.NamedFile.{IsMissing, NamedFile, bytes_of, is_readable, open_error}
use Rattle.peg_records.specs.Records.{records}
use Rattle.peg_records.specs.declared.end.RecordEnd.{RecordEnd}
use Rattle.peg_semantics.specs.Rules.{Rule}
use Rattle.peg_semantics.specs.Starts.{start_name}
use Rattle.peg_coverage_files.specs.CoveringFaults.{IsFirst, IsLong, IsShort}
use Rattle.peg_coverage_files.specs.declared.fault.CoveringFault.{CoveringFault}
use Rattle.peg_coverage_files.specs.declared.fault.CoveringFault.TheVariants.{File, Input, NoSuchStart, TextTooLong, Memory}

-- the text in a file is there, and none of its records is too long if its bytes are specified
abbrev pub HasShortRecords : RecordEnd → NamedFile → Type 0
HasShortRecords end file = (¬ IsMissing file) × IfSome (bytes_of file) (λ bytes. All IsShort (records end bytes))

-- the text in a file is there, and one of its records is too long if its bytes are specified
abbrev pub HasLongRecord : RecordEnd → NamedFile → Type 0
HasLongRecord end file =
    (¬ IsMissing file) × IfSome (bytes_of file) (λ bytes. IsFirst IsShort IsLong (records end bytes))

-- Whether a fault is true of the records of the text in the file with a name. A file fault has this name, and the file
-- isn't specified to be readable. If it is specified that the file can't be opened, the fault has the kind of that
-- error. A failed allocation is possible for any text.
abbrev pub IsFaultOfNamed : RecordEnd → (file_at : List ℕ → NamedFile) → (name : List ℕ) → CoveringFault → Type 0
IsFaultOfNamed end file_at name (File unread kind) = (unread.now ≡ name) × (is_readable (file_at name) ≡ false)
    × IfSome (open_error (file_at name)) (λ error. kind ≡ error)
IsFaultOfNamed end file_at name Input = ⊥
IsFaultOfNamed end file_at name NoSuchStart = ⊥
IsFaultOfNamed end file_at name TextTooLong = HasLongRecord end (file_at name)
IsFaultOfNamed end file_at name Memory = Unit {0}

-- whether a fault is true of the texts in the files with these names: of the first one that has a fault
abbrev pub IsFaultOfTexts : RecordEnd → (file_at : List ℕ → NamedFile) → (names : List (List ℕ)) → CoveringFault → Type 0
IsFaultOfTexts end file_at names Input = ⊥
IsFaultOfTexts end file_at names NoSuchStart = ⊥
IsFaultOfTexts end file_at names Memory = Unit {0}
IsFaultOfTexts end file_at names fault =
    IsFirst (λ (name : List ℕ). HasShortRecords end (file_at name))
    (λ (name : List ℕ). IsFaultOfNamed end file_at name fault) names

-- whether a fault is true of the records of an input, if its bytes are specified
abbrev pub IsFaultOfInput : RecordEnd → (input : Option (List ℕ)) → CoveringFault → Type 0
IsFaultOfInput end input (File unread kind) = ⊥
IsFaultOfInput end input Input = Unit {0}
IsFaultOfInput end input NoSuchStart = ⊥
IsFaultOfInput end input TextTooLong = IfSome input (λ bytes. IsFirst IsShort IsLong (records end bytes))
IsFaultOfInput end input Memory = Unit {0}

-- the same of the texts in the files with these names, or of the input without names
abbrev pub IsFaultOfStreams : RecordEnd → (file_at : List ℕ → NamedFile) → (input : Option (List ℕ))
    → (names : List (List ℕ)) → CoveringFault → Type 0
IsFaultOfStreams end file_at input [] fault = IsFaultOfInput end input fault
IsFaultOfStreams end file_at input (name ∷ names) fault = IsFaultOfTexts end file_at (name ∷ names) fault

-- the same, or of the start
abbrev pub IsFaultOfRecords : List Rule → RecordEnd → (file_at : List ℕ → NamedFile) → (input : Option (List ℕ))
    → (names : List (List ℕ)) → (start : Option (List ℕ)) → CoveringFault → Type 0
IsFaultOfRecords rules end file_at input names start NoSuchStart = start_name rules start ≡ None
IsFaultOfRecords rules end file_at input names start fault = IsFaultOfStreams end file_at input names fault

-- ---- faults of the code

-- whether a fault is true of a stream, whose name isn't known, or of the start
abbrev pub IsFaultOfStream : List Rule → (start : Option (List ℕ)) → CoveringFault → Type 0
IsFaultOfStream rules start (File unread kind) = ⊥
IsFaultOfStream rules start Input = Unit {0}
IsFaultOfStream rules start NoSuchStart = start_name rules start ≡ None
IsFaultOfStream rules start TextTooLong = Unit {0}
IsFaultOfStream rules start Memory = Unit {0}

-- whether a fault is true of the open file with a name, or of the start; `never` says that no read of it fails
abbrev pub IsFaultOfOpen : List Rule → (start : Option (List ℕ)) → (name : List ℕ) → (never : Bool) → CoveringFault
    → Type 0
IsFaultOfOpen rules start name never (File unread kind) = (unread.now ≡ name) × (never ≡ false)
IsFaultOfOpen rules start name never Input = ⊥
IsFaultOfOpen rules start name never NoSuchStart = start_name rules start ≡ None
IsFaultOfOpen rules start name never TextTooLong = Unit {0}
IsFaultOfOpen rules start name never Memory = Unit {0}
