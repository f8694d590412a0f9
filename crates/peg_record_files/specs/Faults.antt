-- Why the records of texts aren't read to their end.
use Rattle.std.specs.Prelude.{◌≡◌, ℕ, Bool, false, Contains, IfSome, List}
use Rattle.peg_io.specs.NamedFile.{NamedFile, is_readable, open_error}
use Rattle.peg_io.specs.declared.transfer.ReadFault.{ReadFault}
use Rattle.peg_io.specs.declared.transfer.ReadFault.TheVariants as reading
use Rattle.peg_record_files.specs.declared.fault.RecordsFault.{RecordsFault}
use Rattle.peg_record_files.specs.declared.fault.RecordsFault.TheVariants.{Text, Input, Output, Memory}
use Rattle.peg_record_files.specs.declared.fault.StreamFault.{StreamFault}
use Rattle.peg_record_files.specs.declared.fault.StreamFault.TheVariants as stream

-- A fault of a text is that of the text with this name, which isn't specified to be readable. If it is specified that
-- the text can't be opened, the fault has the kind of that error. There is no fault of the input.
abbrev pub IsFaultOfText : (file_at : List ℕ → NamedFile) → (text : List ℕ) → RecordsFault → Type 0
IsFaultOfText file_at text (Text name kind) = (name.now ≡ text)
    × (is_readable (file_at text) ≡ false) × IfSome (open_error (file_at text)) (λ error. kind ≡ error)
IsFaultOfText file_at text Input = ⊥
IsFaultOfText file_at text Output = Unit {0}
IsFaultOfText file_at text Memory = Unit {0}

-- a fault of a text is that of one of the texts with these names
abbrev pub IsFaultAmongTexts : (file_at : List ℕ → NamedFile) → (names : List (List ℕ)) → RecordsFault → Type 0
IsFaultAmongTexts file_at names (Text name kind) =
    Contains names name.now × IsFaultOfText file_at name.now (Text name kind)
IsFaultAmongTexts file_at names Input = Unit {0}
IsFaultAmongTexts file_at names Output = Unit {0}
IsFaultAmongTexts file_at names Memory = Unit {0}

-- Describes code: a fault of a text with this name that is open. `never` says that no read of it fails.
abbrev pub IsFaultOfOpen : (text : List ℕ) → (never : Bool) → RecordsFault → Type 0
IsFaultOfOpen text never (Text name kind) = (name.now ≡ text) × (never ≡ false)
IsFaultOfOpen text never Input = ⊥
IsFaultOfOpen text never Output = Unit {0}
IsFaultOfOpen text never Memory = Unit {0}

-- a fault isn't that of a text
abbrev pub IsNoText : RecordsFault → Type 0
IsNoText (Text name kind) = ⊥
IsNoText Input = Unit {0}
IsNoText Output = Unit {0}
IsNoText Memory = Unit {0}

-- Describes code: the fault of a stream for a fault of a read
abbrev pub read_fault : ReadFault → StreamFault
read_fault reading.Device = stream.Read
read_fault reading.Memory = stream.Memory
