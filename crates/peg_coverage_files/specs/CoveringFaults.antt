-- Why it isn't known what texts use.
use Rattle.std.specs.Prelude.{◌≡◌, ℕ, ◌<◌, ◌≤◌, All, false, IfSome, List, None, Option, Some, length, slice_get, take}
use Rattle.peg_grammar.specs.Limits.{max_text_bytes}
use Rattle.peg_io.specs.NamedFile.{IsMissing, NamedFile, bytes_of, is_readable, open_error}
use Rattle.peg_io.specs.declared.transfer.ReadFault.{ReadFault}
use Rattle.peg_io.specs.declared.transfer.ReadFault.TheVariants as reading
use Rattle.peg_semantics.specs.Rules.{Rule}
use Rattle.peg_semantics.specs.Starts.{start_name}
use Rattle.peg_coverage_files.specs.declared.fault.CoveringFault.{CoveringFault}
use Rattle.peg_coverage_files.specs.declared.fault.CoveringFault.TheVariants.{File, Input, NoSuchStart, TextTooLong, Memory}

-- a text or a record isn't too long to be parsed, or it is
abbrev pub IsShort : (text : List ℕ) → Type 0
IsShort text = length text ≤ max_text_bytes

abbrev pub IsLong : (text : List ℕ) → Type 0
IsLong text = max_text_bytes < length text

-- the text in a file is there, and it is too long if its bytes are specified
abbrev pub IsTooLong : NamedFile → Type 0
IsTooLong file = (¬ IsMissing file) × IfSome (bytes_of file) (λ text. max_text_bytes < length text)

-- the text in a file is there, and it isn't too long if its bytes are specified
abbrev pub IsParsable : NamedFile → Type 0
IsParsable file = (¬ IsMissing file) × IfSome (bytes_of file) (λ text. length text ≤ max_text_bytes)

-- an element of a list has a property, and all before it have another one
pub record IsFirst {X : Type 0} (IsBefore Is : X → Type 0) (elements : List X) : Type 0 where
  pub index : ℕ
  pub element : X
  pub here : slice_get elements index ≡ Some element
  pub before : All IsBefore (take index elements)
  pub is : Is element

-- Whether a fault is true of the text in the file with a name. A file fault has this name, and the file isn't specified
-- to be readable. If it is specified that the file can't be opened, the fault has the kind of that error. If its bytes
-- aren't specified, little is known. A failed allocation is possible for any text.
abbrev pub IsFaultOfText : List Rule → (file_at : List ℕ → NamedFile) → (name : List ℕ) → (start : Option (List ℕ))
    → CoveringFault → Type 0
IsFaultOfText rules file_at name start (File unread kind) = (unread.now ≡ name) × (is_readable (file_at name) ≡ false)
    × IfSome (open_error (file_at name)) (λ error. kind ≡ error)
IsFaultOfText rules file_at name start Input = ⊥
IsFaultOfText rules file_at name start NoSuchStart = start_name rules start ≡ None
IsFaultOfText rules file_at name start TextTooLong = IsTooLong (file_at name)
IsFaultOfText rules file_at name start Memory = Unit {0}

-- Whether a fault is true of the texts in the files with these names: of the first one that has a fault, or of the
-- start. No input is read.
abbrev pub IsFaultOf : List Rule → (file_at : List ℕ → NamedFile) → (names : List (List ℕ)) → (start : Option (List ℕ))
    → CoveringFault → Type 0
IsFaultOf rules file_at names start Input = ⊥
IsFaultOf rules file_at names start NoSuchStart = start_name rules start ≡ None
IsFaultOf rules file_at names start Memory = Unit {0}
IsFaultOf rules file_at names start fault =
    IsFirst (λ (name : List ℕ). IsParsable (file_at name))
    (λ (name : List ℕ). IsFaultOfText rules file_at name start fault) names

-- Describes code: whether a fault is true of a text in memory, or of the start
abbrev pub IsFaultOfBytes : List Rule → (text : List ℕ) → (start : Option (List ℕ)) → CoveringFault → Type 0
IsFaultOfBytes rules text start (File unread kind) = ⊥
IsFaultOfBytes rules text start Input = ⊥
IsFaultOfBytes rules text start NoSuchStart = start_name rules start ≡ None
IsFaultOfBytes rules text start TextTooLong = IsLong text
IsFaultOfBytes rules text start Memory = Unit {0}

-- Describes code: the fault for a failed read of a stream
abbrev pub read_fault : ReadFault → CoveringFault
read_fault reading.Device = Input
read_fault reading.Memory = Memory
