-- Why a grammar file, the name of a rule or a text is rejected.
use Rattle.std.specs.Prelude.{ℕ, List}
use Rattle.peg_bytes.specs.Extent.{Extent}
use Rattle.peg_semantics.specs.Form.{Reference}

-- A reason for rejection. Offsets are byte offsets in the grammar file. A name comes with its span, an empty loop with
-- the name of its rule and the span of the loop. A left cycle comes with the names of its rules. `NoSuchStart` is for
-- the start of a parse, and `NoSuchRule` for a name in a list of rules.
pub data Cause : Type 0 where
  FileTooLong : Cause
  Syntax : (at : ℕ) → Cause
  TooNested : (at : ℕ) → Cause
  BadCount : (at : ℕ) → Cause
  NoRule : Cause
  Duplicate : (name : Reference) → Cause
  Undefined : (name : Reference) → Cause
  TooManyParts : Cause
  EmptyLoop : (rule : Reference) → Cause
  LeftRecursion : (path : List (List ℕ)) → Cause
  CodeTooLarge : Cause
  NoSuchStart : (name : List ℕ) → Cause
  NoSuchRule : (name : List ℕ) → Cause
  StepLimit : Cause
  TooDeep : Cause
  TextTooLong : Cause

-- a name and its span
abbrev pub reference : List ℕ → Extent → Reference
reference name span = record { name = name; span = span }
