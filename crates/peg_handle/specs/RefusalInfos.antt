-- The kind and the place of a refusal, as numbers.
use Rattle.std.specs.Prelude.{ℕ, List, Option, None, Some}
use Rattle.peg_bytes.specs.Extent.{Extent, between}
use Rattle.peg_bytes.specs.Place.{line_at, column_at}
use Rattle.peg_parser.specs.Cause.{Cause, FileTooLong, Syntax, TooNested, BadCount, NoRule, Duplicate, Undefined}
use Rattle.peg_parser.specs.Cause.{TooManyParts, EmptyLoop, LeftRecursion, CodeTooLarge, NoSuchStart, NoSuchRule}
use Rattle.peg_parser.specs.Cause.{StepLimit, TooDeep, TextTooLong}
use Rattle.peg_handle.specs.declared.refusal_info.RefusalInfo.{RefusalInfo}

-- the number of a kind of cause; only the first eleven reject a grammar file
abbrev pub cause_kind : Cause → ℕ
cause_kind FileTooLong = 1
cause_kind (Syntax at) = 2
cause_kind (TooNested at) = 3
cause_kind (BadCount at) = 4
cause_kind NoRule = 5
cause_kind (Duplicate name) = 6
cause_kind (Undefined name) = 7
cause_kind TooManyParts = 8
cause_kind (EmptyLoop rule) = 9
cause_kind (LeftRecursion path) = 10
cause_kind CodeTooLarge = 11
cause_kind (NoSuchStart name) = 12
cause_kind StepLimit = 13
cause_kind TooDeep = 14
cause_kind TextTooLong = 15
cause_kind (NoSuchRule name) = 16

-- the place of a cause in the grammar file, if it has one; an offset is an empty span
abbrev pub cause_place : Cause → Option Extent
cause_place (Syntax at) = Some (between at at)
cause_place (TooNested at) = Some (between at at)
cause_place (BadCount at) = Some (between at at)
cause_place (Duplicate name) = Some name.span
cause_place (Undefined name) = Some name.span
cause_place (EmptyLoop rule) = Some rule.span
cause_place cause = None

-- a kind with a place in a file, or with none
abbrev pub info_at : (file : List ℕ) → (kind : ℕ) → Option Extent → RefusalInfo
info_at file kind None = record { kind = kind; start = 0; end = 0; line = 0; column = 0 }
info_at file kind (Some place) = record {
  kind = kind;
  start = place.start;
  end = place.end;
  line = line_at file place.start;
  column = column_at file place.start;
}

abbrev pub cause_info : (file : List ℕ) → Cause → RefusalInfo
cause_info file cause = info_at file (cause_kind cause) (cause_place cause)
