-- The message for a refused grammar file.
use Rattle.std.specs.Prelude.{ℕ, List, [], ◌++◌, Option, None, Some, codes}
use Rattle.peg_messages.specs.Places.{place_text}
use Rattle.peg_messages.specs.Sentences.{reason_sentence}
use Rattle.peg_messages.specs.Source.{source_lines}
use Rattle.peg_messages.specs.SyntaxCauses.{syntax_cause}
use Rattle.peg_messages.specs.declared.causes.SyntaxCause.{SyntaxCause}
use Rattle.peg_messages.specs.declared.causes.SyntaxCause.TheVariants.{BadEscape}
use Rattle.peg_messages.specs.declared.lines.TextLines.TheVariants.{File}
use Rattle.peg_messages.specs.declared.reason.Reason.{Reason}
use Rattle.peg_messages.specs.declared.reason.Reason.TheVariants as reason
use Rattle.peg_messages.specs.declared.rejection.Rejection.{Rejection}

-- the offset that a reason gives, if it gives one
abbrev pub given_offset : Reason → Option ℕ
given_offset reason.FileTooLong = None
given_offset (reason.Syntax at) = Some at
given_offset (reason.TooNested at) = Some at
given_offset (reason.BadCount at) = Some at
given_offset reason.NoRule = None
given_offset (reason.Duplicate name at) = Some at
given_offset (reason.Undefined name meant at) = Some at
given_offset reason.TooManyParts = None
given_offset (reason.EmptyLoop rule at) = Some at
given_offset (reason.LeftRecursion path at) = Some at
given_offset reason.CodeTooLarge = None

-- the offset of a syntax error's cause: that of the error, or of a backslash after it
abbrev pub cause_offset : (at : ℕ) → SyntaxCause → ℕ
cause_offset at (BadEscape backslash) = backslash
cause_offset at other = at

-- the offset that the message names, if it names one
abbrev pub named_offset : (file : List ℕ) → Reason → Option ℕ
named_offset file (reason.Syntax at) = Some (cause_offset at (syntax_cause file at))
named_offset file other = given_offset other

-- what precedes the sentence: `NAME:LINE:COLUMN: ` or `NAME: `
abbrev pub head_text : (name file : List ℕ) → Option ℕ → List ℕ
head_text name file None = name ++ codes ": "
head_text name file (Some at) = place_text name File file at

-- what follows its line: the line of the offset, and a caret below it
abbrev pub tail_text : (file : List ℕ) → Option ℕ → List ℕ
tail_text file None = []
tail_text file (Some at) = source_lines File file at

-- the message
abbrev pub rejection_message : Rejection → List ℕ
rejection_message rejection =
    let file = rejection.file.now in
    let at = named_offset file rejection.reason in
    head_text rejection.name.now file at ++ reason_sentence file rejection.reason ++ codes "\n" ++ tail_text file at
