-- Why a grammar file isn't in the notation, by its bytes from the offset of the error on.
use Rattle.std.specs.Prelude.{ℕ, ◌+◌, ◌-◌, ◌==◌, Bool, true, false, not, ◌&&◌, ◌||◌, if◌then◌else◌, nat_eq, nat_le}
use Rattle.std.specs.Prelude.{List, [], ◌∷◌, drop, is_none, length, nat_lt, slice_index, slice_range}
use Rattle.std.specs.List.{prefix_len, starts_with}
use Rattle.peg_bytes.specs.Place.{column_at}
use Rattle.peg_lexer.specs.Lexical.{classed_range, quoted_char}
use Rattle.peg_lexer.specs.LexicalCode.{count_in_range}
use Rattle.peg_lexer.specs.Matchers.{many}
use Rattle.peg_messages.specs.declared.causes.SyntaxCause.{SyntaxCause}
use Rattle.peg_messages.specs.declared.causes.SyntaxCause.TheVariants.{EndsEarly, ByteOrderMark, OpenComment}
use Rattle.peg_messages.specs.declared.causes.SyntaxCause.TheVariants.{OpenLiteral, OpenClass, BadEscape, OtherComment}
use Rattle.peg_messages.specs.declared.causes.SyntaxCause.TheVariants.{Label, BareEscape, Braces, NoBreakSpace, NoArrow}
use Rattle.peg_messages.specs.declared.causes.SyntaxCause.TheVariants.{Bar, Capture, NamedClass, OpenCount, Semicolon}
use Rattle.peg_messages.specs.declared.causes.SyntaxCause.TheVariants.{Unexpected}

-- a literal or class without a closing byte
abbrev pub open_cause : (is_class : Bool) → SyntaxCause
open_cause true = OpenClass
open_cause false = OpenLiteral

-- How many bytes of a literal or class the lexer can read, up to the closing byte or a backslash that begins no escape:
-- the ranges of a class, or the characters of a literal. `inside` is what follows the first byte.
abbrev pub inside_length : (is_class : Bool) (close : ℕ) → (inside : List ℕ) → ℕ
inside_length is_class close inside =
    if is_class then (many classed_range inside).length else (many (quoted_char close) inside).length

-- the cause where a literal or class begins, which can be read up to byte `end` of `inside`
abbrev pub stop_cause : (is_class : Bool) (close at : ℕ) → (inside : List ℕ) → (end : ℕ) → SyntaxCause
stop_cause is_class close at inside end =
    if nat_le (length inside) end then open_cause is_class else
    if slice_index inside end == close then Unexpected else BadEscape (at + 1 + end)

-- the cause where a literal or class begins: `inside` is what follows its first byte
unfoldable pub opened_cause : (is_class : Bool) (close at : ℕ) → (inside : List ℕ) → SyntaxCause
opened_cause is_class close at inside =
    stop_cause is_class close at inside (inside_length is_class close inside)

-- `=`, `:`, `->`, or a `<` that isn't followed by a dash
abbrev pub is_other_arrow : List ℕ → Bool
is_other_arrow rest =
    slice_index rest 0 == 61 || slice_index rest 0 == 58
    || (slice_index rest 0 == 45 && slice_index rest 1 == 62)
    || (slice_index rest 0 == 60 && not (slice_index rest 1 == 45))

-- an opening brace, 123, that begins no count, such as `{2}` or `{2,4}`
abbrev pub is_other_brace : List ℕ → Bool
is_other_brace rest = slice_index rest 0 == 123 && is_none (count_in_range rest)

-- a digit
abbrev pub is_digit : ℕ → Bool
is_digit byte = nat_le 48 byte && nat_le byte 57

-- digits, a comma (44) and a closing brace (125)
abbrev pub is_open_range : List ℕ → Bool
is_open_range inside =
    let digits = prefix_len is_digit inside in
    nat_lt 0 digits && slice_index (drop digits inside) 0 == 44 && slice_index (drop digits inside) 1 == 125

-- a count without its second number, such as `{2,}`
abbrev pub is_open_count : List ℕ → Bool
is_open_count rest = slice_index rest 0 == 123 && is_open_range (drop 1 rest)

-- the bytes C2 A0
abbrev pub is_no_break_space : List ℕ → Bool
is_no_break_space rest = slice_index rest 0 == 194 && slice_index rest 1 == 160

-- a byte of a name
abbrev pub is_name_byte : ℕ → Bool
is_name_byte byte =
    (nat_le 97 byte && nat_le byte 122) || (nat_le 65 byte && nat_le byte 90)
    || (nat_le 48 byte && nat_le byte 57) || byte == 95

-- a percent sign, 37, before a name
abbrev pub is_named_class : List ℕ → Bool
is_named_class rest = slice_index rest 0 == 37 && is_name_byte (slice_index rest 1)

-- the cause at other bytes: `#` is 35, a backslash 92, `|` is 124 and `;` is 59
abbrev pub token_cause : (rest : List ℕ) → SyntaxCause
token_cause rest =
    if slice_index rest 0 == 35 then OpenComment else if slice_index rest 0 == 92 then BareEscape else
    if is_open_count rest then OpenCount else if is_other_brace rest then Braces else
    if is_named_class rest then NamedClass else if is_no_break_space rest then NoBreakSpace else
    if is_other_arrow rest then NoArrow else
    if slice_index rest 0 == 124 then Bar else if slice_index rest 0 == 59 then Semicolon else Unexpected

-- the cause at an offset: quotes are 39 and 34, brackets are 91 and 93
unfoldable pub cause_from : (at : ℕ) → (rest : List ℕ) → SyntaxCause
cause_from at rest =
    if slice_index rest 0 == 39 || slice_index rest 0 == 34
    then opened_cause false (slice_index rest 0) at (drop 1 rest) else
    if slice_index rest 0 == 91 then opened_cause true 93 at (drop 1 rest) else token_cause rest

-- the bytes EF BB BF at the start of a file
abbrev pub is_at_mark : (file : List ℕ) → (at : ℕ) → Bool
is_at_mark file at = at == 0 && starts_with nat_eq file (239 ∷ 187 ∷ 191 ∷ [])

-- the byte before an offset, or 0 at the start
abbrev pub byte_before : (file : List ℕ) → (at : ℕ) → ℕ
byte_before file at = if at == 0 then 0 else slice_index file (at - 1)

-- `/*` or `//` at an offset, or a star after a slash: `/` is 47 and `*` is 42
abbrev pub is_other_comment : (file : List ℕ) → (at : ℕ) → Bool
is_other_comment file at =
    (slice_index file at == 47 && (slice_index file (at + 1) == 42 || slice_index file (at + 1) == 47))
    || (slice_index file at == 42 && byte_before file at == 47)

-- a printable byte but `:` and `=`, which could end another sign for the arrow
abbrev pub can_be_labelled : ℕ → Bool
can_be_labelled byte = nat_le 33 byte && not (byte == 58) && not (byte == 61)

-- a colon between a name and an expression, without a blank
abbrev pub is_label : (file : List ℕ) → (at : ℕ) → Bool
is_label file at =
    slice_index file at == 58 && is_name_byte (byte_before file at) && can_be_labelled (slice_index file (at + 1))

-- the bytes of a line before an offset
abbrev pub line_before : (file : List ℕ) → (at : ℕ) → List ℕ
line_before file at = slice_range file (at - (column_at file at - 1)) at

-- an arrow: `<` is 60 and a dash is 45
abbrev pub has_arrow : List ℕ → Bool
has_arrow [] = false
has_arrow (byte ∷ rest) = (byte == 60 && slice_index rest 0 == 45) || has_arrow rest

-- a `<` that begins no arrow, in a line that has one before it
abbrev pub is_capture : (file : List ℕ) → (at : ℕ) → Bool
is_capture file at =
    slice_index file at == 60 && not (slice_index file (at + 1) == 45) && has_arrow (line_before file at)

-- why a grammar file isn't in the notation at an offset
abbrev pub syntax_cause : (file : List ℕ) → (at : ℕ) → SyntaxCause
syntax_cause file at =
    if nat_le (length file) at then EndsEarly else if is_at_mark file at then ByteOrderMark else
    if is_other_comment file at then OtherComment else if is_label file at then Label else
    if is_capture file at then Capture else cause_from at (drop at file)
