-- Why a grammar file is refused, as a sentence of a message.
use Rattle.std.specs.Prelude.{ℕ, ◌+◌, ◌==◌, Bool, not, ◌&&◌, ◌||◌, if◌then◌else◌}
use Rattle.std.specs.Prelude.{List, [], ◌∷◌, ◌++◌, Option, None, Some, codes, drop, length, map, option_map, slice_index}
use Rattle.std.specs.List.{flat_map, take_while}
use Rattle.peg_messages.specs.Characters.{first_character}
use Rattle.peg_messages.specs.Found.{found_text}
use Rattle.peg_messages.specs.Shown.{shown_character}
use Rattle.peg_messages.specs.SyntaxCauses.{byte_before, is_name_byte, syntax_cause}
use Rattle.peg_messages.specs.declared.causes.SyntaxCause.{SyntaxCause}
use Rattle.peg_messages.specs.declared.causes.SyntaxCause.TheVariants.{EndsEarly, ByteOrderMark, OpenComment}
use Rattle.peg_messages.specs.declared.causes.SyntaxCause.TheVariants.{OpenLiteral, OpenClass, BadEscape, OtherComment}
use Rattle.peg_messages.specs.declared.causes.SyntaxCause.TheVariants.{Label, BareEscape, Braces, NoBreakSpace, NoArrow}
use Rattle.peg_messages.specs.declared.causes.SyntaxCause.TheVariants.{Bar, Capture, NamedClass, OpenCount, Semicolon}
use Rattle.peg_messages.specs.declared.causes.SyntaxCause.TheVariants.{Unexpected}
use Rattle.peg_messages.specs.declared.reason.Reason.{Reason}
use Rattle.peg_messages.specs.declared.reason.Reason.TheVariants as reason
use Rattle.peg_messages.specs.declared.shown.Style.TheVariants.{Spelling}

-- a backslash and the character after it
abbrev pub backslash_text : List ℕ → List ℕ
backslash_text rest = codes "\\" ++ shown_character Spelling (first_character rest)

-- what to write in place of an escaped dash
abbrev pub dash_hint : List ℕ → List ℕ
dash_hint rest = if slice_index rest 0 == 45 then codes ": write a dash first in its class, as in [-a]" else []

-- the bytes after a backslash begin no escape
abbrev pub escape_sentence : List ℕ → List ℕ
escape_sentence rest = backslash_text rest ++ codes " isn't an escape" ++ dash_hint rest

-- the name with which some bytes begin
abbrev pub name_from : List ℕ → List ℕ
name_from rest = take_while is_name_byte rest

-- the name at an offset, or the character
abbrev pub token_text : (file : List ℕ) → (at : ℕ) → List ℕ
token_text file at =
    if length (name_from (drop at file)) == 0 then found_text file at 0 else name_from (drop at file)

-- what is written in place of a form of other notations
abbrev pub foreign_sentence : SyntaxCause → List ℕ
foreign_sentence OtherComment = codes "a comment begins with #"
foreign_sentence Label = codes "there are no labels: give the part a rule of its own"
foreign_sentence BareEscape = codes "an escape is written in a literal or a class, as in [\\t]"
foreign_sentence OpenCount = codes "a count needs both numbers: write e e+ for two or more"
foreign_sentence Braces = codes "a count is written {2} or {2,4}"
foreign_sentence NamedClass = codes "there are no named classes: write a class in brackets, as in [a-zA-Z0-9]"
foreign_sentence Capture = codes "there are no captures: give the part a rule of its own"
foreign_sentence NoBreakSpace = codes "unexpected '\\xC2\\xA0' (no-break space): write a blank"
foreign_sentence Bar = codes "alternatives are separated by /, not by |"
foreign_sentence Semicolon = codes "a definition doesn't end in a semicolon"
foreign_sentence other = []

-- what to write in place of the arrows `->` and `=>`, with which the bytes from an error on begin: `-` is 45, `=` is 61
-- and `>` is 62
abbrev pub arrow_hint : List ℕ → List ℕ
arrow_hint rest =
    if not (slice_index rest 1 == 62) then [] else
    if slice_index rest 0 == 45 then codes ": write <- in place of ->" else
    if slice_index rest 0 == 61 then codes ": write <- in place of =>" else []

-- the cause of a syntax error at an offset
abbrev pub cause_sentence : (file : List ℕ) → (at : ℕ) → SyntaxCause → List ℕ
cause_sentence file at EndsEarly = codes "the file ends too early"
cause_sentence file at ByteOrderMark = codes "the notation has no byte order mark: remove it"
cause_sentence file at OpenComment = codes "this comment has no line end"
cause_sentence file at OpenLiteral = codes "this literal isn't closed"
cause_sentence file at OpenClass = codes "this class isn't closed: a bracket after a dash, as in [a-], ends a range"
cause_sentence file at (BadEscape backslash) = escape_sentence (drop (backslash + 1) file)
cause_sentence file at Unexpected = codes "unexpected " ++ token_text file at
cause_sentence file at NoArrow = codes "a definition is written NAME <- EXPRESSION" ++ arrow_hint (drop at file)
cause_sentence file at foreign = foreign_sentence foreign

-- a rule, and what is wrong with it
abbrev pub rule_sentence : (name what : List ℕ) → List ℕ
rule_sentence name what = codes "the rule " ++ name ++ what

-- a name that is the letter `i`, 105, right after a quote, which is 39 or 34
abbrev pub is_case_flag : (file name : List ℕ) → (at : ℕ) → Bool
is_case_flag file name at =
    length name == 1 && slice_index name 0 == 105 && (byte_before file at == 39 || byte_before file at == 34)

-- whether a rule is meant, if one is known
abbrev pub meant_question : (meant : Option (List ℕ)) → List ℕ
meant_question None = []
meant_question (Some rule) = codes ": did you mean " ++ (rule ++ codes "?")

-- no rule has a name at an offset: a literal can't ignore case, if the name is the sign for this in other notations
abbrev pub undefined_sentence : (file name : List ℕ) → (meant : Option (List ℕ)) → (at : ℕ) → List ℕ
undefined_sentence file name meant at =
    if is_case_flag file name at
    then codes "a literal can't ignore case: write a class for each letter, as in [sS] [eE]"
    else rule_sentence name (codes " is not defined") ++ meant_question meant

-- a name after an arrow
abbrev pub arrowed : List ℕ → List ℕ
arrowed name = codes " -> " ++ name

-- rules of which each calls the next, and the last the first: `A -> B -> A`
abbrev pub path_text : List (List ℕ) → List ℕ
path_text [] = []
path_text (name ∷ rest) = name ++ (flat_map arrowed rest ++ arrowed name)

-- why a grammar file is refused
abbrev pub reason_sentence : (file : List ℕ) → Reason → List ℕ
reason_sentence file reason.FileTooLong = codes "the grammar file is longer than 1048576 bytes"
reason_sentence file (reason.Syntax at) = cause_sentence file at (syntax_cause file at)
reason_sentence file (reason.TooNested at) = codes "parentheses nest deeper than 200"
reason_sentence file (reason.BadCount at) =
    codes "a count ends at 1 to 255, and its first number is at most its second"
reason_sentence file reason.NoRule = codes "the file has no rule"
reason_sentence file (reason.Duplicate name at) = rule_sentence name.now (codes " is defined twice")
reason_sentence file (reason.Undefined name meant at) =
    undefined_sentence file name.now (option_map (λ rule. rule.now) meant) at
reason_sentence file reason.TooManyParts = codes "the grammar has more than 4194304 parts"
reason_sentence file (reason.EmptyLoop rule at) =
    codes "this repetition matches the empty text again and again, in " ++ rule.now
reason_sentence file (reason.LeftRecursion path at) =
    codes "left recursion: " ++ path_text (map (λ name. name.now) path.now)
reason_sentence file reason.CodeTooLarge = codes "the code would have more than 1000000 instructions"
