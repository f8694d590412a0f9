-- The text of the metagrammar: Ford's figure 1 (Ford 2004, section 2.1), with counts in rule Suffix and hexadecimal
-- escapes in rule Char. It has 31 lines, each ended by LF.
use Rattle.std.specs.Prelude.{ℕ, List, [], ◌∷◌, ◌++◌, flat_map, length, take, codes}

-- the lines of the metagrammar
unfoldable pub figure_lines : List (List ℕ)
figure_lines =
    codes "Grammar <- Spacing Definition+ EndOfFile" ∷
    codes "Definition <- Identifier LEFTARROW Expression" ∷
    codes "Expression <- Sequence (SLASH Sequence)*" ∷
    codes "Sequence <- Prefix*" ∷
    codes "Prefix <- (AND / NOT)? Suffix" ∷
    codes "Suffix <- Primary (QUESTION / STAR / PLUS / COUNT)?" ∷
    codes "Primary <- Identifier !LEFTARROW / OPEN Expression CLOSE / Literal / Class / DOT" ∷
    codes "Identifier <- IdentStart IdentCont* Spacing" ∷
    codes "IdentStart <- [a-zA-Z_]" ∷
    codes "IdentCont <- IdentStart / [0-9]" ∷
    codes "Literal <- ['] (!['] Char)* ['] Spacing / [\"] (![\"] Char)* [\"] Spacing" ∷
    codes "Class <- '[' (!']' Range)* ']' Spacing" ∷
    codes "Range <- Char '-' Char / Char" ∷
    codes "Char <- '\\\\x' [0-9a-fA-F][0-9a-fA-F] / '\\\\' [nrt'\"\\[\\]\\\\] / '\\\\' [0-2][0-7][0-7] / '\\\\' [0-7][0-7]? / !'\\\\' ." ∷
    codes "LEFTARROW <- '<-' Spacing" ∷
    codes "SLASH <- '/' Spacing" ∷
    codes "AND <- '&' Spacing" ∷
    codes "NOT <- '!' Spacing" ∷
    codes "QUESTION <- '?' Spacing" ∷
    codes "STAR <- '*' Spacing" ∷
    codes "PLUS <- '+' Spacing" ∷
    codes "COUNT <- '{' Number (',' Number)? '}' Spacing" ∷
    codes "Number <- [0-9]+" ∷
    codes "OPEN <- '(' Spacing" ∷
    codes "CLOSE <- ')' Spacing" ∷
    codes "DOT <- '.' Spacing" ∷
    codes "Spacing <- (Space / Comment)*" ∷
    codes "Comment <- '#' (!EndOfLine .)* EndOfLine" ∷
    codes "Space <- ' ' / '\\t' / EndOfLine" ∷
    codes "EndOfLine <- '\\r\\n' / '\\n' / '\\r'" ∷
    codes "EndOfFile <- !." ∷
    []

-- lines as text, each ended by LF
abbrev pub text_of_lines : List (List ℕ) → List ℕ
text_of_lines lines = flat_map (λ line. line ++ 10 ∷ []) lines

-- the text of the metagrammar
abbrev pub text_of_figure : List ℕ
text_of_figure = text_of_lines figure_lines

-- the offset of a rule's line: the length of the lines before it
unfoldable pub line_start : (rule : ℕ) → ℕ
line_start rule = length (text_of_lines (take rule figure_lines))
