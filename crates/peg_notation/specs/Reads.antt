-- The result of reading a grammar file: its definitions, or why it is rejected and where.
use Rattle.std.specs.Prelude.{◌≡◌, ◌≢◌, ◌⊎◌, ℕ, ◌+◌, ◌<◌, ◌≤◌, List, [], ◌∷◌, ◌++◌, map, length, take, sum_by, codes}
use Rattle.std.specs.Prelude.{Contains}
use Rattle.std.specs.Prelude.{Result, Ok, Err}
use Rattle.std.specs.declared.alloc.Global.{Global}
use Rattle.std.specs.declared.vec.Vec.{Vec}
use Rattle.peg_semantics.specs.Rules.{Rule}
use Rattle.peg_grammar.specs.Written.{rules_of}
use Rattle.peg_grammar.specs.declared.expr.Definition.{Definition}
use Rattle.peg_tree.specs.Trees.{Trees}
use Rattle.peg_metagrammar.specs.Notation.{Matches, FigureMatches, IsReading, max_file_bytes}
use Rattle.peg_metagrammar.specs.Nesting.{nesting, max_open}
use Rattle.peg_metagrammar.specs.Denotation.{bad_counts}
use Rattle.peg_lexer.specs.Tokens.{Lexeme, IsTokens, IsLexingFault}
use Rattle.peg_lexer.specs.declared.fault.LexFault.{LexFault}
use Rattle.peg_lexer.specs.declared.fault.LexFault.TheVariants as lexing
use Rattle.peg_notation.specs.declared.fault.NotationFault.{NotationFault}
use Rattle.peg_notation.specs.declared.fault.NotationFault.TheVariants.{FileTooLong, Syntax, TooNested, BadCount, Memory}
use Rattle.peg_lexer.specs.declared.token.TokenKind.{TokenKind}
use Rattle.peg_lexer.specs.declared.token.TokenKind.TheVariants.{Open, Close, Count}

-- if the metagrammar matches the file, its nesting depth is at most `bound`
abbrev pub NestsWithin : (bound : ℕ) → List ℕ → Type 0
NestsWithin bound file = (end : ℕ) (trees : Trees) → Matches file (codes "Grammar") 0 end trees → nesting trees ≤ bound

-- if the metagrammar matches the file, its nesting depth is greater than `bound`
abbrev pub NestsDeeper : (bound : ℕ) → List ℕ → Type 0
NestsDeeper bound file = (end : ℕ) (trees : Trees) → Matches file (codes "Grammar") 0 end trees → bound < nesting trees

-- if the metagrammar matches the file, some count is out of range
abbrev pub CountsOutOfRange : List ℕ → Type 0
CountsOutOfRange file =
    (end : ℕ) (trees : Trees) → Matches file (codes "Grammar") 0 end trees → bad_counts file trees ≢ []

-- these rules are the reading of a file with a nesting depth of at most `bound`
abbrev pub IsReadingWithin : (bound : ℕ) → List ℕ → List Rule → Type 0
IsReadingWithin bound file rules = IsReading file rules × NestsWithin bound file

-- ---- offsets

-- the offset where a token of the file starts, or the length of the file
abbrev pub IsTokenPlace : List ℕ → (at : ℕ) → Type 0
IsTokenPlace file at =
    (lexemes : List Lexeme) × IsTokens file lexemes
    × (Contains (map (λ (lexeme : Lexeme). lexeme.text.start) lexemes) at ⊎ (at ≡ length file))

-- the number of these tokens that open a parenthesis
abbrev pub one_if_open : TokenKind → ℕ
one_if_open Open = 1
one_if_open _ = 0

abbrev pub opens : List Lexeme → ℕ
opens lexemes = sum_by (λ (lexeme : Lexeme). one_if_open lexeme.kind) lexemes

-- the number of these tokens that close one
abbrev pub one_if_close : TokenKind → ℕ
one_if_close Close = 1
one_if_close _ = 0

abbrev pub closes : List Lexeme → ℕ
closes lexemes = sum_by (λ (lexeme : Lexeme). one_if_close lexeme.kind) lexemes

-- The parenthesis that opens at this offset is the first one too many. Just before it `bound` parentheses are open, and
-- never more at any token before it.
abbrev pub IsOneTooMany : (bound : ℕ) → List ℕ → (at : ℕ) → Type 0
IsOneTooMany bound file at =
    (before : List Lexeme) × (opening : Lexeme) × (more : List Lexeme) × IsTokens file (before ++ opening ∷ more)
    × (opening.kind ≡ Open) × (at ≡ opening.text.start) × (opens before ≡ closes before + bound)
    × ((n : ℕ) → opens (take n before) ≤ closes (take n before) + bound)

-- a count that is out of range starts at this offset of the file
abbrev pub IsBadCountToken : List ℕ → (at : ℕ) → Type 0
IsBadCountToken file at =
    (before : List Lexeme) × (count : Lexeme) × (more : List Lexeme) × IsTokens file (before ++ count ∷ more)
    × (count.kind ≡ Count) × (at ≡ count.text.start)
    × ((end : ℕ) × (trees : Trees) × Matches file (codes "COUNT") at end trees × (bad_counts file trees ≡ at ∷ []))

-- ---- the result

-- the fault of a file that can't be tokenized
abbrev pub fault_of : LexFault → NotationFault
fault_of lexing.FileTooLong = FileTooLong
fault_of (lexing.Syntax at) = Syntax at
fault_of lexing.Memory = Memory

-- The result of reading a file. Definitions are the reading of a file of the notation within the nesting limit. After a
-- syntax fault the metagrammar doesn't match the file. The offset is that of a lexing fault or a token, or the end of
-- the file. A count fault has the offset of a count that is out of range. Out of memory says nothing.
abbrev pub Reads : List ℕ → Result (Vec Definition Global) NotationFault → Type 0
Reads file (Ok definitions) =
    (length file ≤ max_file_bytes) × IsReadingWithin max_open file (rules_of definitions.items)
Reads file (Err FileTooLong) = max_file_bytes < length file
Reads file (Err (Syntax at)) =
    (length file ≤ max_file_bytes) × (¬ FigureMatches file) × (IsLexingFault file at ⊎ IsTokenPlace file at)
Reads file (Err (TooNested at)) =
    (length file ≤ max_file_bytes) × NestsDeeper max_open file × IsOneTooMany max_open file at
Reads file (Err (BadCount at)) =
    (length file ≤ max_file_bytes) × CountsOutOfRange file × IsBadCountToken file at
Reads file (Err Memory) = Unit {0}
