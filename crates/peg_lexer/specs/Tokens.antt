-- The tokens of a file: consecutive matches of the metagrammar's token rules, from Identifier, Literal and Class to
-- DOT.
use Rattle.std.specs.Prelude.{◌≡◌, ℕ, ◌<◌, ◌≤◌, List, [], ◌∷◌, map, length, codes, Result, Ok, Err}
use Rattle.peg_bytes.specs.Extent.{Extent, between, extent}
use Rattle.peg_tree.specs.Trees.{Trees}
use Rattle.peg_metagrammar.specs.Notation.{Matches, FailsAt, max_file_bytes}
use Rattle.peg_metagrammar.specs.Denotation.{text_end}
use Rattle.std.specs.declared.alloc.Global.{Global}
use Rattle.std.specs.declared.vec.Vec.{Vec}
use Rattle.peg_lexer.specs.declared.fault.LexFault.{LexFault}
use Rattle.peg_lexer.specs.declared.fault.LexFault.TheVariants.{FileTooLong, Syntax, Memory}
use Rattle.peg_lexer.specs.declared.token.Token.{Token}
use Rattle.peg_lexer.specs.declared.token.TokenKind.{TokenKind}
use Rattle.peg_lexer.specs.declared.token.TokenKind.TheVariants.{Ident, Literal, Class, Arrow, Slash, And, Not}
use Rattle.peg_lexer.specs.declared.token.TokenKind.TheVariants.{Question, Star, Plus, Count, Open, Close, Dot}

-- the metagrammar's rule for a kind of token
abbrev pub rule_of_kind : TokenKind → List ℕ
rule_of_kind Ident = codes "Identifier"
rule_of_kind Literal = codes "Literal"
rule_of_kind Class = codes "Class"
rule_of_kind Arrow = codes "LEFTARROW"
rule_of_kind Slash = codes "SLASH"
rule_of_kind And = codes "AND"
rule_of_kind Not = codes "NOT"
rule_of_kind Question = codes "QUESTION"
rule_of_kind Star = codes "STAR"
rule_of_kind Plus = codes "PLUS"
rule_of_kind Count = codes "COUNT"
rule_of_kind Open = codes "OPEN"
rule_of_kind Close = codes "CLOSE"
rule_of_kind Dot = codes "DOT"

-- a token: its kind, and the extent of its text without the spacing after it
pub record Lexeme : Type 0 where
  pub kind : TokenKind
  pub text : Extent

-- the token in a `Token`
abbrev pub lexeme_of : Token → Lexeme
lexeme_of token = record { kind = token.kind; text = extent token.span }

-- a token of this kind starts at `position`, and its spacing ends at `end`
abbrev pub IsLexeme : List ℕ → (position end : ℕ) → Lexeme → Type 0
IsLexeme file position end lexeme =
    (trees : Trees) × Matches file (rule_of_kind lexeme.kind) position end trees
    × (lexeme.text ≡ between position (text_end position trees))

-- the tokens are consecutive from one offset to another
pub data Lexemes (file : List ℕ) : ℕ → List Lexeme → ℕ → Type 0 where
  none : {position : ℕ} → Lexemes file position [] position
  one : {position mid end : ℕ} {lexeme : Lexeme} {more : List Lexeme} → IsLexeme file position mid lexeme
      → Lexemes file mid more end → Lexemes file position (lexeme ∷ more) end

-- the file starts with spacing and then these tokens, up to offset `end`
abbrev pub IsTokenized : List ℕ → List Lexeme → (end : ℕ) → Type 0
IsTokenized file lexemes end =
    (start : ℕ) × (trees : Trees) × Matches file (codes "Spacing") 0 start trees × Lexemes file start lexemes end

-- the tokens of a file
abbrev pub IsTokens : List ℕ → List Lexeme → Type 0
IsTokens file lexemes = IsTokenized file lexemes (length file)

-- The lexing fault of a file: after some tokens the file continues, and no token rule matches.
abbrev pub IsLexingFault : List ℕ → (at : ℕ) → Type 0
IsLexingFault file at =
    (lexemes : List Lexeme) × IsTokenized file lexemes at × (at < length file)
    × ((kind : TokenKind) → FailsAt file (rule_of_kind kind) at)

-- The result of lexing: the tokens, or the lexing fault, or that the file is too long. A failed allocation says nothing
-- about the file.
abbrev pub Lexes : List ℕ → Result (Vec Token Global) LexFault → Type 0
Lexes file (Ok tokens) = (length file ≤ max_file_bytes) × IsTokens file (map lexeme_of tokens.items)
Lexes file (Err FileTooLong) = max_file_bytes < length file
Lexes file (Err (Syntax at)) = (length file ≤ max_file_bytes) × IsLexingFault file at
Lexes file (Err Memory) = Unit {0}
