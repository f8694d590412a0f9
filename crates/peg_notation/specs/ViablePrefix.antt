-- Where reading a grammar file stops: at the first fault in the order of its tokens. An unexpected token is the first
-- one with which no file of the notation continues.
use Rattle.std.specs.Prelude.{◌≡◌, ◌⊎◌, ℕ, ◌+◌, ◌≤◌, List, [], ◌∷◌, ◌++◌, map, length, take, codes, All}
use Rattle.std.specs.Prelude.{Result, Ok, Err}
use Rattle.std.specs.declared.alloc.Global.{Global}
use Rattle.std.specs.declared.vec.Vec.{Vec}
use Rattle.peg_grammar.specs.declared.expr.Definition.{Definition}
use Rattle.peg_tree.specs.Trees.{Trees}
use Rattle.peg_metagrammar.specs.Notation.{Matches, IsInNotation}
use Rattle.peg_metagrammar.specs.Denotation.{bad_counts}
use Rattle.peg_lexer.specs.Tokens.{Lexeme, IsTokens, IsLexingFault}
use Rattle.peg_lexer.specs.declared.token.TokenKind.{TokenKind}
use Rattle.peg_lexer.specs.declared.token.TokenKind.TheVariants.{Open, Count}
use Rattle.peg_notation.specs.Reads.{opens, closes}
use Rattle.peg_notation.specs.declared.fault.NotationFault.{NotationFault}
use Rattle.peg_notation.specs.declared.fault.NotationFault.TheVariants.{FileTooLong, Syntax, TooNested, BadCount, Memory}

-- the kinds of these tokens
abbrev pub kinds : List Lexeme → List TokenKind
kinds lexemes = map (λ (lexeme : Lexeme). lexeme.kind) lexemes

-- Some file of the notation has tokens whose kinds begin with these. Its length and its nesting depth have no limit.
abbrev pub CanContinue : List TokenKind → Type 0
CanContinue before =
    (file : List ℕ) × (lexemes : List Lexeme) × (more : List TokenKind) × IsTokens file lexemes × IsInNotation file
    × (kinds lexemes ≡ before ++ more)

-- if a count starts at this offset of the file, it is in range; and it is out of range
abbrev pub CountInRange : List ℕ → (at : ℕ) → Type 0
CountInRange file at = (end : ℕ) (trees : Trees) → Matches file (codes "COUNT") at end trees → bad_counts file trees ≡ []

abbrev pub CountOutOfRange : List ℕ → (at : ℕ) → Type 0
CountOutOfRange file at =
    (end : ℕ) × (trees : Trees) × Matches file (codes "COUNT") at end trees × (bad_counts file trees ≡ at ∷ [])

-- None of these first tokens of the file is a fault: some file of the notation continues them, at most `bound`
-- parentheses are open after each, and their counts are in range.
pub record AreFaultless (bound : ℕ) (file : List ℕ) (before : List Lexeme) : Type 0 where
  pub continue : CanContinue (kinds before)
  pub shallow : (n : ℕ) → opens (take n before) ≤ closes (take n before) + bound
  pub in_range : All (λ (lexeme : Lexeme). CountInRange file lexeme.text.start) before

-- The file has these tokens: some without a fault, one that starts at offset `at`, and more.
pub record StopsBefore (bound : ℕ) (file : List ℕ) (at : ℕ) (before : List Lexeme) (token : Lexeme) : Type 0 where
  pub more : List Lexeme
  pub tokens : IsTokens file (before ++ token ∷ more)
  pub place : at ≡ token.text.start
  pub faultless : AreFaultless bound file before

-- the token at this offset is the first fault: no file of the notation continues the tokens up to it
abbrev pub IsUnexpectedToken : (bound : ℕ) → List ℕ → (at : ℕ) → Type 0
IsUnexpectedToken bound file at =
    (before : List Lexeme) × (token : Lexeme) × StopsBefore bound file at before token
    × ¬ CanContinue (kinds before ++ token.kind ∷ [])

-- the offset is the end of the file, and no token is a fault
abbrev pub EndsEarly : (bound : ℕ) → List ℕ → (at : ℕ) → Type 0
EndsEarly bound file at =
    (lexemes : List Lexeme) × IsTokens file lexemes × (at ≡ length file) × AreFaultless bound file lexemes

-- the parenthesis at this offset is the first fault: it opens while `bound` are open
abbrev pub IsExcessParenthesis : (bound : ℕ) → List ℕ → (at : ℕ) → Type 0
IsExcessParenthesis bound file at =
    (before : List Lexeme) × (opening : Lexeme) × StopsBefore bound file at before opening × (opening.kind ≡ Open)
    × (opens before ≡ closes before + bound) × CanContinue (kinds before ++ opening.kind ∷ [])

-- the count at this offset is the first fault: it is out of range
abbrev pub IsOutOfRangeCount : (bound : ℕ) → List ℕ → (at : ℕ) → Type 0
IsOutOfRangeCount bound file at =
    (before : List Lexeme) × (count : Lexeme) × StopsBefore bound file at before count × (count.kind ≡ Count)
    × CountOutOfRange file at × CanContinue (kinds before ++ count.kind ∷ [])

-- The offset of a fault is the first one in the order of the tokens, once the file is tokenized. The end of the file is
-- unexpected if the metagrammar doesn't match the file and no token is a fault.
abbrev pub NamesFirstFault : (bound : ℕ) → List ℕ → Result (Vec Definition Global) NotationFault → Type 0
NamesFirstFault bound file (Err (Syntax at)) =
    IsLexingFault file at ⊎ IsUnexpectedToken bound file at ⊎ EndsEarly bound file at
NamesFirstFault bound file (Err (TooNested at)) = IsExcessParenthesis bound file at
NamesFirstFault bound file (Err (BadCount at)) = IsOutOfRangeCount bound file at
NamesFirstFault bound file (Err FileTooLong) = Unit {0}
NamesFirstFault bound file (Err Memory) = Unit {0}
NamesFirstFault bound file (Ok definitions) = Unit {0}
