-- Describes code: the models of the arguments and results of the reader's functions.
use Rattle.std.specs.Prelude.{◌≡◌, ℕ, zero, suc, ◌+◌, ◌≤◌, max, true, false, List, [], ◌∷◌, ◌++◌, map, length, drop, Option, None}
use Rattle.std.specs.Prelude.{Some, option_map, Result, Ok, Err}
use Rattle.peg_grammar.specs.Written.{form_of, rule_of, rules_of}
use Rattle.peg_metagrammar.specs.Denotation.{bounds_in_range, counted_form}
use Rattle.peg_semantics.specs.Form.{Form}
use Rattle.peg_bytes.specs.Extent.{Extent}
use Rattle.peg_grammar.specs.declared.expr.Expr.{Expr}
use Rattle.peg_lexer.specs.Lexical.{matcher_of}
use Rattle.peg_lexer.specs.LexicalCode as lexical
use Rattle.peg_lexer.specs.Matchers.{PrefixMatch}
use Rattle.peg_notation.specs.Reader.{ReadError, Unexpected, TooDeepAt, BadCountAt, Reading, FormRead, FormsRead, RuleRead}
use Rattle.peg_notation.specs.Reader.{RulesRead, expression_in, bounds_of_lexeme, prefix_sign, with_prefix}
use Rattle.peg_lexer.specs.Tokens.{Lexeme, lexeme_of}
use Rattle.peg_notation.specs.declared.fault.NotationFault.{NotationFault}
use Rattle.peg_notation.specs.declared.fault.NotationFault.TheVariants.{FileTooLong, Syntax, TooNested, BadCount, Memory}
use Rattle.peg_notation.specs.declared.expressions.ParsedExpr.{ParsedExpr}
use Rattle.peg_notation.specs.declared.expressions.ParsedExprs.{ParsedExprs}
use Rattle.peg_notation.specs.declared.rules.ReadRule.{ReadRule}
use Rattle.peg_notation.specs.declared.rules.ReadRules.{ReadRules}
use Rattle.peg_lexer.specs.declared.counts.Bounds as code
use Rattle.peg_lexer.specs.declared.token.Token.{Token}

-- the lexemes that tokens denote
abbrev pub lexemes : List Token → List Lexeme
lexemes tokens = map lexeme_of tokens

-- the text of a token is at its span
abbrev pub IsText : List ℕ → Lexeme → Type 0
IsText file lexeme =
    option_map (λ (piece : PrefixMatch). lexeme.text.start + piece.length) (matcher_of lexeme.kind
    (drop lexeme.text.start file))
    ≡ Some lexeme.text.end

-- the tokens follow each other from an offset on
abbrev pub AreTexts : List ℕ → (from : ℕ) → List Lexeme → Type 0
AreTexts file from [] = from ≤ length file
AreTexts file from (lexeme ∷ more) =
    (from ≤ lexeme.text.start) × IsText file lexeme × AreTexts file lexeme.text.end more

-- the model of an expression that was read
abbrev pub form_seen : ParsedExpr → FormRead
form_seen read =
    record { form = form_of read.expression.value; token_count = read.token_count; last = read.last; depth = read.depth }

-- the model of several expressions that were read
abbrev pub forms_seen : ParsedExprs → FormsRead
forms_seen read =
    record {
      forms = map form_of read.expressions.items;
      token_count = read.token_count;
      last = read.last;
      depth = read.depth;
    }

-- expressions with one more appended
abbrev pub with_form : FormsRead → FormRead → FormsRead
with_form read next =
    record {
      forms = read.forms ++ next.form ∷ [];
      token_count = read.token_count + next.token_count;
      last = next.last;
      depth = max read.depth next.depth;
    }

-- the lexemes after the sign of a predicate, or all of them if there is none
abbrev pub after_sign_of : Lexeme → List Lexeme → Option (Form → Extent → Form) → List Lexeme
after_sign_of lexeme rest None = lexeme ∷ rest
after_sign_of lexeme rest (Some sign) = rest

abbrev pub after_sign : List Lexeme → List Lexeme
after_sign [] = []
after_sign (lexeme ∷ rest) = after_sign_of lexeme rest (prefix_sign lexeme.kind)

-- an expression as a predicate, if the first lexeme is its sign
abbrev pub with_sign_of : (start : ℕ) → FormRead → Option (Form → Extent → Form) → FormRead
with_sign_of start part None = part
with_sign_of start part (Some sign) = with_prefix start sign part

abbrev pub with_sign : List Lexeme → FormRead → FormRead
with_sign [] part = part
with_sign (lexeme ∷ rest) part = with_sign_of lexeme.text.start part (prefix_sign lexeme.kind)

-- the model of a rule that was read
abbrev pub rule_seen : ReadRule → RuleRead
rule_seen read = record { rule = rule_of read.definition; token_count = read.token_count; depth = read.depth }

-- the model of the rules that were read
abbrev pub rules_seen : ReadRules → RulesRead
rules_seen read = record { rules = rules_of read.definitions.items; depth = read.depth }

-- how an expression in parentheses is read, if at most `left` more may be opened
abbrev pub inner_reading : List ℕ → (left : ℕ) → Option Reading
inner_reading file zero = None
inner_reading file (suc n) = Some (expression_in file n)

-- a fault is the reason why reading stops, unless an allocation failed
abbrev pub AgreesOnError : {X : Type 0} → Result X ReadError → NotationFault → Type 0
AgreesOnError read FileTooLong = ⊥
AgreesOnError read (Syntax at) = read ≡ Err (Unexpected at)
AgreesOnError read (TooNested at) = read ≡ Err (TooDeepAt at)
AgreesOnError read (BadCount at) = read ≡ Err (BadCountAt at)
AgreesOnError read Memory = Unit {0}

-- the model of a result is what was read, unless an allocation failed
abbrev pub Agrees : {X Y : Type 0} → (seen : Y → X) → Result X ReadError → Result Y NotationFault → Type 0
Agrees seen read (Ok y) = read ≡ Ok (seen y)
Agrees seen read (Err fault) = AgreesOnError read fault

-- the bounds of a count in range, or the fault that it is out of range
abbrev pub IsBounded : List ℕ → (count : Lexeme) → Result code.Bounds NotationFault → Type 0
IsBounded file count (Ok found) =
    (bounds_in_range (bounds_of_lexeme file count) ≡ true)
    × (lexical.bounds_in_code found ≡ bounds_of_lexeme file count)
IsBounded file count (Err fault) =
    (bounds_in_range (bounds_of_lexeme file count) ≡ false) × (fault ≡ BadCount count.text.start)

-- An expression with a count in range, or the fault that the count is out of range. Out of memory says nothing.
abbrev pub IsCounted : List ℕ → (count : Lexeme) → (part : Form) → (span : Extent) → Result Expr NotationFault → Type 0
IsCounted file count part span (Ok whole) =
    (bounds_in_range (bounds_of_lexeme file count) ≡ true)
    × (form_of whole ≡ counted_form (bounds_of_lexeme file count) part span)
IsCounted file count part span (Err Memory) = Unit {0}
IsCounted file count part span (Err (BadCount at)) =
    (bounds_in_range (bounds_of_lexeme file count) ≡ false) × (at ≡ count.text.start)
IsCounted file count part span (Err _) = ⊥
