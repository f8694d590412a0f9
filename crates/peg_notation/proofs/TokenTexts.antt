-- Facts from the text of a token, by its kind.
use Rattle.std.proofs.Common.{◌≡◌, ℕ, ◌+◌, ◌-◌, List, take, drop, length, length-drop, Option, None, Some, option_map, is_some, IsTrue}
use Rattle.std.proofs.Common.{refl, sym, ap, ◌∙◌, subst, arith}
use Rattle.std.proofs.lemmas.List.{drop-map, take_all}
use Rattle.std.specs.Str.{IsUtf8}
use Rattle.peg_lexer.specs.Lexical.{identifier, literal, class, matcher_of}
use Rattle.peg_lexer.specs.LexicalCode.{spells_of}
use Rattle.peg_lexer.specs.Matchers.{PrefixMatch}
use Rattle.peg_notation.specs.Reader.{pieces_of}
use Rattle.peg_notation.specs.ReaderCode.{IsText, lexemes}
use Rattle.peg_metagrammar.specs.Denotation.{part}
use Rattle.peg_lexer.specs.Tokens.{Lexeme, lexeme_of}
use Rattle.peg_lexer.specs.declared.token.Token.{Token}
use Rattle.peg_lexer.specs.declared.token.TokenKind.{TokenKind}
use Rattle.peg_lexer.specs.declared.token.TokenKind.TheVariants as kind
use Rattle.peg_lexer.proofs.PieceLemmas.{from, from-drop}
use Rattle.peg_lexer.proofs.TokenValues.{name-is_text}

some_text : (start end : ℕ) (x : Option PrefixMatch) → option_map (λ (piece : PrefixMatch). start + piece.length) x ≡ Some end
    → IsTrue (is_some x)
some_text start end None is = cc
some_text start end (Some piece) is = refl

-- the text of a token, by its kind
by_kind : (file : List ℕ) (lexeme : Lexeme) (k : TokenKind) → IsText file lexeme → lexeme.kind ≡ k
    → option_map (λ (piece : PrefixMatch). lexeme.text.start + piece.length) (matcher_of k (drop lexeme.text.start file)) ≡ Some lexeme.text.end
by_kind file lexeme k is e =
    subst (λ (j : TokenKind). option_map (λ (piece : PrefixMatch). lexeme.text.start + piece.length)
    (matcher_of j (drop lexeme.text.start file)) ≡ Some lexeme.text.end) e is

pub literal-here : (file : List ℕ) (lexeme : Lexeme) → IsText file lexeme → lexeme.kind ≡ kind.Literal
    → IsTrue (is_some (literal (from lexeme.text.start file)))
literal-here file lexeme is e =
    subst (λ bytes. IsTrue (is_some (literal bytes))) (sym (from-drop lexeme.text.start file))
    (some_text lexeme.text.start lexeme.text.end (literal (drop lexeme.text.start file)) (by_kind file lexeme kind.Literal is e))

pub literal-pieces : (file : List ℕ) (lexeme : Lexeme) → lexeme.kind ≡ kind.Literal
    → spells_of (literal (from lexeme.text.start file)) ≡ pieces_of file lexeme
literal-pieces file lexeme e =
    ap (λ bytes. spells_of (literal bytes)) (from-drop lexeme.text.start file)
    ∙ ap (λ (k : TokenKind). spells_of (matcher_of k (drop lexeme.text.start file))) (sym e)

pub class-here : (file : List ℕ) (lexeme : Lexeme) → IsText file lexeme → lexeme.kind ≡ kind.Class
    → IsTrue (is_some (class (from lexeme.text.start file)))
class-here file lexeme is e =
    subst (λ bytes. IsTrue (is_some (class bytes))) (sym (from-drop lexeme.text.start file))
    (some_text lexeme.text.start lexeme.text.end (class (drop lexeme.text.start file)) (by_kind file lexeme kind.Class is e))

pub class-pieces : (file : List ℕ) (lexeme : Lexeme) → lexeme.kind ≡ kind.Class
    → spells_of (class (from lexeme.text.start file)) ≡ pieces_of file lexeme
class-pieces file lexeme e =
    ap (λ bytes. spells_of (class bytes)) (from-drop lexeme.text.start file)
    ∙ ap (λ (k : TokenKind). spells_of (matcher_of k (drop lexeme.text.start file))) (sym e)

-- a name is UTF-8
pub name-here : (file : List ℕ) (lexeme : Lexeme) → IsText file lexeme → lexeme.kind ≡ kind.Ident
    → IsUtf8 (part file lexeme.text.start lexeme.text.end)
name-here file lexeme is e =
    by (identifier (drop lexeme.text.start file)) refl (by_kind file lexeme kind.Ident is e)
  where
    by : (x : Option PrefixMatch) → identifier (drop lexeme.text.start file) ≡ x
        → option_map (λ (piece : PrefixMatch). lexeme.text.start + piece.length) x ≡ Some lexeme.text.end
        → IsUtf8 (part file lexeme.text.start lexeme.text.end)
    by None found is = cc
    by (Some piece) found is =
        let same : lexeme.text.start + piece.length ≡ lexeme.text.end = cc in
        let size : piece.length ≡ lexeme.text.end - lexeme.text.start = omega (arith, same) in
        subst (λ n. IsUtf8 (take n (drop lexeme.text.start file))) size
        (name-is_text (drop lexeme.text.start file) piece found)

-- the tokens after the first `token_count` ones
pub lexemes-following : (tokens : List Token) (token_count : ℕ)
    → lexemes (take (length tokens - token_count) (drop token_count tokens)) ≡ drop token_count (lexemes tokens)
lexemes-following tokens token_count =
    ap lexemes (take_all (length tokens - token_count) (drop token_count tokens) (omega (arith, length-drop token_count tokens)))
    ∙ sym (drop-map lexeme_of token_count tokens)
