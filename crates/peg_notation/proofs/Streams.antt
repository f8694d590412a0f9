-- The tokens of a file from an offset on, each with its text.
use Rattle.std.proofs.Common.{◌≡◌, ◌≢◌, ℕ, ◌+◌, List, [], ◌∷◌, length, drop, ◌⊎◌, inl, inr}
use Rattle.std.proofs.Common.{Option, None, Some, refl, sym, ap, ◌∙◌, subst, arith}
use Rattle.std.proofs.lemmas.List.{drop_all}
use Rattle.peg_bytes.specs.Extent.{Extent, between}
use Rattle.peg_tree.specs.Trees.{Trees}
use Rattle.peg_semantics.specs.Form.{Name}
use Rattle.peg_semantics.specs.Record.{Recognition, Failed, Matched}
use Rattle.peg_semantics.proofs.Derivations.{Derives, derived, one_result}
use Rattle.peg_metagrammar.specs.Figure.{figure}
use Rattle.peg_lexer.specs.Lexical.{matcher_of, kind_of}
use Rattle.peg_lexer.specs.Matchers.{PrefixMatch}
use Rattle.peg_metagrammar.specs.Denotation.{text_end}
use Rattle.peg_lexer.specs.Tokens.{rule_of_kind, Lexeme, IsLexeme, Lexemes}
use Rattle.peg_lexer.specs.declared.token.TokenKind.{TokenKind}
use Rattle.peg_lexer.proofs.Lexemes.{lexeme_at, kinds_apart}
use Rattle.peg_lexer.proofs.Texts.{FindsToken, following_text}
use Rattle.peg_lexer.proofs.KindRules.{number_of, takes-kind, nothing_left}

-- these tokens follow each other from an offset to the end of the file
pub data Stream (file : List ℕ) : ℕ → List Lexeme → Type 0 where
  ended : {p : ℕ} → p ≡ length file → Stream file p []
  next : {p : ℕ} {more : List Lexeme} (kind : TokenKind) (piece : PrefixMatch) (lexeme : Lexeme) → matcher_of kind (drop p file)
      ≡ Some piece → lexeme ≡ lexeme_at kind p piece.length → Stream file (following_text file p piece.length) more
      → Stream file p (lexeme ∷ more)

-- the text at an offset is a token of one kind only
one_kind : (rest : List ℕ) (kind other : TokenKind) (piece : PrefixMatch) → matcher_of kind rest ≡ Some piece
    → (other ≡ kind) ⊎ (matcher_of other rest ≡ None)
one_kind [] kind other piece found = inr (nothing_left other)
one_kind (byte ∷ rest) kind other piece found = by (kinds_apart kind byte rest) (kinds_apart other byte rest)
  where
    by : ((kind_of byte ≡ Some kind) ⊎ (matcher_of kind (byte ∷ rest) ≡ None))
        → ((kind_of byte ≡ Some other) ⊎ (matcher_of other (byte ∷ rest) ≡ None))
        → (other ≡ kind) ⊎ (matcher_of other (byte ∷ rest) ≡ None)
    by here (inr none) = inr none
    by (inr none) (inl is) = absurd (let same : Some piece ≡ None = sym found ∙ none in cc)
    by (inl is) (inl also) = inl (let same : Some other ≡ Some kind = sym also ∙ is in cc)

-- ---- what is next

-- a token of this kind is next
pub here : {file : List ℕ} {p : ℕ} (kind : TokenKind) (piece : PrefixMatch) (span : Extent) → matcher_of kind (drop p file)
    ≡ Some piece → FindsToken file (number_of kind) (rule_of_kind kind) span p piece
here {file} {p} kind piece span found = (takes-kind file kind).some span p piece found

-- a token of another kind is next
pub not_here : {file : List ℕ} {p : ℕ} (kind : TokenKind) (piece : PrefixMatch) (other : TokenKind) (span : Extent)
    → matcher_of kind (drop p file) ≡ Some piece → other ≢ kind
    → Derives figure file (Name (rule_of_kind other) span) p Failed
not_here {file} {p} kind piece other span found apart =
    elim (one_kind (drop p file) kind other piece found) [
      | inl same ↦ absurd (apart same)
      | inr none ↦ (takes-kind file other).none span p none
    ]

-- no token is next
pub none_here : {file : List ℕ} {p : ℕ} (other : TokenKind) (span : Extent) → p ≡ length file
    → Derives figure file (Name (rule_of_kind other) span) p Failed
none_here {file} {p} other span last =
    (takes-kind file other).none span p (ap (matcher_of other) (drop_end p file last) ∙ nothing_left other)
  where
    drop_end : (p : ℕ) (file : List ℕ) → p ≡ length file → drop p file ≡ []
    drop_end p file last = drop_all p file (omega arith)

-- ---- streams of tokens

-- a token that the metagrammar has at an offset, by its text
lexeme_text : (file : List ℕ) (p end : ℕ) (lexeme : Lexeme) → IsLexeme file p end lexeme → (piece : PrefixMatch)
    × (matcher_of lexeme.kind (drop p file) ≡ Some piece) × (lexeme ≡ lexeme_at lexeme.kind p piece.length)
    × (end ≡ following_text file p piece.length)
lexeme_text file p end lexeme is = by (matcher_of lexeme.kind (drop p file)) refl
  where
    known : Derives figure file (Name (rule_of_kind lexeme.kind) (between 0 0)) p (Matched end is.0)
    known =
        subst (λ (x : Recognition). Derives figure file (Name (rule_of_kind lexeme.kind) (between 0 0)) p x) is.1.2
        (derived figure file is.1.1.0 (Name (rule_of_kind lexeme.kind) (between 0 0)) 0 p is.1.0 is.1.1.1)

    by : (text : Option PrefixMatch) → matcher_of lexeme.kind (drop p file) ≡ text → (piece : PrefixMatch)
        × (matcher_of lexeme.kind (drop p file) ≡ Some piece) × (lexeme ≡ lexeme_at lexeme.kind p piece.length)
        × (end ≡ following_text file p piece.length)
    by None none =
        absurd (let bad : Matched end is.0 ≡ Failed = one_result known
        ((takes-kind file lexeme.kind).none (between 0 0) p none) in cc)
    by (Some piece) found =
        let it : FindsToken file (number_of lexeme.kind) (rule_of_kind lexeme.kind)
        (between 0 0) p piece = here lexeme.kind piece (between 0 0) found in
        let same : Matched end is.0 ≡ Matched
        (following_text file p piece.length) it.trees = one_result known it.derives in
        let trees : is.0 ≡ it.trees = cc in
        let text : lexeme.text ≡ between p (p + piece.length) =
        is.2 ∙ (ap (λ (t : Trees). between p (text_end p t)) trees ∙ ap (between p) (it.ends p)) in
        (piece, found, ap (λ (t : Extent). record { kind = lexeme.kind; text = t }) text, cc)

-- tokens up to the end are a stream
pub stream : {file : List ℕ} {p end : ℕ} {lexemes : List Lexeme} → Lexemes file p lexemes end → end ≡ length file
    → Stream file p lexemes
stream {file} Lexemes.none last = Stream.ended last
stream {file} {p} (Lexemes.one {mid = mid} {lexeme = lexeme} {more = more} first rest) last =
    let it = lexeme_text file p mid lexeme first in
    Stream.next lexeme.kind it.0 lexeme it.1 it.2 (subst (λ q. Stream file q more) it.3 (stream rest last))
