-- The token at the start of the remaining bytes is a token by the metagrammar.
use Rattle.std.proofs.Common.{◌≡◌, ℕ, suc, ◌+◌, ◌<◌, Bool, true, false, List, [], ◌∷◌, ◌++◌, length, drop}
use Rattle.std.proofs.Common.{Option, None, Some, option_map, option_and_then, ◌==◌, ◌⊎◌, inl, inr, refl, sym, ap, ◌∙◌, subst, arith, eqb-true, get_or, drop-cons}
use Rattle.peg_bytes.specs.Extent.{between}
use Rattle.peg_tree.specs.Trees.{Trees}
use Rattle.peg_semantics.specs.Form.{Name}
use Rattle.peg_semantics.specs.Record.{Failed, Matched}
use Rattle.peg_semantics.proofs.Derivations.{Derives, recorded}
use Rattle.peg_metagrammar.specs.Figure.{figure}
use Rattle.peg_lexer.specs.Lexical.{begins_name, identifier, literal, quoted, class, count, matcher_of, kind_of, ScannedToken, token_of, spacing}
use Rattle.peg_lexer.specs.LexicalCode.{TokenView, view_of_token, token_view}
use Rattle.peg_metagrammar.specs.Notation.{Matches, FailsAt}
use Rattle.peg_lexer.specs.Matchers.{PrefixMatch, literal_bytes}
use Rattle.peg_lexer.specs.Tokens.{rule_of_kind, Lexeme, IsLexeme, Lexemes, IsTokenized, IsLexingFault}
use Rattle.peg_lexer.specs.declared.token.TokenKind.{TokenKind}
use Rattle.peg_lexer.specs.declared.token.TokenKind.TheVariants.{Ident, Literal, Class, Arrow, Slash, And, Not, Question, Star, Plus, Count, Open, Close, Dot}
use Rattle.peg_lexer.proofs.PieceLemmas.{from, from-drop}
use Rattle.peg_lexer.proofs.SpacingRules.{finds-spacing}
use Rattle.peg_lexer.proofs.Texts.{FindsToken, following_text}
use Rattle.peg_lexer.proofs.TokenRules as rules

-- ---- records from derivations

pub matches : {file name : List ℕ} {p end : ℕ} {trees : Trees}
    → Derives figure file (Name name (between 0 0)) p (Matched end trees) → Matches file name p end trees
matches d = let known = recorded d 0 in (known.found, (known.depth, known.is), known.result_is)

pub fails : {file name : List ℕ} {p : ℕ} → Derives figure file (Name name (between 0 0)) p Failed → FailsAt file name p
fails d = let known = recorded d 0 in (known.found, (known.depth, known.is), known.result_is)

-- ---- each kind

-- a token of a kind at offset `p`, with a text of `size` bytes
abbrev pub lexeme_at : TokenKind → (p size : ℕ) → Lexeme
lexeme_at kind p size = record { kind = kind; text = between p (p + size) }

lexeme_found : {file : List ℕ} {number : ℕ} {p : ℕ} {piece : PrefixMatch} (kind : TokenKind)
    → FindsToken file number (rule_of_kind kind) (between 0 0) p piece
    → IsLexeme file p (following_text file p piece.length) (lexeme_at kind p piece.length)
lexeme_found {file} {number} {p} {piece} kind it =
    (it.trees, matches it.derives, ap (between p) (sym (it.ends p)))

pub kind_matches : (file : List ℕ) (kind : TokenKind) (p : ℕ) (piece : PrefixMatch) → matcher_of kind (drop p file) ≡ Some piece
    → IsLexeme file p (following_text file p piece.length) (lexeme_at kind p piece.length)
kind_matches file Ident p piece found = lexeme_found Ident
    ((rules.takes-identifier file).some (between 0 0) p piece found)
kind_matches file Literal p piece found = lexeme_found Literal
    ((rules.takes-literal file).some (between 0 0) p piece found)
kind_matches file Class p piece found = lexeme_found Class
    ((rules.takes-class_token file).some (between 0 0) p piece found)
kind_matches file Arrow p piece found = lexeme_found Arrow
    ((rules.takes-leftarrow file).some (between 0 0) p piece found)
kind_matches file Slash p piece found = lexeme_found Slash ((rules.takes-slash file).some (between 0 0) p piece found)
kind_matches file And p piece found = lexeme_found And ((rules.takes-and_sign file).some (between 0 0) p piece found)
kind_matches file Not p piece found = lexeme_found Not ((rules.takes-not_sign file).some (between 0 0) p piece found)
kind_matches file Question p piece found = lexeme_found Question
    ((rules.takes-question file).some (between 0 0) p piece found)
kind_matches file Star p piece found = lexeme_found Star ((rules.takes-star_sign file).some (between 0 0) p piece found)
kind_matches file Plus p piece found = lexeme_found Plus ((rules.takes-plus file).some (between 0 0) p piece found)
kind_matches file Count p piece found = lexeme_found Count ((rules.takes-count file).some (between 0 0) p piece found)
kind_matches file Open p piece found = lexeme_found Open ((rules.takes-open_sign file).some (between 0 0) p piece found)
kind_matches file Close p piece found = lexeme_found Close ((rules.takes-close file).some (between 0 0) p piece found)
kind_matches file Dot p piece found = lexeme_found Dot ((rules.takes-dot file).some (between 0 0) p piece found)

pub kind_fails : (file : List ℕ) (kind : TokenKind) (p : ℕ) → matcher_of kind (drop p file) ≡ None
    → FailsAt file (rule_of_kind kind) p
kind_fails file Ident p none = fails ((rules.takes-identifier file).none (between 0 0) p none)
kind_fails file Literal p none = fails ((rules.takes-literal file).none (between 0 0) p none)
kind_fails file Class p none = fails ((rules.takes-class_token file).none (between 0 0) p none)
kind_fails file Arrow p none = fails ((rules.takes-leftarrow file).none (between 0 0) p none)
kind_fails file Slash p none = fails ((rules.takes-slash file).none (between 0 0) p none)
kind_fails file And p none = fails ((rules.takes-and_sign file).none (between 0 0) p none)
kind_fails file Not p none = fails ((rules.takes-not_sign file).none (between 0 0) p none)
kind_fails file Question p none = fails ((rules.takes-question file).none (between 0 0) p none)
kind_fails file Star p none = fails ((rules.takes-star_sign file).none (between 0 0) p none)
kind_fails file Plus p none = fails ((rules.takes-plus file).none (between 0 0) p none)
kind_fails file Count p none = fails ((rules.takes-count file).none (between 0 0) p none)
kind_fails file Open p none = fails ((rules.takes-open_sign file).none (between 0 0) p none)
kind_fails file Close p none = fails ((rules.takes-close file).none (between 0 0) p none)
kind_fails file Dot p none = fails ((rules.takes-dot file).none (between 0 0) p none)

-- ---- the first byte determines the kind

-- either the next byte is the operator's first byte, or the operator does not match
sign_apart : (sign : ℕ) (more : List ℕ) (byte : ℕ) (rest : List ℕ)
    → (sign ≡ byte) ⊎ (literal_bytes (sign ∷ more) (byte ∷ rest) ≡ None)
sign_apart sign more byte rest = by (sign == byte) refl
  where
    by : (t : Bool) → (sign == byte) ≡ t → (sign ≡ byte) ⊎ (literal_bytes (sign ∷ more) (byte ∷ rest) ≡ None)
    by true is = inl (eqb-true sign byte is)
    by false is = inr (rw is refl)

-- the kind of an operator, if the next byte is its first byte
of_sign : (kind : TokenKind) (sign : ℕ) (more : List ℕ) (byte : ℕ) (rest : List ℕ) → kind_of sign ≡ Some kind
    → (kind_of byte ≡ Some kind) ⊎ (literal_bytes (sign ∷ more) (byte ∷ rest) ≡ None)
of_sign kind sign more byte rest is =
    elim (sign_apart sign more byte rest) [
      | inl same ↦ inl (subst (λ b. kind_of b ≡ Some kind) same is)
      | inr none ↦ inr none
    ]

pub kinds_apart : (kind : TokenKind) (byte : ℕ) (rest : List ℕ)
    → (kind_of byte ≡ Some kind) ⊎ (matcher_of kind (byte ∷ rest) ≡ None)
unfolding kind_of identifier literal quoted class count
kinds_apart Ident byte rest = by (begins_name byte) refl
  where
    by : (t : Bool) → begins_name byte ≡ t → (kind_of byte ≡ Some Ident) ⊎ (matcher_of Ident (byte ∷ rest) ≡ None)
    by true is = inl (rw is refl)
    by false is = inr (rw is refl)
kinds_apart Literal byte rest = by (byte == 39) (byte == 34) refl refl
  where
    by : (t u : Bool) → (byte == 39) ≡ t → (byte == 34) ≡ u
        → (kind_of byte ≡ Some Literal) ⊎ (matcher_of Literal (byte ∷ rest) ≡ None)
    by true u is other = inl (subst (λ b. kind_of b ≡ Some Literal) (sym (eqb-true byte 39 is)) refl)
    by false true is other = inl (subst (λ b. kind_of b ≡ Some Literal) (sym (eqb-true byte 34 other)) refl)
    by false false is other = inr (rw (is, other) refl)
kinds_apart Class byte rest =
    elim (of_sign Class 91 [] byte rest refl) [ inl same ↦ inl same | inr none ↦ inr (rw none refl) ]
kinds_apart Arrow byte rest = of_sign Arrow 60 (45 ∷ []) byte rest refl
kinds_apart Slash byte rest = of_sign Slash 47 [] byte rest refl
kinds_apart And byte rest = of_sign And 38 [] byte rest refl
kinds_apart Not byte rest = of_sign Not 33 [] byte rest refl
kinds_apart Question byte rest = of_sign Question 63 [] byte rest refl
kinds_apart Star byte rest = of_sign Star 42 [] byte rest refl
kinds_apart Plus byte rest = of_sign Plus 43 [] byte rest refl
kinds_apart Count byte rest =
    elim (of_sign Count 123 [] byte rest refl) [ inl same ↦ inl same | inr none ↦ inr (rw none refl) ]
kinds_apart Open byte rest = of_sign Open 40 [] byte rest refl
kinds_apart Close byte rest = of_sign Close 41 [] byte rest refl
kinds_apart Dot byte rest = of_sign Dot 46 [] byte rest refl

-- ---- the token at the start of the remaining bytes

abbrev pub seen_at : TokenKind → ℕ → TokenView
seen_at kind size = record { kind = kind; length = size }

abbrev found_of : TokenKind → PrefixMatch → ScannedToken
found_of kind text = record { kind = kind; text = text }

-- the code's result for a token, and the token of the definitions
token_found : (rest : List ℕ) (kind : TokenKind) (size : ℕ) → token_view rest ≡ Some (seen_at kind size)
    → (piece : PrefixMatch) × (matcher_of kind rest ≡ Some piece) × (piece.length ≡ size)
token_found [] kind size seen = cc
token_found (byte ∷ rest) kind size seen = by (kind_of byte) seen
  where
    by : (k : Option TokenKind) → option_map view_of_token (option_and_then (λ kind. token_of kind (byte ∷ rest)) k)
        ≡ Some (seen_at kind size) → (piece : PrefixMatch) × (matcher_of kind (byte ∷ rest) ≡ Some piece) × (piece.length ≡ size)
    by None seen = cc
    by (Some k) seen = later (matcher_of k (byte ∷ rest)) refl seen
      where
        later : (text : Option PrefixMatch) → matcher_of k (byte ∷ rest) ≡ text
            → option_map view_of_token (option_map (found_of k) text) ≡ Some (seen_at kind size) → (piece : PrefixMatch)
            × (matcher_of kind (byte ∷ rest) ≡ Some piece) × (piece.length ≡ size)
        later None is seen = cc
        later (Some piece) is seen =
            let same : seen_at k piece.length ≡ seen_at kind size = cc in (
              piece,
              subst (λ other. matcher_of other (byte ∷ rest) ≡ Some piece) (ap (λ (s : TokenView). s.kind) same) is,
              ap
                  (λ (s : TokenView). s.length) same,
            )

-- if the code finds no token, no kind of token matches
token_missing : (byte : ℕ) (rest : List ℕ) → token_view (byte ∷ rest) ≡ None → (kind : TokenKind)
    → matcher_of kind (byte ∷ rest) ≡ None
token_missing byte rest seen kind =
    elim (kinds_apart kind byte rest) [ inl is ↦ no_text is | inr none ↦ none ]
  where
    gone : (text : Option PrefixMatch) → option_map view_of_token (option_map (found_of kind) text) ≡ None → text ≡ None
    gone None e = refl
    gone (Some piece) e = cc

    no_text : kind_of byte ≡ Some kind → matcher_of kind (byte ∷ rest) ≡ None
    no_text is =
        gone (matcher_of kind (byte ∷ rest)) (ap (λ k. option_map view_of_token
        (option_and_then (λ kind. token_of kind (byte ∷
        rest)) k)) (sym is) ∙ seen)

-- ---- consecutive tokens

one_more : {file : List ℕ} {start mid end : ℕ} {lexemes : List Lexeme} (lexeme : Lexeme)
    → Lexemes file start lexemes mid → IsLexeme file mid end lexeme → Lexemes file start (lexemes ++ lexeme ∷ []) end
one_more lexeme Lexemes.none last = Lexemes.one last Lexemes.none
one_more lexeme (Lexemes.one first more) last = Lexemes.one first (one_more lexeme more last)

-- the first spacing
pub lex-start : (file : List ℕ) → IsTokenized file [] (spacing file).length
lex-start file =
    let gap = finds-spacing file (between 0 0) 0 in
    let here : 0 + (spacing (drop 0 file)).length ≡ (spacing file).length = omega arith in
    subst (λ end. IsTokenized file [] end) here
    (0 + (spacing (drop 0 file)).length, gap.trees, matches gap.derives, Lexemes.none)

-- one more token, and the spacing after it
pub lex-more : (file : List ℕ) (lexemes : List Lexeme) (at : ℕ) (kind : TokenKind) (size : ℕ) → IsTokenized file lexemes at
    → token_view (from at file) ≡ Some (seen_at kind size)
    → IsTokenized file (lexemes ++ lexeme_at kind at size ∷ []) (at + size + (spacing (from (at + size) file)).length)
lex-more file lexemes at kind size begun seen =
    let it = token_found (drop at file) kind size (ap token_view (sym (from-drop at file)) ∙ seen) in
    let known : IsLexeme file at (following_text file at it.0.length)
    (lexeme_at kind at it.0.length) = kind_matches file kind at it.0 it.1 in
    let sized : IsLexeme file at (following_text file at size) (lexeme_at kind at size) = subst
    (λ n. IsLexeme file at (following_text file at n) (lexeme_at kind at n)) it.2 known in
    let coded : IsLexeme file at (at + size + (spacing (from (at + size) file)).length) (lexeme_at kind at size) = subst
    (λ rest. IsLexeme file at (at + size + (spacing rest).length) (lexeme_at kind at size))
    (sym (from-drop (at + size) file)) sized in
    (begun.0, begun.1, begun.2, one_more (lexeme_at kind at size) begun.3 coded)

-- if no token is found before the end, the file has a lexing fault
pub lex-fault : (file : List ℕ) (lexemes : List Lexeme) (at : ℕ) → IsTokenized file lexemes at → at < length file
    → token_view (from at file) ≡ None → IsLexingFault file at
lex-fault file lexemes at begun before seen =
    let front : drop at file ≡ get_or file at 0 ∷ drop (suc at) file = drop-cons file at 0 before in
    let gone : token_view (get_or file at 0 ∷ drop (suc at) file) ≡ None = ap token_view (sym front)
    ∙ (ap token_view (sym (from-drop at file)) ∙ seen) in (
      lexemes,
      begun,
      before,
      λ kind. kind_fails file kind at
          (ap (matcher_of kind) front ∙ token_missing (get_or file at 0) (drop (suc at) file) gone kind),
    )
