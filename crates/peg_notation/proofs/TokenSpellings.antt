-- For each list of kinds, a file that has tokens of these kinds and no count out of range.
use Rattle.std.proofs.Common.{◌≡◌, ℕ, ◌+◌, Bool, false, not, ◌&&◌, List, [], ◌∷◌, ◌++◌, length, drop, codes, unwrap_or}
use Rattle.std.proofs.Common.{Some, option_map, refl, sym, ap, ◌∙◌, subst, arith}
use Rattle.std.proofs.lemmas.List.{drop-drop}
use Rattle.peg_lexer.specs.Lexical.{end_of_line, space, comment, space_or_comment, spacing, identifier, literal, quoted, class, number, count, matcher_of}
use Rattle.peg_lexer.specs.Matchers.{PrefixMatch, many_after}
use Rattle.peg_lexer.specs.Tokens.{Lexeme, Lexemes, IsTokens}
use Rattle.peg_lexer.specs.declared.token.TokenKind.{TokenKind}
use Rattle.peg_lexer.specs.declared.token.TokenKind.TheVariants as kind
use Rattle.peg_lexer.proofs.Lexemes.{lexeme_at, kind_matches, matches}
use Rattle.peg_lexer.proofs.SpacingRules.{finds-spacing}
use Rattle.peg_lexer.proofs.Texts.{following_text}
use Rattle.peg_bytes.specs.Extent.{between}
use Rattle.peg_metagrammar.specs.Notation.{Matches}
use Rattle.peg_metagrammar.specs.Denotation.{Numeral, numerals_in, bounds_spelled, bounds_in_range}
use Rattle.peg_notation.specs.Reader.{is_count, is_bad_count}
use Rattle.peg_notation.specs.ViablePrefix.{kinds}

-- a spelling of each kind, with a space after it
abbrev spelling : TokenKind → List ℕ
spelling kind.Ident = codes "a "
spelling kind.Literal = codes "'' "
spelling kind.Class = codes "[] "
spelling kind.Arrow = codes "<- "
spelling kind.Slash = codes "/ "
spelling kind.And = codes "& "
spelling kind.Not = codes "! "
spelling kind.Question = codes "? "
spelling kind.Star = codes "* "
spelling kind.Plus = codes "+ "
spelling kind.Count = codes "{1} "
spelling kind.Open = codes "( "
spelling kind.Close = codes ") "
spelling kind.Dot = codes ". "

-- the file of these kinds
abbrev pub spelled_out : List TokenKind → List ℕ
spelled_out [] = []
spelled_out (k ∷ more) = spelling k ++ spelled_out more

-- no spacing is at its start
unspaced : (ks : List TokenKind) → (many_after space_or_comment (spelled_out ks) 0).length ≡ 0
unfolding many_after space comment end_of_line
unspaced [] = refl
unspaced (kind.Ident ∷ more) = refl
unspaced (kind.Literal ∷ more) = refl
unspaced (kind.Class ∷ more) = refl
unspaced (kind.Arrow ∷ more) = refl
unspaced (kind.Slash ∷ more) = refl
unspaced (kind.And ∷ more) = refl
unspaced (kind.Not ∷ more) = refl
unspaced (kind.Question ∷ more) = refl
unspaced (kind.Star ∷ more) = refl
unspaced (kind.Plus ∷ more) = refl
unspaced (kind.Count ∷ more) = refl
unspaced (kind.Open ∷ more) = refl
unspaced (kind.Close ∷ more) = refl
unspaced (kind.Dot ∷ more) = refl

first_unspaced : (ks : List TokenKind) → (spacing (spelled_out ks)).length ≡ 0
unfolding spacing
first_unspaced ks = unspaced ks

one_space : (ks : List TokenKind) → (spacing (32 ∷ spelled_out ks)).length ≡ 1
unfolding spacing many_after space comment end_of_line
one_space ks = ap (λ n. 1 + n) (unspaced ks)

-- whether a token of a kind is a count out of range, by its text and what comes after it
abbrev bad_text : TokenKind → List ℕ → Bool
bad_text k rest =
    is_count k && not (bounds_in_range (bounds_spelled (numerals_in (unwrap_or
    (option_map (λ (piece : PrefixMatch). piece.spells) (matcher_of k rest)) []))))

-- a spelling is a token of its kind, and a space comes after it
record Found (k : TokenKind) (rest : List ℕ) : Type 0 where
  pub piece : PrefixMatch
  pub found : matcher_of k (spelling k ++ rest) ≡ Some piece
  pub following : drop piece.length (spelling k ++ rest) ≡ 32 ∷ rest
  pub size : piece.length + 1 + length rest ≡ length (spelling k ++ rest)
  pub fine : bad_text k (spelling k ++ rest) ≡ false

plain_found : (n : ℕ) (k : TokenKind) (rest : List ℕ) → matcher_of k (spelling k ++ rest) ≡ Some (record { spells = []; length = n })
    → drop n (spelling k ++ rest) ≡ 32 ∷ rest → n + 1 + length rest ≡ length (spelling k ++ rest) → is_count k ≡ false
    → Found k rest
plain_found n k rest found following size other = record {
  piece = record { spells = []; length = n };
  found = found;
  following = following;
  size = size;
  fine =
      ap (λ (t : Bool). t && not (bounds_in_range (bounds_spelled (numerals_in (unwrap_or
      (option_map (λ (piece : PrefixMatch). piece.spells) (matcher_of k (spelling k ++ rest))) []))))) other;
}

spelling-found : (k : TokenKind) (rest : List ℕ) → Found k rest
unfolding identifier literal quoted class number count many_after
spelling-found kind.Ident rest = plain_found 1 kind.Ident rest refl refl (omega arith) refl
spelling-found kind.Literal rest = plain_found 2 kind.Literal rest refl refl (omega arith) refl
spelling-found kind.Class rest = plain_found 2 kind.Class rest refl refl (omega arith) refl
spelling-found kind.Arrow rest = plain_found 2 kind.Arrow rest refl refl (omega arith) refl
spelling-found kind.Slash rest = plain_found 1 kind.Slash rest refl refl (omega arith) refl
spelling-found kind.And rest = plain_found 1 kind.And rest refl refl (omega arith) refl
spelling-found kind.Not rest = plain_found 1 kind.Not rest refl refl (omega arith) refl
spelling-found kind.Question rest = plain_found 1 kind.Question rest refl refl (omega arith) refl
spelling-found kind.Star rest = plain_found 1 kind.Star rest refl refl (omega arith) refl
spelling-found kind.Plus rest = plain_found 1 kind.Plus rest refl refl (omega arith) refl
spelling-found kind.Count rest = record {
  piece = record { spells = Numeral 1 ∷ []; length = 3 };
  found = refl;
  following = refl;
  size = omega arith;
  fine = refl;
}
spelling-found kind.Open rest = plain_found 1 kind.Open rest refl refl (omega arith) refl
spelling-found kind.Close rest = plain_found 1 kind.Close rest refl refl (omega arith) refl
spelling-found kind.Dot rest = plain_found 1 kind.Dot rest refl refl (omega arith) refl

-- no count among these tokens is out of range
abbrev pub AllFine : List ℕ → List Lexeme → Type 0
AllFine file [] = Unit {0}
AllFine file (lexeme ∷ more) = (is_bad_count file lexeme ≡ false) × AllFine file more

-- tokens of these kinds from an offset to the end
record HasKinds (file : List ℕ) (p : ℕ) (ks : List TokenKind) : Type 0 where
  pub lexemes : List Lexeme
  pub tokens : Lexemes file p lexemes (length file)
  pub same : kinds lexemes ≡ ks
  pub fine : AllFine file lexemes

has-kinds : (file : List ℕ) (ks : List TokenKind) (p : ℕ) → drop p file ≡ spelled_out ks → p + length (spelled_out ks) ≡ length file
    → HasKinds file p ks
has-kinds file [] p is size = record {
  lexemes = [];
  tokens = subst (λ end. Lexemes file p [] end) (omega (arith, size)) Lexemes.none;
  same = refl;
  fine = tt;
}
has-kinds file (k ∷ more) p is size =
    let it = spelling-found k (spelled_out more) in
    let found : matcher_of k (drop p file) ≡ Some it.piece = ap (matcher_of k) is ∙ it.found in
    let following : drop (p + it.piece.length) file ≡ 32 ∷ spelled_out more =
    sym (drop-drop it.piece.length p file) ∙ (ap (drop it.piece.length) is ∙ it.following) in
    let next : following_text file p it.piece.length ≡ p + it.piece.length + 1 =
    ap (λ rest. p + it.piece.length + (spacing rest).length) following ∙ ap (λ n. p + it.piece.length + n) (one_space more) in
    let left : drop (following_text file p it.piece.length) file ≡ spelled_out more =
    ap (λ n. drop n file) next ∙ (sym (drop-drop 1 (p + it.piece.length) file) ∙ ap (drop 1) following) in
    let fits : following_text file p it.piece.length + length (spelled_out more) ≡ length file =
    omega (arith, next, size, it.size) in
    let rest = has-kinds file more (following_text file p it.piece.length) left fits in
    record {
      lexemes = lexeme_at k p it.piece.length ∷ rest.lexemes;
      tokens = Lexemes.one (kind_matches file k p it.piece found) rest.tokens;
      same = ap (λ (list : List TokenKind). k ∷ list) rest.same;
      fine = (ap (bad_text k) is ∙ it.fine, rest.fine);
    }

-- tokens of these kinds, and no count out of range
pub record Spelled (ks : List TokenKind) : Type 0 where
  pub file : List ℕ
  pub lexemes : List Lexeme
  pub tokens : IsTokens file lexemes
  pub same : kinds lexemes ≡ ks
  pub fine : AllFine file lexemes

pub spelled : (ks : List TokenKind) → Spelled ks
spelled ks =
    let file = spelled_out ks in
    let it = has-kinds file ks 0 refl (omega arith) in
    let gap = finds-spacing file (between 0 0) 0 in
    let start : 0 + (spacing (drop 0 file)).length ≡ 0 = omega (arith, first_unspaced ks) in
    record {
      file = file;
      lexemes = it.lexemes;
      tokens = (
        0,
        gap.trees,
        subst (λ n. Matches file (codes "Spacing") 0 n gap.trees) start (matches gap.derives),
        it.tokens,
      );
      same = it.same;
      fine = it.fine;
    }
