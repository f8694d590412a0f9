-- How the reader's functions agree with the metagrammar. At the start of a token, a rule matches exactly what is read,
-- or fails, or stops at a token that nothing can follow.
use Rattle.std.proofs.Common.{◌≡◌, ℕ, max, ◌+◌, ◌<◌, Bool, true, false, ◌&&◌, ◌||◌, List, [], ◌∷◌, length, drop, codes, ◌⊎◌}
use Rattle.std.proofs.Common.{Option, None, Some, Result, Ok, Err, if◌then◌else◌, ◌==◌, refl, sym, ap, ◌∙◌, arith, append-nil}
use Rattle.peg_bytes.specs.Extent.{Extent}
use Rattle.peg_tree.specs.Trees.{Trees, NoTrees, Tree, followed_by}
use Rattle.peg_semantics.specs.Form.{Name}
use Rattle.peg_semantics.specs.Record.{Failed, Matched}
use Rattle.peg_semantics.specs.Rules.{Meaning, meaning_of}
use Rattle.peg_semantics.proofs.Derivations.{Derives}
use Rattle.peg_metagrammar.specs.Figure.{figure}
use Rattle.peg_metagrammar.specs.FigureRules.{primary_rule, open_sign_rule, spacing_rule}
use Rattle.peg_lexer.specs.Lexical.{matcher_of}
use Rattle.peg_lexer.specs.Matchers.{PrefixMatch}
use Rattle.peg_notation.specs.Reader.{ReadError, Unexpected, TooDeepAt, BadCountAt, FormRead, Reading, place_of}
use Rattle.peg_metagrammar.specs.Denotation.{Expression, text_end, node_spelled, spelled}
use Rattle.peg_metagrammar.specs.Nesting.{nesting, has_open}
use Rattle.peg_lexer.specs.Tokens.{Lexeme}
use Rattle.peg_lexer.specs.declared.token.TokenKind.{TokenKind}
use Rattle.peg_lexer.specs.declared.token.TokenKind.TheVariants.{And, Not, Open}
use Rattle.peg_notation.proofs.Streams.{Stream}

-- ---- trees in a row

pub followed-none : (t : Trees) → followed_by t NoTrees ≡ t
followed-none NoTrees = refl
followed-none (Tree r start end children rest) = ap (Tree r start end children) (followed-none rest)

pub has_open-followed : (a b : Trees) → has_open (followed_by a b) ≡ (has_open a || has_open b)
has_open-followed NoTrees b = refl
has_open-followed (Tree r start end children rest) b = by (r == open_sign_rule) (has_open-followed rest b)
  where
    by : (t : Bool) → has_open (followed_by rest b) ≡ (has_open rest || has_open b)
        → (t || has_open (followed_by rest b)) ≡ ((t || has_open rest) || has_open b)
    by true e = refl
    by false e = e

-- ---- rules whose value doesn't depend on the token before them

-- a rule matches an expression at an offset, and the tokens after it are left
pub record ReadsAny (file used : List ℕ) (p : ℕ) (lexemes : List Lexeme) (part : FormRead) : Type 0 where
  pub end : ℕ
  pub trees : Trees
  pub left : Stream file end (drop part.token_count lexemes)
  pub derives : (span : Extent) → Derives figure file (Name used span) p (Matched end trees)
  pub spells : (before : ℕ) → spelled file before trees ≡ Expression part.form ∷ []
  pub ends : (before : ℕ) → text_end before trees ≡ part.last
  pub nests : nesting trees ≡ part.depth
  pub some : 0 < part.token_count

-- What is read is matched, and at an unexpected token the rule fails. A reading that stops at a parenthesis too many
-- says nothing.
abbrev pub ExactAny : (file used : List ℕ) (p : ℕ) (lexemes : List Lexeme) → Result FormRead ReadError → Type 0
ExactAny file used p lexemes (Ok part) = ReadsAny file used p lexemes part
ExactAny file used p lexemes (Err (Unexpected at)) = (span : Extent) → Derives figure file (Name used span) p Failed
ExactAny file used p lexemes (Err (TooDeepAt at)) = Unit {0}
ExactAny file used p lexemes (Err (BadCountAt at)) = Unit {0}

-- ---- rules that never fail

-- a rule matches an expression at an offset, after a token whose text ends at another
pub record ReadsAt (file used : List ℕ) (before p : ℕ) (lexemes : List Lexeme) (part : FormRead) : Type 0 where
  pub end : ℕ
  pub trees : Trees
  pub left : Stream file end (drop part.token_count lexemes)
  pub derives : (span : Extent) → Derives figure file (Name used span) p (Matched end trees)
  pub spells : spelled file before trees ≡ Expression part.form ∷ []
  pub ends : text_end before trees ≡ part.last
  pub nests : nesting trees ≡ part.depth

-- A `&`, a `!` or an open parenthesis is at an offset. No token that may come after a complete Expression is one of
-- these.
pub record IsStuck (file : List ℕ) (p : ℕ) : Type 0 where
  pub kind : TokenKind
  pub piece : PrefixMatch
  pub found : matcher_of kind (drop p file) ≡ Some piece
  pub opens : (kind ≡ And) ⊎ (kind ≡ Not) ⊎ (kind ≡ Open)

-- a rule stops at such a token
pub record Stops (file used : List ℕ) (p : ℕ) : Type 0 where
  pub end : ℕ
  pub trees : Trees
  pub derives : (span : Extent) → Derives figure file (Name used span) p (Matched end trees)
  pub stuck : IsStuck file end

abbrev pub ExactAt : (file used : List ℕ) (before p : ℕ) (lexemes : List Lexeme) → Result FormRead ReadError → Type 0
ExactAt file used before p lexemes (Ok part) = ReadsAt file used before p lexemes part
ExactAt file used before p lexemes (Err (Unexpected at)) = Stops file used p
ExactAt file used before p lexemes (Err (TooDeepAt at)) = Unit {0}
ExactAt file used before p lexemes (Err (BadCountAt at)) = Unit {0}

-- a function that reads inside parentheses and agrees with Expression
abbrev pub Good : (file : List ℕ) → Option Reading → Type 0
Good file None = Unit {0}
Good file (Some read) =
    (before p : ℕ) (lexemes : List Lexeme) → Stream file p lexemes
    → ExactAt file (codes "Expression") before p lexemes (read before lexemes)

-- ---- nodes

-- a match of a rule's body is one tree of the rule
pub node_any : {file used : List ℕ} {p end : ℕ} {t : Trees} {lexemes : List Lexeme} (m : Meaning) → meaning_of figure used
    ≡ Some m → (m.rule == spacing_rule) ≡ false → (m.rule == primary_rule) ≡ false
    → Derives figure file m.body p (Matched end t) → (part : FormRead)
    → ((before : ℕ) → node_spelled file m.rule before p end part.last (spelled file before t) ≡ Expression part.form ∷
    []) → ((before : ℕ) → text_end before t ≡ part.last) → nesting t ≡ part.depth → 0 < part.token_count
    → Stream file end (drop part.token_count lexemes) → ReadsAny file used p lexemes part
node_any {file} {used} {p} {end} {t} {lexemes} m known no_spacing no_primary d part spells ends nests some left = record {
  end = end;
  trees = Tree m.rule p end t NoTrees;
  left = left;
  derives = λ span. Derives.name_matched known d refl;
  spells = λ before.
      append-nil (node_spelled file m.rule before p end (text_end before t) (spelled file before t))
      ∙ (ap (λ last. node_spelled file m.rule before p end last (spelled file before t)) (ends before) ∙ spells before);
  ends = λ before. ap (λ (s : Bool). if s then p else text_end before t) no_spacing ∙ ends before;
  nests =
      ap (λ (s : Bool). max ((if s && has_open t then 1 else 0) + nesting t) 0) no_primary
      ∙ (ap (λ n. max (0 + n) 0) nests ∙ omega arith);
  some = some;
}

pub node_at : {file used : List ℕ} {p end : ℕ} {t : Trees} {lexemes : List Lexeme} (before : ℕ) (m : Meaning)
    → meaning_of figure used ≡ Some m → (m.rule == spacing_rule) ≡ false → (m.rule == primary_rule) ≡ false
    → Derives figure file m.body p (Matched end t) → (part : FormRead)
    → node_spelled file m.rule before p end part.last (spelled file before t) ≡ Expression part.form ∷ []
    → text_end before t ≡ part.last → nesting t ≡ part.depth → Stream file end (drop part.token_count lexemes)
    → ReadsAt file used before p lexemes part
node_at {file} {used} {p} {end} {t} {lexemes} before m known no_spacing no_primary d part spells ends nests left = record {
  end = end;
  trees = Tree m.rule p end t NoTrees;
  left = left;
  derives = λ span. Derives.name_matched known d refl;
  spells =
      append-nil (node_spelled file m.rule before p end (text_end before t) (spelled file before t))
      ∙ (ap (λ last. node_spelled file m.rule before p end last (spelled file before t)) ends ∙ spells);
  ends = ap (λ (s : Bool). if s then p else text_end before t) no_spacing ∙ ends;
  nests =
      ap (λ (s : Bool). max ((if s && has_open t then 1 else 0) + nesting t) 0) no_primary
      ∙ (ap (λ n. max (0 + n) 0) nests ∙ omega arith);
}

-- the first of the tokens at an offset starts there, or the file ends there
pub position-is : {file : List ℕ} {p : ℕ} {lexemes : List Lexeme} → Stream file p lexemes → place_of (length file) lexemes
    ≡ p
position-is (Stream.ended last) = sym last
position-is (Stream.next k piece lexeme found is rest) = ap (λ (l : Lexeme). l.text.start) is
