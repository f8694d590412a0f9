-- What the nodes of names, literals, classes and dots denote, from the bytes at their positions.
use Rattle.std.proofs.Common.{◌≡◌, ℕ, ◌+◌, ◌-◌, ◌≤◌, List, [], ◌∷◌, drop, take, length, Option, Some, is_some, IsTrue, refl, sym, ap, ◌∙◌, subst, arith, length-drop}
use Rattle.std.specs.Str.{IsUtf8}
use Rattle.peg_bytes.specs.ByteSet.{Bytes}
use Rattle.peg_bytes.specs.Extent.{between}
use Rattle.peg_tree.specs.Trees.{Trees, NoTrees, Tree}
use Rattle.peg_semantics.specs.Form as form
use Rattle.peg_semantics.specs.Form.{Form}
use Rattle.peg_metagrammar.specs.Ranges.{class_of}
use Rattle.peg_metagrammar.specs.Denotation.{Expression, Word, bytes_in, ranges_in, part, spelled, text_end}
use Rattle.peg_lexer.specs.Lexical.{literal, class}
use Rattle.peg_lexer.specs.LexicalCode.{spells_of}
use Rattle.peg_lexer.specs.Matchers.{PrefixMatch}
use Rattle.peg_lexer.specs.declared.token.TokenKind.TheVariants as kind
use Rattle.peg_lexer.proofs.PieceLemmas.{from, from-drop}
use Rattle.peg_lexer.proofs.TextRules.{identifier-fits}
use Rattle.peg_lexer.proofs.TokenValues.{name-is_text}
use Rattle.peg_bootstrap.specs.FigureNodes.{last_start}
use Rattle.peg_bootstrap.specs.AstBuilderCode.{Builds}
use Rattle.peg_bootstrap.proofs.TokenNodes.{Token}

-- the same, with equal forms and equal ends
pub says-same : {file : List ℕ} {before : ℕ} {tree : Trees} {f g : Form} {l m : ℕ} → g ≡ f → m ≡ l → Builds file before tree f l
    → Builds file before tree g m
says-same {file} {before} {tree} {g = g} {l = l} e is says =
    subst (λ n. Builds file before tree g n) (sym is) (subst (λ h. Builds file before tree h l) (sym e) says)

module _ (file : List ℕ) (rule start end : ℕ) (children : Trees) (at stop : ℕ) (at_is : at ≡ start)
    (stop_is : stop ≡ last_start start children) where
  -- the offset where a token's text ends
  end_is : {k : Rattle.peg_lexer.specs.declared.token.TokenKind.TokenKind} → (t : Token file k rule start end children)
      → start + t.piece.length ≡ stop
  end_is t = sym (stop_is ∙ t.last)

  span_is : {k : Rattle.peg_lexer.specs.declared.token.TokenKind.TokenKind} → (t : Token file k rule start end children)
      → between start (start + t.piece.length) ≡ between at stop
  span_is t = ap (between start) (end_is t) ∙ ap (λ n. between n stop) (sym at_is)

  -- ---- literals

  literal-found : (t : Token file kind.Literal rule start end children) → literal (from at file) ≡ Some t.piece
  literal-found t = ap (λ n. literal (from n file)) at_is ∙ (ap literal (from-drop start file) ∙ t.found)

  pub literal-here : Token file kind.Literal rule start end children → IsTrue (is_some (literal (from at file)))
  literal-here t = subst (λ (o : Option PrefixMatch). IsTrue (is_some o)) (sym (literal-found t)) refl

  pub literal-says : Token file kind.Literal rule start end children → (bytes : List ℕ)
      → bytes ≡ bytes_in (spells_of (literal (from at file))) → (before : ℕ)
      → Builds file before (Tree rule start end children NoTrees) (form.Literal bytes (between at stop)) stop
  literal-says t bytes are before =
      let value : bytes ≡ bytes_in t.piece.spells = are ∙ ap (λ (o : Option PrefixMatch). bytes_in (spells_of o)) (literal-found t) in
      record {
        pieces = t.spells before ∙ (ap (λ b. Expression (form.Literal b (between start (start + t.piece.length))) ∷ []) (sym value)
            ∙ ap (λ s. Expression (form.Literal bytes s) ∷ []) (span_is t));
        ends = t.ends before ∙ end_is t;
      }

  -- ---- classes

  class-found : (t : Token file kind.Class rule start end children) → class (from at file) ≡ Some t.piece
  class-found t = ap (λ n. class (from n file)) at_is ∙ (ap class (from-drop start file) ∙ t.found)

  pub class-here : Token file kind.Class rule start end children → IsTrue (is_some (class (from at file)))
  class-here t = subst (λ (o : Option PrefixMatch). IsTrue (is_some o)) (sym (class-found t)) refl

  pub class-says : Token file kind.Class rule start end children → (set : Bytes)
      → set ≡ class_of (ranges_in (spells_of (class (from at file)))) → (before : ℕ)
      → Builds file before (Tree rule start end children NoTrees) (form.Class set (between at stop)) stop
  class-says t set are before =
      let value : set ≡ class_of (ranges_in t.piece.spells) =
      are ∙ ap (λ (o : Option PrefixMatch). class_of (ranges_in (spells_of o))) (class-found t) in
      record {
        pieces = t.spells before ∙ (ap (λ b. Expression (form.Class b (between start (start + t.piece.length))) ∷ []) (sym value)
            ∙ ap (λ s. Expression (form.Class set s) ∷ []) (span_is t));
        ends = t.ends before ∙ end_is t;
      }

  -- ---- dots

  pub dot-says : Token file kind.Dot rule start end children → (before : ℕ)
      → Builds file before (Tree rule start end children NoTrees) (form.Any (between at stop)) stop
  dot-says t before = record {
    pieces = t.spells before ∙ ap (λ s. Expression (form.Any s) ∷ []) (span_is t);
    ends = t.ends before ∙ end_is t;
  }

  -- ---- names

  size_is : (t : Token file kind.Ident rule start end children) → t.piece.length ≡ stop - at
  size_is t = let e = end_is t in omega (arith, e, at_is)

  part_is : (t : Token file kind.Ident rule start end children) → take t.piece.length (drop start file) ≡ take (stop - at) (drop at file)
  part_is t = ap (λ n. take n (drop start file)) (size_is t) ∙ ap (λ n. take (stop - at) (drop n file)) (sym at_is)

  pub name-here : Token file kind.Ident rule start end children → IsUtf8 (take (stop - at) (drop at file))
  name-here t = subst IsUtf8 (part_is t) (name-is_text (drop start file) t.piece t.found)

  pub name-fits : Token file kind.Ident rule start end children → stop ≤ length file
  name-fits t =
      let fits = identifier-fits.fits (drop start file) t.piece t.found in
      let e = end_is t in
      omega (arith, fits, e, t.inside, length-drop start file)

  pub name-rule_name : (t : Token file kind.Ident rule start end children) → (text : List ℕ) → text ≡ take (stop - at) (drop at file)
      → (before : ℕ) → spelled file before (Tree rule start end children NoTrees) ≡ Word text (between at stop) ∷ []
  name-rule_name t text is before =
      let e = end_is t in
      t.spells before ∙ (ap (λ n. Word (part file start n) (between start n) ∷ []) e
      ∙ (ap (λ n. Word (part file n stop) (between n stop) ∷ []) (sym at_is) ∙ ap (λ b. Word b (between at stop) ∷ []) (sym is)))

  pub name-ends : (t : Token file kind.Ident rule start end children) → (before : ℕ)
      → text_end before (Tree rule start end children NoTrees) ≡ stop
  name-ends t before = t.ends before ∙ end_is t
