-- The reader's `primary` agrees with the metagrammar's Primary.
use Rattle.std.proofs.Common.{◌≡◌, ◌≢◌, ℕ, suc, max, ◌+◌, Bool, true, false, ◌||◌, List, [], ◌∷◌, ◌++◌, length, drop, codes, ◌⊎◌, inl, inr}
use Rattle.std.proofs.Common.{Option, None, Some, Result, Ok, Err, option_map, unwrap_or, if◌then◌else◌, ◌==◌, refl, sym, ap, ◌∙◌, subst, arith, append-nil}
use Rattle.std.proofs.lemmas.List.{drop-drop}
use Rattle.peg_bytes.specs.Extent.{Extent, between}
use Rattle.peg_tree.specs.Trees.{Trees, NoTrees, Tree, followed_by}
use Rattle.peg_semantics.specs.Form as form
use Rattle.peg_semantics.specs.Form.{Form, Name, Not, End, Then}
use Rattle.peg_semantics.specs.Record.{Failed, Matched}
use Rattle.peg_semantics.proofs.Derivations.{Derives, DerivesItems, DerivesFirst}
use Rattle.peg_metagrammar.specs.Figure.{figure, primary_body, on_line}
use Rattle.peg_metagrammar.specs.FigureRules.{primary_rule, identifier_rule, literal_rule, class_rule, open_sign_rule}
use Rattle.peg_metagrammar.specs.FigureRules.{close_rule, dot_rule}
use Rattle.peg_lexer.specs.Lexical.{matcher_of}
use Rattle.peg_lexer.specs.Matchers.{PrefixMatch}
use Rattle.peg_metagrammar.specs.Ranges.{class_of}
use Rattle.peg_notation.specs.Reader.{ReadError, Unexpected, TooDeepAt, BadCountAt, FormRead, Reading, pieces_of, and_read, closed_form, parenthesized, primary, primary_of, starts_with_arrow}
use Rattle.peg_metagrammar.specs.Denotation.{Denotation, Expression, bytes_in, ranges_in, part, text_end, spelled, node_spelled, primary_spelled}
use Rattle.peg_metagrammar.specs.Nesting.{nesting, has_open}
use Rattle.peg_lexer.specs.Tokens.{Lexeme, rule_of_kind}
use Rattle.peg_lexer.specs.declared.token.TokenKind.{TokenKind}
use Rattle.peg_lexer.specs.declared.token.TokenKind.TheVariants as kind
use Rattle.peg_metagrammar.proofs.FigureNames.{primary-meaning_of}
use Rattle.peg_lexer.proofs.Lexemes.{lexeme_at}
use Rattle.peg_lexer.proofs.PieceSizes.{blank-literal_bytes}
use Rattle.peg_lexer.proofs.Takes.{spelled-seq_matcher, text_end-seq_matcher, nesting-seq_matcher}
use Rattle.peg_notation.proofs.Readings.{followed-none, has_open-followed, ReadsAny, ExactAny, ExactAt, ReadsAt, IsStuck, Good}
use Rattle.peg_notation.proofs.Streams.{Stream, here, not_here, none_here}
use Rattle.peg_lexer.proofs.KindRules.{number_of}
use Rattle.peg_lexer.proofs.Texts.{FindsToken, following_text}

-- ---- Primary in general

-- a match of the body is one tree
matched : {file : List ℕ} {p end : ℕ} {trees : Trees} → Derives figure file primary_body p (Matched end trees)
    → (span : Extent) → Derives figure file (Name (codes "Primary") span) p
    (Matched end (Tree primary_rule p end trees NoTrees))
matched d span = Derives.name_matched primary-meaning_of.1 d refl

-- all five alternatives fail
failed : {file : List ℕ} {p : ℕ} → ((span : Extent) → Derives figure file (Name (codes "Identifier") span) p Failed)
    → ((span : Extent) → Derives figure file (Name (codes "OPEN") span) p Failed)
    → ((span : Extent) → Derives figure file (Name (codes "Literal") span) p Failed)
    → ((span : Extent) → Derives figure file (Name (codes "Class") span) p Failed)
    → ((span : Extent) → Derives figure file (Name (codes "DOT") span) p Failed) → (span : Extent)
    → Derives figure file (Name (codes "Primary") span) p Failed
unfolding primary_body
failed ident opens literal class dot span =
    Derives.name_failed primary-meaning_of.1
    (Derives.choice (DerivesFirst.alternative_failed (Derives.sequence (DerivesItems.items_failed (ident _)))
    (DerivesFirst.alternative_failed (Derives.sequence (DerivesItems.items_failed (opens _)))
    (DerivesFirst.alternative_failed (literal _) (DerivesFirst.alternative_failed (class _)
    (DerivesFirst.alternative_last (dot _)))))))

-- the next token is of a kind that begins no primary
other_fails : {file : List ℕ} {p : ℕ} (k : TokenKind) (piece : PrefixMatch) → matcher_of k (drop p file) ≡ Some piece
    → kind.Ident ≢ k → kind.Open ≢ k → kind.Literal ≢ k → kind.Class ≢ k → kind.Dot ≢ k → (span : Extent)
    → Derives figure file (Name (codes "Primary") span) p Failed
other_fails k piece found a b c d e =
    failed (λ span. not_here k piece kind.Ident span found a) (λ span. not_here k piece kind.Open span found b)
    (λ span. not_here k piece kind.Literal span found c) (λ span. not_here k piece kind.Class span found d)
    (λ span. not_here k piece kind.Dot span found e)

-- a primary of one token
of_token : {file : List ℕ} {p : ℕ} {k : TokenKind} {span : Extent} {piece : PrefixMatch} {more : List Lexeme} (value : Form)
    → (it : FindsToken file (number_of k) (rule_of_kind k) span p piece) → (number_of k == open_sign_rule) ≡ false
    → ((before : ℕ) → primary_spelled (node_spelled file (number_of k) before p (following_text file p piece.length)
    (p + piece.length) piece.spells) ≡ Expression value ∷ [])
    → Derives figure file primary_body p (Matched (following_text file p piece.length) it.trees)
    → Stream file (following_text file p piece.length) more
    → ReadsAny file (codes "Primary") p (lexeme_at k p piece.length ∷
    more) (record { form = value; token_count = 1; last = p + piece.length; depth = 0 })
of_token {file} {p} {k} {span} {piece} {more} value it closed_form spelling d left = record {
  end = following_text file p piece.length;
  trees = Tree primary_rule p (following_text file p piece.length) it.trees NoTrees;
  left = left;
  derives = matched d;
  spells = λ before.
      append-nil (primary_spelled (spelled file before it.trees))
      ∙ (ap primary_spelled (it.spells before) ∙ spelling before);
  ends = it.ends;
  nests =
      ap (λ (t : Bool). max ((if t then 1 else 0) + nesting it.trees) 0) (it.opens ∙ closed_form)
      ∙ ap (λ n. max (0 + n) 0) it.flat;
  some = omega arith;
}

-- ---- names

-- whether an arrow is next
arrow_next : {file : List ℕ} {p : ℕ} {lexemes : List Lexeme} → Stream file p lexemes
    → ((starts_with_arrow lexemes ≡ true) × ((span : Extent) → (end : ℕ) × (trees : Trees)
    × Derives figure file (Name (codes "LEFTARROW") span) p (Matched end trees))) ⊎ ((starts_with_arrow lexemes ≡ false)
    × ((span : Extent) → Derives figure file (Name (codes "LEFTARROW") span) p Failed))
arrow_next (Stream.ended last) = inr (refl, λ span. none_here kind.Arrow span last)
arrow_next {file} {p} (Stream.next {more = more} k piece lexeme found is rest) =
    subst (λ (l : Lexeme). ((starts_with_arrow (l ∷ more) ≡ true) × ((span : Extent) → (end : ℕ) × (trees : Trees)
    × Derives figure file (Name (codes "LEFTARROW") span) p (Matched end trees))) ⊎ ((starts_with_arrow (l ∷ more)
    ≡ false) × ((span : Extent) → Derives figure file (Name (codes "LEFTARROW") span) p Failed))) (sym is)
    (by k found)
  where
    by : (k : TokenKind) → matcher_of k (drop p file) ≡ Some piece
        → ((starts_with_arrow (lexeme_at k p piece.length ∷ more) ≡ true)
        × ((span : Extent) → (end : ℕ) × (trees : Trees)
        × Derives figure file (Name (codes "LEFTARROW") span) p (Matched end trees))) ⊎
        ((starts_with_arrow (lexeme_at k p piece.length ∷ more) ≡ false)
        × ((span : Extent) → Derives figure file (Name (codes "LEFTARROW") span) p Failed))
    by kind.Arrow there = inl (
      refl,
      λ span. let it = here kind.Arrow piece span there in
          (following_text file p piece.length, it.trees, it.derives),
    )
    by kind.Ident there = inr (refl, λ span. not_here kind.Ident piece kind.Arrow span there (λ e. cc))
    by kind.Literal there = inr (refl, λ span. not_here kind.Literal piece kind.Arrow span there (λ e. cc))
    by kind.Class there = inr (refl, λ span. not_here kind.Class piece kind.Arrow span there (λ e. cc))
    by kind.Slash there = inr (refl, λ span. not_here kind.Slash piece kind.Arrow span there (λ e. cc))
    by kind.And there = inr (refl, λ span. not_here kind.And piece kind.Arrow span there (λ e. cc))
    by kind.Not there = inr (refl, λ span. not_here kind.Not piece kind.Arrow span there (λ e. cc))
    by kind.Question there = inr (refl, λ span. not_here kind.Question piece kind.Arrow span there (λ e. cc))
    by kind.Star there = inr (refl, λ span. not_here kind.Star piece kind.Arrow span there (λ e. cc))
    by kind.Plus there = inr (refl, λ span. not_here kind.Plus piece kind.Arrow span there (λ e. cc))
    by kind.Count there = inr (refl, λ span. not_here kind.Count piece kind.Arrow span there (λ e. cc))
    by kind.Open there = inr (refl, λ span. not_here kind.Open piece kind.Arrow span there (λ e. cc))
    by kind.Close there = inr (refl, λ span. not_here kind.Close piece kind.Arrow span there (λ e. cc))
    by kind.Dot there = inr (refl, λ span. not_here kind.Dot piece kind.Arrow span there (λ e. cc))

name_primary : (file : List ℕ) (p : ℕ) (piece : PrefixMatch) (more : List Lexeme) (inner : Option Reading)
    → matcher_of kind.Ident (drop p file) ≡ Some piece → Stream file (following_text file p piece.length) more
    → ExactAny file (codes "Primary") p (lexeme_at kind.Ident p piece.length ∷
    more) (primary_of file inner (lexeme_at kind.Ident p piece.length) more kind.Ident)
unfolding primary_body
name_primary file p piece more inner found rest =
    elim (arrow_next rest) [ inl arrow ↦ refused arrow | inr none ↦ read none ]
  where
    refused : (starts_with_arrow more ≡ true) × ((span : Extent) → (end : ℕ) × (trees : Trees)
        × Derives figure file (Name (codes "LEFTARROW") span) (following_text file p piece.length) (Matched end trees))
        → ExactAny file (codes "Primary") p (lexeme_at kind.Ident p piece.length ∷
        more) (primary_of file inner (lexeme_at kind.Ident p piece.length) more kind.Ident)
    refused arrow =
        rw arrow.0 (λ (span : Extent). Derives.name_failed primary-meaning_of.1
        (Derives.choice (DerivesFirst.alternative_failed (Derives.sequence
        (DerivesItems.items_then ((here kind.Ident piece _ found).derives)
        (DerivesItems.items_failed (Derives.not_failed ((arrow.1 _).2))) refl))
        (DerivesFirst.alternative_failed (Derives.sequence (DerivesItems.items_failed
        (not_here kind.Ident piece kind.Open _ found (λ e. cc))))
        (DerivesFirst.alternative_failed (not_here kind.Ident piece kind.Literal _ found (λ e. cc))
        (DerivesFirst.alternative_failed (not_here kind.Ident piece kind.Class _ found (λ e. cc))
        (DerivesFirst.alternative_last (not_here kind.Ident piece kind.Dot _ found (λ e. cc)))))))))

    read : (starts_with_arrow more ≡ false) × ((span : Extent) → Derives figure file (Name (codes "LEFTARROW") span)
        (following_text file p piece.length) Failed) → ExactAny file (codes "Primary") p
        (lexeme_at kind.Ident p piece.length ∷ more) (primary_of file inner
        (lexeme_at kind.Ident p piece.length) more kind.Ident)
    read none =
        let it : FindsToken file identifier_rule (codes "Identifier") (on_line primary_rule 11 21) p piece = here kind.Ident piece
        (on_line primary_rule 11 21) found in
        rw none.0 (of_token (form.Name (part file p (p + piece.length)) (between p (p + piece.length))) it refl
        (λ before. refl)
        (Derives.choice (DerivesFirst.alternative_matched (Derives.sequence
        (DerivesItems.items_then it.derives (DerivesItems.items_then
        (Derives.not_matched (none.1 _)) DerivesItems.items_none refl)
        (ap (λ (t : Trees). Matched (following_text file p piece.length) t) (sym (followed-none it.trees))))))) rest)

-- ---- literals, classes and dots

-- what a token denotes
pub pieces_here : (file : List ℕ) (k : TokenKind) (p : ℕ) (piece : PrefixMatch) → matcher_of k (drop p file) ≡ Some piece
    → pieces_of file (lexeme_at k p piece.length) ≡ piece.spells
pieces_here file k p piece found = ap (λ text. unwrap_or (option_map (λ (x : PrefixMatch). x.spells) text) []) found

literal_primary : (file : List ℕ) (p : ℕ) (piece : PrefixMatch) (more : List Lexeme) (inner : Option Reading)
    → matcher_of kind.Literal (drop p file) ≡ Some piece → Stream file (following_text file p piece.length) more
    → ExactAny file (codes "Primary") p (lexeme_at kind.Literal p piece.length ∷
    more) (primary_of file inner (lexeme_at kind.Literal p piece.length) more kind.Literal)
unfolding primary_body
literal_primary file p piece more inner found rest =
    let it : FindsToken file literal_rule (codes "Literal") (on_line primary_rule 59 66) p piece = here kind.Literal piece
    (on_line primary_rule 59 66) found in
    of_token (form.Literal (bytes_in (pieces_of file (lexeme_at kind.Literal p piece.length)))
    (between p (p + piece.length))) it refl
    (λ before. ap (λ pieces. Expression (form.Literal (bytes_in pieces) (between p (p + piece.length))) ∷ [])
    (sym (pieces_here file kind.Literal p piece found)))
    (Derives.choice (DerivesFirst.alternative_failed (Derives.sequence
    (DerivesItems.items_failed (not_here kind.Literal piece kind.Ident _ found (λ e. cc))))
    (DerivesFirst.alternative_failed (Derives.sequence (DerivesItems.items_failed
    (not_here kind.Literal piece kind.Open _ found (λ e. cc))))
    (DerivesFirst.alternative_matched it.derives)))) rest

class_primary : (file : List ℕ) (p : ℕ) (piece : PrefixMatch) (more : List Lexeme) (inner : Option Reading)
    → matcher_of kind.Class (drop p file) ≡ Some piece → Stream file (following_text file p piece.length) more
    → ExactAny file (codes "Primary") p (lexeme_at kind.Class p piece.length ∷
    more) (primary_of file inner (lexeme_at kind.Class p piece.length) more kind.Class)
unfolding primary_body
class_primary file p piece more inner found rest =
    let it : FindsToken file class_rule (codes "Class") (on_line primary_rule 69 74) p piece = here kind.Class piece
    (on_line primary_rule 69 74) found in
    of_token (form.Class (class_of (ranges_in (pieces_of file (lexeme_at kind.Class p piece.length))))
    (between p (p + piece.length))) it refl
    (λ before. ap (λ pieces. Expression (form.Class (class_of (ranges_in pieces)) (between p (p + piece.length))) ∷ [])
    (sym (pieces_here file kind.Class p piece found)))
    (Derives.choice (DerivesFirst.alternative_failed (Derives.sequence
    (DerivesItems.items_failed (not_here kind.Class piece kind.Ident _ found (λ e. cc))))
    (DerivesFirst.alternative_failed (Derives.sequence (DerivesItems.items_failed
    (not_here kind.Class piece kind.Open _ found (λ e. cc))))
    (DerivesFirst.alternative_failed (not_here kind.Class piece kind.Literal _ found (λ e. cc))
    (DerivesFirst.alternative_matched it.derives))))) rest

dot_primary : (file : List ℕ) (p : ℕ) (piece : PrefixMatch) (more : List Lexeme) (inner : Option Reading)
    → matcher_of kind.Dot (drop p file) ≡ Some piece → Stream file (following_text file p piece.length) more
    → ExactAny file (codes "Primary") p (lexeme_at kind.Dot p piece.length ∷
    more) (primary_of file inner (lexeme_at kind.Dot p piece.length) more kind.Dot)
unfolding primary_body
dot_primary file p piece more inner found rest =
    let it : FindsToken file dot_rule (codes "DOT") (on_line primary_rule 77 80) p piece = here kind.Dot piece
    (on_line primary_rule 77 80) found in
    of_token (form.Any (between p (p + piece.length))) it refl (λ before. refl)
    (Derives.choice (DerivesFirst.alternative_failed (Derives.sequence
    (DerivesItems.items_failed (not_here kind.Dot piece kind.Ident _ found (λ e. cc))))
    (DerivesFirst.alternative_failed (Derives.sequence (DerivesItems.items_failed
    (not_here kind.Dot piece kind.Open _ found (λ e. cc))))
    (DerivesFirst.alternative_failed (not_here kind.Dot piece kind.Literal _ found (λ e. cc))
    (DerivesFirst.alternative_failed (not_here kind.Dot piece kind.Class _ found (λ e. cc))
    (DerivesFirst.alternative_last it.derives)))))) rest

-- ---- parentheses

-- if a parenthesis opens and the rest of its alternative fails, so does Primary
open_fails : (file : List ℕ) (p : ℕ) (piece : PrefixMatch) → matcher_of kind.Open (drop p file) ≡ Some piece
    → ((span next : Extent) → DerivesItems figure file (Then (Name (codes "Expression") span)
    (Then (Name (codes "CLOSE") next) End)) (following_text file p piece.length) Failed) → (span : Extent)
    → Derives figure file (Name (codes "Primary") span) p Failed
unfolding primary_body
open_fails file p piece found inside span =
    Derives.name_failed primary-meaning_of.1
    (Derives.choice (DerivesFirst.alternative_failed (Derives.sequence
    (DerivesItems.items_failed (not_here kind.Open piece kind.Ident _ found (λ e. cc))))
    (DerivesFirst.alternative_failed (Derives.sequence (DerivesItems.items_then ((here kind.Open piece _ found).derives)
    (inside _ _) refl))
    (DerivesFirst.alternative_failed (not_here kind.Open piece kind.Literal _ found (λ e. cc))
    (DerivesFirst.alternative_failed (not_here kind.Open piece kind.Class _ found (λ e. cc))
    (DerivesFirst.alternative_last (not_here kind.Open piece kind.Dot _ found (λ e. cc))))))))

-- after the tokens inside and two more
following_both : (opening : Lexeme) (more : List Lexeme) (token_count : ℕ) → drop (token_count + 2) (opening ∷ more)
    ≡ drop 1 (drop token_count more)
following_both opening more token_count =
    let same : token_count + 2 ≡ suc (token_count + 1) = omega arith in
    ap (λ n. drop n (opening ∷ more)) same ∙ sym (drop-drop 1 token_count more)

-- an expression in parentheses
parentheses : (file : List ℕ) (p : ℕ) (piece : PrefixMatch) (more : List Lexeme) (part : FormRead)
    → matcher_of kind.Open (drop p file) ≡ Some piece → (e : ReadsAt file (codes "Expression") (p + piece.length)
    (following_text file p piece.length) more part) → (closing : PrefixMatch) (rest : List Lexeme)
    → matcher_of kind.Close (drop e.end file) ≡ Some closing → drop part.token_count more
    ≡ lexeme_at kind.Close e.end closing.length ∷ rest → Stream file (following_text file e.end closing.length) rest
    → ReadsAny file (codes "Primary") p (lexeme_at kind.Open p piece.length ∷
    more) (record { form = part.form; token_count = part.token_count + 2; last = e.end + closing.length; depth = part.depth + 1 })
unfolding primary_body
parentheses file p piece more part found e closing rest there left_is left =
    let o : FindsToken file open_sign_rule (codes "OPEN") (on_line primary_rule 35 39) p piece = here kind.Open piece
    (on_line primary_rule 35 39) found in
    let c : FindsToken file close_rule (codes "CLOSE") (on_line primary_rule 51 56) e.end closing = here kind.Close closing
    (on_line primary_rule 51 56) there in
    let end : ℕ = following_text file e.end closing.length in
    let inside : Trees = followed_by o.trees (followed_by e.trees (followed_by c.trees NoTrees)) in
    let o_blank : piece.spells ≡ [] = (blank-literal_bytes (codes "(")).blank (drop p file) piece found in
    let c_blank : closing.spells ≡ [] = (blank-literal_bytes (codes ")")).blank (drop e.end file) closing there in
    let body : Derives figure file primary_body p (Matched end inside) =
    Derives.choice (DerivesFirst.alternative_failed (Derives.sequence
    (DerivesItems.items_failed (not_here kind.Open piece kind.Ident _ found (λ x. cc))))
    (DerivesFirst.alternative_matched (Derives.sequence (DerivesItems.items_then o.derives
    (DerivesItems.items_then (e.derives _)
    (DerivesItems.items_then c.derives DerivesItems.items_none refl) refl) refl)))) in
    let c_spells : (before : ℕ) → spelled file before (followed_by c.trees NoTrees) ≡ [] =
    λ before. ap (spelled file before) (followed-none c.trees) ∙ (c.spells before ∙ c_blank) in
    let e_spells : spelled file (p + piece.length) (followed_by e.trees (followed_by c.trees NoTrees))
    ≡ Expression part.form ∷ [] =
    spelled-seq_matcher file (p + piece.length) e.trees (followed_by c.trees NoTrees)
    ∙ (ap (λ (pieces : List Denotation). spelled file (p + piece.length) e.trees ++ pieces)
    (c_spells (text_end (p + piece.length) e.trees))
    ∙ (append-nil (spelled file (p + piece.length) e.trees) ∙ e.spells)) in
    let all_spells : (before : ℕ) → spelled file before inside ≡ Expression part.form ∷ [] =
    λ before. spelled-seq_matcher file before o.trees (followed_by e.trees (followed_by c.trees NoTrees))
    ∙ (ap (λ (pieces : List Denotation). pieces ++ spelled file (text_end before o.trees)
    (followed_by e.trees (followed_by c.trees NoTrees))) (o.spells before ∙ o_blank)
    ∙ (ap (λ b. spelled file b (followed_by e.trees (followed_by c.trees NoTrees))) (o.ends before) ∙ e_spells)) in
    let opens : has_open inside ≡ true =
    has_open-followed o.trees (followed_by e.trees (followed_by c.trees NoTrees))
    ∙ ap (λ (t : Bool). t || has_open (followed_by e.trees (followed_by c.trees NoTrees))) o.opens in
    let nests : nesting inside ≡ part.depth =
    omega (
      arith,
      nesting-seq_matcher o.trees (followed_by e.trees
          (followed_by c.trees NoTrees)),
      nesting-seq_matcher e.trees
          (followed_by c.trees NoTrees),
      nesting-seq_matcher c.trees NoTrees,
      o.flat,
      c.flat,
      e.nests,
    ) in
    record {
      end = end;
      trees = Tree primary_rule p end inside NoTrees;
      left =
          subst (λ (lexemes : List Lexeme). Stream file end lexemes)
          (sym (following_both (lexeme_at kind.Open p piece.length) more part.token_count ∙ ap (drop 1) left_is)) left;
      derives = matched body;
      spells = λ before.
          append-nil (primary_spelled (spelled file before inside)) ∙ ap primary_spelled (all_spells before);
      ends = λ before.
          text_end-seq_matcher before o.trees (followed_by e.trees (followed_by c.trees NoTrees))
          ∙ (text_end-seq_matcher (text_end before o.trees) e.trees (followed_by c.trees NoTrees)
          ∙ (ap (text_end (text_end (text_end before o.trees) e.trees)) (followed-none c.trees)
          ∙ c.ends (text_end (text_end before o.trees) e.trees)));
      nests =
          ap (λ (t : Bool). max ((if t then 1 else 0) + nesting inside) 0) opens
          ∙ ap (λ n. max (1 + n) 0) nests ∙ omega arith;
      some = omega arith;
    }

-- if the parenthesis doesn't close, CLOSE fails
no_close : (file : List ℕ) (p : ℕ) (piece : PrefixMatch) (more : List Lexeme) (part : FormRead) → matcher_of kind.Open (drop p file)
    ≡ Some piece → (e : ReadsAt file (codes "Expression") (p + piece.length)
    (following_text file p piece.length) more part) → ((span : Extent)
    → Derives figure file (Name (codes "CLOSE") span) e.end Failed) → (span : Extent)
    → Derives figure file (Name (codes "Primary") span) p Failed
no_close file p piece more part found e fails =
    open_fails file p piece found (λ span next. DerivesItems.items_then (e.derives span)
    (DerivesItems.items_failed (fails next)) refl)

close_read : (file : List ℕ) (p : ℕ) (piece : PrefixMatch) (more : List Lexeme) (part : FormRead)
    → matcher_of kind.Open (drop p file) ≡ Some piece → (e : ReadsAt file (codes "Expression") (p + piece.length)
    (following_text file p piece.length) more part) → (lexemes : List Lexeme) → drop part.token_count more ≡ lexemes
    → Stream file e.end lexemes → ExactAny file (codes "Primary") p (lexeme_at kind.Open p piece.length ∷
    more) (closed_form (length file) part lexemes)
close_read file p piece more part found e [] same (Stream.ended last) =
    no_close file p piece more part found e (λ span. none_here kind.Close span last)
close_read file p piece more part found e (_ ∷ rest) same (Stream.next k closing lexeme there is left) =
    subst (λ (l : Lexeme). ExactAny file (codes "Primary") p (lexeme_at kind.Open p piece.length ∷
    more) (closed_form (length file) part (l ∷ rest))) (sym is) (by k there (same ∙ ap (λ (l : Lexeme). l ∷ rest) is))
  where
    by : (k : TokenKind) → matcher_of k (drop e.end file) ≡ Some closing → drop part.token_count more
        ≡ lexeme_at k e.end closing.length ∷ rest → ExactAny file (codes "Primary") p
        (lexeme_at kind.Open p piece.length ∷ more) (closed_form (length file) part (lexeme_at k e.end closing.length ∷
        rest))
    by kind.Close here_is left_is = parentheses file p piece more part found e closing rest here_is left_is left
    by kind.Ident here_is left_is = no_close file p piece more part found e
        (λ span. not_here kind.Ident closing kind.Close span here_is (λ x. cc))
    by kind.Literal here_is left_is = no_close file p piece more part found e
        (λ span. not_here kind.Literal closing kind.Close span here_is (λ x. cc))
    by kind.Class here_is left_is = no_close file p piece more part found e
        (λ span. not_here kind.Class closing kind.Close span here_is (λ x. cc))
    by kind.Arrow here_is left_is = no_close file p piece more part found e
        (λ span. not_here kind.Arrow closing kind.Close span here_is (λ x. cc))
    by kind.Slash here_is left_is = no_close file p piece more part found e
        (λ span. not_here kind.Slash closing kind.Close span here_is (λ x. cc))
    by kind.And here_is left_is = no_close file p piece more part found e
        (λ span. not_here kind.And closing kind.Close span here_is (λ x. cc))
    by kind.Not here_is left_is = no_close file p piece more part found e
        (λ span. not_here kind.Not closing kind.Close span here_is (λ x. cc))
    by kind.Question here_is left_is = no_close file p piece more part found e
        (λ span. not_here kind.Question closing kind.Close span here_is (λ x. cc))
    by kind.Star here_is left_is = no_close file p piece more part found e
        (λ span. not_here kind.Star closing kind.Close span here_is (λ x. cc))
    by kind.Plus here_is left_is = no_close file p piece more part found e
        (λ span. not_here kind.Plus closing kind.Close span here_is (λ x. cc))
    by kind.Count here_is left_is = no_close file p piece more part found e
        (λ span. not_here kind.Count closing kind.Close span here_is (λ x. cc))
    by kind.Open here_is left_is = no_close file p piece more part found e
        (λ span. not_here kind.Open closing kind.Close span here_is (λ x. cc))
    by kind.Dot here_is left_is = no_close file p piece more part found e
        (λ span. not_here kind.Dot closing kind.Close span here_is (λ x. cc))

-- if Expression stops at a token that begins none, CLOSE fails there
stuck_close : (file : List ℕ) (q : ℕ) → IsStuck file q → (span : Extent)
    → Derives figure file (Name (codes "CLOSE") span) q Failed
stuck_close file q stuck span =
    elim stuck.opens [
      | inl is ↦ not_here stuck.kind stuck.piece kind.Close span stuck.found
          (λ x. let bad : kind.Close ≡ kind.And = x ∙ is in cc)
      | inr other ↦ elim other [
        | inl is ↦ not_here stuck.kind stuck.piece kind.Close span stuck.found
            (λ x. let bad : kind.Close ≡ kind.Not = x ∙ is in cc)
        | inr is ↦ not_here stuck.kind stuck.piece kind.Close span stuck.found
            (λ x. let bad : kind.Close ≡ kind.Open = x ∙ is in cc)
      ]
    ]

open_primary : (file : List ℕ) (p : ℕ) (piece : PrefixMatch) (more : List Lexeme) (inner : Option Reading)
    → Good file inner → matcher_of kind.Open (drop p file) ≡ Some piece → Stream file (following_text file p piece.length) more
    → ExactAny file (codes "Primary") p (lexeme_at kind.Open p piece.length ∷
    more) (parenthesized inner (length file) (lexeme_at kind.Open p piece.length) more)
open_primary file p piece more None good found rest = tt
open_primary file p piece more (Some read) good found rest =
    by (read (p + piece.length) more) (good (p + piece.length) (following_text file p piece.length) more rest)
  where
    by : (x : Result FormRead ReadError) → ExactAt file (codes "Expression") (p + piece.length)
        (following_text file p piece.length) more x → ExactAny file (codes "Primary") p (lexeme_at kind.Open p piece.length ∷
        more) (and_read x (λ (inside : FormRead). closed_form (length file) inside (drop inside.token_count more)))
    by (Ok inside) e = close_read file p piece more inside found e (drop inside.token_count more) refl e.left
    by (Err (Unexpected at)) stops =
        open_fails file p piece found (λ span next. DerivesItems.items_then (stops.derives span)
        (DerivesItems.items_failed (stuck_close file stops.end stops.stuck next)) refl)
    by (Err (TooDeepAt at)) e = tt
    by (Err (BadCountAt at)) e = tt

-- ---- every kind

-- Primary matches exactly what is read
pub primary-exact : (file : List ℕ) (inner : Option Reading) → Good file inner
    → (p : ℕ) (lexemes : List Lexeme) → Stream file p lexemes
    → ExactAny file (codes "Primary") p lexemes (primary file inner lexemes)
unfolding primary
primary-exact file inner good p [] (Stream.ended last) =
    failed (λ span. none_here kind.Ident span last) (λ span. none_here kind.Open span last)
    (λ span. none_here kind.Literal span last) (λ span. none_here kind.Class span last)
    (λ span. none_here kind.Dot span last)
primary-exact file inner good p (_ ∷ more) (Stream.next k piece lexeme found is rest) =
    subst (λ (l : Lexeme). ExactAny file (codes "Primary") p (l ∷ more) (primary_of file inner l more l.kind)) (sym is)
    (by k found)
  where
    by : (k : TokenKind) → matcher_of k (drop p file) ≡ Some piece
        → ExactAny file (codes "Primary") p (lexeme_at k p piece.length ∷
        more) (primary_of file inner (lexeme_at k p piece.length) more k)
    by kind.Ident there = name_primary file p piece more inner there rest
    by kind.Literal there = literal_primary file p piece more inner there rest
    by kind.Class there = class_primary file p piece more inner there rest
    by kind.Dot there = dot_primary file p piece more inner there rest
    by kind.Open there = open_primary file p piece more inner good there rest
    by kind.Arrow there = other_fails kind.Arrow piece there (λ e. cc) (λ e. cc) (λ e. cc) (λ e. cc) (λ e. cc)
    by kind.Slash there = other_fails kind.Slash piece there (λ e. cc) (λ e. cc) (λ e. cc) (λ e. cc) (λ e. cc)
    by kind.And there = other_fails kind.And piece there (λ e. cc) (λ e. cc) (λ e. cc) (λ e. cc) (λ e. cc)
    by kind.Not there = other_fails kind.Not piece there (λ e. cc) (λ e. cc) (λ e. cc) (λ e. cc) (λ e. cc)
    by kind.Question there = other_fails kind.Question piece there (λ e. cc) (λ e. cc) (λ e. cc) (λ e. cc) (λ e. cc)
    by kind.Star there = other_fails kind.Star piece there (λ e. cc) (λ e. cc) (λ e. cc) (λ e. cc) (λ e. cc)
    by kind.Plus there = other_fails kind.Plus piece there (λ e. cc) (λ e. cc) (λ e. cc) (λ e. cc) (λ e. cc)
    by kind.Count there = other_fails kind.Count piece there (λ e. cc) (λ e. cc) (λ e. cc) (λ e. cc) (λ e. cc)
    by kind.Close there = other_fails kind.Close piece there (λ e. cc) (λ e. cc) (λ e. cc) (λ e. cc) (λ e. cc)
