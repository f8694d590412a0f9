-- A star of the metagrammar and the reader's `many_forms`: expressions one after the other, as long as one begins.
use Rattle.std.proofs.Common.{◌≡◌, ℕ, zero, suc, ◌-◌, ◌<◌, ◌≤◌, Bool, true, false, List, [], ◌∷◌, ◌++◌, map, length, drop, length-drop}
use Rattle.std.proofs.Common.{Result, Ok, Err, if◌then◌else◌, refl, sym, ap, ◌∙◌, subst, arith}
use Rattle.std.proofs.lemmas.List.{drop-drop}
use Rattle.peg_bytes.specs.Extent.{Extent}
use Rattle.peg_tree.specs.Trees.{Trees, NoTrees, followed_by}
use Rattle.peg_semantics.specs.Form.{Form, Star}
use Rattle.peg_semantics.specs.Record.{Failed, Matched}
use Rattle.peg_semantics.proofs.Derivations.{Derives}
use Rattle.peg_metagrammar.specs.Figure.{figure}
use Rattle.peg_notation.specs.Reader.{ReadError, Unexpected, TooDeepAt, BadCountAt, FormRead, FormsRead, Reading, and_read, no_more, and_form, many_forms_after, many_forms}
use Rattle.peg_metagrammar.specs.Denotation.{Denotation, Expression, text_end, spelled}
use Rattle.peg_metagrammar.specs.Nesting.{nesting}
use Rattle.peg_lexer.specs.Tokens.{Lexeme}
use Rattle.peg_notation.proofs.Readings.{IsStuck}
use Rattle.peg_notation.proofs.Streams.{Stream}
use Rattle.peg_lexer.proofs.Takes.{spelled-seq_matcher, text_end-seq_matcher, nesting-seq_matcher}

-- skipping tokens is dropping them
pub many_following-drop : (begins : List Lexeme → Bool) (read : Reading) (before : ℕ) (lexemes : List Lexeme) (skipped : ℕ)
    → many_forms_after begins read before lexemes skipped ≡ many_forms begins read before (drop skipped lexemes)
unfolding many_forms_after
many_following-drop begins read before [] zero = refl
many_following-drop begins read before [] (suc skipped) = refl
many_following-drop begins read before (l ∷ rest) zero = refl
many_following-drop begins read before (l ∷ rest) (suc skipped) = many_following-drop begins read before rest skipped

-- one iteration: an expression, whatever comes before it
pub record ReadsRound (file : List ℕ) (element : Form) (p : ℕ) (lexemes : List Lexeme) (part : FormRead) : Type 0 where
  pub end : ℕ
  pub trees : Trees
  pub left : Stream file end (drop part.token_count lexemes)
  pub derives : Derives figure file element p (Matched end trees)
  pub spells : (before : ℕ) → spelled file before trees ≡ Expression part.form ∷ []
  pub ends : (before : ℕ) → text_end before trees ≡ part.last
  pub nests : nesting trees ≡ part.depth
  pub some : 0 < part.token_count

-- the star stops at a token that nothing can follow
pub record StarStops (file : List ℕ) (element : Form) (span : Extent) (p : ℕ) : Type 0 where
  pub end : ℕ
  pub trees : Trees
  pub derives : Derives figure file (Star element span) p (Matched end trees)
  pub stuck : IsStuck file end

abbrev pub ExactRound : (file : List ℕ) (element : Form) (span : Extent) (p : ℕ) (lexemes : List Lexeme)
    → Result FormRead ReadError → Type 0
ExactRound file element span p lexemes (Ok part) = ReadsRound file element p lexemes part
ExactRound file element span p lexemes (Err (Unexpected at)) = StarStops file element span p
ExactRound file element span p lexemes (Err (TooDeepAt at)) = Unit {0}
ExactRound file element span p lexemes (Err (BadCountAt at)) = Unit {0}

-- if one begins, it is what is read; otherwise it fails
pub record Rounds (file : List ℕ) (element : Form) (span : Extent) (begins : List Lexeme → Bool)
    (read : Reading) : Type 0 where
  pub none : (p : ℕ) (lexemes : List Lexeme) → Stream file p lexemes → begins lexemes ≡ false
      → Derives figure file element p Failed
  pub one : (before p : ℕ) (lexemes : List Lexeme) → Stream file p lexemes → begins lexemes ≡ true
      → ExactRound file element span p lexemes (read before lexemes)

-- all iterations: expressions after a token whose text ends at an offset
pub record ReadsMany (file : List ℕ) (element : Form) (span : Extent) (before p : ℕ) (lexemes : List Lexeme)
    (parts : FormsRead) : Type 0 where
  pub end : ℕ
  pub trees : Trees
  pub left : Stream file end (drop parts.token_count lexemes)
  pub derives : Derives figure file (Star element span) p (Matched end trees)
  pub spells : (b : ℕ) → spelled file b trees ≡ map Expression parts.forms
  pub ends : text_end before trees ≡ parts.last
  pub nests : nesting trees ≡ parts.depth

abbrev pub ExactMany : (file : List ℕ) (element : Form) (span : Extent) (before p : ℕ) (lexemes : List Lexeme)
    → Result FormsRead ReadError → Type 0
ExactMany file element span before p lexemes (Ok parts) = ReadsMany file element span before p lexemes parts
ExactMany file element span before p lexemes (Err (Unexpected at)) = StarStops file element span p
ExactMany file element span before p lexemes (Err (TooDeepAt at)) = Unit {0}
ExactMany file element span before p lexemes (Err (BadCountAt at)) = Unit {0}

no_round : {file : List ℕ} {element : Form} {span : Extent} {p : ℕ} (before : ℕ) (lexemes : List Lexeme)
    → Stream file p lexemes → Derives figure file element p Failed
    → ReadsMany file element span before p lexemes (no_more before)
no_round {file} {element} {span} {p} before lexemes stream fails = record {
  end = p;
  trees = NoTrees;
  left = stream;
  derives = Derives.star_none fails;
  spells = λ b. refl;
  ends = refl;
  nests = refl;
}

-- one iteration and those after it
more_rounds : {file : List ℕ} {element : Form} (span : Extent) {p : ℕ} (before : ℕ) (lexemes : List Lexeme)
    (part : FormRead) → (e : ReadsRound file element p lexemes part) → (x : Result FormsRead ReadError)
    → ExactMany file element span part.last e.end (drop part.token_count lexemes) x
    → ExactMany file element span before p lexemes (and_read x (λ (parts : FormsRead). Ok (and_form part parts)))
more_rounds {file} {element} span {p} before lexemes part e (Ok parts) m = record {
  end = m.end;
  trees = followed_by e.trees m.trees;
  left = subst (λ (l : List Lexeme). Stream file m.end l) (drop-drop parts.token_count part.token_count lexemes) m.left;
  derives = Derives.star_more e.derives m.derives refl;
  spells = λ b.
      spelled-seq_matcher file b e.trees m.trees
      ∙ (ap (λ (pieces : List Denotation). spelled file b e.trees ++ pieces) (m.spells (text_end b e.trees))
      ∙ ap (λ (pieces : List Denotation). pieces ++ map Expression parts.forms) (e.spells b));
  ends =
      text_end-seq_matcher before e.trees m.trees ∙ (ap (λ b. text_end b m.trees) (e.ends before) ∙ m.ends);
  nests = omega (arith, nesting-seq_matcher e.trees m.trees, e.nests, m.nests);
}
more_rounds span before lexemes part e (Err (Unexpected at)) stops = record {
  end = stops.end;
  trees = followed_by e.trees stops.trees;
  derives = Derives.star_more e.derives stops.derives refl;
  stuck = stops.stuck;
}
more_rounds span before lexemes part e (Err (TooDeepAt at)) m = tt
more_rounds span before lexemes part e (Err (BadCountAt at)) m = tt

-- the star matches exactly what is read
pub rounds : {file : List ℕ} {element : Form} {span : Extent} {begins : List Lexeme → Bool} {read : Reading}
    → Rounds file element span begins read → (n before p : ℕ) (lexemes : List Lexeme) → length lexemes ≤ n
    → Stream file p lexemes → begins [] ≡ false
    → ExactMany file element span before p lexemes (many_forms begins read before lexemes)
unfolding many_forms_after
rounds {file} {element} {span} {begins} {read} r n before p [] few stream empty =
    no_round before [] stream (r.none p [] stream empty)
rounds r zero before p (l ∷ rest) few stream empty = absurd (omega arith)
rounds {file} {element} {span} {begins} {read} r (suc n) before p (l ∷ rest) few stream empty =
    by (begins (l ∷ rest)) refl
    (λ part e.
    let one : part.token_count ≡ suc (part.token_count - 1) = omega (arith, e.some) in
    let same : drop part.token_count (l ∷ rest) ≡ drop (part.token_count - 1) rest = ap (λ k. drop k (l ∷ rest)) one in
    let fewer : length (drop part.token_count (l ∷ rest)) ≤ n = omega (arith, length-drop part.token_count (l ∷ rest), e.some) in
    subst (λ (x : Result FormsRead ReadError). ExactMany file element span part.last e.end (drop part.token_count (l ∷ rest)) x)
    (ap (many_forms begins read part.last) same ∙ sym (many_following-drop begins read part.last rest (part.token_count - 1)))
    (rounds r n part.last e.end (drop part.token_count (l ∷ rest)) fewer e.left empty))
  where
    step : (x : Result FormRead ReadError) → ExactRound file element span p (l ∷ rest) x
        → ((part : FormRead) → (e : ReadsRound file element p (l ∷ rest) part)
        → ExactMany file element span part.last e.end (drop part.token_count (l ∷
        rest)) (many_forms_after begins read part.last rest (part.token_count - 1)))
        → ExactMany file element span before p (l ∷ rest)
        (and_read x (λ (part : FormRead). and_read (many_forms_after begins read part.last rest (part.token_count - 1))
        (λ (parts : FormsRead). Ok (and_form part parts))))
    step (Ok part) e later =
        more_rounds span before (l ∷ rest) part e (many_forms_after begins read part.last rest (part.token_count - 1))
        (later part e)
    step (Err (Unexpected at)) stops later = stops
    step (Err (TooDeepAt at)) e later = tt
    step (Err (BadCountAt at)) e later = tt

    by : (t : Bool) → begins (l ∷ rest) ≡ t → ((part : FormRead) → (e : ReadsRound file element p (l ∷ rest) part)
        → ExactMany file element span part.last e.end (drop part.token_count (l ∷
        rest)) (many_forms_after begins read part.last rest (part.token_count - 1)))
        → ExactMany file element span before p (l ∷ rest) (if t then and_read (read before (l ∷
        rest)) (λ (part : FormRead). and_read (many_forms_after begins read part.last rest (part.token_count - 1))
        (λ (parts : FormsRead). Ok (and_form part parts))) else Ok (no_more before))
    by true is later = step (read before (l ∷ rest)) (r.one before p (l ∷ rest) stream is) later
    by false is later = no_round before (l ∷ rest) stream (r.none p (l ∷ rest) stream is)
