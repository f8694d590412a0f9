-- The reader's `definition` and `grammar` agree with the metagrammar's Definition and Grammar.
use Rattle.std.proofs.Common.{◌≡◌, ◌≢◌, ℕ, zero, suc, ◌+◌, ◌-◌, ◌<◌, ◌≤◌, List, [], ◌∷◌, ◌++◌, map, length, drop, length-drop, codes, ◌⊎◌, inl, inr}
use Rattle.std.proofs.Common.{None, Some, Result, Ok, Err, refl, sym, ap, ◌∙◌, subst, arith, append-nil}
use Rattle.std.proofs.lemmas.List.{drop_all}
use Rattle.peg_bytes.specs.Extent.{Extent, between}
use Rattle.peg_tree.specs.Trees.{Trees, NoTrees, Tree, followed_by}
use Rattle.peg_semantics.specs.Form as form
use Rattle.peg_semantics.specs.Form.{Form, Name, Star}
use Rattle.peg_semantics.specs.Record.{Failed, Matched}
use Rattle.peg_semantics.specs.Rules.{Rule}
use Rattle.peg_semantics.proofs.Derivations.{Derives, DerivesItems, any_here, any_at_end}
use Rattle.peg_metagrammar.specs.Figure.{figure, definition_body, grammar_body, end_of_file_body, on_line}
use Rattle.peg_metagrammar.specs.FigureRules.{grammar_rule, definition_rule, identifier_rule, leftarrow_rule}
use Rattle.peg_metagrammar.specs.FigureRules.{end_of_file_rule}
use Rattle.peg_lexer.specs.Lexical.{matcher_of, spacing}
use Rattle.peg_lexer.specs.Matchers.{PrefixMatch}
use Rattle.peg_notation.specs.Reader.{ReadError, Unexpected, TooDeepAt, BadCountAt, FormRead, starts_with_arrow, is_arrow, and_read, expression_in, RuleRead, RulesRead, and_rules, rule_read, definition_after, definition_of, definition, definitions_after, grammar}
use Rattle.peg_metagrammar.specs.Denotation.{Denotation, Definition, Word, Expression, text_end, part, spelled, definition_spelled, rules_denoted, rules_spelled}
use Rattle.peg_metagrammar.specs.Nesting.{nesting}
use Rattle.peg_lexer.specs.Tokens.{Lexeme}
use Rattle.peg_lexer.specs.declared.token.TokenKind.{TokenKind}
use Rattle.peg_lexer.specs.declared.token.TokenKind.TheVariants as kind
use Rattle.peg_notation.proofs.ExpressionRules.{expression_in-exact}
use Rattle.peg_metagrammar.proofs.FigureNames.{grammar-meaning_of, definition-meaning_of, end_of_file-meaning_of}
use Rattle.peg_lexer.proofs.Lexemes.{lexeme_at}
use Rattle.peg_lexer.proofs.PieceSizes.{blank-literal_bytes}
use Rattle.peg_notation.proofs.Readings.{followed-none, ExactAt, Stops, IsStuck}
use Rattle.peg_lexer.proofs.SpacingRules.{FindsSpacing, finds-spacing}
use Rattle.peg_notation.proofs.Streams.{Stream, here, not_here, none_here}
use Rattle.peg_lexer.proofs.KindRules.{nothing_left}
use Rattle.peg_lexer.proofs.Takes.{spelled-seq_matcher, nesting-seq_matcher}
use Rattle.peg_lexer.proofs.Texts.{FindsToken, following_text}

-- ---- the end of the file

-- where there is a token, the file doesn't end
pub not_ended : {file : List ℕ} {p : ℕ} (k : TokenKind) (piece : PrefixMatch) → matcher_of k (drop p file) ≡ Some piece
    → (span : Extent) → Derives figure file (Name (codes "EndOfFile") span) p Failed
unfolding end_of_file_body
not_ended {file} {p} k piece found span = by (drop p file) refl
  where
    by : (rest : List ℕ) → drop p file ≡ rest → Derives figure file (Name (codes "EndOfFile") span) p Failed
    by [] is =
        absurd (let bad : None ≡ Some piece = sym (nothing_left k) ∙ (ap (matcher_of k) (sym is) ∙ found) in cc)
    by (byte ∷ rest) is = Derives.name_failed end_of_file-meaning_of.1 (Derives.not_failed (any_here is))

-- at the end it does
pub ended_here : {file : List ℕ} {p : ℕ} → p ≡ length file → (span : Extent)
    → Derives figure file (Name (codes "EndOfFile") span) p (Matched p (Tree end_of_file_rule p p NoTrees NoTrees))
unfolding end_of_file_body
ended_here {file} {p} last span =
    Derives.name_matched end_of_file-meaning_of.1 (Derives.not_matched (any_at_end (drop_all p file (omega arith)))) refl

-- ---- Definition

-- a definition at an offset
pub record ReadsRule (file : List ℕ) (p : ℕ) (lexemes : List Lexeme) (part_read : RuleRead) : Type 0 where
  pub end : ℕ
  pub trees : Trees
  pub left : Stream file end (drop part_read.token_count lexemes)
  pub derives : (span : Extent) → Derives figure file (Name (codes "Definition") span) p (Matched end trees)
  pub spells : (before : ℕ) → spelled file before trees ≡ Definition part_read.rule ∷ []
  pub nests : nesting trees ≡ part_read.depth
  pub some : 0 < part_read.token_count

-- What is read is matched. If nothing is read, the rule fails, or stops at a token that nothing can follow.
abbrev pub ExactRule : (file : List ℕ) (p : ℕ) (lexemes : List Lexeme) → Result RuleRead ReadError → Type 0
ExactRule file p lexemes (Ok part_read) = ReadsRule file p lexemes part_read
ExactRule file p lexemes (Err (Unexpected at)) =
    ((span : Extent) → Derives figure file (Name (codes "Definition") span) p Failed) ⊎ Stops file
    (codes "Definition") p
ExactRule file p lexemes (Err (TooDeepAt at)) = Unit {0}
ExactRule file p lexemes (Err (BadCountAt at)) = Unit {0}

-- a definition begins with a name
no_name : {file : List ℕ} {p : ℕ} → ((span : Extent) → Derives figure file (Name (codes "Identifier") span) p Failed)
    → (span : Extent) → Derives figure file (Name (codes "Definition") span) p Failed
unfolding definition_body
no_name fails span =
    Derives.name_failed definition-meaning_of.1 (Derives.sequence (DerivesItems.items_failed (fails _)))

-- a name without an arrow
no_arrow : {file : List ℕ} {p : ℕ} (piece : PrefixMatch) → matcher_of kind.Ident (drop p file) ≡ Some piece
    → ((span : Extent) → Derives figure file (Name (codes "LEFTARROW") span) (following_text file p piece.length) Failed)
    → (span : Extent) → Derives figure file (Name (codes "Definition") span) p Failed
unfolding definition_body
no_arrow piece found fails span =
    Derives.name_failed definition-meaning_of.1
    (Derives.sequence (DerivesItems.items_then ((here kind.Ident piece _ found).derives)
    (DerivesItems.items_failed (fails _)) refl))

-- a name, an arrow and an expression
definition_read : (file : List ℕ) (p : ℕ) (piece : PrefixMatch) → matcher_of kind.Ident (drop p file) ≡ Some piece
    → (arrow : PrefixMatch) → matcher_of kind.Arrow (drop (following_text file p piece.length) file) ≡ Some arrow
    → (rest : List Lexeme) → let q : ℕ = following_text file p piece.length in (x : Result FormRead ReadError)
    → ExactAt file (codes "Expression") (q + arrow.length) (following_text file q arrow.length) rest x
    → ExactRule file p (lexeme_at kind.Ident p piece.length ∷ lexeme_at kind.Arrow q arrow.length ∷
    rest) (and_read x (λ (body : FormRead). Ok (rule_read file (lexeme_at kind.Ident p piece.length) body)))
unfolding definition_body
definition_read file p piece found arrow there rest (Ok body) e =
    let q : ℕ = following_text file p piece.length in
    let i : FindsToken file identifier_rule (codes "Identifier") (on_line definition_rule 14 24) p piece = here kind.Ident piece
    (on_line definition_rule 14 24) found in
    let a : FindsToken file leftarrow_rule (codes "LEFTARROW") (on_line definition_rule 25 34) q arrow = here kind.Arrow arrow
    (on_line definition_rule 25 34) there in
    let blank : arrow.spells ≡ [] = (blank-literal_bytes (codes "<-")).blank (drop q file) arrow there in
    let inside : Trees = followed_by i.trees (followed_by a.trees e.trees) in
    let spelling : (b : ℕ) → spelled file b inside ≡ Word (part file p (p + piece.length))
    (between p (p + piece.length)) ∷ Expression body.form ∷ [] =
    λ b. spelled-seq_matcher file b i.trees (followed_by a.trees e.trees)
    ∙ (ap (λ (pieces : List Denotation). spelled file b i.trees ++ pieces)
    (spelled-seq_matcher file (text_end b i.trees) a.trees e.trees
    ∙ (ap (λ (pieces : List Denotation). pieces ++ spelled file (text_end (text_end b i.trees) a.trees) e.trees)
    (a.spells (text_end b i.trees) ∙ blank)
    ∙ (ap (λ k. spelled file k e.trees) (a.ends (text_end b i.trees)) ∙ e.spells)))
    ∙ ap (λ (pieces : List Denotation). pieces ++ Expression body.form ∷ []) (i.spells b)) in
    record {
      end = e.end;
      trees = Tree definition_rule p e.end inside NoTrees;
      left =
          let two : 2 + body.token_count ≡ suc (suc body.token_count) = omega arith in
          subst (λ n. Stream file e.end (drop n (lexeme_at kind.Ident p piece.length ∷
          lexeme_at kind.Arrow q arrow.length ∷ rest))) (sym two) e.left;
      derives = λ span. Derives.name_matched definition-meaning_of.1
          (Derives.sequence (DerivesItems.items_then i.derives (DerivesItems.items_then a.derives
          (DerivesItems.items_then (e.derives (on_line definition_rule 35 45)) DerivesItems.items_none refl) refl)
          (ap (λ (t : Trees). Matched e.end (followed_by i.trees (followed_by a.trees t)))
          (sym (followed-none e.trees))))) refl;
      spells = λ b. append-nil (definition_spelled (spelled file b inside)) ∙ ap definition_spelled (spelling b);
      nests =
          omega (
            arith,
            nesting-seq_matcher i.trees
                (followed_by a.trees e.trees),
            nesting-seq_matcher a.trees e.trees,
            i.flat,
            a.flat,
            e.nests,
          );
      some = omega arith;
    }
definition_read file p piece found arrow there rest (Err (Unexpected at)) stops =
    inr (record {
      end = stops.end;
      trees = Tree definition_rule p stops.end (followed_by ((here kind.Ident piece (on_line definition_rule 14 24) found).trees)
          (followed_by ((here kind.Arrow arrow (on_line definition_rule 25 34) there).trees)
          (followed_by stops.trees NoTrees))) NoTrees;
      derives = λ span. Derives.name_matched definition-meaning_of.1
          (Derives.sequence (DerivesItems.items_then ((here kind.Ident piece (on_line definition_rule 14 24) found).derives)
          (DerivesItems.items_then ((here kind.Arrow arrow (on_line definition_rule 25 34) there).derives)
          (DerivesItems.items_then (stops.derives (on_line definition_rule 35 45)) DerivesItems.items_none refl) refl) refl)) refl;
      stuck = stops.stuck;
    })
definition_read file p piece found arrow there rest (Err (TooDeepAt at)) e = tt
definition_read file p piece found arrow there rest (Err (BadCountAt at)) e = tt

-- what comes after a name
following_name : (file : List ℕ) (bound p : ℕ) (piece : PrefixMatch) (more : List Lexeme) → matcher_of kind.Ident (drop p file)
    ≡ Some piece → Stream file (following_text file p piece.length) more
    → ExactRule file p (lexeme_at kind.Ident p piece.length ∷
    more) (definition_after file bound (lexeme_at kind.Ident p piece.length) more (starts_with_arrow more))
following_name file bound p piece [] found (Stream.ended last) =
    inl (no_arrow piece found (λ span. none_here kind.Arrow span last))
following_name file bound p piece (_ ∷ rest) found (Stream.next k arrow lexeme there is left) =
    subst (λ (l : Lexeme). ExactRule file p (lexeme_at kind.Ident p piece.length ∷ l ∷
    rest) (definition_after file bound (lexeme_at kind.Ident p piece.length) (l ∷
    rest) (is_arrow l.kind))) (sym is) (by k there)
  where
    q : ℕ
    q = following_text file p piece.length

    none : (k : TokenKind) → matcher_of k (drop (following_text file p piece.length) file) ≡ Some arrow → kind.Arrow ≢ k
        → ((span : Extent) → Derives figure file (Name (codes "Definition") span) p Failed) ⊎ Stops file
        (codes "Definition") p
    none k at_end a = inl (no_arrow piece found (λ span. not_here k arrow kind.Arrow span at_end a))

    by : (k : TokenKind) → matcher_of k (drop (following_text file p piece.length) file) ≡ Some arrow
        → ExactRule file p (lexeme_at kind.Ident p piece.length ∷
        lexeme_at k (following_text file p piece.length) arrow.length ∷
        rest) (definition_after file bound (lexeme_at kind.Ident p piece.length)
        (lexeme_at k (following_text file p piece.length) arrow.length ∷ rest) (is_arrow k))
    by kind.Arrow at_end =
        definition_read file p piece found arrow at_end rest
        (expression_in file bound (following_text file p piece.length + arrow.length) rest)
        (expression_in-exact file bound (following_text file p piece.length + arrow.length)
        (following_text file (following_text file p piece.length) arrow.length) rest left)
    by kind.Ident at_end = none kind.Ident at_end (λ e. cc)
    by kind.Literal at_end = none kind.Literal at_end (λ e. cc)
    by kind.Class at_end = none kind.Class at_end (λ e. cc)
    by kind.Slash at_end = none kind.Slash at_end (λ e. cc)
    by kind.And at_end = none kind.And at_end (λ e. cc)
    by kind.Not at_end = none kind.Not at_end (λ e. cc)
    by kind.Question at_end = none kind.Question at_end (λ e. cc)
    by kind.Star at_end = none kind.Star at_end (λ e. cc)
    by kind.Plus at_end = none kind.Plus at_end (λ e. cc)
    by kind.Count at_end = none kind.Count at_end (λ e. cc)
    by kind.Open at_end = none kind.Open at_end (λ e. cc)
    by kind.Close at_end = none kind.Close at_end (λ e. cc)
    by kind.Dot at_end = none kind.Dot at_end (λ e. cc)

-- Definition matches exactly what is read
pub definition-exact : (file : List ℕ) (bound p : ℕ) (lexemes : List Lexeme) → Stream file p lexemes
    → ExactRule file p lexemes (definition file bound lexemes)
unfolding definition
definition-exact file bound p [] (Stream.ended last) = inl (no_name (λ span. none_here kind.Ident span last))
definition-exact file bound p (_ ∷ more) (Stream.next k piece lexeme found is rest) =
    subst (λ (l : Lexeme). ExactRule file p (l ∷ more) (definition_of file bound l more l.kind)) (sym is) (by k found)
  where
    none : (k : TokenKind) → matcher_of k (drop p file) ≡ Some piece → kind.Ident ≢ k
        → ((span : Extent) → Derives figure file (Name (codes "Definition") span) p Failed) ⊎ Stops file
        (codes "Definition") p
    none k there a = inl (no_name (λ span. not_here k piece kind.Ident span there a))

    by : (k : TokenKind) → matcher_of k (drop p file) ≡ Some piece
        → ExactRule file p (lexeme_at k p piece.length ∷ more)
        (definition_of file bound (lexeme_at k p piece.length) more k)
    by kind.Ident there = following_name file bound p piece more there rest
    by kind.Literal there = none kind.Literal there (λ e. cc)
    by kind.Class there = none kind.Class there (λ e. cc)
    by kind.Arrow there = none kind.Arrow there (λ e. cc)
    by kind.Slash there = none kind.Slash there (λ e. cc)
    by kind.And there = none kind.And there (λ e. cc)
    by kind.Not there = none kind.Not there (λ e. cc)
    by kind.Question there = none kind.Question there (λ e. cc)
    by kind.Star there = none kind.Star there (λ e. cc)
    by kind.Plus there = none kind.Plus there (λ e. cc)
    by kind.Count there = none kind.Count there (λ e. cc)
    by kind.Open there = none kind.Open there (λ e. cc)
    by kind.Close there = none kind.Close there (λ e. cc)
    by kind.Dot there = none kind.Dot there (λ e. cc)

-- ---- definitions one after the other

-- a token that nothing can follow isn't a name
stuck_name : (file : List ℕ) (q : ℕ) → IsStuck file q → (span : Extent)
    → Derives figure file (Name (codes "Identifier") span) q Failed
stuck_name file q stuck span =
    elim stuck.opens [
      | inl is ↦ not_here stuck.kind stuck.piece kind.Ident span stuck.found
          (λ x. let bad : kind.Ident ≡ kind.And = x ∙ is in cc)
      | inr other ↦ elim other [
        | inl is ↦ not_here stuck.kind stuck.piece kind.Ident span stuck.found
            (λ x. let bad : kind.Ident ≡ kind.Not = x ∙ is in cc)
        | inr is ↦ not_here stuck.kind stuck.piece kind.Ident span stuck.found
            (λ x. let bad : kind.Ident ≡ kind.Open = x ∙ is in cc)
      ]
    ]

-- definitions up to the end of the file
pub record ReadsRules (file : List ℕ) (p : ℕ) (read : RulesRead) : Type 0 where
  pub trees : Trees
  pub derives : Derives figure file (Star (Name (codes "Definition") (on_line grammar_rule 19 29)) (on_line grammar_rule 19 30)) p
      (Matched (length file) trees)
  pub spells : (before : ℕ) → spelled file before trees ≡ map Definition read.rules
  pub nests : nesting trees ≡ read.depth

-- definitions that stop before the end
pub record StopsEarly (file : List ℕ) (p : ℕ) : Type 0 where
  pub end : ℕ
  pub trees : Trees
  pub derives : Derives figure file (Star (Name (codes "Definition") (on_line grammar_rule 19 29)) (on_line grammar_rule 19 30)) p
      (Matched end trees)
  pub more : (span : Extent) → Derives figure file (Name (codes "EndOfFile") span) end Failed

abbrev pub ExactRules : (file : List ℕ) (p : ℕ) → Result RulesRead ReadError → Type 0
ExactRules file p (Ok read) = ReadsRules file p read
ExactRules file p (Err (Unexpected at)) = StopsEarly file p
ExactRules file p (Err (TooDeepAt at)) = Unit {0}
ExactRules file p (Err (BadCountAt at)) = Unit {0}

-- skipping tokens is dropping them
pub definitions_after-drop : (file : List ℕ) (bound : ℕ) (lexemes : List Lexeme) (skipped : ℕ)
    → definitions_after file bound lexemes skipped ≡ definitions_after file bound (drop skipped lexemes) 0
unfolding definitions_after
definitions_after-drop file bound [] zero = refl
definitions_after-drop file bound [] (suc skipped) = refl
definitions_after-drop file bound (l ∷ rest) zero = refl
definitions_after-drop file bound (l ∷ rest) (suc skipped) = definitions_after-drop file bound rest skipped

-- one definition and those after it
more_rules : (file : List ℕ) (p : ℕ) (lexemes : List Lexeme) (first : RuleRead) → (e : ReadsRule file p lexemes first)
    → (x : Result RulesRead ReadError) → ExactRules file e.end x
    → ExactRules file p (and_read x (λ (more : RulesRead). Ok (and_rules first more)))
more_rules file p lexemes first e (Ok more) m = record {
  trees = followed_by e.trees m.trees;
  derives = Derives.star_more (e.derives (on_line grammar_rule 19 29)) m.derives refl;
  spells = λ b.
      spelled-seq_matcher file b e.trees m.trees
      ∙ (ap (λ (pieces : List Denotation). spelled file b e.trees ++ pieces) (m.spells (text_end b e.trees))
      ∙ ap (λ (pieces : List Denotation). pieces ++ map Definition more.rules) (e.spells b));
  nests = omega (arith, nesting-seq_matcher e.trees m.trees, e.nests, m.nests);
}
more_rules file p lexemes first e (Err (Unexpected at)) stops = record {
  end = stops.end;
  trees = followed_by e.trees stops.trees;
  derives = Derives.star_more (e.derives (on_line grammar_rule 19 29)) stops.derives refl;
  more = stops.more;
}
more_rules file p lexemes first e (Err (TooDeepAt at)) m = tt
more_rules file p lexemes first e (Err (BadCountAt at)) m = tt

-- if a definition stops at a token that nothing can follow, the star ends there
rules_stop : (file : List ℕ) (p : ℕ) → Stops file (codes "Definition") p → StopsEarly file p
rules_stop file p stops = record {
  end = stops.end;
  trees = followed_by stops.trees NoTrees;
  derives = Derives.star_more (stops.derives (on_line grammar_rule 19 29))
      (Derives.star_none (no_name (stuck_name file stops.end stops.stuck) (on_line grammar_rule 19 29))) refl;
  more = not_ended stops.stuck.kind stops.stuck.piece stops.stuck.found;
}

-- the definitions up to the end are what is read
definitions : (file : List ℕ) (bound n p : ℕ) (lexemes : List Lexeme) → length lexemes ≤ n → Stream file p lexemes
    → ExactRules file p (definitions_after file bound lexemes 0)
unfolding definitions_after
definitions file bound n p [] few (Stream.ended last) = record {
  trees = NoTrees;
  derives =
      subst (λ end. Derives figure file (Star (Name (codes "Definition") (on_line grammar_rule 19 29)) (on_line grammar_rule 19 30)) p
      (Matched end NoTrees)) last (Derives.star_none
      (no_name (λ span. none_here kind.Ident span last) (on_line grammar_rule 19 29)));
  spells = λ b. refl;
  nests = refl;
}
definitions file bound zero p (l ∷ rest) few stream = absurd (omega arith)
definitions file bound (suc n) p (l ∷ rest) few stream =
    step (definition file bound (l ∷ rest)) (definition-exact file bound p (l ∷ rest) stream)
    (λ part_read e.
    let one : part_read.token_count ≡ suc (part_read.token_count - 1) = omega (arith, e.some) in
    let same : drop part_read.token_count (l ∷ rest) ≡ drop (part_read.token_count - 1) rest = ap (λ k. drop k (l ∷ rest)) one in
    subst (λ (x : Result RulesRead ReadError). ExactRules file e.end x)
    (ap (λ ls. definitions_after file bound ls 0) same ∙ sym
    (definitions_after-drop file bound rest (part_read.token_count - 1)))
    (definitions file bound n e.end (drop part_read.token_count (l ∷ rest))
    (omega (arith, length-drop part_read.token_count (l ∷ rest), e.some)) e.left))
  where
    stops_here : (k : TokenKind) (piece : PrefixMatch) → matcher_of k (drop p file) ≡ Some piece
        → ((span : Extent) → Derives figure file (Name (codes "Definition") span) p Failed) → StopsEarly file p
    stops_here k piece found fails = record {
      end = p;
      trees = NoTrees;
      derives = Derives.star_none (fails (on_line grammar_rule 19 29));
      more = not_ended k piece found;
    }

    a_token : Stream file p (l ∷ rest) → (k : TokenKind) × (piece : PrefixMatch) × (matcher_of k (drop p file) ≡ Some piece)
    a_token (Stream.next k piece lexeme found is more) = (k, piece, found)

    step : (x : Result RuleRead ReadError) → ExactRule file p (l ∷ rest) x
        → ((part_read : RuleRead) → (e : ReadsRule file p (l ∷ rest) part_read)
        → ExactRules file e.end (definitions_after file bound rest (part_read.token_count - 1)))
        → ExactRules file p (and_read x (λ (first : RuleRead). and_read
        (definitions_after file bound rest (first.token_count - 1)) (λ (more : RulesRead). Ok (and_rules first more))))
    step (Ok part_read) e later =
        more_rules file p (l ∷ rest) part_read e (definitions_after file bound rest (part_read.token_count - 1))
        (later part_read e)
    step (Err (Unexpected at)) (inl fails) later =
        let token = a_token stream in stops_here token.0 token.1 token.2 fails
    step (Err (Unexpected at)) (inr stops) later = rules_stop file p stops
    step (Err (TooDeepAt at)) e later = tt
    step (Err (BadCountAt at)) e later = tt

-- ---- Grammar

-- the rules among the pieces that definitions denote
rules-all : (rules : List Rule) → rules_denoted (map Definition rules) ≡ rules
rules-all [] = refl
rules-all (r ∷ rules) = ap (λ (more : List Rule). r ∷ more) (rules-all rules)

-- the metagrammar matches a file, and its tree denotes these rules
pub record ReadsFile (file : List ℕ) (read : RulesRead) : Type 0 where
  pub end : ℕ
  pub trees : Trees
  pub derives : (span : Extent) → Derives figure file (Name (codes "Grammar") span) 0 (Matched end trees)
  pub spells : read.rules ≡ rules_spelled file trees
  pub nests : nesting trees ≡ read.depth

-- what is read is matched, and at an unexpected token the metagrammar doesn't match
abbrev pub ExactFile : List ℕ → Result RulesRead ReadError → Type 0
ExactFile file (Ok read) = ReadsFile file read
ExactFile file (Err (Unexpected at)) = (span : Extent) → Derives figure file (Name (codes "Grammar") span) 0 Failed
ExactFile file (Err (TooDeepAt at)) = Unit {0}
ExactFile file (Err (BadCountAt at)) = Unit {0}

-- the end of the first spacing
abbrev pub first_place : List ℕ → ℕ
first_place file = 0 + (spacing (drop 0 file)).length

-- no definition, or something else after the last one
grammar_fails : (file : List ℕ) → DerivesItems figure file
    (form.Then (form.Plus (Name (codes "Definition") (on_line grammar_rule 19 29)) (on_line grammar_rule 19 30))
    (form.Then (Name (codes "EndOfFile") (on_line grammar_rule 31 40)) form.End)) (first_place file) Failed → (span : Extent)
    → Derives figure file (Name (codes "Grammar") span) 0 Failed
unfolding grammar_body
grammar_fails file items span =
    let gap : FindsSpacing file (on_line grammar_rule 11 18) 0 = finds-spacing file (on_line grammar_rule 11 18) 0 in
    Derives.name_failed grammar-meaning_of.1 (Derives.sequence (DerivesItems.items_then gap.derives items refl))

-- one definition and those after it, up to the end
grammar_read : (file : List ℕ) (lexemes : List Lexeme) (first : RuleRead)
    → (e : ReadsRule file (first_place file) lexemes first) → (x : Result RulesRead ReadError) → ExactRules file e.end x
    → ExactFile file (and_read x (λ (more : RulesRead). Ok (and_rules first more)))
unfolding grammar_body
grammar_read file lexemes first e (Ok more) m =
    let gap : FindsSpacing file (on_line grammar_rule 11 18) 0 = finds-spacing file (on_line grammar_rule 11 18) 0 in
    let all : Trees = followed_by e.trees m.trees in
    let last : Trees = Tree end_of_file_rule (length file) (length file) NoTrees NoTrees in
    let inside : Trees = followed_by gap.trees (followed_by all last) in
    let spelling : spelled file 0 inside ≡ map Definition (first.rule ∷ more.rules) =
    spelled-seq_matcher file 0 gap.trees (followed_by all last)
    ∙ (ap (λ (pieces : List Denotation). pieces ++ spelled file (text_end 0 gap.trees) (followed_by all last))
    (gap.spells 0)
    ∙ (spelled-seq_matcher file (text_end 0 gap.trees) all last
    ∙ (append-nil (spelled file (text_end 0 gap.trees) all)
    ∙ (spelled-seq_matcher file (text_end 0 gap.trees) e.trees m.trees
    ∙ (ap (λ (pieces : List Denotation). spelled file (text_end 0 gap.trees) e.trees ++ pieces)
    (m.spells (text_end (text_end 0 gap.trees) e.trees))
    ∙ ap (λ (pieces : List Denotation). pieces ++ map Definition more.rules) (e.spells (text_end 0 gap.trees))))))) in
    record {
      end = length file;
      trees = Tree grammar_rule 0 (length file) inside NoTrees;
      derives = λ span. Derives.name_matched grammar-meaning_of.1
          (Derives.sequence (DerivesItems.items_then gap.derives (DerivesItems.items_then
          (Derives.plus_matched (e.derives (on_line grammar_rule 19 29)) m.derives refl)
          (DerivesItems.items_then (ended_here refl
          (on_line grammar_rule 31 40)) DerivesItems.items_none refl) refl) refl)) refl;
      spells = sym (ap rules_denoted (append-nil (spelled file 0 inside) ∙ spelling) ∙ rules-all (first.rule ∷ more.rules));
      nests =
          omega (
            arith,
            nesting-seq_matcher gap.trees
                (followed_by all last),
            nesting-seq_matcher all last,
            nesting-seq_matcher e.trees m.trees,
            gap.flat,
            e.nests,
            m.nests,
          );
    }
grammar_read file lexemes first e (Err (Unexpected at)) stops =
    grammar_fails file (DerivesItems.items_then (Derives.plus_matched (e.derives (on_line grammar_rule 19 29)) stops.derives refl)
    (DerivesItems.items_failed (stops.more (on_line grammar_rule 31 40))) refl)
grammar_read file lexemes first e (Err (TooDeepAt at)) m = tt
grammar_read file lexemes first e (Err (BadCountAt at)) m = tt

-- Grammar matches exactly what is read
pub grammar-exact : (file : List ℕ) (bound : ℕ) (lexemes : List Lexeme) → Stream file (first_place file) lexemes
    → ExactFile file (grammar file bound lexemes)
unfolding grammar definitions_after
grammar-exact file bound [] (Stream.ended last) =
    grammar_fails file (DerivesItems.items_failed (Derives.plus_failed
    (no_name (λ span. none_here kind.Ident span last) (on_line grammar_rule 19 29))))
grammar-exact file bound (l ∷ rest) stream =
    step (definition file bound (l ∷ rest)) (definition-exact file bound (first_place file) (l ∷ rest) stream)
    (λ part_read e.
    let one : part_read.token_count ≡ suc (part_read.token_count - 1) = omega (arith, e.some) in
    let same : drop part_read.token_count (l ∷ rest) ≡ drop (part_read.token_count - 1) rest = ap (λ k. drop k (l ∷ rest)) one in
    subst (λ (x : Result RulesRead ReadError). ExactRules file e.end x)
    (ap (λ ls. definitions_after file bound ls 0) same ∙ sym
    (definitions_after-drop file bound rest (part_read.token_count - 1)))
    (definitions file bound (length (drop part_read.token_count (l ∷ rest))) e.end (drop part_read.token_count (l ∷ rest))
    (omega arith) e.left))
  where
    step : (x : Result RuleRead ReadError) → ExactRule file (first_place file) (l ∷ rest) x
        → ((part_read : RuleRead) → (e : ReadsRule file (first_place file) (l ∷ rest) part_read)
        → ExactRules file e.end (definitions_after file bound rest (part_read.token_count - 1)))
        → ExactFile file (and_read x (λ (first : RuleRead). and_read
        (definitions_after file bound rest (first.token_count - 1)) (λ (more : RulesRead). Ok (and_rules first more))))
    step (Ok part_read) e later =
        grammar_read file (l ∷ rest) part_read e (definitions_after file bound rest (part_read.token_count - 1))
        (later part_read e)
    step (Err (Unexpected at)) (inl fails) later =
        grammar_fails file (DerivesItems.items_failed (Derives.plus_failed (fails (on_line grammar_rule 19 29))))
    step (Err (Unexpected at)) (inr stops) later =
        grammar_fails file (DerivesItems.items_then (Derives.plus_matched (stops.derives (on_line grammar_rule 19 29))
        (Derives.star_none (no_name (stuck_name file stops.end stops.stuck) (on_line grammar_rule 19 29))) refl)
        (DerivesItems.items_failed (not_ended stops.stuck.kind stops.stuck.piece stops.stuck.found
        (on_line grammar_rule 31 40))) refl)
    step (Err (TooDeepAt at)) e later = tt
    step (Err (BadCountAt at)) e later = tt
