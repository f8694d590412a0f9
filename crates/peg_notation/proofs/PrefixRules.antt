-- The reader's `suffix` and `prefix` agree with the metagrammar's Suffix and Prefix.
use Rattle.std.proofs.Common.{◌≡◌, ◌≢◌, ℕ, suc, ◌+◌, Bool, true, false, if◌then◌else◌, List, [], ◌∷◌, ◌++◌, length, drop, codes}
use Rattle.std.proofs.Common.{Option, Some, Result, Ok, Err, refl, sym, ap, ◌∙◌, subst, arith}
use Rattle.std.proofs.lemmas.List.{drop-drop}
use Rattle.peg_bytes.specs.Extent.{Extent, between}
use Rattle.peg_tree.specs.Trees.{Trees, followed_by}
use Rattle.peg_semantics.specs.Form as form
use Rattle.peg_semantics.specs.Form.{Form, Name}
use Rattle.peg_semantics.specs.Record.{Failed, Matched}
use Rattle.peg_semantics.proofs.Derivations.{Derives, DerivesItems, DerivesFirst}
use Rattle.peg_metagrammar.specs.Figure.{figure, suffix_body, prefix_body, on_line}
use Rattle.peg_metagrammar.specs.FigureRules.{prefix_rule, suffix_rule, and_sign_rule, not_sign_rule, question_rule}
use Rattle.peg_metagrammar.specs.FigureRules.{star_rule, plus_rule, count_rule}
use Rattle.peg_lexer.specs.Lexical.{matcher_of}
use Rattle.peg_lexer.specs.Matchers.{PrefixMatch}
use Rattle.peg_notation.specs.Reader.{ReadError, Unexpected, TooDeepAt, BadCountAt, FormRead, Reading, place_of, and_read, pieces_of, bounds_of_lexeme, is_bad_count, primary, with_token, then_suffix, suffix, with_prefix, prefix_of, prefix_sign, prefix}
use Rattle.peg_metagrammar.specs.Denotation.{Denotation, Expression, Sign, text_end, spelled, signed, counted_form, bounds_spelled, numerals_in}
use Rattle.peg_lexer.specs.Tokens.{Lexeme}
use Rattle.peg_lexer.specs.declared.token.TokenKind.{TokenKind}
use Rattle.peg_lexer.specs.declared.token.TokenKind.TheVariants as kind
use Rattle.peg_metagrammar.proofs.FigureNames.{suffix-meaning_of, prefix-meaning_of}
use Rattle.peg_lexer.proofs.Lexemes.{lexeme_at}
use Rattle.peg_notation.proofs.PrimaryRule.{pieces_here, primary-exact}
use Rattle.peg_notation.proofs.Readings.{followed-none, ReadsAny, ExactAny, Good, node_any, position-is}
use Rattle.peg_notation.proofs.Streams.{Stream, here, not_here, none_here}
use Rattle.peg_lexer.proofs.Takes.{spelled-seq_matcher, text_end-seq_matcher, nesting-seq_matcher}
use Rattle.peg_lexer.proofs.Texts.{FindsToken, following_text}

-- ---- Suffix

-- one more token
after_one : (lexemes : List Lexeme) (token_count : ℕ) → drop (token_count + 1) lexemes ≡ drop 1 (drop token_count lexemes)
after_one lexemes token_count = sym (drop-drop 1 token_count lexemes)

-- no operator after the primary
no_suffix : (file : List ℕ) (p : ℕ) (lexemes : List Lexeme) (part : FormRead)
    → (e : ReadsAny file (codes "Primary") p lexemes part)
    → ((span : Extent) → Derives figure file (Name (codes "QUESTION") span) e.end Failed)
    → ((span : Extent) → Derives figure file (Name (codes "STAR") span) e.end Failed)
    → ((span : Extent) → Derives figure file (Name (codes "PLUS") span) e.end Failed)
    → ((span : Extent) → Derives figure file (Name (codes "COUNT") span) e.end Failed)
    → ReadsAny file (codes "Suffix") p lexemes part
unfolding suffix_body
no_suffix file p lexemes part e question star plus count =
    node_any _ suffix-meaning_of.1 refl refl
    (Derives.sequence (DerivesItems.items_then (e.derives _)
    (DerivesItems.items_then (Derives.optional_none (Derives.choice
    (DerivesFirst.alternative_failed (question _) (DerivesFirst.alternative_failed (star _)
    (DerivesFirst.alternative_failed (plus _) (DerivesFirst.alternative_last (count _))))))) DerivesItems.items_none refl)
    (ap (λ (t : Trees). Matched e.end t) (sym (followed-none e.trees)))))
    part (λ before. ap (signed (between p part.last)) (e.spells before)) e.ends e.nests e.some e.left

-- an operator after the primary
one_suffix : (file : List ℕ) (p : ℕ) (lexemes : List Lexeme) (part : FormRead)
    → (e : ReadsAny file (codes "Primary") p lexemes part)
    → {number : ℕ} {used : List ℕ} {span : Extent} {piece : PrefixMatch} (sign : Form → Extent → Form) (rest : List Lexeme)
    → (it : FindsToken file number used span e.end piece)
    → ((before : ℕ) → spelled file before it.trees ≡ Sign sign ∷ [])
    → Derives figure file suffix_body p (Matched (following_text file e.end piece.length) (followed_by e.trees it.trees))
    → Stream file (following_text file e.end piece.length) (drop (part.token_count + 1) lexemes)
    → ReadsAny file (codes "Suffix") p lexemes (record {
      form = sign part.form
          (between p (e.end + piece.length));
      token_count = part.token_count + 1;
      last = e.end + piece.length;
      depth = part.depth;
    })
one_suffix file p lexemes part e {number} {used} {span} {piece} sign rest it spells d left =
    node_any _ suffix-meaning_of.1 refl refl d
    (record {
      form = sign part.form
          (between p (e.end + piece.length));
      token_count = part.token_count + 1;
      last = e.end + piece.length;
      depth = part.depth;
    })
    (λ before. ap (signed (between p (e.end + piece.length)))
    (spelled-seq_matcher file before e.trees it.trees
    ∙ (ap (λ (pieces : List Denotation). spelled file before e.trees ++ pieces) (spells (text_end before e.trees))
    ∙ ap (λ (pieces : List Denotation). pieces ++ Sign sign ∷ []) (e.spells before))))
    (λ before. text_end-seq_matcher before e.trees it.trees ∙ it.ends (text_end before e.trees))
    (omega (arith, nesting-seq_matcher e.trees it.trees, e.nests, it.flat)) (omega arith)
    left

suffix_read : (file : List ℕ) (p : ℕ) (lexemes : List Lexeme) (part : FormRead)
    → (e : ReadsAny file (codes "Primary") p lexemes part) → (left : List Lexeme) → drop part.token_count lexemes ≡ left
    → Stream file e.end left → ExactAny file (codes "Suffix") p lexemes (then_suffix file p part left)
unfolding suffix_body
suffix_read file p lexemes part e [] same (Stream.ended last) =
    no_suffix file p lexemes part e (λ span. none_here kind.Question span last) (λ span. none_here kind.Star span last)
    (λ span. none_here kind.Plus span last) (λ span. none_here kind.Count span last)
suffix_read file p lexemes part e (_ ∷ rest) same (Stream.next k piece lexeme there is left) =
    subst (λ (l : Lexeme). ExactAny file (codes "Suffix") p lexemes (with_token file p part l)) (sym is)
    (by k there (same ∙ ap (λ (l : Lexeme). l ∷ rest) is))
  where
    next_left : (k : TokenKind) → drop part.token_count lexemes ≡ lexeme_at k e.end piece.length ∷ rest
        → Stream file (following_text file e.end piece.length) (drop (part.token_count + 1) lexemes)
    next_left k left_is =
        subst (λ (l : List Lexeme). Stream file (following_text file e.end piece.length) l)
        (sym (after_one lexemes part.token_count ∙ ap (drop 1) left_is)) left

    -- a count out of range says nothing
    in_range : {part : FormRead} (at : ℕ) (t : Bool) → ReadsAny file (codes "Suffix") p lexemes part
        → ExactAny file (codes "Suffix") p lexemes (if t then Err (BadCountAt at) else Ok part)
    in_range at true it = tt
    in_range at false it = it

    none : (k : TokenKind) → matcher_of k (drop e.end file) ≡ Some piece → kind.Question ≢ k → kind.Star ≢ k
        → kind.Plus ≢ k → kind.Count ≢ k → ReadsAny file (codes "Suffix") p lexemes part
    none k at_end a b c d =
        no_suffix file p lexemes part e (λ span. not_here k piece kind.Question span at_end a)
        (λ span. not_here k piece kind.Star span at_end b) (λ span. not_here k piece kind.Plus span at_end c)
        (λ span. not_here k piece kind.Count span at_end d)

    by : (k : TokenKind) → matcher_of k (drop e.end file) ≡ Some piece → drop part.token_count lexemes
        ≡ lexeme_at k e.end piece.length ∷ rest → ExactAny file (codes "Suffix") p lexemes
        (with_token file p part (lexeme_at k e.end piece.length))
    by kind.Question at_end left_is =
        let it : FindsToken file question_rule (codes "QUESTION")
        (on_line suffix_rule 19 27) e.end piece = here kind.Question piece (on_line suffix_rule 19 27) at_end in
        one_suffix file p lexemes part e form.Optional rest it it.spells
        (Derives.sequence (DerivesItems.items_then (e.derives _)
        (DerivesItems.items_then (Derives.optional_some (Derives.choice
        (DerivesFirst.alternative_matched it.derives))) DerivesItems.items_none refl)
        (ap (λ (t : Trees). Matched (following_text file e.end piece.length) (followed_by e.trees t))
        (sym (followed-none it.trees)))))
        (next_left kind.Question left_is)
    by kind.Star at_end left_is =
        let it : FindsToken file star_rule (codes "STAR") (on_line suffix_rule 30 34) e.end piece = here kind.Star piece
        (on_line suffix_rule 30 34) at_end in
        one_suffix file p lexemes part e form.Star rest it it.spells
        (Derives.sequence (DerivesItems.items_then (e.derives _)
        (DerivesItems.items_then (Derives.optional_some (Derives.choice
        (DerivesFirst.alternative_failed (not_here kind.Star piece kind.Question _ at_end (λ x. cc))
        (DerivesFirst.alternative_matched it.derives)))) DerivesItems.items_none refl)
        (ap (λ (t : Trees). Matched (following_text file e.end piece.length) (followed_by e.trees t))
        (sym (followed-none it.trees)))))
        (next_left kind.Star left_is)
    by kind.Plus at_end left_is =
        let it : FindsToken file plus_rule (codes "PLUS") (on_line suffix_rule 37 41) e.end piece = here kind.Plus piece
        (on_line suffix_rule 37 41) at_end in
        one_suffix file p lexemes part e form.Plus rest it it.spells
        (Derives.sequence (DerivesItems.items_then (e.derives _)
        (DerivesItems.items_then (Derives.optional_some (Derives.choice
        (DerivesFirst.alternative_failed (not_here kind.Plus piece kind.Question _ at_end (λ x. cc))
        (DerivesFirst.alternative_failed (not_here kind.Plus piece kind.Star _ at_end (λ x. cc))
        (DerivesFirst.alternative_matched it.derives))))) DerivesItems.items_none refl)
        (ap (λ (t : Trees). Matched (following_text file e.end piece.length) (followed_by e.trees t))
        (sym (followed-none it.trees)))))
        (next_left kind.Plus left_is)
    by kind.Count at_end left_is =
        let it : FindsToken file count_rule (codes "COUNT") (on_line suffix_rule 44 49) e.end piece = here kind.Count piece
        (on_line suffix_rule 44 49) at_end in
        let pieces : pieces_of file (lexeme_at kind.Count e.end piece.length) ≡ piece.spells =
        pieces_here file kind.Count e.end piece at_end in
        let sign = counted_form (bounds_of_lexeme file (lexeme_at kind.Count e.end piece.length)) in
        let spells : (before : ℕ) → spelled file before it.trees ≡ Sign sign ∷ [] =
        λ before. it.spells before
        ∙ ap (λ (l : List Denotation). Sign (counted_form (bounds_spelled (numerals_in l))) ∷ []) (sym pieces) in
        in_range e.end (is_bad_count file (lexeme_at kind.Count e.end piece.length))
        (one_suffix file p lexemes part e sign rest it spells
        (Derives.sequence (DerivesItems.items_then (e.derives _)
        (DerivesItems.items_then (Derives.optional_some (Derives.choice
        (DerivesFirst.alternative_failed (not_here kind.Count piece kind.Question _ at_end (λ x. cc))
        (DerivesFirst.alternative_failed (not_here kind.Count piece kind.Star _ at_end (λ x. cc))
        (DerivesFirst.alternative_failed (not_here kind.Count piece kind.Plus _ at_end (λ x. cc))
        (DerivesFirst.alternative_last it.derives)))))) DerivesItems.items_none refl)
        (ap (λ (t : Trees). Matched (following_text file e.end piece.length) (followed_by e.trees t))
        (sym (followed-none it.trees)))))
        (next_left kind.Count left_is))
    by kind.Ident at_end left_is = none kind.Ident at_end (λ x. cc) (λ x. cc) (λ x. cc) (λ x. cc)
    by kind.Literal at_end left_is = none kind.Literal at_end (λ x. cc) (λ x. cc) (λ x. cc) (λ x. cc)
    by kind.Class at_end left_is = none kind.Class at_end (λ x. cc) (λ x. cc) (λ x. cc) (λ x. cc)
    by kind.Arrow at_end left_is = none kind.Arrow at_end (λ x. cc) (λ x. cc) (λ x. cc) (λ x. cc)
    by kind.Slash at_end left_is = none kind.Slash at_end (λ x. cc) (λ x. cc) (λ x. cc) (λ x. cc)
    by kind.And at_end left_is = none kind.And at_end (λ x. cc) (λ x. cc) (λ x. cc) (λ x. cc)
    by kind.Not at_end left_is = none kind.Not at_end (λ x. cc) (λ x. cc) (λ x. cc) (λ x. cc)
    by kind.Open at_end left_is = none kind.Open at_end (λ x. cc) (λ x. cc) (λ x. cc) (λ x. cc)
    by kind.Close at_end left_is = none kind.Close at_end (λ x. cc) (λ x. cc) (λ x. cc) (λ x. cc)
    by kind.Dot at_end left_is = none kind.Dot at_end (λ x. cc) (λ x. cc) (λ x. cc) (λ x. cc)

-- Suffix matches exactly what is read
pub suffix-exact : (file : List ℕ) (inner : Option Reading) → Good file inner
    → (p : ℕ) (lexemes : List Lexeme) → Stream file p lexemes
    → ExactAny file (codes "Suffix") p lexemes (suffix file inner lexemes)
unfolding suffix suffix_body
suffix-exact file inner good p lexemes stream =
    by (primary file inner lexemes) (primary-exact file inner good p lexemes stream)
  where
    by : (x : Result FormRead ReadError) → ExactAny file (codes "Primary") p lexemes x
        → ExactAny file (codes "Suffix") p lexemes (and_read x
        (λ (part : FormRead). then_suffix file (place_of (length file) lexemes) part (drop part.token_count lexemes)))
    by (Ok part) e =
        subst (λ start. ExactAny file (codes "Suffix") p lexemes (then_suffix file start part (drop part.token_count lexemes)))
        (sym (position-is stream)) (suffix_read file p lexemes part e (drop part.token_count lexemes) refl e.left)
    by (Err (Unexpected at)) fails =
        λ span. Derives.name_failed suffix-meaning_of.1 (Derives.sequence (DerivesItems.items_failed (fails _)))
    by (Err (TooDeepAt at)) e = tt
    by (Err (BadCountAt at)) e = tt

-- ---- Prefix

-- no operator before the suffix
no_prefix : (file : List ℕ) (p : ℕ) (lexemes : List Lexeme)
    → ((span : Extent) → Derives figure file (Name (codes "AND") span) p Failed)
    → ((span : Extent) → Derives figure file (Name (codes "NOT") span) p Failed) → (x : Result FormRead ReadError)
    → ExactAny file (codes "Suffix") p lexemes x → ExactAny file (codes "Prefix") p lexemes x
unfolding prefix_body
no_prefix file p lexemes ands nots (Ok part) e =
    node_any _ prefix-meaning_of.1 refl refl
    (Derives.sequence (DerivesItems.items_then (Derives.optional_none
    (Derives.choice (DerivesFirst.alternative_failed (ands _) (DerivesFirst.alternative_last (nots _)))))
    (DerivesItems.items_then (e.derives _) DerivesItems.items_none refl)
    (ap (λ (t : Trees). Matched e.end t) (sym (followed-none e.trees)))))
    part (λ before. ap (signed (between p part.last)) (e.spells before)) e.ends e.nests e.some e.left
no_prefix file p lexemes ands nots (Err (Unexpected at)) fails =
    λ span. Derives.name_failed prefix-meaning_of.1
    (Derives.sequence (DerivesItems.items_then (Derives.optional_none
    (Derives.choice (DerivesFirst.alternative_failed (ands _) (DerivesFirst.alternative_last (nots _)))))
    (DerivesItems.items_failed (fails _)) refl))
no_prefix file p lexemes ands nots (Err (TooDeepAt at)) e = tt
no_prefix file p lexemes ands nots (Err (BadCountAt at)) e = tt

-- an operator before the suffix
one_prefix : (file : List ℕ) (p : ℕ) (lexeme : Lexeme)
    (more : List Lexeme) {number : ℕ} {used : List ℕ} {span : Extent} {piece : PrefixMatch} (sign : Form → Extent → Form)
    → (it : FindsToken file number used span p piece) → ((before : ℕ) → spelled file before it.trees ≡ Sign sign ∷ [])
    → Derives figure file (form.Optional (form.Choice (Name (codes "AND") (on_line prefix_rule 11 14))
    (form.Then (Name (codes "NOT") (on_line prefix_rule 17 20)) form.End) (on_line prefix_rule 11 20)) (on_line prefix_rule 10 22)) p
    (Matched (following_text file p piece.length) it.trees) → (x : Result FormRead ReadError)
    → ExactAny file (codes "Suffix") (following_text file p piece.length) more x
    → ExactAny file (codes "Prefix") p (lexeme ∷ more) (and_read x (λ (part : FormRead). Ok (with_prefix p sign part)))
unfolding prefix_body
one_prefix file p lexeme more {number} {used} {span} {piece} sign it spells d (Ok part) e =
    node_any _ prefix-meaning_of.1 refl refl
    (Derives.sequence (DerivesItems.items_then d (DerivesItems.items_then (e.derives _) DerivesItems.items_none refl)
    (ap (λ (t : Trees). Matched e.end (followed_by it.trees t)) (sym (followed-none e.trees)))))
    (with_prefix p sign part)
    (λ before. ap (signed (between p part.last))
    (spelled-seq_matcher file before it.trees e.trees
    ∙ (ap (λ (pieces : List Denotation). spelled file before it.trees ++ pieces) (e.spells (text_end before it.trees))
    ∙ ap (λ (pieces : List Denotation). pieces ++ Expression part.form ∷ []) (spells before))))
    (λ before. text_end-seq_matcher before it.trees e.trees ∙ e.ends (text_end before it.trees))
    (omega (arith, nesting-seq_matcher it.trees e.trees, e.nests, it.flat)) (omega arith)
    (let one : 1 + part.token_count ≡ suc part.token_count = omega arith in
    subst (λ n. Stream file e.end (drop n (lexeme ∷ more))) (sym one) e.left)
one_prefix file p lexeme more sign it spells d (Err (Unexpected at)) fails =
    λ span. Derives.name_failed prefix-meaning_of.1
    (Derives.sequence (DerivesItems.items_then d (DerivesItems.items_failed (fails _)) refl))
one_prefix file p lexeme more sign it spells d (Err (TooDeepAt at)) e = tt
one_prefix file p lexeme more sign it spells d (Err (BadCountAt at)) e = tt

-- Prefix matches exactly what is read
pub prefix-exact : (file : List ℕ) (inner : Option Reading) → Good file inner
    → (p : ℕ) (lexemes : List Lexeme) → Stream file p lexemes
    → ExactAny file (codes "Prefix") p lexemes (prefix file inner lexemes)
unfolding prefix
prefix-exact file inner good p [] (Stream.ended last) =
    no_prefix file p [] (λ span. none_here kind.And span last) (λ span. none_here kind.Not span last)
    (suffix file inner []) (suffix-exact file inner good p [] (Stream.ended last))
prefix-exact file inner good p (_ ∷ more) (Stream.next k piece lexeme found is rest) =
    subst (λ (l : Lexeme). ExactAny file (codes "Prefix") p (l ∷ more)
    (prefix_of file inner l more (prefix_sign l.kind))) (sym is) (by k found)
  where
    plain : (k : TokenKind) → matcher_of k (drop p file) ≡ Some piece → kind.And ≢ k → kind.Not ≢ k
        → ExactAny file (codes "Prefix") p (lexeme_at k p piece.length ∷
        more) (suffix file inner (lexeme_at k p piece.length ∷ more))
    plain k there a b =
        no_prefix file p (lexeme_at k p piece.length ∷ more) (λ span. not_here k piece kind.And span there a)
        (λ span. not_here k piece kind.Not span there b) (suffix file inner (lexeme_at k p piece.length ∷
        more)) (suffix-exact file inner good p (lexeme_at k p piece.length ∷
        more) (Stream.next k piece (lexeme_at k p piece.length) there refl rest))

    by : (k : TokenKind) → matcher_of k (drop p file) ≡ Some piece
        → ExactAny file (codes "Prefix") p (lexeme_at k p piece.length ∷
        more) (prefix_of file inner (lexeme_at k p piece.length) more (prefix_sign k))
    by kind.And there =
        let it : FindsToken file and_sign_rule (codes "AND") (on_line prefix_rule 11 14) p piece = here kind.And piece
        (on_line prefix_rule 11 14) there in
        one_prefix file p (lexeme_at kind.And p piece.length) more form.And it it.spells
        (Derives.optional_some (Derives.choice (DerivesFirst.alternative_matched it.derives)))
        (suffix file inner more) (suffix-exact file inner good (following_text file p piece.length) more rest)
    by kind.Not there =
        let it : FindsToken file not_sign_rule (codes "NOT") (on_line prefix_rule 17 20) p piece = here kind.Not piece
        (on_line prefix_rule 17 20) there in
        one_prefix file p (lexeme_at kind.Not p piece.length) more form.Not it it.spells
        (Derives.optional_some (Derives.choice (DerivesFirst.alternative_failed
        (not_here kind.Not piece kind.And _ there (λ x. cc)) (DerivesFirst.alternative_last it.derives))))
        (suffix file inner more) (suffix-exact file inner good (following_text file p piece.length) more rest)
    by kind.Question there = plain kind.Question there (λ x. cc) (λ x. cc)
    by kind.Star there = plain kind.Star there (λ x. cc) (λ x. cc)
    by kind.Plus there = plain kind.Plus there (λ x. cc) (λ x. cc)
    by kind.Count there = plain kind.Count there (λ x. cc) (λ x. cc)
    by kind.Ident there = plain kind.Ident there (λ x. cc) (λ x. cc)
    by kind.Literal there = plain kind.Literal there (λ x. cc) (λ x. cc)
    by kind.Class there = plain kind.Class there (λ x. cc) (λ x. cc)
    by kind.Arrow there = plain kind.Arrow there (λ x. cc) (λ x. cc)
    by kind.Slash there = plain kind.Slash there (λ x. cc) (λ x. cc)
    by kind.Open there = plain kind.Open there (λ x. cc) (λ x. cc)
    by kind.Close there = plain kind.Close there (λ x. cc) (λ x. cc)
    by kind.Dot there = plain kind.Dot there (λ x. cc) (λ x. cc)
