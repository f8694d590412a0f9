-- The reader's `sequence` and `expression` agree with the metagrammar's Sequence and Expression.
use Rattle.std.proofs.Common.{◌≡◌, ℕ, zero, suc, ◌+◌, Bool, true, false, List, [], ◌∷◌, ◌++◌, map, length, drop, codes, inl, inr}
use Rattle.std.proofs.Common.{if◌then◌else◌, Option, None, Some, Result, Ok, Err, refl, sym, ap, ◌∙◌, subst, arith}
use Rattle.std.proofs.lemmas.List.{drop-drop}
use Rattle.peg_bytes.specs.Extent.{Extent, between}
use Rattle.peg_tree.specs.Trees.{Trees, NoTrees, Tree, followed_by}
use Rattle.peg_semantics.specs.Form as form
use Rattle.peg_semantics.specs.Form.{Form, Name}
use Rattle.peg_semantics.specs.Record.{Failed, Matched}
use Rattle.peg_semantics.proofs.Derivations.{Derives, DerivesItems}
use Rattle.peg_metagrammar.specs.Figure.{figure, sequence_body, expression_body, on_line}
use Rattle.peg_metagrammar.specs.FigureRules.{expression_rule, sequence_rule, slash_rule}
use Rattle.peg_lexer.specs.Lexical.{matcher_of}
use Rattle.peg_lexer.specs.Matchers.{PrefixMatch}
use Rattle.peg_notation.specs.Reader.{ReadError, Unexpected, TooDeepAt, BadCountAt, FormRead, FormsRead, Reading, place_of, starts_with_arrow, kind_begins, begins_prefix, and_read, many_forms, is_bad_count, suffix_sign, with_suffix, then_suffix, primary, suffix, prefix, whole_sequence, sequence, is_slash, starts_with_slash, after_tokens, alternative, whole_choice, expression, expression_in}
use Rattle.peg_metagrammar.specs.Denotation.{Denotation, Expression, part, text_end, spelled, expressions_in, sequence_spelled, choice_spelled}
use Rattle.peg_lexer.specs.Tokens.{Lexeme}
use Rattle.peg_lexer.specs.declared.token.TokenKind.{TokenKind}
use Rattle.peg_lexer.specs.declared.token.TokenKind.TheVariants as kind
use Rattle.peg_metagrammar.proofs.FigureNames.{sequence-meaning_of, expression-meaning_of}
use Rattle.peg_lexer.proofs.Lexemes.{lexeme_at}
use Rattle.peg_lexer.proofs.PieceSizes.{blank-literal_bytes}
use Rattle.peg_notation.proofs.PrefixRules.{prefix-exact}
use Rattle.peg_notation.proofs.Readings.{followed-none, ExactAny, ReadsAt, ExactAt, IsStuck, Good, node_at, position-is}
use Rattle.peg_notation.proofs.Repeats.{ExactRound, Rounds, ExactMany, rounds}
use Rattle.peg_notation.proofs.Streams.{Stream, here, not_here, none_here}
use Rattle.peg_lexer.proofs.Takes.{spelled-seq_matcher, text_end-seq_matcher, nesting-seq_matcher}
use Rattle.peg_lexer.proofs.Texts.{FindsToken, following_text}

-- ---- where a prefix begins

-- where none begins, none is read
none_begins : (file : List ℕ) (inner : Option Reading) (p : ℕ) (lexemes : List Lexeme) → Stream file p lexemes
    → begins_prefix lexemes ≡ false → (at : ℕ) × (prefix file inner lexemes ≡ Err (Unexpected at))
unfolding prefix suffix primary
none_begins file inner p [] stream none = (length file, refl)
none_begins file inner p (_ ∷ more) (Stream.next k piece lexeme found is rest) none =
    subst (λ (l : Lexeme). (at : ℕ) × (prefix file inner (l ∷ more) ≡ Err (Unexpected at))) (sym is)
    (by k (ap (λ (l : Lexeme). kind_begins l.kind (starts_with_arrow more)) (sym is) ∙ none))
  where
    name : (t : Bool) → starts_with_arrow more ≡ t → kind_begins kind.Ident t ≡ false → (at : ℕ)
        × (prefix file inner (lexeme_at kind.Ident p piece.length ∷ more) ≡ Err (Unexpected at))
    name true arrow begins = (place_of (length file) more, rw arrow refl)
    name false arrow begins = cc

    by : (k : TokenKind) → kind_begins k (starts_with_arrow more) ≡ false → (at : ℕ)
        × (prefix file inner (lexeme_at k p piece.length ∷ more) ≡ Err (Unexpected at))
    by kind.Ident begins = name (starts_with_arrow more) refl begins
    by kind.Literal begins = cc
    by kind.Class begins = cc
    by kind.And begins = cc
    by kind.Not begins = cc
    by kind.Open begins = cc
    by kind.Dot begins = cc
    by kind.Arrow begins = (p, refl)
    by kind.Slash begins = (p, refl)
    by kind.Question begins = (p, refl)
    by kind.Star begins = (p, refl)
    by kind.Plus begins = (p, refl)
    by kind.Count begins = (p, refl)
    by kind.Close begins = (p, refl)

-- after an expression no token is unexpected
never_unexpected : (file : List ℕ) (start : ℕ) (part_read : FormRead) (left : List Lexeme) (at : ℕ)
    → then_suffix file start part_read left ≡ Err (Unexpected at) → ⊥
never_unexpected file start part_read [] at is = cc
never_unexpected file start part_read (lexeme ∷ more) at is = by (is_bad_count file lexeme) is
  where
    by : (t : Bool) → (if t then Err (BadCountAt lexeme.text.start) else Ok
        (with_suffix start part_read lexeme (suffix_sign file lexeme lexeme.kind))) ≡ Err (Unexpected at) → ⊥
    by true is = cc
    by false is = cc

suffix_continues : (file : List ℕ) (inner : Option Reading) (lexemes : List Lexeme) (part_read : FormRead) (at : ℕ)
    → primary file inner lexemes ≡ Ok part_read → suffix file inner lexemes ≡ Err (Unexpected at) → ⊥
unfolding suffix
suffix_continues file inner lexemes part_read at read is =
    never_unexpected file (place_of (length file) lexemes) part_read (drop part_read.token_count lexemes) at
    (sym (ap (λ (x : Result FormRead ReadError). and_read x (λ (p : FormRead). then_suffix file (place_of (length file) lexemes) p
    (drop p.token_count lexemes))) read) ∙ is)

-- where one begins and none is read, there is an operator or a parenthesis
begun_stuck : (file : List ℕ) (inner : Option Reading) (p at : ℕ) (lexemes : List Lexeme) → Stream file p lexemes
    → begins_prefix lexemes ≡ true → prefix file inner lexemes ≡ Err (Unexpected at) → IsStuck file p
unfolding prefix suffix primary
begun_stuck file inner p at [] stream begins none = cc
begun_stuck file inner p at (_ ∷ more) (Stream.next k piece lexeme found is rest) begins none =
    by k found (ap (λ (l : Lexeme). kind_begins l.kind (starts_with_arrow more)) (sym is) ∙ begins)
    (ap (λ (l : Lexeme). prefix file inner (l ∷ more)) (sym is) ∙ none)
  where
    name : (t : Bool) → starts_with_arrow more ≡ t → kind_begins kind.Ident t ≡ true
        → prefix file inner (lexeme_at kind.Ident p piece.length ∷ more) ≡ Err (Unexpected at) → IsStuck file p
    name true arrow yes_begins e = cc
    name false arrow yes_begins e =
        absurd (suffix_continues file inner (lexeme_at kind.Ident p piece.length ∷ more) (record {
          form = form.Name (part file p (p + piece.length)) (between p (p + piece.length));
          token_count = 1;
          last = p + piece.length;
          depth = 0;
        }) at (rw arrow refl) e)

    by : (k : TokenKind) → matcher_of k (drop p file) ≡ Some piece → kind_begins k (starts_with_arrow more) ≡ true
        → prefix file inner (lexeme_at k p piece.length ∷ more) ≡ Err (Unexpected at) → IsStuck file p
    by kind.And there yes_begins e = record { kind = kind.And; piece = piece; found = there; opens = inl refl }
    by kind.Not there yes_begins e = record { kind = kind.Not; piece = piece; found = there; opens = inr (inl refl) }
    by kind.Open there yes_begins e = record { kind = kind.Open; piece = piece; found = there; opens = inr (inr refl) }
    by kind.Ident there yes_begins e = name (starts_with_arrow more) refl yes_begins e
    by kind.Literal there yes_begins e =
        absurd (suffix_continues file inner (lexeme_at kind.Literal p piece.length ∷ more) _ at refl e)
    by kind.Class there yes_begins e =
        absurd (suffix_continues file inner (lexeme_at kind.Class p piece.length ∷ more) _ at refl e)
    by kind.Dot there yes_begins e =
        absurd (suffix_continues file inner (lexeme_at kind.Dot p piece.length ∷ more) _ at refl e)
    by kind.Arrow there yes_begins e = cc
    by kind.Slash there yes_begins e = cc
    by kind.Question there yes_begins e = cc
    by kind.Star there yes_begins e = cc
    by kind.Plus there yes_begins e = cc
    by kind.Count there yes_begins e = cc
    by kind.Close there yes_begins e = cc

-- ---- Sequence

prefix_rounds : (file : List ℕ) (inner : Option Reading) → Good file inner
    → Rounds file (Name (codes "Prefix") (on_line sequence_rule 12 18)) (on_line sequence_rule 12 19) begins_prefix
    (λ before. prefix file inner)
prefix_rounds file inner good = record {
  none = λ p lexemes stream none.
      let it = none_begins file inner p lexemes stream none in
      subst (λ (x : Result FormRead ReadError). ExactAny file (codes "Prefix") p lexemes x) it.1
      (prefix-exact file inner good p lexemes stream) (on_line sequence_rule 12 18);
  one = λ before p lexemes stream begins.
      by p lexemes stream begins (prefix file inner lexemes) refl
      (prefix-exact file inner good p lexemes stream);
}
  where
    by : (p : ℕ) (lexemes : List Lexeme) → Stream file p lexemes → begins_prefix lexemes ≡ true → (x : Result FormRead ReadError)
        → prefix file inner lexemes ≡ x → ExactAny file (codes "Prefix") p lexemes x
        → ExactRound file (Name (codes "Prefix") (on_line sequence_rule 12 18)) (on_line sequence_rule 12 19) p lexemes x
    by p lexemes stream begins (Ok part) is e = record {
      end = e.end;
      trees = e.trees;
      left = e.left;
      derives = e.derives (on_line sequence_rule 12 18);
      spells = e.spells;
      ends = e.ends;
      nests = e.nests;
      some = e.some;
    }
    by p lexemes stream begins (Err (Unexpected at)) is fails = record {
      end = p;
      trees = NoTrees;
      derives = Derives.star_none (fails (on_line sequence_rule 12 18));
      stuck = begun_stuck file inner p at lexemes stream begins is;
    }
    by p lexemes stream begins (Err (TooDeepAt at)) is e = tt
    by p lexemes stream begins (Err (BadCountAt at)) is e = tt

-- the expressions among the pieces that expressions denote
expressions-all : (forms : List Form) → expressions_in (map Expression forms) ≡ forms
expressions-all [] = refl
expressions-all (e ∷ forms) = ap (λ (more : List Form). e ∷ more) (expressions-all forms)

-- Sequence matches exactly what is read
pub sequence-exact : (file : List ℕ) (inner : Option Reading) → Good file inner
    → (before p : ℕ) (lexemes : List Lexeme) → Stream file p lexemes
    → ExactAt file (codes "Sequence") before p lexemes (sequence file inner before lexemes)
unfolding sequence sequence_body
sequence-exact file inner good before p lexemes stream =
    by (many_forms begins_prefix (λ b. prefix file inner) before lexemes)
    (rounds (prefix_rounds file inner good) (length lexemes) before p lexemes (omega arith) stream refl)
  where
    by : (x : Result FormsRead ReadError) → ExactMany file (Name (codes "Prefix") (on_line sequence_rule 12 18))
        (on_line sequence_rule 12 19) before p lexemes x → ExactAt file (codes "Sequence") before p lexemes
        (and_read x (λ (parts : FormsRead). Ok (whole_sequence before (place_of (length file) lexemes) parts)))
    by (Ok parts) m =
        subst (λ start. ReadsAt file (codes "Sequence") before p lexemes (whole_sequence before start parts))
        (sym (position-is stream))
        (node_at before _ sequence-meaning_of.1 refl refl m.derives (whole_sequence before p parts)
        (ap (λ (forms : List Form). Expression (sequence_spelled before (between p parts.last) forms) ∷ [])
        (ap expressions_in (m.spells before) ∙ expressions-all parts.forms))
        m.ends m.nests m.left)
    by (Err (Unexpected at)) stops = record {
      end = stops.end;
      trees = Tree sequence_rule p stops.end stops.trees NoTrees;
      derives = λ span. Derives.name_matched sequence-meaning_of.1 stops.derives refl;
      stuck = stops.stuck;
    }
    by (Err (TooDeepAt at)) m = tt
    by (Err (BadCountAt at)) m = tt

-- ---- alternatives

-- a slash and a sequence
abbrev slash_sequence : Form
slash_sequence =
    form.Seq (form.Then (Name (codes "SLASH") (on_line expression_rule 24 29)) (form.Then
    (Name (codes "Sequence") (on_line expression_rule 30 38)) form.End)) (on_line expression_rule 24 38)

no_slash : {file : List ℕ} {p : ℕ} → ((span : Extent) → Derives figure file (Name (codes "SLASH") span) p Failed)
    → Derives figure file slash_sequence p Failed
no_slash fails = Derives.sequence (DerivesItems.items_failed (fails _))

-- no token that nothing can follow is a slash
stuck_slash : (file : List ℕ) (q : ℕ) → IsStuck file q → (span : Extent)
    → Derives figure file (Name (codes "SLASH") span) q Failed
stuck_slash file q stuck span =
    elim stuck.opens [
      | inl is ↦ not_here stuck.kind stuck.piece kind.Slash span stuck.found
          (λ x. let bad : kind.Slash ≡ kind.And = x ∙ is in cc)
      | inr other ↦ elim other [
        | inl is ↦ not_here stuck.kind stuck.piece kind.Slash span stuck.found
            (λ x. let bad : kind.Slash ≡ kind.Not = x ∙ is in cc)
        | inr is ↦ not_here stuck.kind stuck.piece kind.Slash span stuck.found
            (λ x. let bad : kind.Slash ≡ kind.Open = x ∙ is in cc)
      ]
    ]

one_alternative : (file : List ℕ) (p : ℕ) (piece : PrefixMatch) (rest : List Lexeme) → matcher_of kind.Slash (drop p file)
    ≡ Some piece → (x : Result FormRead ReadError) → ExactAt file (codes "Sequence") (p + piece.length)
    (following_text file p piece.length) rest x → ExactRound file slash_sequence (on_line expression_rule 23 40) p
    (lexeme_at kind.Slash p piece.length ∷ rest) (and_read x (λ (part : FormRead). Ok (after_tokens 1 part)))
one_alternative file p piece rest found (Ok part) e =
    let s : FindsToken file slash_rule (codes "SLASH") (on_line expression_rule 24 29) p piece = here kind.Slash piece
    (on_line expression_rule 24 29) found in
    let blank : piece.spells ≡ [] = (blank-literal_bytes (codes "/")).blank (drop p file) piece found in
    record {
      end = e.end;
      trees = followed_by s.trees e.trees;
      left =
          let one : 1 + part.token_count ≡ suc part.token_count = omega arith in
          subst (λ n. Stream file e.end (drop n (lexeme_at kind.Slash p piece.length ∷ rest))) (sym one) e.left;
      derives =
          Derives.sequence (DerivesItems.items_then s.derives (DerivesItems.items_then
          (e.derives (on_line expression_rule 30 38)) DerivesItems.items_none refl)
          (ap (λ (t : Trees). Matched e.end (followed_by s.trees t)) (sym (followed-none e.trees))));
      spells = λ b.
          spelled-seq_matcher file b s.trees e.trees
          ∙ (ap (λ (pieces : List Denotation). pieces ++ spelled file (text_end b s.trees) e.trees) (s.spells b ∙ blank)
          ∙ (ap (λ k. spelled file k e.trees) (s.ends b) ∙ e.spells));
      ends = λ b. text_end-seq_matcher b s.trees e.trees ∙ (ap (λ k. text_end k e.trees) (s.ends b) ∙ e.ends);
      nests = omega (arith, nesting-seq_matcher s.trees e.trees, s.flat, e.nests);
      some = omega arith;
    }
one_alternative file p piece rest found (Err (Unexpected at)) stops =
    let s : FindsToken file slash_rule (codes "SLASH") (on_line expression_rule 24 29) p piece = here kind.Slash piece
    (on_line expression_rule 24 29) found in
    record {
      end = stops.end;
      trees = followed_by (followed_by s.trees (followed_by stops.trees NoTrees)) NoTrees;
      derives =
          Derives.star_more (Derives.sequence (DerivesItems.items_then s.derives
          (DerivesItems.items_then (stops.derives (on_line expression_rule 30 38)) DerivesItems.items_none refl) refl))
          (Derives.star_none (no_slash (stuck_slash file stops.end stops.stuck))) refl;
      stuck = stops.stuck;
    }
one_alternative file p piece rest found (Err (TooDeepAt at)) e = tt
one_alternative file p piece rest found (Err (BadCountAt at)) e = tt

alternative_rounds : (file : List ℕ) (inner : Option Reading) → Good file inner
    → Rounds file slash_sequence (on_line expression_rule 23 40) starts_with_slash (alternative file inner)
unfolding alternative
alternative_rounds file inner good = record {
  none = λ p lexemes stream none. fails p lexemes stream none;
  one = λ before p lexemes stream begins. reads before p lexemes stream begins;
}
  where
    fails : (p : ℕ) (lexemes : List Lexeme) → Stream file p lexemes → starts_with_slash lexemes ≡ false
        → Derives figure file slash_sequence p Failed
    fails p [] (Stream.ended last) none = no_slash (λ span. none_here kind.Slash span last)
    fails p (_ ∷ more) (Stream.next k piece lexeme found is rest) none =
        no_slash (λ span. not_here k piece kind.Slash span found (λ same. let bad : true
        ≡ false = ap (λ (x : TokenKind). is_slash x) same
        ∙ (ap (λ (l : Lexeme). is_slash l.kind) (sym is) ∙ none) in cc))

    reads : (before p : ℕ) (lexemes : List Lexeme) → Stream file p lexemes
        → starts_with_slash lexemes ≡ true → ExactRound file slash_sequence (on_line expression_rule 23 40) p lexemes
        (alternative file inner before lexemes)
    reads before p [] stream begins = cc
    reads before p (_ ∷ more) (Stream.next k piece lexeme found is rest) begins =
        subst (λ (l : Lexeme). ExactRound file slash_sequence (on_line expression_rule 23 40) p (l ∷
        more) (and_read (sequence file inner l.text.end more) (λ (part : FormRead). Ok (after_tokens 1 part)))) (sym is)
        (by k found (ap (λ (l : Lexeme). is_slash l.kind) (sym is) ∙ begins))
      where
        by : (k : TokenKind) → matcher_of k (drop p file) ≡ Some piece → is_slash k ≡ true
            → ExactRound file slash_sequence (on_line expression_rule 23 40) p (lexeme_at k p piece.length ∷
            more) (and_read (sequence file inner (p + piece.length) more) (λ (part : FormRead). Ok (after_tokens 1 part)))
        by kind.Slash there slash =
            one_alternative file p piece more there (sequence file inner (p + piece.length) more)
            (sequence-exact file inner good (p + piece.length) (following_text file p piece.length) more rest)
        by kind.Ident there slash = cc
        by kind.Literal there slash = cc
        by kind.Class there slash = cc
        by kind.Arrow there slash = cc
        by kind.And there slash = cc
        by kind.Not there slash = cc
        by kind.Question there slash = cc
        by kind.Star there slash = cc
        by kind.Plus there slash = cc
        by kind.Count there slash = cc
        by kind.Open there slash = cc
        by kind.Close there slash = cc
        by kind.Dot there slash = cc

-- ---- Expression

-- a sequence and the alternatives after it
both_parts : (file : List ℕ) (before p : ℕ) (lexemes : List Lexeme) (first : FormRead)
    → (e : ReadsAt file (codes "Sequence") before p lexemes first) → (x : Result FormsRead ReadError)
    → ExactMany file slash_sequence (on_line expression_rule 23 40) first.last e.end (drop first.token_count lexemes) x
    → ExactAt file (codes "Expression") before p lexemes (and_read x (λ (more : FormsRead). Ok (whole_choice p first more)))
unfolding expression_body
both_parts file before p lexemes first e (Ok more) m =
    node_at before _ expression-meaning_of.1 refl refl
    (Derives.sequence
    (DerivesItems.items_then (e.derives _) (DerivesItems.items_then m.derives DerivesItems.items_none refl)
    (ap (λ (t : Trees). Matched m.end (followed_by e.trees t)) (sym (followed-none m.trees)))))
    (whole_choice p first more)
    (ap (λ (forms : List Form). Expression (choice_spelled (between p more.last) forms) ∷ [])
    (ap expressions_in
    (spelled-seq_matcher file before e.trees m.trees
    ∙ (ap (λ (pieces : List Denotation). spelled file before e.trees ++ pieces) (m.spells (text_end before e.trees))
    ∙ ap (λ (pieces : List Denotation). pieces ++ map Expression more.forms) e.spells))
    ∙ ap (λ (forms : List Form). first.form ∷ forms) (expressions-all more.forms)))
    (text_end-seq_matcher before e.trees m.trees ∙ (ap (λ b. text_end b m.trees) e.ends ∙ m.ends))
    (omega (arith, nesting-seq_matcher e.trees m.trees, e.nests, m.nests))
    (subst (λ (l : List Lexeme). Stream file m.end l) (drop-drop more.token_count first.token_count lexemes) m.left)
both_parts file before p lexemes first e (Err (Unexpected at)) stops = record {
  end = stops.end;
  trees = Tree expression_rule p stops.end (followed_by e.trees (followed_by stops.trees NoTrees)) NoTrees;
  derives = λ span. Derives.name_matched expression-meaning_of.1
      (Derives.sequence
      (DerivesItems.items_then (e.derives _)
      (DerivesItems.items_then stops.derives DerivesItems.items_none refl) refl)) refl;
  stuck = stops.stuck;
}
both_parts file before p lexemes first e (Err (TooDeepAt at)) m = tt
both_parts file before p lexemes first e (Err (BadCountAt at)) m = tt

-- Expression matches exactly what is read
expression-exact : (file : List ℕ) (inner : Option Reading) → Good file inner
    → (before p : ℕ) (lexemes : List Lexeme) → Stream file p lexemes
    → ExactAt file (codes "Expression") before p lexemes (expression file inner before lexemes)
unfolding expression_body
expression-exact file inner good before p lexemes stream =
    by (sequence file inner before lexemes) (sequence-exact file inner good before p lexemes stream)
  where
    by : (x : Result FormRead ReadError) → ExactAt file (codes "Sequence") before p lexemes x
        → ExactAt file (codes "Expression") before p lexemes
        (and_read x (λ (first : FormRead). and_read (many_forms starts_with_slash (alternative file inner) first.last
        (drop first.token_count lexemes)) (λ (more : FormsRead). Ok (whole_choice (place_of (length file) lexemes) first more))))
    by (Ok first) e =
        let m = rounds (alternative_rounds file inner good) (length (drop first.token_count lexemes)) first.last e.end
        (drop first.token_count lexemes) (omega arith) e.left refl in
        subst (λ start. ExactAt file (codes "Expression") before p lexemes
        (and_read (many_forms starts_with_slash (alternative file inner) first.last (drop first.token_count lexemes))
        (λ (more : FormsRead). Ok (whole_choice start first more)))) (sym (position-is stream))
        (both_parts file before p lexemes first e (many_forms starts_with_slash (alternative file inner) first.last
        (drop first.token_count lexemes)) m)
    by (Err (Unexpected at)) stops = record {
      end = stops.end;
      trees = Tree expression_rule p stops.end (followed_by stops.trees NoTrees) NoTrees;
      derives = λ span. Derives.name_matched expression-meaning_of.1
          (Derives.sequence (DerivesItems.items_then (stops.derives _)
          (DerivesItems.items_then (Derives.star_none
          (no_slash (stuck_slash file stops.end stops.stuck))) DerivesItems.items_none refl) refl)) refl;
      stuck = stops.stuck;
    }
    by (Err (TooDeepAt at)) e = tt
    by (Err (BadCountAt at)) e = tt

-- within the limit of open parentheses, Expression matches exactly what is read
pub expression_in-exact : (file : List ℕ) (bound before p : ℕ) (lexemes : List Lexeme) → Stream file p lexemes
    → ExactAt file (codes "Expression") before p lexemes
    (expression_in file bound before lexemes)
unfolding expression_in
expression_in-exact file zero before p lexemes stream = expression-exact file None tt before p lexemes stream
expression_in-exact file (suc n) before p lexemes stream =
    expression-exact file (Some (expression_in file n)) (expression_in-exact file n) before p lexemes stream
