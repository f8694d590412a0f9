-- The metagrammar's rules that end in Spacing: a text, and the end of the spacing after it.
use Rattle.std.proofs.Common.{◌≡◌, ℕ, max, ◌+◌, Bool, true, false, ◌&&◌, ◌||◌, List, [], ◌++◌, drop, add_assoc, append-nil}
use Rattle.std.proofs.Common.{Option, None, Some, option_map, option_and_then, if◌then◌else◌, ◌==◌, codes, refl, sym, ap, ◌∙◌, subst}
use Rattle.std.proofs.lemmas.List.{drop-drop}
use Rattle.peg_bytes.specs.Extent.{Extent}
use Rattle.peg_tree.specs.Trees.{Trees, NoTrees, Tree, followed_by}
use Rattle.peg_semantics.specs.Form.{Form, Forms, Name, Seq, Choice, End, Then}
use Rattle.peg_semantics.specs.Record.{Failed, Matched}
use Rattle.peg_semantics.specs.Rules.{Meaning, meaning_of}
use Rattle.peg_semantics.proofs.Derivations.{Derives, DerivesItems, DerivesFirst}
use Rattle.peg_metagrammar.specs.Figure.{figure}
use Rattle.peg_metagrammar.specs.FigureRules.{primary_rule, open_sign_rule, spacing_rule}
use Rattle.peg_lexer.specs.Lexical.{spacing}
use Rattle.peg_lexer.specs.Matchers.{PrefixMatch, Matcher, concat_matches, seq_matcher, or_piece, or_matcher}
use Rattle.peg_metagrammar.specs.Denotation.{Denotation, text_end, node_spelled, spelled, bad_count, bad_counts}
use Rattle.peg_metagrammar.specs.Nesting.{nesting, has_open}
use Rattle.peg_lexer.proofs.SpacingRules.{FindsSpacing, finds-spacing}
use Rattle.peg_lexer.proofs.Takes.{Takes, SpellsAs, spelled-seq_matcher, text_end-seq_matcher, nesting-seq_matcher, bad_counts-seq_matcher}

-- the end of the spacing after a text of `size` bytes
abbrev pub following_text : List ℕ → (p size : ℕ) → ℕ
following_text file p size = p + size + (spacing (drop (p + size) file)).length

-- trees that denote these parts, with a text that ends at `last`
pub record Spells (file : List ℕ) (trees : Trees) (pieces : List Denotation) (last : ℕ) : Type 0 where
  pub spells : (before : ℕ) → spelled file before trees ≡ pieces
  pub ends : (before : ℕ) → text_end before trees ≡ last
  pub flat : nesting trees ≡ 0
  pub fine : bad_counts file trees ≡ []

-- items of which the last is Spacing
pub record FindsItems (file : List ℕ) (items : Forms) (p : ℕ) (piece : PrefixMatch) : Type 0 where
  pub trees : Trees
  pub derives : DerivesItems figure file items p (Matched (following_text file p piece.length) trees)
  pub spelled : Spells file trees piece.spells (p + piece.length)

pub record TakesItems (file : List ℕ) (items : Forms) (find : Matcher) : Type 0 where
  pub none : (p : ℕ) → find (drop p file) ≡ None → DerivesItems figure file items p Failed
  pub some : (p : ℕ) (piece : PrefixMatch) → find (drop p file) ≡ Some piece → FindsItems file items p piece

-- an expression of such items
pub record FindsText (file : List ℕ) (e : Form) (p : ℕ) (piece : PrefixMatch) : Type 0 where
  pub trees : Trees
  pub derives : Derives figure file e p (Matched (following_text file p piece.length) trees)
  pub spelled : Spells file trees piece.spells (p + piece.length)

pub record TakesText (file : List ℕ) (e : Form) (find : Matcher) : Type 0 where
  pub none : (p : ℕ) → find (drop p file) ≡ None → Derives figure file e p Failed
  pub some : (p : ℕ) (piece : PrefixMatch) → find (drop p file) ≡ Some piece → FindsText file e p piece

-- spacing after the last item
pub text-last : {file : List ℕ} {e : Form} {find : Matcher} (span : Extent) → Takes file e find
    → TakesItems file (Then e (Then (Name (codes "Spacing") span) End)) find
text-last {file} {e} {find} span a = record {
  none = λ p none. DerivesItems.items_failed (a.none p none);
  some = λ p piece found.
      let it = a.some p piece found in
      let gap : FindsSpacing file span (p + piece.length) = finds-spacing file span (p + piece.length) in
      record {
        trees = followed_by it.trees (followed_by gap.trees NoTrees);
        derives = DerivesItems.items_then it.derives
            (DerivesItems.items_then gap.derives DerivesItems.items_none refl) refl;
        spelled = record {
          spells = λ before.
              spelled-seq_matcher file before it.trees (followed_by gap.trees NoTrees)
              ∙ (ap (λ (more : List Denotation). spelled file before it.trees ++ more)
              (spelled-seq_matcher file (text_end before it.trees) gap.trees NoTrees
              ∙ (append-nil (spelled file (text_end before it.trees) gap.trees)
              ∙ gap.spells (text_end before it.trees)))
              ∙ (append-nil (spelled file before it.trees) ∙ it.spelled.spells before));
          ends = λ before.
              text_end-seq_matcher before it.trees (followed_by gap.trees NoTrees)
              ∙ (text_end-seq_matcher (text_end before it.trees) gap.trees NoTrees ∙ gap.ends (text_end before it.trees));
          flat =
              nesting-seq_matcher it.trees (followed_by gap.trees NoTrees)
              ∙ (ap (λ n. max n (nesting (followed_by gap.trees NoTrees))) it.spelled.flat
              ∙ ap (λ n. max 0 n) (nesting-seq_matcher gap.trees NoTrees ∙ ap (λ n. max n 0) gap.flat));
          fine =
              bad_counts-seq_matcher file it.trees (followed_by gap.trees NoTrees)
              ∙ (ap (λ (l : List ℕ). l ++ bad_counts file (followed_by gap.trees NoTrees)) it.spelled.fine
              ∙ (bad_counts-seq_matcher file gap.trees NoTrees ∙ ap (λ (l : List ℕ). l ++ []) gap.fine));
        };
      };
}

-- a text after a match
both_items : {file : List ℕ} {e : Form} {rest : Forms} {p : ℕ} (first next : PrefixMatch)
    → Rattle.peg_lexer.proofs.Takes.Finds file e p first → FindsItems file rest (p + first.length) next
    → FindsItems file (Then e rest) p (concat_matches first next)
both_items {file} {e} {rest} {p} first next a b =
    let assoc : p + first.length + next.length ≡ p +
    (first.length + next.length) = add_assoc p first.length next.length in
    record {
      trees = followed_by a.trees b.trees;
      derives = subst (λ n. DerivesItems figure file (Then e rest) p
          (Matched (n + (spacing (drop n file)).length) (followed_by a.trees b.trees))) assoc
          (DerivesItems.items_then a.derives b.derives refl);
      spelled = record {
        spells = λ before.
            spelled-seq_matcher file before a.trees b.trees
            ∙ (ap (λ (more : List Denotation). spelled file before a.trees ++ more)
            (b.spelled.spells (text_end before a.trees))
            ∙ ap (λ (pieces : List Denotation). pieces ++ next.spells) (a.spelled.spells before));
        ends = λ before.
            text_end-seq_matcher before a.trees b.trees ∙ (b.spelled.ends (text_end before a.trees) ∙ assoc);
        flat =
            nesting-seq_matcher a.trees b.trees
            ∙ (ap (λ n. max n (nesting b.trees)) a.spelled.flat ∙ ap (λ n. max 0 n) b.spelled.flat);
        fine =
            bad_counts-seq_matcher file a.trees b.trees
            ∙ (ap (λ (l : List ℕ). l ++ bad_counts file b.trees) a.spelled.fine ∙ b.spelled.fine);
      };
    }

pub text-then : {file : List ℕ} {e : Form} {rest : Forms} {first next : Matcher} → Takes file e first
    → TakesItems file rest next → TakesItems file (Then e rest) (seq_matcher first next)
text-then {file} {e} {rest} {first} {next} a b = record {
  none = λ p none. fails p (first (drop p file)) refl none;
  some = λ p piece found. matches p (first (drop p file)) refl piece found;
}
  where
    following_it : (p : ℕ) (x : PrefixMatch) → next (drop x.length (drop p file)) ≡ next (drop (p + x.length) file)
    following_it p x = ap next (drop-drop x.length p file)

    fails : (p : ℕ) (found : Option PrefixMatch) → first (drop p file) ≡ found
        → option_and_then (λ (x : PrefixMatch). option_map (concat_matches x) (next (drop x.length (drop p file)))) found ≡ None
        → DerivesItems figure file (Then e rest) p Failed
    fails p None is none = DerivesItems.items_failed (a.none p is)
    fails p (Some x) is none = later (next (drop x.length (drop p file))) refl none
      where
        later : (more : Option PrefixMatch) → next (drop x.length (drop p file)) ≡ more → option_map (concat_matches x) more ≡ None
            → DerivesItems figure file (Then e rest) p Failed
        later None gone is_none = DerivesItems.items_then ((a.some p x is).derives)
            (b.none (p + x.length) (sym (following_it p x) ∙ gone)) refl
        later (Some y) there is_none = cc

    matches : (p : ℕ) (found : Option PrefixMatch) → first (drop p file) ≡ found → (piece : PrefixMatch)
        → option_and_then (λ (x : PrefixMatch). option_map (concat_matches x) (next (drop x.length (drop p file)))) found ≡ Some piece
        → FindsItems file (Then e rest) p piece
    matches p None is piece found = cc
    matches p (Some x) is piece found = later (next (drop x.length (drop p file))) refl found
      where
        later : (more : Option PrefixMatch) → next (drop x.length (drop p file)) ≡ more → option_map (concat_matches x) more
            ≡ Some piece → FindsItems file (Then e rest) p piece
        later None gone is_piece = cc
        later (Some y) there is_piece =
            let same : concat_matches x y ≡ piece = cc in
            subst (λ (z : PrefixMatch). FindsItems file (Then e rest) p z) same
            (both_items x y (a.some p x is) (b.some (p + x.length) y (sym (following_it p x) ∙ there)))

pub text-seq : {file : List ℕ} {items : Forms} {find : Matcher} (span : Extent) → TakesItems file items find
    → TakesText file (Seq items span) find
text-seq span a = record {
  none = λ p none. Derives.sequence (a.none p none);
  some = λ p piece found.
      let it = a.some p piece found in
      record { trees = it.trees; derives = Derives.sequence it.derives; spelled = it.spelled };
}

-- one of two texts
pub text-or_matcher : {file : List ℕ} {e f : Form} {first other : Matcher} (span : Extent) → TakesText file e first
    → TakesText file f other → TakesText file (Choice e (Then f End) span) (or_matcher first other)
text-or_matcher {file} {e} {f} {first} {other} span a b = record {
  none = λ p none. fails p (first (drop p file)) refl none;
  some = λ p piece found. matches p piece (first (drop p file)) refl found;
}
  where
    fails : (p : ℕ) (x : Option PrefixMatch) → first (drop p file) ≡ x → or_piece x (other (drop p file)) ≡ None
        → Derives figure file (Choice e (Then f End) span) p Failed
    fails p None is gone = Derives.choice (DerivesFirst.alternative_failed (a.none p is)
        (DerivesFirst.alternative_last (b.none p gone)))
    fails p (Some x) is gone = cc

    matches : (p : ℕ) (piece : PrefixMatch) (x : Option PrefixMatch) → first (drop p file) ≡ x → or_piece x (other (drop p file))
        ≡ Some piece → FindsText file (Choice e (Then f End) span) p piece
    matches p piece None is there =
        let it = b.some p piece there in
        record {
          trees = it.trees;
          derives = Derives.choice
              (DerivesFirst.alternative_failed (a.none p is)
              (DerivesFirst.alternative_last it.derives));
          spelled = it.spelled;
        }
    matches p piece (Some x) is there =
        let it = a.some p piece (is ∙ there) in
        record {
          trees = it.trees;
          derives = Derives.choice
              (DerivesFirst.alternative_matched it.derives);
          spelled = it.spelled;
        }

-- ---- tokens

or_false : (t : Bool) → (t || false) ≡ t
or_false true = refl
or_false false = refl

-- a token rule at an offset: its tree, the end of its text, and what it denotes
pub record FindsToken (file : List ℕ) (number : ℕ) (used : List ℕ) (span : Extent) (p : ℕ)
    (piece : PrefixMatch) : Type 0 where
  pub trees : Trees
  pub derives : Derives figure file (Name used span) p (Matched (following_text file p piece.length) trees)
  pub ends : (before : ℕ) → text_end before trees ≡ p + piece.length
  pub spells : (before : ℕ) → spelled file before trees
      ≡ node_spelled file number before p (following_text file p piece.length) (p + piece.length) piece.spells
  pub flat : nesting trees ≡ 0
  pub opens : has_open trees ≡ (number == open_sign_rule)
  pub counts : bad_counts file trees ≡ bad_count number p piece.spells

pub record TakesToken (file : List ℕ) (number : ℕ) (used : List ℕ) (find : Matcher) : Type 0 where
  pub none : (span : Extent) (p : ℕ) → find (drop p file) ≡ None → Derives figure file (Name used span) p Failed
  pub some : (span : Extent) (p : ℕ) (piece : PrefixMatch) → find (drop p file) ≡ Some piece
      → FindsToken file number used span p piece

pub takes-token : {file used : List ℕ} {find : Matcher} (m : Meaning) → meaning_of figure used ≡ Some m
    → (m.rule == spacing_rule) ≡ false → (m.rule == primary_rule) ≡ false → TakesText file m.body find
    → TakesToken file m.rule used find
takes-token {file} {used} {find} m known no_spacing no_primary a = record {
  none = λ span p none. Derives.name_failed known (a.none p none);
  some = λ span p piece found.
      let it = a.some p piece found in
      record {
        trees = Tree m.rule p (following_text file p piece.length) it.trees NoTrees;
        derives = Derives.name_matched known it.derives refl;
        ends = λ before.
            ap (λ (t : Bool). if t then p else text_end before it.trees) no_spacing ∙ it.spelled.ends before;
        spells = λ before.
            append-nil (node_spelled file m.rule before p (following_text file p piece.length) (text_end before it.trees)
            (spelled file before it.trees))
            ∙ (ap (λ last. node_spelled file m.rule before p (following_text file p piece.length) last
            (spelled file before it.trees)) (it.spelled.ends before)
            ∙ ap (node_spelled file m.rule before p (following_text file p piece.length) (p + piece.length))
            (it.spelled.spells before));
        flat =
            ap (λ (t : Bool). max ((if t && has_open it.trees then 1 else 0) + nesting it.trees) 0) no_primary
            ∙ ap (λ n. max (0 + n) 0) it.spelled.flat;
        opens = or_false (m.rule == open_sign_rule);
        counts =
            ap (λ (inner : List Denotation). bad_count m.rule p inner ++ (bad_counts file it.trees ++ []))
            (it.spelled.spells p)
            ∙ (ap (λ (l : List ℕ). bad_count m.rule p piece.spells ++ (l ++ [])) it.spelled.fine
            ∙ append-nil (bad_count m.rule p piece.spells));
      };
}
