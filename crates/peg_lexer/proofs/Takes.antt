-- The metagrammar's rules as prefix matchers: an expression and a matcher agree if they match the same at each offset
-- of a file.
use Rattle.std.proofs.Common.{max, ◌≡◌, ℕ, zero, suc, ◌+◌, ◌<◌, ◌≤◌, Bool, true, false, List, [], ◌∷◌, ◌++◌, ◌&&◌, length, take, drop, add_assoc}
use Rattle.std.proofs.Common.{Option, None, Some, option_map, option_and_then, if◌then◌else◌, ◌==◌, nat_eq, refl, sym, ap, ◌∙◌, subst, arith, append_assoc, append-nil, not, length-drop}
use Rattle.std.proofs.lemmas.List.{drop-drop}
use Rattle.std.specs.List.{starts_with}
use Rattle.peg_bytes.specs.ByteSet.{has}
use Rattle.peg_bytes.specs.Extent.{Extent}
use Rattle.peg_tree.specs.Trees.{Trees, NoTrees, Tree, followed_by}
use Rattle.peg_semantics.specs.Form.{Form, Forms, Literal, Class, Any, Name, Seq, Choice, Optional, Star, Plus, Not, End, Then}
use Rattle.peg_semantics.specs.Record.{Failed, Matched}
use Rattle.peg_semantics.specs.Rules.{Meaning, meaning_of}
use Rattle.peg_semantics.proofs.Derivations.{Derives, DerivesItems, DerivesFirst}
use Rattle.peg_semantics.proofs.ResultSteps.{begins_with, passes_any}
use Rattle.peg_metagrammar.specs.Figure.{figure}
use Rattle.peg_metagrammar.specs.FigureRules.{primary_rule, count_rule, spacing_rule}
use Rattle.peg_lexer.specs.Matchers.{PrefixMatch, Matcher, plain, concat_matches, literal_bytes, satisfy, seq_matcher, or_piece, or_matcher, none_of, not_followed, optional_matcher, many, star}
use Rattle.peg_metagrammar.specs.Ranges.{Range, class_of}
use Rattle.peg_metagrammar.specs.Denotation.{Denotation, text_end, part, node_spelled, spelled, numerals_in, bounds_spelled, bounds_in_range, bad_count, bad_counts}
use Rattle.peg_metagrammar.specs.Nesting.{nesting, has_open}
use Rattle.peg_lexer.proofs.PieceLemmas.{many-none, many-some}

-- ---- what trees denote

pub text_end-seq_matcher : (before : ℕ) (a b : Trees) → text_end before (followed_by a b) ≡ text_end (text_end before a) b
text_end-seq_matcher before NoTrees b = refl
text_end-seq_matcher before (Tree r start end children rest) b =
    text_end-seq_matcher (if r == spacing_rule then start else text_end before children) rest b

pub spelled-seq_matcher : (file : List ℕ) (before : ℕ) (a b : Trees) → spelled file before (followed_by a b)
    ≡ spelled file before a ++ spelled file (text_end before a) b
spelled-seq_matcher file before NoTrees b = refl
spelled-seq_matcher file before (Tree r start end children rest) b =
    let after : ℕ = if r == spacing_rule then start else text_end before children in
    let node : List Denotation = node_spelled file r before start end (text_end before children)
    (spelled file before children) in
    ap (λ (more : List Denotation). node ++ more) (spelled-seq_matcher file after rest b)
    ∙ sym (append_assoc node (spelled file after rest) (spelled file (text_end after rest) b))

pub nesting-seq_matcher : (a b : Trees) → nesting (followed_by a b) ≡ max (nesting a) (nesting b)
nesting-seq_matcher NoTrees b = omega arith
nesting-seq_matcher (Tree r start end children rest) b =
    let own : ℕ = (if r == primary_rule && has_open children then 1 else 0) + nesting children in
    omega (arith, nesting-seq_matcher rest b)

pub bad_counts-seq_matcher : (file : List ℕ) (a b : Trees)
    → bad_counts file (followed_by a b) ≡ bad_counts file a ++ bad_counts file b
bad_counts-seq_matcher file NoTrees b = refl
bad_counts-seq_matcher file (Tree r start end children rest) b =
    let own : List ℕ = bad_count r start (spelled file start children) in
    let inside : List ℕ = bad_counts file children in
    ap (λ (l : List ℕ). own ++ (inside ++ l)) (bad_counts-seq_matcher file rest b)
    ∙ (ap (λ (l : List ℕ). own ++ l) (sym (append_assoc inside (bad_counts file rest) (bad_counts file b)))
    ∙ sym (append_assoc own (inside ++ bad_counts file rest) (bad_counts file b)))

-- trees without the end of a token, which denote these parts
pub record SpellsAs (file : List ℕ) (trees : Trees) (pieces : List Denotation) : Type 0 where
  pub spells : (before : ℕ) → spelled file before trees ≡ pieces
  pub no_token : (before : ℕ) → text_end before trees ≡ before
  pub flat : nesting trees ≡ 0
  pub fine : bad_counts file trees ≡ []

pub SpellsAs-none : (file : List ℕ) → SpellsAs file NoTrees []
SpellsAs-none file = record { spells = λ before. refl; no_token = λ before. refl; flat = refl; fine = refl }

pub SpellsAs-concat_matches : {file : List ℕ} {a b : Trees} {xs ys : List Denotation} → SpellsAs file a xs → SpellsAs file b ys
    → SpellsAs file (followed_by a b) (xs ++ ys)
SpellsAs-concat_matches {file} {a} {b} {xs} {ys} first next = record {
  spells = λ before. spelled-seq_matcher file before a b ∙
      (ap (λ (more : List Denotation). spelled file before a ++ more) (next.spells (text_end before a))
      ∙ ap (λ (pieces : List Denotation). pieces ++ ys) (first.spells before));
  no_token = λ before. text_end-seq_matcher before a b ∙ (next.no_token (text_end before a) ∙ first.no_token before);
  flat = nesting-seq_matcher a b ∙ (ap (λ n. max n (nesting b)) first.flat ∙ ap (λ n. max 0 n) next.flat);
  fine = bad_counts-seq_matcher file a b ∙ (ap (λ (l : List ℕ). l ++ bad_counts file b) first.fine ∙ next.fine);
}

-- ---- an expression and a matcher

-- an expression has the given match at an offset
pub record Finds (file : List ℕ) (e : Form) (p : ℕ) (piece : PrefixMatch) : Type 0 where
  pub trees : Trees
  pub derives : Derives figure file e p (Matched (p + piece.length) trees)
  pub spelled : SpellsAs file trees piece.spells

pub record Takes (file : List ℕ) (e : Form) (find : Matcher) : Type 0 where
  pub none : (p : ℕ) → find (drop p file) ≡ None → Derives figure file e p Failed
  pub some : (p : ℕ) (piece : PrefixMatch) → find (drop p file) ≡ Some piece → Finds file e p piece

-- the same for the items of a sequence
pub record FindsAll (file : List ℕ) (items : Forms) (p : ℕ) (piece : PrefixMatch) : Type 0 where
  pub trees : Trees
  pub derives : DerivesItems figure file items p (Matched (p + piece.length) trees)
  pub spelled : SpellsAs file trees piece.spells

pub record TakesAll (file : List ℕ) (items : Forms) (find : Matcher) : Type 0 where
  pub none : (p : ℕ) → find (drop p file) ≡ None → DerivesItems figure file items p Failed
  pub some : (p : ℕ) (piece : PrefixMatch) → find (drop p file) ≡ Some piece → FindsAll file items p piece

-- the same for the alternatives of a choice
pub record FindsFirst (file : List ℕ) (first : Form) (rest : Forms) (p : ℕ) (piece : PrefixMatch) : Type 0 where
  pub trees : Trees
  pub derives : DerivesFirst figure file first rest p (Matched (p + piece.length) trees)
  pub spelled : SpellsAs file trees piece.spells

pub record TakesFirst (file : List ℕ) (first : Form) (rest : Forms) (find : Matcher) : Type 0 where
  pub none : (p : ℕ) → find (drop p file) ≡ None → DerivesFirst figure file first rest p Failed
  pub some : (p : ℕ) (piece : PrefixMatch) → find (drop p file) ≡ Some piece → FindsFirst file first rest p piece

-- ---- bytes

-- a match that denotes nothing
finds-plain : {file : List ℕ} {e : Form} {p : ℕ} (n : ℕ) (piece : PrefixMatch) → plain n ≡ piece
    → Derives figure file e p (Matched (p + n) NoTrees) → Finds file e p piece
finds-plain {file} {e} {p} n piece same derived =
    subst (λ (found : PrefixMatch). Finds file e p found) same
    (record { trees = NoTrees; derives = derived; spelled = SpellsAs-none file })

-- whether a test holds, by its match
test_false : (test : Bool) (n : ℕ) → (if test then Some (plain n) else None) ≡ None → test ≡ false
test_false true n e = cc
test_false false n e = refl

test_true : (test : Bool) (n : ℕ) (piece : PrefixMatch) → (if test then Some (plain n) else None) ≡ Some piece
    → (plain n ≡ piece) × (test ≡ true)
test_true true n piece e = (cc, refl)
test_true false n piece e = cc

pub takes-literal_bytes : (file bytes : List ℕ) (span : Extent) → Takes file (Literal bytes span) (literal_bytes bytes)
takes-literal_bytes file bytes span = record {
  none = λ p none. Derives.literal_failed (test_false (starts_with nat_eq (drop p file) bytes) (length bytes) none);
  some = λ p piece found.
      let by = test_true (starts_with nat_eq (drop p file) bytes) (length bytes) piece found in
      finds-plain (length bytes) piece by.0 (Derives.literal_matched by.1 refl);
}

-- one byte that passes a test, if another test agrees
byte_none : (test same : ℕ → Bool) → ((byte : ℕ) → test byte ≡ same byte) → (rest : List ℕ) → satisfy same rest ≡ None
    → begins_with test rest ≡ false
byte_none test same agree [] e = refl
byte_none test same agree (b ∷ rest) e = agree b ∙ test_false (same b) 1 e

byte_some : (test same : ℕ → Bool) → ((byte : ℕ) → test byte ≡ same byte) → (rest : List ℕ) (piece : PrefixMatch)
    → satisfy same rest ≡ Some piece → (plain 1 ≡ piece) × (begins_with test rest ≡ true)
byte_some test same agree [] piece e = cc
byte_some test same agree (b ∷ rest) piece e =
    let by = test_true (same b) 1 piece e in (by.0, agree b ∙ by.1)

pub takes-class : (file : List ℕ) (ranges : List Range) (span : Extent) (test : ℕ → Bool)
    → ((byte : ℕ) → has (class_of ranges) byte ≡ test byte) → Takes file (Class (class_of ranges) span) (satisfy test)
takes-class file ranges span test agree = record {
  none = λ p none. Derives.class_failed (byte_none (has (class_of ranges)) test agree (drop p file) none);
  some = λ p piece found.
      let by = byte_some (has (class_of ranges)) test agree (drop p file) piece found in
      finds-plain 1 piece by.0 (Derives.class_matched by.1 refl);
}

pub takes-any : (file : List ℕ) (span : Extent) → Takes file (Any span) (satisfy (λ byte. true))
takes-any file span = record {
  none = λ p none. Derives.any_failed (byte_none passes_any (λ byte. true) (λ byte. refl) (drop p file) none);
  some = λ p piece found.
      let by = byte_some passes_any (λ byte. true) (λ byte. refl) (drop p file) piece found in
      finds-plain 1 piece by.0 (Derives.any_matched by.1 refl);
}

-- ---- items of a sequence

-- the last item
pub takes-last : {file : List ℕ} {e : Form} {find : Matcher} → Takes file e find → TakesAll file (Then e End) find
takes-last {file} {e} {find} a = record {
  none = λ p none. DerivesItems.items_failed (a.none p none);
  some = λ p piece found.
      let it = a.some p piece found in
      record {
        trees = followed_by it.trees NoTrees;
        derives = DerivesItems.items_then it.derives DerivesItems.items_none refl;
        spelled = subst (λ (pieces : List Denotation). SpellsAs file (followed_by it.trees NoTrees) pieces)
            (append-nil piece.spells) (SpellsAs-concat_matches it.spelled (SpellsAs-none file));
      };
}

-- one match after another
finds-concat_matches : {file : List ℕ} {e : Form} {rest : Forms} {p : ℕ} (first next : PrefixMatch) → Finds file e p first
    → FindsAll file rest (p + first.length) next → FindsAll file (Then e rest) p (concat_matches first next)
finds-concat_matches {file} {e} {rest} {p} first next a b = record {
  trees = followed_by a.trees b.trees;
  derives = subst (λ n. DerivesItems figure file (Then e rest) p (Matched n (followed_by a.trees b.trees)))
      (add_assoc p first.length next.length) (DerivesItems.items_then a.derives b.derives refl);
  spelled = SpellsAs-concat_matches a.spelled b.spelled;
}

pub takes-then : {file : List ℕ} {e : Form} {rest : Forms} {first next : Matcher} → Takes file e first
    → TakesAll file rest next → TakesAll file (Then e rest) (seq_matcher first next)
takes-then {file} {e} {rest} {first} {next} a b = record {
  none = λ p none. fails p (first (drop p file)) refl none;
  some = λ p piece found. matches p (first (drop p file)) refl piece found;
}
  where
    -- what comes next is after the first match
    following_it : (p : ℕ) (x : PrefixMatch) → next (drop x.length (drop p file)) ≡ next (drop (p + x.length) file)
    following_it p x = ap next (drop-drop x.length p file)

    fails : (p : ℕ) (found : Option PrefixMatch) → first (drop p file) ≡ found
        → option_and_then (λ (x : PrefixMatch). option_map (concat_matches x) (next (drop x.length (drop p file)))) found ≡ None
        → DerivesItems figure file (Then e rest) p Failed
    fails p None is none = DerivesItems.items_failed (a.none p is)
    fails p (Some x) is none = later (next (drop x.length (drop p file))) refl none
      where
        later : (more : Option PrefixMatch) → next (drop x.length (drop p file)) ≡ more → option_map (concat_matches x) more ≡ None
            → DerivesItems figure file (Then e rest) p Failed
        later None gone is_none = DerivesItems.items_then ((a.some p x is).derives)
            (b.none (p + x.length) (sym (following_it p x) ∙ gone)) refl
        later (Some y) there is_none = cc

    matches : (p : ℕ) (found : Option PrefixMatch) → first (drop p file) ≡ found → (piece : PrefixMatch)
        → option_and_then (λ (x : PrefixMatch). option_map (concat_matches x) (next (drop x.length (drop p file)))) found ≡ Some piece
        → FindsAll file (Then e rest) p piece
    matches p None is piece found = cc
    matches p (Some x) is piece found = later (next (drop x.length (drop p file))) refl found
      where
        later : (more : Option PrefixMatch) → next (drop x.length (drop p file)) ≡ more → option_map (concat_matches x) more
            ≡ Some piece → FindsAll file (Then e rest) p piece
        later None gone is_piece = cc
        later (Some y) there is_piece =
            let same : concat_matches x y ≡ piece = cc in
            subst (λ (z : PrefixMatch). FindsAll file (Then e rest) p z) same
            (finds-concat_matches x y (a.some p x is) (b.some (p + x.length) y (sym (following_it p x) ∙ there)))

pub takes-seq : {file : List ℕ} {items : Forms} {find : Matcher} (span : Extent) → TakesAll file items find
    → Takes file (Seq items span) find
takes-seq span a = record {
  none = λ p none. Derives.sequence (a.none p none);
  some = λ p piece found.
      let it = a.some p piece found in
      record { trees = it.trees; derives = Derives.sequence it.derives; spelled = it.spelled };
}

-- ---- alternatives of a choice

pub takes-only : {file : List ℕ} {e : Form} {find : Matcher} → Takes file e find → TakesFirst file e End find
takes-only a = record {
  none = λ p none. DerivesFirst.alternative_last (a.none p none);
  some = λ p piece found.
      let it = a.some p piece found in
      record { trees = it.trees; derives = DerivesFirst.alternative_last it.derives; spelled = it.spelled };
}

pub takes-or : {file : List ℕ} {e next : Form} {rest : Forms} {first other : Matcher} → Takes file e first
    → TakesFirst file next rest other → TakesFirst file e (Then next rest) (or_matcher first other)
takes-or {file} {e} {next} {rest} {first} {other} a b = record {
  none = λ p none. fails p (first (drop p file)) refl none;
  some = λ p piece found. matches p piece (first (drop p file)) refl found;
}
  where
    fails : (p : ℕ) (x : Option PrefixMatch) → first (drop p file) ≡ x → or_piece x (other (drop p file)) ≡ None
        → DerivesFirst figure file e (Then next rest) p Failed
    fails p None is gone = DerivesFirst.alternative_failed (a.none p is) (b.none p gone)
    fails p (Some x) is gone = cc

    matches : (p : ℕ) (piece : PrefixMatch) (x : Option PrefixMatch) → first (drop p file) ≡ x → or_piece x (other (drop p file))
        ≡ Some piece → FindsFirst file e (Then next rest) p piece
    matches p piece None is there =
        let it = b.some p piece there in
        record {
          trees = it.trees;
          derives = DerivesFirst.alternative_failed
              (a.none p is) it.derives;
          spelled = it.spelled;
        }
    matches p piece (Some x) is there =
        let it = a.some p piece (is ∙ there) in
        record { trees = it.trees; derives = DerivesFirst.alternative_matched it.derives; spelled = it.spelled }

pub takes-choice : {file : List ℕ} {first : Form} {rest : Forms} {find : Matcher} (span : Extent)
    → TakesFirst file first rest find → Takes file (Choice first rest span) find
takes-choice span a = record {
  none = λ p none. Derives.choice (a.none p none);
  some = λ p piece found.
      let it = a.some p piece found in
      record { trees = it.trees; derives = Derives.choice it.derives; spelled = it.spelled };
}

-- ---- operators

-- an empty match
finds-nothing : {file : List ℕ} {e : Form} {p : ℕ} (piece : PrefixMatch) → plain 0 ≡ piece
    → Derives figure file e p (Matched p NoTrees) → Finds file e p piece
finds-nothing {file} {e} {p} piece same derived =
    let here : p ≡ p + 0 = omega arith in
    finds-plain 0 piece same (subst (λ n. Derives figure file e p (Matched n NoTrees)) here derived)

pub takes-not : {file : List ℕ} {part : Form} {find : Matcher} (span : Extent) → Takes file part find
    → Takes file (Not part span) (not_followed find)
takes-not {file} {part} {find} span a = record {
  none = λ p none. fails p (find (drop p file)) refl none;
  some = λ p piece found. matches p piece (find (drop p file)) refl found;
}
  where
    fails : (p : ℕ) (x : Option PrefixMatch) → find (drop p file) ≡ x → none_of x ≡ None
        → Derives figure file (Not part span) p Failed
    fails p None is gone = cc
    fails p (Some x) is gone = Derives.not_failed ((a.some p x is).derives)

    matches : (p : ℕ) (piece : PrefixMatch) (x : Option PrefixMatch) → find (drop p file) ≡ x → none_of x ≡ Some piece
        → Finds file (Not part span) p piece
    matches p piece None is there =
        let same : plain 0 ≡ piece = cc in finds-nothing piece same (Derives.not_matched (a.none p is))
    matches p piece (Some x) is there = cc

pub takes-optional : {file : List ℕ} {part : Form} {find : Matcher} (span : Extent) → Takes file part find
    → Takes file (Optional part span) (optional_matcher find)
takes-optional {file} {part} {find} span a = record {
  none = λ p none. fails p (find (drop p file)) none;
  some = λ p piece found. matches p piece (find (drop p file)) refl found;
}
  where
    fails : (p : ℕ) (x : Option PrefixMatch) → or_piece x (Some (plain 0)) ≡ None
        → Derives figure file (Optional part span) p Failed
    fails p None gone = cc
    fails p (Some x) gone = cc

    matches : (p : ℕ) (piece : PrefixMatch) (x : Option PrefixMatch) → find (drop p file) ≡ x → or_piece x (Some (plain 0))
        ≡ Some piece → Finds file (Optional part span) p piece
    matches p piece None is there =
        let same : plain 0 ≡ piece = cc in finds-nothing piece same (Derives.optional_none (a.none p is))
    matches p piece (Some x) is there =
        let it = a.some p piece (is ∙ there) in
        record { trees = it.trees; derives = Derives.optional_some it.derives; spelled = it.spelled }

-- ---- stars

-- the matches of a matcher are nonempty and within the bytes
pub record IsLong (find : Matcher) : Type 0 where
  pub some : (rest : List ℕ) (piece : PrefixMatch) → find rest ≡ Some piece → 0 < piece.length
  pub fits : (rest : List ℕ) (piece : PrefixMatch) → find rest ≡ Some piece → piece.length ≤ length rest

-- the iterations of a star, by induction on the number of remaining bytes
rounds : {file : List ℕ} {part : Form} {find : Matcher} (span : Extent) → Takes file part find → IsLong find → (n p : ℕ)
    → length (drop p file) ≤ n → (x : Option PrefixMatch) → find (drop p file) ≡ x
    → Finds file (Star part span) p (many find (drop p file))
rounds {file} {part} {find} span a long n p left None is =
    finds-nothing (many find (drop p file)) (sym (many-none find (drop p file) is)) (Derives.star_none (a.none p is))
rounds {file} {part} {find} span a long zero p left (Some x) is =
    let bytes = long.some (drop p file) x is in
    let fits = long.fits (drop p file) x is in
    absurd (omega arith)
rounds {file} {part} {find} span a long (suc n) p left (Some x) is =
    let bytes = long.some (drop p file) x is in
    let fits = long.fits (drop p file) x is in
    let following_it : drop x.length (drop p file) ≡ drop (p + x.length) file = drop-drop x.length p file in
    let fewer : length (drop (p + x.length) file) ≤ n = omega
    (arith, length-drop p file, length-drop (p + x.length) file) in
    let it = a.some p x is in
    let more = rounds span a long n (p + x.length) fewer (find (drop (p + x.length) file)) refl in
    let all : concat_matches x (many find (drop (p + x.length) file)) ≡ many find (drop p file) =
    ap (λ bytes. concat_matches x (many find bytes)) (sym following_it) ∙ sym (many-some find (drop p file) x is bytes fits) in
    let rest : PrefixMatch = many find (drop (p + x.length) file) in
    subst (λ (z : PrefixMatch). Finds file (Star part span) p z) all (record {
      trees = followed_by it.trees more.trees;
      derives = subst (λ n. Derives figure file (Star part span) p (Matched n (followed_by it.trees more.trees)))
          (add_assoc p x.length rest.length) (Derives.star_more it.derives more.derives refl);
      spelled = SpellsAs-concat_matches it.spelled more.spelled;
    })

pub takes-star : {file : List ℕ} {part : Form} {find : Matcher} (span : Extent) → Takes file part find → IsLong find
    → Takes file (Star part span) (star find)
takes-star {file} {part} {find} span a long = record {
  none = λ p none. cc;
  some = λ p piece found.
      let same : many find (drop p file) ≡ piece = cc in
      subst (λ (z : PrefixMatch). Finds file (Star part span) p z) same
      (rounds span a long (length (drop p file)) p (omega arith) (find (drop p file)) refl);
}

-- ---- plus

pub takes-plus : {file : List ℕ} {part : Form} {find : Matcher} (span : Extent) → Takes file part find → IsLong find
    → Takes file (Plus part span) (seq_matcher find (star find))
takes-plus {file} {part} {find} span a long = record {
  none = λ p none. fails p (find (drop p file)) refl none;
  some = λ p piece found. matches p (find (drop p file)) refl piece found;
}
  where
    fails : (p : ℕ) (x : Option PrefixMatch) → find (drop p file) ≡ x
        → option_and_then (λ (x : PrefixMatch). option_map (concat_matches x) (star find (drop x.length (drop p file)))) x ≡ None
        → Derives figure file (Plus part span) p Failed
    fails p None is none = Derives.plus_failed (a.none p is)
    fails p (Some x) is none = cc

    matches : (p : ℕ) (x : Option PrefixMatch) → find (drop p file) ≡ x → (piece : PrefixMatch)
        → option_and_then (λ (x : PrefixMatch). option_map (concat_matches x) (star find (drop x.length (drop p file)))) x ≡ Some piece
        → Finds file (Plus part span) p piece
    matches p None is piece found = cc
    matches p (Some x) is piece found =
        let same : concat_matches x (many find (drop x.length (drop p file))) ≡ piece = cc in
        let moved : concat_matches x (many find (drop (p + x.length) file)) ≡ piece =
        ap (λ bytes. concat_matches x (many find bytes)) (sym (drop-drop x.length p file)) ∙ same in
        let rest : PrefixMatch = many find (drop (p + x.length) file) in
        let it = a.some p x is in
        let more = (takes-star span a long).some (p + x.length) rest refl in
        subst (λ (z : PrefixMatch). Finds file (Plus part span) p z) moved (record {
          trees = followed_by it.trees more.trees;
          derives = subst (λ n. Derives figure file (Plus part span) p (Matched n (followed_by it.trees more.trees)))
              (add_assoc p x.length rest.length) (Derives.plus_matched it.derives more.derives refl);
          spelled = SpellsAs-concat_matches it.spelled more.spelled;
        })

-- ---- names

-- the match of a rule's body, with what the rule's node denotes
abbrev pub node_of : (List ℕ → List Denotation → List Denotation) → List ℕ → PrefixMatch → PrefixMatch
node_of spell rest piece = record { spells = spell (take piece.length rest) piece.spells; length = piece.length }

abbrev pub noded : (List ℕ → List Denotation → List Denotation) → Matcher → Matcher
noded spell find rest = option_map (node_of spell rest) (find rest)

-- what a node of a rule denotes, by its text and by what its children denote
pub record Nodes (number : ℕ) (spell : List ℕ → List Denotation → List Denotation) : Type 0 where
  pub spells : (file : List ℕ) (before start end last : ℕ) (inner : List Denotation)
      → node_spelled file number before start end last inner ≡ spell (part file start end) inner
  pub no_spacing : (number == spacing_rule) ≡ false
  pub no_primary : (number == primary_rule) ≡ false
  pub no_count : (number == count_rule) ≡ false

-- a matcher with the same results
pub takes-same : {file : List ℕ} {e : Form} {find other : Matcher} → ((rest : List ℕ) → find rest ≡ other rest)
    → Takes file e find → Takes file e other
takes-same {file} same a = record {
  none = λ p none. a.none p (same (drop p file) ∙ none);
  some = λ p piece found. a.some p piece (same (drop p file) ∙ found);
}

pub takes-node : {file used : List ℕ} {find : Matcher} {spell : List ℕ → List Denotation → List Denotation} (span : Extent)
    (m : Meaning) → meaning_of figure used ≡ Some m → Nodes m.rule spell → Takes file m.body find
    → Takes file (Name used span) (noded spell find)
takes-node {file} {used} {find} {spell} span m known nodes a = record {
  none = λ p none. fails p (find (drop p file)) refl none;
  some = λ p piece found. matches p piece (find (drop p file)) refl found;
}
  where
    fails : (p : ℕ) (x : Option PrefixMatch) → find (drop p file) ≡ x → option_map (node_of spell (drop p file)) x ≡ None
        → Derives figure file (Name used span) p Failed
    fails p None is gone = Derives.name_failed known (a.none p is)
    fails p (Some x) is gone = cc

    found_node : (p : ℕ) (x : PrefixMatch) → Finds file m.body p x
        → Finds file (Name used span) p (node_of spell (drop p file) x)
    found_node p x it = record {
      trees = Tree m.rule p (p + x.length) it.trees NoTrees;
      derives = Derives.name_matched known it.derives refl;
      spelled = record {
        spells = λ before.
            append-nil (node_spelled file m.rule before p (p + x.length) (text_end before it.trees)
            (spelled file before it.trees))
            ∙ (nodes.spells file before p (p + x.length) (text_end before it.trees) (spelled file before it.trees)
            ∙ (ap (spell (part file p (p + x.length))) (it.spelled.spells before)
            ∙ ap (λ n. spell (take n (drop p file)) x.spells) (omega arith)));
        no_token = λ before.
            ap (λ (t : Bool). if t then p else text_end before it.trees) nodes.no_spacing ∙ it.spelled.no_token before;
        flat =
            ap (λ (t : Bool). max ((if t && has_open it.trees then 1 else 0) + nesting it.trees) 0) nodes.no_primary
            ∙ ap (λ n. max (0 + n) 0) it.spelled.flat;
        fine =
            ap (λ (t : Bool). (if t && not (bounds_in_range (bounds_spelled (numerals_in (spelled file p it.trees))))
            then p ∷ [] else []) ++ (bad_counts file it.trees ++ [])) nodes.no_count
            ∙ ap (λ (l : List ℕ). l ++ []) it.spelled.fine;
      };
    }

    matches : (p : ℕ) (piece : PrefixMatch) (x : Option PrefixMatch) → find (drop p file) ≡ x
        → option_map (node_of spell (drop p file)) x ≡ Some piece → Finds file (Name used span) p piece
    matches p piece None is there = cc
    matches p piece (Some x) is there =
        let same : node_of spell (drop p file) x ≡ piece = cc in
        subst (λ (z : PrefixMatch). Finds file (Name used span) p z) same (found_node p x (a.some p x is))

-- a rule whose node denotes what its children denote
pub takes-name : {file used : List ℕ} {find : Matcher} (span : Extent) (m : Meaning) → meaning_of figure used ≡ Some m
    → Nodes m.rule (λ text inner. inner) → Takes file m.body find → Takes file (Name used span) find
takes-name {file} {used} {find} span m known nodes a =
    takes-same (λ rest. by (find rest)) (takes-node span m known nodes a)
  where
    by : (x : Option PrefixMatch) → option_map (λ (piece : PrefixMatch). record { spells = piece.spells; length = piece.length }) x
        ≡ x
    by None = refl
    by (Some piece) = refl
